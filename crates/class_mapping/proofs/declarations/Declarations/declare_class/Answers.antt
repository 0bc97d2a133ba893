use Rattle.std.proofs.Common.{refl}
use Rattle.class_mapping.proofs.PlainClassLemmas.{not_early, told_early}
use Rattle.class_mapping.proofs.declarations.Declarations.declare_class.Goals as goal

pub returns-in-Some-clause-step : goal.returns-in-Some-clause-step
returns-in-Some-clause-step g c =
    (refl, told_early _ c.self.inside.schema c.self.inside.classes c.args.self.now c.args.spec c.as_slice.result.now c.in-Some.fault c.self.view_is c.as_slice.ensures c.in-Some.ensures)

pub take_class-requires-clause-early : goal.take_class-requires-clause-early
take_class-requires-clause-early g c =
    not_early c.self.inside.schema c.self.inside.classes c.args.self.now c.args.spec c.as_slice.result.now c.self.view_is c.as_slice.ensures c.in-None.ensures
