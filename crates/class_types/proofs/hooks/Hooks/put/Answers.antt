use Rattle.std.proofs.Common.{sym}
use Rattle.class_types.specs.Rules.{validation_of}
use Rattle.class_types.proofs.Places.{set_some}
use Rattle.class_types.proofs.hooks.Hooks.put.Goals as goal

pub returns-in-Some-clause-ok : goal.returns-in-Some-clause-ok
returns-in-Some-clause-ok g c =
    set_some (λ validator. validation_of validator.kind validator.rule) c.args.self.now.names c.args.self.now.validators.items c.args.name c.in-Some.place c.args.validator
    (sym (rw c.as_slice.ensures at c.in-Some.ensures.place))
