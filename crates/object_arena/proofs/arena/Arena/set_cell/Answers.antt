use Rattle.std.proofs.Common.{◌∙◌, sym, ap, refl}
use Rattle.object_arena.specs.declared.object.Object.{Object}
use Rattle.object_arena.specs.Graph.{either_fault, key_fault, value_fault}
use Rattle.object_arena.proofs.ClassLemmas.{classes_set}
use Rattle.object_arena.proofs.FitLemmas.{fit_value}
use Rattle.object_arena.proofs.arena.Arena.set_cell.Goals as goal

pub returns-in-None-clause-fits : goal.returns-in-None-clause-fits
returns-in-None-clause-fits c =
    let fault = λ (o : Object). either_fault (value_fault c.args.mapping.now o c.args.attr c.args.value) (key_fault c.args.mapping.now o c.args.attr) in
    fit_value c.args.mapping.now c.args.self.now c.put_value.new.self c.args.object c.args.attr c.args.value c.requires.fit c.requires.object c.requires.attr
    (ap fault (sym c.object.ensures.is) ∙ sym c.in-None.ensures) c.put_value.ensures

pub returns-in-None-clause-classes : goal.returns-in-None-clause-classes
returns-in-None-clause-classes c = classes_set c.args.self.now c.put_value.new.self c.args.object _ refl c.put_value.ensures
