use Rattle.std.proofs.Common.{refl}
use Rattle.object_arena.proofs.ClassLemmas.{classes_set}
use Rattle.object_arena.proofs.FitLemmas.{fit_marks}
use Rattle.object_arena.proofs.arena.Arena.put_marks.Goals as goal

pub returns-clause-keeps : goal.returns-clause-keeps
returns-clause-keeps c = record {
  fits = λ mapped fit. fit_marks mapped c.args.self.now c.write_marks.new.self c.args.object c.args.added c.args.marked c.args.orphan c.requires c.write_marks.ensures fit;
  classes = classes_set c.args.self.now c.write_marks.new.self c.args.object _ refl c.write_marks.ensures;
}
