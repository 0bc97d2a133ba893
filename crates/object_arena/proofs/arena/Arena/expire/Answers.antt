use Rattle.std.proofs.Common.{refl}
use Rattle.object_arena.proofs.ClassLemmas.{classes_set}
use Rattle.object_arena.proofs.FitLemmas.{fit_expired}
use Rattle.object_arena.proofs.arena.Arena.expire.Goals as goal

pub returns-clause-keeps : goal.returns-clause-keeps
returns-clause-keeps c = record {
  fits = λ mapped fit. fit_expired mapped c.args.self.now c.write_expired.new.self c.args.object c.requires.object c.write_expired.ensures fit;
  classes = classes_set c.args.self.now c.write_expired.new.self c.args.object _ refl c.write_expired.ensures;
}
