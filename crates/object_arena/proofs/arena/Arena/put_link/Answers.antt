use Rattle.std.proofs.Common.{refl}
use Rattle.object_arena.proofs.ClassLemmas.{classes_set}
use Rattle.object_arena.proofs.FitLemmas.{fit_link}
use Rattle.object_arena.proofs.arena.Arena.put_link.Goals as goal

pub returns-clause-keeps : goal.returns-clause-keeps
returns-clause-keeps c = record {
  fits = λ mapped good fit. fit_link mapped c.args.self.now c.write_link.new.self c.args.object c.args.relation c.args.link c.requires.object c.requires.relation c.write_link.ensures fit good;
  classes = classes_set c.args.self.now c.write_link.new.self c.args.object _ refl c.write_link.ensures;
}
