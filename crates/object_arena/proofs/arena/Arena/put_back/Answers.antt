use Rattle.object_arena.proofs.ClassLemmas.{classes_back}
use Rattle.object_arena.proofs.FitLemmas.{fit_back}
use Rattle.object_arena.proofs.arena.Arena.put_back.Goals as goal

pub returns-clause-keeps : goal.returns-clause-keeps
returns-clause-keeps c = record {
  fits = λ mapped good fit. fit_back mapped c.args.self.now c.write_back.new.self c.args.object c.args.state c.args.identity c.requires.object c.write_back.ensures fit good;
  classes = classes_back c.args.self.now c.write_back.new.self c.args.object c.args.state c.args.identity c.write_back.ensures;
}
