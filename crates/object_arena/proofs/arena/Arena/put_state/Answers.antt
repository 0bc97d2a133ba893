use Rattle.std.proofs.Common.{refl}
use Rattle.object_arena.proofs.ClassLemmas.{classes_set}
use Rattle.object_arena.proofs.FitLemmas.{fit_state}
use Rattle.object_arena.proofs.arena.Arena.put_state.Goals as goal

pub returns-clause-keeps : goal.returns-clause-keeps
returns-clause-keeps c = record {
  fits = λ mapped fit. fit_state mapped c.args.self.now c.write_state.new.self c.args.object c.args.state c.requires.object c.write_state.ensures.state fit;
  classes = classes_set c.args.self.now c.write_state.new.self c.args.object _ refl c.write_state.ensures.state;
}
