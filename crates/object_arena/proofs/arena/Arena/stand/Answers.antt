use Rattle.object_arena.specs.Graph.{object_at}
use Rattle.object_arena.proofs.ClassLemmas.{classes_back}
use Rattle.object_arena.proofs.FitLemmas.{fit_stands}
use Rattle.object_arena.proofs.arena.Arena.stand.Goals as goal

pub returns-clause-keeps : goal.returns-clause-keeps
returns-clause-keeps c = record {
  fits = λ mapped fit. fit_stands mapped c.args.self.now c.write_standing.new.self c.args.object c.args.state c.requires.object c.write_standing.ensures fit;
  classes = classes_back c.args.self.now c.write_standing.new.self c.args.object c.args.state (object_at c.args.self.now c.args.object).identity c.write_standing.ensures;
}
