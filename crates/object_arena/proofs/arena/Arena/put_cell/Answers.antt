use Rattle.std.proofs.Common.{refl}
use Rattle.object_arena.proofs.ClassLemmas.{classes_set}
use Rattle.object_arena.proofs.FitLemmas.{fit_cell}
use Rattle.object_arena.proofs.arena.Arena.put_cell.Goals as goal

pub returns-clause-keeps : goal.returns-clause-keeps
returns-clause-keeps c = record {
  fits = λ mapped good fit. fit_cell mapped c.args.self.now c.write_cell.new.self c.args.object c.args.attr c.args.cell c.requires.object c.requires.attr c.write_cell.ensures fit good;
  classes = classes_set c.args.self.now c.write_cell.new.self c.args.object _ refl c.write_cell.ensures;
}
