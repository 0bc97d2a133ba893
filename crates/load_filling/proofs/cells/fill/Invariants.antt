use Rattle.std.proofs.Common.{◌≡◌}
use Rattle.object_arena.specs.Fit.{KeepsWith}
use Rattle.object_arena.specs.Graph.{object_at}
use Rattle.load_filling.specs.Filled.{AreFoundFor, filled_to}
use Rattle.load_filling.proofs.cells.fill.Given as goal

abbrev pub invariant-loop-place : goal.invariant-loop-place
invariant-loop-place l = record {
  graph : l.arena ≡ filled_to l.fn.arena l.object l.found l.place;
  keeps : KeepsWith (AreFoundFor (object_at l.fn.arena l.object).class l.found) l.fn.arena l.arena;
}
