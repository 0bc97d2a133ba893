use Rattle.std.proofs.Common.{◌≡◌, length}
use Rattle.object_arena.specs.Graph.{expired_cell}
use Rattle.object_records.proofs.PutSteps.{AreLeft, cells_before}
use Rattle.object_records.proofs.puts.put_cells.Given as goal

abbrev pub invariant-loop-place : goal.invariant-loop-place
invariant-loop-place l = (l.arena ≡ cells_before l.fn.arena l.object l.fn.cells l.place) × AreLeft expired_cell l.fn.cells l.cells l.place × (length l.cells ≡ length l.fn.cells)
