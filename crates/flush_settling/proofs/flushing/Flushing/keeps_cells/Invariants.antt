use Rattle.std.proofs.Common.{◌≡◌, map}
use Rattle.std.specs.List.{enumerate_from}
use Rattle.graph_flushed.specs.Flushed.{staying_cell}
use Rattle.flush_settling.specs.Ready.{written_of}
use Rattle.graph_flushed.proofs.SettledSteps.{StayFrom}
use Rattle.flush_settling.proofs.flushing.Flushing.keeps_cells.Given as goal

abbrev pub invariant-loop-place : goal.invariant-loop-place
invariant-loop-place l = StayFrom (staying_cell (written_of l.self) l.object l.class) l.cells l.place → map (staying_cell (written_of l.self) l.object l.class) (enumerate_from 0 l.cells) ≡ l.cells
