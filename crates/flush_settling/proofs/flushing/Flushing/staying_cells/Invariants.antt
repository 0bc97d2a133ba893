use Rattle.std.proofs.Common.{◌≡◌, ◌++◌, map, drop}
use Rattle.std.specs.List.{enumerate_from}
use Rattle.graph_flushed.specs.Flushed.{staying_cell}
use Rattle.flush_settling.specs.Ready.{written_of}
use Rattle.flush_settling.proofs.flushing.Flushing.staying_cells.Given as goal

abbrev pub invariant-loop-place : goal.invariant-loop-place
invariant-loop-place l = l.staying ++ map (staying_cell (written_of l.self) l.object l.class) (enumerate_from l.place (drop l.place l.cells)) ≡ map (staying_cell (written_of l.self) l.object l.class) (enumerate_from 0 l.cells)
