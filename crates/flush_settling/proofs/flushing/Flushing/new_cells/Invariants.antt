use Rattle.std.proofs.Common.{◌≡◌, ◌++◌, map, drop}
use Rattle.std.specs.List.{enumerate_from}
use Rattle.graph_flushed.specs.Flushed.{new_cell}
use Rattle.flush_settling.specs.Ready.{written_of}
use Rattle.flush_settling.proofs.flushing.Flushing.new_cells.Given as goal

abbrev pub invariant-loop-place : goal.invariant-loop-place
invariant-loop-place l = l.new ++ map (new_cell (written_of l.self) l.object l.class l.key) (enumerate_from l.place (drop l.place l.cells)) ≡ map (new_cell (written_of l.self) l.object l.class l.key) (enumerate_from 0 l.cells)
