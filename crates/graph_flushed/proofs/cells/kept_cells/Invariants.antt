use Rattle.std.proofs.Common.{◌≡◌, ◌++◌, map, drop}
use Rattle.graph_flushed.specs.Flushed.{kept_cell}
use Rattle.graph_flushed.proofs.cells.kept_cells.Given as goal

abbrev pub invariant-loop-cell : goal.invariant-loop-cell
invariant-loop-cell l = l.kept ++ map kept_cell (drop l.cell-index l.cells) ≡ map kept_cell l.cells
