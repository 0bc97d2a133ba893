use Rattle.std.proofs.Common.{◌≡◌, take}
use Rattle.table_index.specs.Indexed.{cells_at}
use Rattle.table_index.proofs.columns.cells_at.Given as goal

abbrev pub invariant-loop-column : goal.invariant-loop-column
invariant-loop-column l = l.cells.items ≡ cells_at (take l.column-index l.columns) l.row
