use Rattle.std.proofs.Common.{◌≡◌, take}
use Rattle.std.specs.List.{filter}
use Rattle.flush_writes.specs.Writes.{is_written_when}
use Rattle.flush_writes.proofs.writings.cells_when.Given as goal

abbrev pub invariant-loop-cell : goal.invariant-loop-cell
invariant-loop-cell l = l.cells ≡ filter (λ cell. is_written_when l.schema l.changes l.late l.row.name.table cell.0) (take l.cell-index l.row.cells)
