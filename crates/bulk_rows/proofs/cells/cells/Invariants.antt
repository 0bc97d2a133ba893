use Rattle.std.proofs.Common.{◌≡◌, [], drop}
use Rattle.sql_semantics.specs.Taken as spec
use Rattle.table_rows.specs.Lent.{seen}
use Rattle.bulk_rows.proofs.cells.cells.Given as goal

abbrev pub invariant-loop-cell : goal.invariant-loop-cell
invariant-loop-cell l = spec.cells_from (seen l.tables) l.row l.cells.items (drop l.cell-index l.written) ≡ spec.cells_from (seen l.tables) l.row [] l.written
