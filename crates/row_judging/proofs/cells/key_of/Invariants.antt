use Rattle.std.proofs.Common.{◌≡◌, ◌++◌, drop}
use Rattle.schema_core.specs.Tables.{key_cells}
use Rattle.row_judging.proofs.cells.key_of.Given as goal

abbrev pub invariant-loop-place : goal.invariant-loop-place
invariant-loop-place l = l.cells.items ++ key_cells (drop l.place l.columns) (drop l.place l.row) ≡ key_cells l.columns l.row
