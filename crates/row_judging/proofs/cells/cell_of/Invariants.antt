use Rattle.std.proofs.Common.{◌≡◌, drop}
use Rattle.schema_core.specs.Tables.{cell_of}
use Rattle.row_judging.proofs.cells.cell_of.Given as goal

abbrev pub invariant-loop-place : goal.invariant-loop-place
invariant-loop-place l = cell_of (drop l.place l.columns) (drop l.place l.row) l.name ≡ cell_of l.columns l.row l.name
