use Rattle.std.proofs.Common.{◌≡◌, drop}
use Rattle.schema_core.specs.Tables.{has_null, key_cells}
use Rattle.sql_rows.proofs.rows.has_open_key.Given as goal

abbrev pub invariant-loop-column : goal.invariant-loop-column
invariant-loop-column l = has_null (key_cells (drop l.column-index l.columns) l.rest) ≡ has_null (key_cells l.columns l.row)
