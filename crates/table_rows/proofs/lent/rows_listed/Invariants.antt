use Rattle.std.proofs.Common.{◌≡◌, drop}
use Rattle.sql_semantics.specs.Eval as spec
use Rattle.table_rows.proofs.lent.rows_listed.Given as goal

abbrev pub invariant-loop-id : goal.invariant-loop-id
invariant-loop-id l = spec.rows_in (drop l.id-index l.tables) l.table.0 ≡ spec.rows_in l.tables l.table.0
