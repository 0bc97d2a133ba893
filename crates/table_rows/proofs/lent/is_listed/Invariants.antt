use Rattle.std.proofs.Common.{◌≡◌, drop}
use Rattle.sql_semantics.specs.Rows as spec
use Rattle.table_rows.proofs.lent.is_listed.Given as goal

abbrev pub invariant-loop-id : goal.invariant-loop-id
invariant-loop-id l = spec.is_created (drop l.id-index l.tables) l.table.0 ≡ spec.is_created l.tables l.table.0
