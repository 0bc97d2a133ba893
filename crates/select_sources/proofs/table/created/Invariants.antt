use Rattle.std.proofs.Common.{◌≡◌, drop}
use Rattle.table_rows.specs.Lent.{seen}
use Rattle.sql_semantics.specs.Rows as spec
use Rattle.select_sources.proofs.table.created.Given as goal

abbrev pub invariant-loop-table : goal.invariant-loop-table
invariant-loop-table l = spec.require_created (seen l.tables) (drop l.table-index l.named) ≡ spec.require_created (seen l.tables) l.named
