use Rattle.std.proofs.Common.{◌≡◌, drop}
use Rattle.std.specs.List.{list_all}
use Rattle.schema_core.specs.Tables.{is_null}
use Rattle.sqlite_statements.proofs.rows.are_all_null.Given as goal

abbrev pub invariant-loop-value : goal.invariant-loop-value
invariant-loop-value l = list_all is_null (drop l.value-index l.values) ≡ list_all is_null l.values
