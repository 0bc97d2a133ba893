use Rattle.std.proofs.Common.{◌≡◌}
use Rattle.std.specs.List.{list_any}
use Rattle.schema_core.specs.Tables.{row_under}
use Rattle.table_rows.specs.Rows.{rows_present}
use Rattle.row_judging.specs.Lost.{has_there}
use Rattle.row_judging.proofs.losing.some_key_has.Given as goal

abbrev pub invariant-loop-key : goal.invariant-loop-key
invariant-loop-key l =
    list_any (λ key. has_there l.spec l.names l.value (row_under (rows_present l.rows) key)) l.key-iterator
    ≡ list_any (λ key. has_there l.spec l.names l.value (row_under (rows_present l.rows) key)) l.keys.keys
