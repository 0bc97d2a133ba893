use Rattle.std.proofs.Common.{◌≡◌}
use Rattle.row_judging.specs.Lost.{some_row_has}
use Rattle.table_rows.specs.Rows.{rows_present}
use Rattle.row_judging.proofs.losing.some_has.Given as goal

abbrev pub invariant-loop-place : goal.invariant-loop-place
invariant-loop-place l = some_row_has l.spec l.names (rows_present l.place-iterator) l.value ≡ some_row_has l.spec l.names (rows_present l.rows) l.value
