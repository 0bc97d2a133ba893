use Rattle.std.proofs.Common.{◌≡◌}
use Rattle.std.specs.List.{list_any}
use Rattle.row_judging.specs.Lost.{key_lost}
use Rattle.table_rows.specs.Rows.{rows_present, tables_present}
use Rattle.row_judging.proofs.losing.some_key_lost.Given as goal

abbrev pub invariant-loop-key : goal.invariant-loop-key
invariant-loop-key l =
    list_any (λ entry. key_lost l.schema (tables_present l.left) l.spec (rows_present l.rows) l.foreign entry.0) (rows_present l.key-iterator)
    ≡ list_any (λ entry. key_lost l.schema (tables_present l.left) l.spec (rows_present l.rows) l.foreign entry.0) (rows_present l.taken)
