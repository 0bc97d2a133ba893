use Rattle.std.proofs.Common.{◌≡◌, drop}
use Rattle.std.specs.List.{list_any}
use Rattle.schema_core.specs.Tables.{some_dangles}
use Rattle.table_rows.specs.Rows.{tables_present}
use Rattle.row_judging.proofs.judging.some_written_dangles.Given as goal

abbrev pub invariant-loop-entry : goal.invariant-loop-entry
invariant-loop-entry l =
    list_any (λ entry. some_dangles l.schema (tables_present l.left) l.spec entry.1) (drop l.entry-index l.entries) ≡ list_any (λ entry. some_dangles l.schema (tables_present l.left) l.spec entry.1) l.entries
