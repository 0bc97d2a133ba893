use Rattle.std.proofs.Common.{◌≡◌, drop}
use Rattle.std.specs.List.{list_any}
use Rattle.row_judging.specs.Holders.{is_held}
use Rattle.table_rows.specs.Rows.{rows_present}
use Rattle.row_judging.proofs.uniques.some_held.Given as goal

abbrev pub invariant-loop-entry : goal.invariant-loop-entry
invariant-loop-entry l =
    list_any (λ entry. is_held l.spec l.unique (rows_present l.left) entry.0 entry.1) (drop l.entry-index l.entries)
    ≡ list_any (λ entry. is_held l.spec l.unique (rows_present l.left) entry.0 entry.1) l.entries
