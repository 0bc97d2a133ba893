use Rattle.std.proofs.Common.{◌≡◌, drop}
use Rattle.std.specs.List.{list_any}
use Rattle.row_judging.specs.Holders.{is_held}
use Rattle.table_rows.specs.Rows.{rows_present}
use Rattle.row_judging.proofs.uniques.some_unique_held.Given as goal

abbrev pub invariant-loop-unique : goal.invariant-loop-unique
invariant-loop-unique l =
    list_any (λ unique. list_any (λ entry. is_held l.spec unique (rows_present l.left) entry.0 entry.1) l.entries) (drop l.unique-index l.spec.uniques)
    ≡ list_any (λ unique. list_any (λ entry. is_held l.spec unique (rows_present l.left) entry.0 entry.1) l.entries) l.spec.uniques
