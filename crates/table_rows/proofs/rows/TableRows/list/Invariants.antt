use Rattle.std.proofs.Common.{◌≡◌, ◌++◌, map}
use Rattle.table_rows.specs.Rows.{rows_present}
use Rattle.table_rows.proofs.rows.TableRows.list.Given as goal

abbrev pub invariant-loop-place : goal.invariant-loop-place
invariant-loop-place l = l.rows.items ++ map (λ entry. entry.1) (rows_present l.place-iterator) ≡ map (λ entry. entry.1) (rows_present l.self)
