use Rattle.std.proofs.Common.{◌≡◌, ◌++◌, drop}
use Rattle.sql_semantics.specs.Taken.{column_values}
use Rattle.bulk_rows.proofs.cells.paired.Given as goal

abbrev pub invariant-loop-place : goal.invariant-loop-place
invariant-loop-place l = l.cells.items ++ column_values (drop l.place l.columns) (drop l.place l.values) ≡ column_values l.columns l.values
