use Rattle.table_index.proofs.ColumnSteps.{IsAfter}
use Rattle.table_index.proofs.columns.column_place.Given as goal

abbrev pub invariant-loop-place : goal.invariant-loop-place
invariant-loop-place l = IsAfter l.columns l.name l.place
