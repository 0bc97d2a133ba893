use Rattle.std.proofs.Common.{◌≡◌, ◌++◌, length}
use Rattle.table_rows.specs.Walks.{rows_left}
use Rattle.table_rows.proofs.walk.copies.Given as goal

abbrev pub invariant-loop-row : goal.invariant-loop-row
invariant-loop-row l = l.all.items ++ rows_left l.left ≡ rows_left l.fn.rows

abbrev pub decreases-loop-row : goal.decreases-loop-row
decreases-loop-row l = length (rows_left l.left)
