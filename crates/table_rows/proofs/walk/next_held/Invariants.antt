use Rattle.std.proofs.Common.{◌≡◌, length}
use Rattle.table_rows.specs.Rows.{rows_present}
use Rattle.table_rows.proofs.walk.next_held.Given as goal

abbrev pub invariant-loop-key : goal.invariant-loop-key
invariant-loop-key l = rows_present l.places ≡ rows_present l.initial.places

abbrev pub decreases-loop-key : goal.decreases-loop-key
decreases-loop-key l = length l.places
