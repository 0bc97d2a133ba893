use Rattle.std.proofs.Common.{◌≡◌, ◌<◌, ℕ, length, Some}
use Rattle.std.specs.List.{slice_get}
use Rattle.flush_order.specs.Ready.{ready_row}
use Rattle.flush_order.proofs.ready.ready_rows.Given as goal

abbrev pub invariant-loop-place : goal.invariant-loop-place
invariant-loop-place l = (length l.rows.items ≡ l.place) × ((k : ℕ) → k < length l.rows.items → slice_get l.rows.items k ≡ Some (ready_row l.schema l.changes k))
