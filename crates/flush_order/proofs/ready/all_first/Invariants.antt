use Rattle.std.proofs.Common.{◌≡◌, ◌<◌, ℕ, length, Some}
use Rattle.std.specs.List.{slice_get}
use Rattle.flush_order.specs.Cells.{first_cells}
use Rattle.flush_order.proofs.ready.all_first.Given as goal

abbrev pub invariant-loop-place : goal.invariant-loop-place
invariant-loop-place l = (length l.firsts.items ≡ l.place) × ((k : ℕ) → k < length l.firsts.items → slice_get l.firsts.items k ≡ Some (first_cells l.schema l.changes k))
