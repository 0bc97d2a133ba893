use Rattle.std.proofs.Common.{◌≡◌, ◌<◌, ℕ, length, Some}
use Rattle.std.specs.List.{slice_get}
use Rattle.row_order.specs.Lists.{list_at, rows_within}
use Rattle.row_order.proofs.lists.lists_within.Given as goal

abbrev pub invariant-loop-row : goal.invariant-loop-row
invariant-loop-row l = (length l.within.items ≡ l.row) × ((k : ℕ) → k < length l.within.items → slice_get l.within.items k ≡ Some (rows_within (length l.lists) (list_at l.lists k)))
