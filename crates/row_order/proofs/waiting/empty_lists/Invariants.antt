use Rattle.std.proofs.Common.{◌≡◌, ℕ, [], length}
use Rattle.row_order.specs.Lists.{list_at}
use Rattle.row_order.proofs.waiting.empty_lists.Given as goal

abbrev pub invariant-loop-place : goal.invariant-loop-place
invariant-loop-place l = record { size : length l.lists.items ≡ l._place; empty : (place : ℕ) → list_at l.lists.items place ≡ [] }
