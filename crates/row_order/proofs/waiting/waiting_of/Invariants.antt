use Rattle.std.proofs.Common.{◌≡◌, ℕ, ◌<◌, cond, length}
use Rattle.std.specs.Prelude.{nat_lt}
use Rattle.row_order.specs.Lists.{AreBelow, list_at, times}
use Rattle.row_order.proofs.waiting.waiting_of.Given as goal

abbrev pub invariant-loop-row : goal.invariant-loop-row
invariant-loop-row l = record {
  size : length l.waiting.items ≡ length l.lists;
  below : AreBelow (length l.lists) l.waiting.items;
  times : (other place : ℕ) → place < length l.lists → times other (list_at l.waiting.items place) ≡ cond (nat_lt other l.row) (times place (list_at l.lists other)) 0;
}
