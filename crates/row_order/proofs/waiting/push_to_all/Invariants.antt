use Rattle.std.proofs.Common.{◌≡◌, ℕ, ◌+◌, ◌<◌, cond, length, take}
use Rattle.std.specs.Prelude.{nat_eq}
use Rattle.row_order.specs.Lists.{AreBelow, list_at, times}
use Rattle.row_order.proofs.waiting.push_to_all.Given as goal

abbrev pub invariant-loop-place : goal.invariant-loop-place
invariant-loop-place l = record {
  size : length l.lists.items ≡ length l.fn.lists.items;
  times : (other place : ℕ) → place < length l.fn.lists.items → times other (list_at l.lists.items place) ≡ times other (list_at l.fn.lists.items place) + cond (nat_eq other l.row) (times place (take l.place-index l.places)) 0;
  below : (bound : ℕ) → l.row < bound → AreBelow bound l.fn.lists.items → AreBelow bound l.lists.items;
}
