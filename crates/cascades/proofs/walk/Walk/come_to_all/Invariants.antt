use Rattle.std.proofs.Common.{◌≡◌, ◌+◌, length, take}
use Rattle.std.specs.Ordering.{nat_cmp}
use Rattle.std.specs.List.Sorted.{IsStrictlySortedBy}
use Rattle.cascades.specs.Walks.{Comes, is_in}
use Rattle.cascades.proofs.walk.Walk.come_to_all.Given as goal

abbrev pub invariant-loop-object : goal.invariant-loop-object
invariant-loop-object l = record {
  comes : Comes (is_in l.fn.self.reached.keys) (is_in l.self.reached.keys) l.fn.self.waiting.items l.self.waiting.items (take l.object-index l.objects);
  count : length l.self.reached.keys + length l.fn.self.waiting.items ≡ length l.fn.self.reached.keys + length l.self.waiting.items;
  ascending : IsStrictlySortedBy nat_cmp l.self.reached.keys;
}
