use Rattle.std.proofs.Common.{◌≡◌, ◌+◌, length, take}
use Rattle.cascades.specs.Walks.{Comes, count_left, is_marked}
use Rattle.cascades.proofs.marks.Marks.come_to_all.Given as goal

abbrev pub invariant-loop-object : goal.invariant-loop-object
invariant-loop-object l = record {
  comes : Comes (is_marked l.fn.self.marks.items) (is_marked l.self.marks.items) l.fn.self.waiting.items l.self.waiting.items (take l.object-index l.objects);
  count : count_left l.self.marks.items + length l.self.waiting.items ≡ count_left l.fn.self.marks.items + length l.fn.self.waiting.items;
  long : length l.self.marks.items ≡ length l.fn.self.marks.items;
}
