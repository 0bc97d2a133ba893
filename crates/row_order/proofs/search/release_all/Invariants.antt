use Rattle.std.proofs.Common.{◌≡◌, ℕ, ◌+◌, ◌&&◌, ◌||◌, length, get_or, take}
use Rattle.std.specs.Prelude.{nat_eq, nat_lt}
use Rattle.std.specs.Ordering.{nat_cmp}
use Rattle.std.specs.BTreeSet.{contains}
use Rattle.row_order.specs.Lists.{times}
use Rattle.row_order.proofs.search.release_all.Given as goal

abbrev pub invariant-loop-row : goal.invariant-loop-row
invariant-loop-row l = record {
  size : length l.counts.items ≡ length l.fn.counts.items;
  counts : (row : ℕ) → get_or l.counts.items row 0 + times row (take l.row-index l.rows) ≡ get_or l.fn.counts.items row 0;
  ready : (row : ℕ) → contains nat_cmp l.ready row ≡ (contains nat_cmp l.fn.ready row || (nat_lt 0 (times row (take l.row-index l.rows)) && nat_eq (get_or l.counts.items row 0) 0));
}
