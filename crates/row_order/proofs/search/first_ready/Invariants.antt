use Rattle.std.proofs.Common.{◌≡◌, ℕ, ◌&&◌, length}
use Rattle.std.specs.Prelude.{nat_eq, nat_lt}
use Rattle.std.specs.Ordering.{nat_cmp}
use Rattle.std.specs.BTreeSet.{contains}
use Rattle.row_order.specs.Lists.{list_at}
use Rattle.row_order.proofs.search.first_ready.Given as goal

abbrev pub invariant-loop-row : goal.invariant-loop-row
invariant-loop-row l = (other : ℕ) → contains nat_cmp l.ready other ≡ (nat_lt other l.row && nat_eq (length (list_at l.lists other)) 0)
