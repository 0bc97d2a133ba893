use Rattle.std.proofs.Common.{◌≡◌, ◌++◌, reverse, length}
use Rattle.expr_normal.proofs.level.turned.Given as goal

abbrev pub invariant-loop-e : goal.invariant-loop-e
invariant-loop-e l = l.out ++ reverse l.items ≡ reverse l.initial.items

abbrev pub decreases-loop-e : goal.decreases-loop-e
decreases-loop-e l = length l.items
