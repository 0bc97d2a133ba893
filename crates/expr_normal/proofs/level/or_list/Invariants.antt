use Rattle.std.proofs.Common.{◌≡◌, ◌++◌, reverse, length}
use Rattle.expr_types.specs.Normal as spec
use Rattle.expr_normal.proofs.level.or_list.Given as goal

abbrev pub invariant-loop-e : goal.invariant-loop-e
invariant-loop-e l = l.out ++ spec.joined_parts spec.or_parts (reverse l.operands) ≡ spec.joined_parts spec.or_parts (reverse l.initial.operands)

abbrev pub decreases-loop-e : goal.decreases-loop-e
decreases-loop-e l = length l.operands
