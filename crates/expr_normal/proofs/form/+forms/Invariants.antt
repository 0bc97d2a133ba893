use Rattle.std.proofs.Common.{◌≡◌, ◌++◌, map, reverse, length}
use Rattle.expr_types.specs.Normal as spec
use Rattle.expr_normal.proofs.form.+forms.Given as goal

abbrev pub invariant-reversed-loop-e : goal.invariant-reversed-loop-e
invariant-reversed-loop-e l = (l.back ++ reverse (map spec.normal l.operands) ≡ reverse (map spec.normal l.fn.operands)) × goal.no_deeper-reversed-loop-e l

abbrev pub decreases-reversed-loop-e : goal.decreases-reversed-loop-e
decreases-reversed-loop-e l = length l.operands
