use Rattle.std.proofs.Common.{◌≡◌, ◌≤◌, drop, length}
use Rattle.std.specs.Cmp.Lexicographic.{pointwise}
use Rattle.base_core.specs.Order.{same_value}
use Rattle.expr_scopes.proofs.sameness.same_values.Given as goal

abbrev pub invariant-loop-place : goal.invariant-loop-place
invariant-loop-place l = (l.place ≤ length l.others) × (pointwise same_value (drop l.place l.values) (drop l.place l.others) ≡ pointwise same_value l.values l.others)
