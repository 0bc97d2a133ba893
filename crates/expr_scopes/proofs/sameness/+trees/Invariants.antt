use Rattle.std.proofs.Common.{◌≡◌, ◌≤◌, drop, length}
use Rattle.std.specs.Cmp.Lexicographic.{pointwise}
use Rattle.expr_types.specs.Same.{same}
use Rattle.expr_scopes.proofs.sameness.+trees.Given as goal

abbrev pub invariant-all_alike-loop-place : goal.invariant-all_alike-loop-place
invariant-all_alike-loop-place l = (l.place ≤ length l.others) × (pointwise same (drop l.place l.es) (drop l.place l.others) ≡ pointwise same l.es l.others)
