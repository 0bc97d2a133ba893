use Rattle.std.proofs.Common.{◌≡◌, ◌≤◌, drop, length}
use Rattle.std.specs.Cmp.Lexicographic.{pointwise}
use Rattle.object_records.specs.Same.{same_link}
use Rattle.object_records.proofs.same.same_links.Given as goal

abbrev pub invariant-loop-place : goal.invariant-loop-place
invariant-loop-place l = (l.place ≤ length l.other) × (pointwise same_link (drop l.place l.one) (drop l.place l.other) ≡ pointwise same_link l.one l.other)
