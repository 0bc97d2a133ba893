use Rattle.std.proofs.Common.{◌≡◌, ◌≤◌, drop, length}
use Rattle.std.specs.Cmp.Lexicographic.{pointwise}
use Rattle.object_records.specs.Same.{same_id}
use Rattle.object_records.proofs.same.same_ids.Given as goal

abbrev pub invariant-loop-place : goal.invariant-loop-place
invariant-loop-place l = (l.place ≤ length l.other) × (pointwise same_id (drop l.place l.one) (drop l.place l.other) ≡ pointwise same_id l.one l.other)
