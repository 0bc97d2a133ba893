use Rattle.std.proofs.Common.{◌≡◌, ◌<◌, ℕ, length, Some}
use Rattle.std.specs.List.{slice_get}
use Rattle.flush_order.specs.Index.{new_blockers}
use Rattle.flush_order.proofs.blockers.new_told.Given as goal

abbrev pub invariant-loop-place : goal.invariant-loop-place
invariant-loop-place l = (length l.lists.items ≡ l.place) × ((k : ℕ) → k < length l.lists.items → slice_get l.lists.items k ≡ Some (new_blockers l.new.schema.now l.new.changes.now l.index k))
