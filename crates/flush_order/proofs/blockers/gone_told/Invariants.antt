use Rattle.std.proofs.Common.{◌≡◌, ◌<◌, ℕ, length, Some}
use Rattle.std.specs.List.{slice_get}
use Rattle.flush_order.specs.Index.{gone_targets}
use Rattle.flush_order.proofs.blockers.gone_told.Given as goal

abbrev pub invariant-loop-place : goal.invariant-loop-place
invariant-loop-place l = (length l.lists.items ≡ l.place) × ((k : ℕ) → k < length l.lists.items → slice_get l.lists.items k ≡ Some (gone_targets l.gone.schema.now l.gone.changes.now l.index k))
