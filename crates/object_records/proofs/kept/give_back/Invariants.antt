use Rattle.std.proofs.Common.{◌≡◌, length}
use Rattle.object_arena.specs.Every.{classes_of}
use Rattle.object_records.specs.Kept.{CanHoldAll, given_back}
use Rattle.object_records.proofs.kept.give_back.Given as goal

abbrev pub invariant-loop-held : goal.invariant-loop-held
invariant-loop-held l = (given_back l.left.items l.arena ≡ given_back l.fn.kept l.fn.arena) × CanHoldAll l.left.items l.arena × (classes_of l.arena ≡ classes_of l.fn.arena)

abbrev pub decreases-loop-held : goal.decreases-loop-held
decreases-loop-held l = length l.left.items
