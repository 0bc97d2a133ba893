use Rattle.std.proofs.Common.{◌≡◌, ◌+◌, length}
use Rattle.cascades.specs.Walks.{count_left, is_marked}
use Rattle.cascades.proofs.ClosureLemmas.{IsWalk, none}
use Rattle.cascades.proofs.closures.reach_marked.Given as goal

abbrev pub invariant-loop-next : goal.invariant-loop-next
invariant-loop-next l =
    IsWalk l.flag l.mapping l.arena l.fn.starts none (is_marked l.walk.marks.items) l.walk.waiting.items
    × (length l.walk.marks.items ≡ length l.arena.objects + 1)

abbrev pub decreases-loop-next : goal.decreases-loop-next
decreases-loop-next l = count_left l.walk.marks.items + length l.walk.waiting.items
