use Rattle.std.proofs.Common.{◌+◌, ◌-◌, length}
use Rattle.std.specs.Ordering.{nat_cmp}
use Rattle.std.specs.List.Sorted.{IsStrictlySortedBy}
use Rattle.cascades.specs.Walks.{is_in}
use Rattle.cascades.proofs.ClosureLemmas.{IsWalk, none}
use Rattle.cascades.proofs.closures.reach_kept.Given as goal

abbrev pub invariant-loop-next : goal.invariant-loop-next
invariant-loop-next l = IsWalk l.flag l.mapping l.arena l.fn.starts none (is_in l.walk.reached.keys) l.walk.waiting.items × IsStrictlySortedBy nat_cmp l.walk.reached.keys

abbrev pub decreases-loop-next : goal.decreases-loop-next
decreases-loop-next l = (length l.arena.objects + 1 - length l.walk.reached.keys) + length l.walk.waiting.items
