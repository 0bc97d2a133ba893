use Rattle.std.proofs.Common.{◌≡◌, length}
use Rattle.object_arena.specs.Fit.{Keeps}
use Rattle.object_arena.proofs.TurnLemmas.{changed_before}
use Rattle.session_parts.specs.Ends.{object_left}
use Rattle.session_parts.proofs.ends.let_go_all.Given as goal

abbrev pub invariant-loop-number : goal.invariant-loop-number
invariant-loop-number l = (l.arena ≡ changed_before object_left l.fn.arena l.number) × (length l.arena.objects ≡ length l.fn.arena.objects) × Keeps l.fn.arena l.arena
