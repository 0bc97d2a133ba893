use Rattle.std.proofs.Common.{◌≡◌, length}
use Rattle.object_arena.specs.Fit.{Keeps}
use Rattle.object_arena.proofs.TurnLemmas.{changed_before}
use Rattle.savepoints.specs.Restoring.{set_free}
use Rattle.savepoints.proofs.restoring.set_all_free.Given as goal

abbrev pub invariant-loop-number : goal.invariant-loop-number
invariant-loop-number l = (l.arena ≡ changed_before set_free l.fn.arena l.number) × (length l.arena.objects ≡ length l.fn.arena.objects) × Keeps l.fn.arena l.arena
