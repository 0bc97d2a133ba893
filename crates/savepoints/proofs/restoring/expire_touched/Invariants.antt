use Rattle.std.proofs.Common.{◌≡◌, length}
use Rattle.object_arena.specs.Fit.{Keeps}
use Rattle.object_arena.proofs.TurnLemmas.{graph_before}
use Rattle.savepoints.specs.Scopes.{read_again}
use Rattle.savepoints.proofs.restoring.expire_touched.Given as goal

abbrev pub invariant-loop-number : goal.invariant-loop-number
invariant-loop-number l =
    (l.arena ≡ graph_before (read_again l.depth l.traces) l.fn.arena l.number) × (length l.arena.objects ≡ length l.fn.arena.objects) × Keeps l.fn.arena l.arena
