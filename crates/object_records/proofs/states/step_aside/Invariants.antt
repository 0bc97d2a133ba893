use Rattle.std.proofs.Common.{◌≡◌, length}
use Rattle.object_arena.specs.Fit.{Keeps}
use Rattle.object_arena.proofs.TurnLemmas.{graph_before}
use Rattle.object_records.specs.Way.{aside}
use Rattle.object_records.proofs.states.step_aside.Given as goal

abbrev pub invariant-loop-number : goal.invariant-loop-number
invariant-loop-number l = (l.arena ≡ graph_before (aside l.records) l.fn.arena l.number) × (length l.arena.objects ≡ length l.fn.arena.objects) × Keeps l.fn.arena l.arena
