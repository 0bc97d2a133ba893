use Rattle.std.proofs.Common.{◌≡◌}
use Rattle.object_records.proofs.TouchSteps.{touched_before}
use Rattle.object_records.proofs.touches.touch_all.Given as goal

abbrev pub invariant-loop-number : goal.invariant-loop-number
invariant-loop-number l = (l.frames ≡ touched_before l.arena l.records l.number l.fn.frames) × (l.frames.scopes ≡ l.fn.frames.scopes)
