use Rattle.std.proofs.Common.{◌≤◌, drop, length}
use Rattle.query_steps.specs.Ends.{AreEnds}
use Rattle.query_steps.proofs.pattern.fits.Given as goal

abbrev pub invariant-loop-at : goal.invariant-loop-at
invariant-loop-at l = AreEnds (drop l.at l.pattern) l.text l.ends.items × (l.at ≤ length l.pattern)

abbrev pub decreases-loop-at : goal.decreases-loop-at
decreases-loop-at l = l.at
