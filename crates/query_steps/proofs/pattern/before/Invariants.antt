use Rattle.std.proofs.Common.{◌≡◌, ◌+◌, List, ℕ, ◌∷◌, length}
use Rattle.query_steps.specs.Ends.{AreEndsTo, AreEnds}
use Rattle.query_steps.proofs.pattern.before.Given as goal

abbrev pub invariant-loop-i : goal.invariant-loop-i
invariant-loop-i l = ((later : List ℕ) → AreEnds later l.text l.ends → AreEndsTo l.i (l.wanted ∷ later) l.text l.more.items) × (length l.more.items ≡ l.i + 1)
