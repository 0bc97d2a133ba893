use Rattle.std.proofs.Common.{◌≡◌, drop}
use Rattle.savepoints.proofs.frames.Frames.end.Given as goal

abbrev pub invariant-loop-ended : goal.invariant-loop-ended
invariant-loop-ended l = (l.self-inside.scopes.items ≡ drop l._ended l.fn.self.scopes) × (l.self-inside.traces.items ≡ l.fn.self.traces)
