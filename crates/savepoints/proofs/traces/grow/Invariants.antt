use Rattle.std.proofs.Common.{◌≡◌, ◌++◌}
use Rattle.std.specs.Prelude.{replicate}
use Rattle.savepoints.specs.Scopes.{no_trace}
use Rattle.savepoints.proofs.traces.grow.Given as goal

abbrev pub invariant-loop-added : goal.invariant-loop-added
invariant-loop-added l = l.traces.items ≡ l.fn.traces.items ++ replicate l._added no_trace
