use Rattle.std.proofs.Common.{◌≡◌, ◌++◌, map, take, drop, length}
use Rattle.savepoints.specs.Scopes.{outward}
use Rattle.savepoints.proofs.traces.pass_outward.Given as goal

abbrev pub invariant-loop-place : goal.invariant-loop-place
invariant-loop-place l =
    (l.traces.items ≡ map (outward l.depth) (take l.place l.fn.traces.items) ++ drop l.place l.fn.traces.items) × (length l.traces.items ≡ length l.fn.traces.items)
