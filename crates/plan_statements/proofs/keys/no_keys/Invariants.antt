use Rattle.std.proofs.Common.{◌≡◌, [], replicate}
use Rattle.plan_statements.proofs.keys.no_keys.Given as goal

abbrev pub invariant-loop-place : goal.invariant-loop-place
invariant-loop-place l = l.known ≡ replicate l._place []
