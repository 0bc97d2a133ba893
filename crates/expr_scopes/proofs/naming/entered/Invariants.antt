use Rattle.std.proofs.Common.{◌≡◌, take}
use Rattle.expr_scopes.proofs.naming.entered.Given as goal

abbrev pub invariant-loop-outer : goal.invariant-loop-outer
invariant-loop-outer l = l.inner.items ≡ take l.outer-index l.names
