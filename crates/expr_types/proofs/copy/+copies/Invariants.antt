use Rattle.std.proofs.Common.{◌≡◌, take}
use Rattle.expr_types.proofs.copy.+copies.Given as goal

abbrev pub invariant-parts-loop-e : goal.invariant-parts-loop-e
invariant-parts-loop-e l = l.out ≡ take l.e-index l.e-items
