use Rattle.std.proofs.Common.{◌≡◌, ◌∷◌, ◌++◌, length, drop}
use Rattle.script_names.proofs.scope.inner_scope.Given as goal

abbrev pub invariant-loop-placed : goal.invariant-loop-placed
invariant-loop-placed l = l.inner.items ++ drop l.placed-index l.scope ≡ (length l.scope, l.source) ∷ l.scope
