use Rattle.std.proofs.Common.{◌≡◌, ◌∷◌, map, take}
use Rattle.expr_typing.proofs.shapes.scope_of.Given as goal

abbrev pub invariant-loop-join : goal.invariant-loop-join
invariant-loop-join l = l.scope.items ≡ l.select.first.table ∷ map (λ join. join.origin.table) (take l.join-index l.select.joins)
