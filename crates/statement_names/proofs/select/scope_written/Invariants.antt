use Rattle.std.proofs.Common.{◌≡◌, ◌∷◌, map, take}
use Rattle.script_names.specs.Scopes.{outer_scope}
use Rattle.statement_names.proofs.select.scope_written.Given as goal

abbrev pub invariant-loop-join : goal.invariant-loop-join
invariant-loop-join l = l.scope.items ≡ outer_scope (l.s.first ∷ map (λ join. join.source) (take l.join-index l.join-items))
