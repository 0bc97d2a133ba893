use Rattle.std.proofs.Common.{◌≡◌, ◌∷◌, ◌++◌, map, drop}
use Rattle.sql_statements.proofs.selects.sources_of.Given as goal

abbrev pub invariant-loop-join : goal.invariant-loop-join
invariant-loop-join l = l.scope.items ++ map (λ j. j.origin) (drop l.join-index l.join-items) ≡ l.select.first ∷ map (λ j. j.origin) l.select.joins
