use Rattle.std.proofs.Common.{◌≡◌, ◌∷◌, ◌++◌, drop, map}
use Rattle.sql_semantics.specs.Rows as spec
use Rattle.select_sources.proofs.table.of_joins.Given as goal

abbrev pub invariant-loop-join : goal.invariant-loop-join
invariant-loop-join l = l.found.items ++ spec.flat (map (λ j. j.origin.table.0 ∷ spec.exists_tables j.on) (drop l.join-index l.join-items)) ≡ l.initial.found.items ++ spec.flat (map (λ j. j.origin.table.0 ∷ spec.exists_tables j.on) l.joins)
