use Rattle.std.proofs.Common.{◌≡◌, ◌∷◌, ◌++◌, map, take}
use Rattle.sql_semantics.specs.Plain.{name_of}
use Rattle.alias_names.proofs.names.push_source_names.Given as goal

abbrev pub invariant-loop-join : goal.invariant-loop-join
invariant-loop-join l = l.out ≡ l.fn.out ++ (name_of l.mapping.schema l.select.first ∷ map (name_of l.mapping.schema) (map (λ join. join.origin) (take l.join-index l.join-items)))
