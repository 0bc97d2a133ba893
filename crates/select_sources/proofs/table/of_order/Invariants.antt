use Rattle.std.proofs.Common.{◌≡◌, ◌++◌, drop, map}
use Rattle.sql_semantics.specs.Rows as spec
use Rattle.select_sources.proofs.table.of_order.Given as goal

abbrev pub invariant-loop-key : goal.invariant-loop-key
invariant-loop-key l = l.found.items ++ spec.flat (map (λ k. spec.exists_tables k.0) (drop l.key-index l.key-items)) ≡ l.initial.found.items ++ spec.flat (map (λ k. spec.exists_tables k.0) l.keys)
