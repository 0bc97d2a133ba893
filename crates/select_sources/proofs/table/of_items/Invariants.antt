use Rattle.std.proofs.Common.{◌≡◌, ◌++◌, drop, map}
use Rattle.sql_semantics.specs.Rows as spec
use Rattle.select_sources.proofs.table.of_items.Given as goal

abbrev pub invariant-loop-item : goal.invariant-loop-item
invariant-loop-item l = l.found.items ++ spec.flat (map (λ i. spec.exists_tables i.0) (drop l.item-index l.item-items)) ≡ l.initial.found.items ++ spec.flat (map (λ i. spec.exists_tables i.0) l.items)
