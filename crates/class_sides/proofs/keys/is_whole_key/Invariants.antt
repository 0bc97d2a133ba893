use Rattle.std.proofs.Common.{◌≡◌, ◌≤◌, drop, length}
use Rattle.std.specs.List.{filter}
use Rattle.std.specs.Cmp.Lexicographic.{pointwise}
use Rattle.schema_core.specs.Catalog.{same_name}
use Rattle.class_sides.proofs.keys.is_whole_key.Given as goal

abbrev pub invariant-loop-column : goal.invariant-loop-column
invariant-loop-column l =
    (l.place ≤ length l.names)
    × (pointwise (λ name column. same_name name column.name) (drop l.place l.names) (filter (λ column. column.key) (drop l.column-index l.columns))
    ≡ pointwise (λ name column. same_name name column.name) l.names (filter (λ column. column.key) l.columns))
