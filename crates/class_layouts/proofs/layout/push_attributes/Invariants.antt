use Rattle.std.proofs.Common.{◌≡◌, ◌++◌, map, filter, drop}
use Rattle.std.specs.List.{enumerate_from}
use Rattle.class_layouts.specs.Columns.{attribute_at, is_attribute}
use Rattle.class_layouts.proofs.layout.push_attributes.Given as goal

abbrev pub invariant-loop-place : goal.invariant-loop-place
invariant-loop-place l =
    l.all ++ map (attribute_at l.table) (filter (λ placed. is_attribute l.schema.tables l.classes l.line l.rank l.table placed.1) (enumerate_from l.place (drop l.place l.columns)))
    ≡ l.initial.all ++ map (attribute_at l.table) (filter (λ placed. is_attribute l.schema.tables l.classes l.line l.rank l.table placed.1) (enumerate_from 0 l.columns))
