use Rattle.std.proofs.Common.{◌≡◌, ◌++◌, map, filter, drop}
use Rattle.std.specs.List.{enumerate_from}
use Rattle.class_layouts.specs.Columns.{attr_at, is_key}
use Rattle.class_layouts.proofs.layout.keys_among.Given as goal

abbrev pub invariant-loop-place : goal.invariant-loop-place
invariant-loop-place l =
    l.keys ++ map attr_at (filter (λ placed. is_key l.schema.tables placed.1) (enumerate_from l.place (drop l.place l.attributes)))
    ≡ map attr_at (filter (λ placed. is_key l.schema.tables placed.1) (enumerate_from 0 l.attributes))
