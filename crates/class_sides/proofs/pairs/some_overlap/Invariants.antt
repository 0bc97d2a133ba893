use Rattle.std.proofs.Common.{◌≡◌, drop}
use Rattle.schema_core.specs.Declaration.{some_two}
use Rattle.class_sides.specs.Pairs.{overlaps}
use Rattle.class_sides.proofs.pairs.some_overlap.Given as goal

abbrev pub invariant-loop-place : goal.invariant-loop-place
invariant-loop-place l = some_two (overlaps l.schema.tables l.classes l.sides) (drop l.place l.sides) ≡ some_two (overlaps l.schema.tables l.classes l.sides) l.sides
