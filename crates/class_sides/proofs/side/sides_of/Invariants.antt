use Rattle.std.proofs.Common.{◌≡◌, ◌++◌, drop}
use Rattle.std.specs.List.{enumerate_from, flat_map}
use Rattle.class_sides.specs.Sides.{sides_at}
use Rattle.class_sides.proofs.side.sides_of.Given as goal

abbrev pub invariant-loop-class : goal.invariant-loop-class
invariant-loop-class l =
    l.all ++ flat_map (sides_at l.schema.tables l.classes l.layouts) (enumerate_from l.class (drop l.class l.specs))
    ≡ flat_map (sides_at l.schema.tables l.classes l.layouts) (enumerate_from 0 l.specs)
