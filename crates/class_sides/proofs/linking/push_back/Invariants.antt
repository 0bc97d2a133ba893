use Rattle.std.proofs.Common.{◌≡◌, ◌++◌, map, filter, drop}
use Rattle.class_sides.specs.Linking.{makes_back, back_relation}
use Rattle.class_sides.proofs.linking.push_back.Given as goal

abbrev pub invariant-loop-side : goal.invariant-loop-side
invariant-loop-side l =
    l.all ++ map (back_relation l.schema.tables l.classes l.sides l.names) (filter (makes_back l.class) (drop l.side-index l.sides))
    ≡ l.initial.all ++ map (back_relation l.schema.tables l.classes l.sides l.names) (filter (makes_back l.class) l.sides)
