use Rattle.std.proofs.Common.{◌≡◌, ◌++◌, map, filter, drop}
use Rattle.class_sides.specs.Linking.{is_own, own_relation}
use Rattle.class_sides.proofs.linking.push_own.Given as goal

abbrev pub invariant-loop-side : goal.invariant-loop-side
invariant-loop-side l =
    l.all ++ map (own_relation l.schema.tables l.classes l.sides l.names) (filter (is_own l.class) (drop l.side-index l.sides))
    ≡ l.initial.all ++ map (own_relation l.schema.tables l.classes l.sides l.names) (filter (is_own l.class) l.sides)
