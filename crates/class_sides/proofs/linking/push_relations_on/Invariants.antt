use Rattle.std.proofs.Common.{◌≡◌, ◌++◌, drop}
use Rattle.std.specs.List.{flat_map}
use Rattle.class_sides.specs.Linking.{relations_at}
use Rattle.class_sides.proofs.linking.push_relations_on.Given as goal

abbrev pub invariant-loop-class : goal.invariant-loop-class
invariant-loop-class l =
    l.relations ++ flat_map (relations_at l.schema.tables l.classes l.sides l.names) (drop l.class-index l.line)
    ≡ flat_map (relations_at l.schema.tables l.classes l.sides l.names) l.line
