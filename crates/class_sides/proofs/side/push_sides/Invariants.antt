use Rattle.std.proofs.Common.{◌≡◌, ◌++◌, map, take}
use Rattle.class_sides.specs.Sides.{side_of}
use Rattle.class_sides.proofs.side.push_sides.Given as goal

abbrev pub invariant-loop-relation : goal.invariant-loop-relation
invariant-loop-relation l = l.all ≡ l.initial.all ++ map (side_of l.schema.tables l.classes l.layouts l.class) (take l.relation-index l.spec.relations)
