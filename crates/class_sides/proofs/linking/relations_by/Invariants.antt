use Rattle.std.proofs.Common.{◌≡◌, map, take}
use Rattle.class_sides.specs.Linking.{relations_on}
use Rattle.class_sides.proofs.linking.relations_by.Given as goal

abbrev pub invariant-loop-line : goal.invariant-loop-line
invariant-loop-line l = l.all ≡ map (relations_on l.schema.tables l.classes l.sides l.names) (take l.line-index l.classes.lines)
