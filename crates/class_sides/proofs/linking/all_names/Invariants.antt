use Rattle.std.proofs.Common.{◌≡◌, map, take}
use Rattle.class_sides.specs.Linking.{names_on}
use Rattle.class_sides.proofs.linking.all_names.Given as goal

abbrev pub invariant-loop-line : goal.invariant-loop-line
invariant-loop-line l = l.names ≡ map (names_on l.sides) (take l.line-index l.classes.lines)
