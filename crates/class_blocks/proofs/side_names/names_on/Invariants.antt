use Rattle.std.proofs.Common.{◌≡◌, ◌++◌, drop}
use Rattle.std.specs.List.{flat_map}
use Rattle.class_blocks.specs.Sides.{names_at}
use Rattle.class_blocks.proofs.side_names.names_on.Given as goal

abbrev pub invariant-loop-class : goal.invariant-loop-class
invariant-loop-class l = l.names ++ flat_map (names_at l.sides) (drop l.class-index l.line) ≡ flat_map (names_at l.sides) l.line
