use Rattle.std.proofs.Common.{◌≡◌, ◌++◌, map, filter, drop}
use Rattle.class_blocks.specs.Sides.{is_own}
use Rattle.class_blocks.proofs.side_names.push_own_names.Given as goal

abbrev pub invariant-loop-side : goal.invariant-loop-side
invariant-loop-side l =
    l.names ++ map (λ side. side.spec.name) (filter (is_own l.class) (drop l.side-index l.sides)) ≡ l.initial.names ++ map (λ side. side.spec.name) (filter (is_own l.class) l.sides)
