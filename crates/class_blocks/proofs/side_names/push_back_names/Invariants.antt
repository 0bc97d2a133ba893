use Rattle.std.proofs.Common.{◌≡◌, ◌++◌, map, filter, drop}
use Rattle.class_blocks.specs.Sides.{makes_back}
use Rattle.class_blocks.proofs.side_names.push_back_names.Given as goal

abbrev pub invariant-loop-side : goal.invariant-loop-side
invariant-loop-side l =
    l.names ++ map (λ side. side.spec.partner) (filter (makes_back l.class) (drop l.side-index l.sides)) ≡ l.initial.names ++ map (λ side. side.spec.partner) (filter (makes_back l.class) l.sides)
