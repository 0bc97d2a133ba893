use Rattle.std.proofs.Common.{◌≡◌, map, take}
use Rattle.sqlite_selects.proofs.shapes.kinds_of.Given as goal

abbrev pub invariant-loop-item : goal.invariant-loop-item
invariant-loop-item l = l.kinds.items ≡ map (λ shape. shape.kind) (take l.item-index l.shapes)
