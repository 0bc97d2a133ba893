use Rattle.std.proofs.Common.{◌≡◌, map, take}
use Rattle.expr_typing.specs.ItemShapes.{shape_of_item}
use Rattle.expr_typing.proofs.shapes.item_shapes.Given as goal

abbrev pub invariant-loop-item : goal.invariant-loop-item
invariant-loop-item l = l.all.items ≡ map (λ item. shape_of_item l.schema l.select item.0) (take l.item-index l.select.items)
