use Rattle.std.proofs.Common.{◌≡◌, map, take}
use Rattle.main_selects.specs.Shifted.{shifted}
use Rattle.main_selects.proofs.shifted.shifted_order.Given as goal

abbrev pub invariant-loop-key : goal.invariant-loop-key
invariant-loop-key l = l.out.items ≡ map (λ key. (shifted l.shift.own l.shift.more key.0, key.1)) (take l.key-index l.order)
