use Rattle.std.proofs.Common.{◌≡◌, map, take}
use Rattle.main_selects.specs.Shifted.{shifted}
use Rattle.main_selects.proofs.shifted.+shifts.Given as goal

abbrev pub invariant-all_shifted-loop-e : goal.invariant-all_shifted-loop-e
invariant-all_shifted-loop-e l = l.out ≡ map (shifted l.shift.own l.shift.more) (take l.e-index l.e-items)
