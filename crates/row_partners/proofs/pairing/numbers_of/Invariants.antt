use Rattle.std.proofs.Common.{◌≡◌, ◌-◌, length, drop}
use Rattle.std.specs.BTreeMap.{get}
use Rattle.std.specs.List.{position_from}
use Rattle.flush_order.specs.Orders.{place_of_gone}
use Rattle.flush_order.specs.Sorted.{Place, place_cmp, same_place}
use Rattle.row_partners.proofs.pairing.numbers_of.Given as goal

abbrev pub invariant-loop-behind : goal.invariant-loop-behind
invariant-loop-behind l =
    (wanted : Place) → get place_cmp l.numbers wanted
    ≡ position_from (λ row. same_place (place_of_gone l.schema row) wanted) (length l.rows - l.behind) (drop (length l.rows - l.behind) l.rows)
