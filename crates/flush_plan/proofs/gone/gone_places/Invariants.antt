use Rattle.std.proofs.Common.{◌≡◌, map, take}
use Rattle.flush_order.specs.Orders.{place_of_gone}
use Rattle.flush_plan.proofs.gone.gone_places.Given as goal

abbrev pub invariant-loop-row : goal.invariant-loop-row
invariant-loop-row l = l.places.items ≡ map (place_of_gone l.schema) (take l.row-index l.changes.gone)
