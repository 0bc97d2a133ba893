use Rattle.std.proofs.Common.{◌≡◌, map, take}
use Rattle.flush_order.specs.Orders.{gone_at}
use Rattle.flush_order.specs.Ready.{ready_gone}
use Rattle.flush_plan.proofs.gone.ready_in_order.Given as goal

abbrev pub invariant-loop-number : goal.invariant-loop-number
invariant-loop-number l = l.rows.items ≡ map (ready_gone l.schema l.changes) (map (gone_at l.changes.gone) (take l.number-index l.numbers))
