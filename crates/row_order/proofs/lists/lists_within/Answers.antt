use Rattle.std.proofs.Common.{length, ap, arith}
use Rattle.row_order.proofs.lists.lists_within.Goals as goal

pub loop-row-init : goal.loop-row-init
loop-row-init c = (ap length c.new-within.ensures.items, λ k h. absurd (omega (arith, h, ap length c.new-within.ensures.items)))

pub returns : goal.returns
returns c = record { whole = omega (arith, c.loop-row.invariant.0, c.loop-row-test.false, c.loop-row.auto.row-end); each = c.loop-row.invariant.1 }
