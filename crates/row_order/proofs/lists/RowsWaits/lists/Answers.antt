use Rattle.std.proofs.Common.{arith}
use Rattle.row_order.proofs.Told.{within_are_listed}
use Rattle.row_order.proofs.lists.RowsWaits.lists.Goals as goal

pub returns-clause-lists : goal.returns-clause-lists
returns-clause-lists c = within_are_listed c.args.self.now.lists.now c.in_ok-lists_within.field-0.items c.in_ok-lists_within.ensures

pub returns-clause-fewer : goal.returns-clause-fewer
returns-clause-fewer c = omega (arith, c.requires, c.in_ok-lists_within.ensures.whole)
