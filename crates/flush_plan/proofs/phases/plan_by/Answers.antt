use Rattle.std.proofs.Common.{ap}
use Rattle.row_order.specs.Told.{rows_of, order_result}
use Rattle.flush_plan.proofs.PhaseSteps.{cycled, planned, rows_within}
use Rattle.flush_plan.proofs.phases.plan_by.Goals as goal

pub statements-requires-clause-gone_order : goal.statements-requires-clause-gone_order
statements-requires-clause-gone_order c =
    rows_within c.args.new.now.schema.now c.args.new.now.changes.now c.in_ok-ready.ready.items c.as_slice.result.now c.in_ok-rows.field-0 c.in-Order.rows c.as_slice-in-Order.result.now
    c.in_ok-ready.ensures c.as_slice.ensures.value (ap rows_of c.in-Order.is) c.as_slice-in-Order.ensures c.in_ok-rows.ensures.within

pub returns-in-Order : goal.returns-in-Order
returns-in-Order c =
    planned c.args.new.now.schema.now c.args.new.now.changes.now c.args.new_order.now c.in-Order.rows c.as_slice-in-Order.result.now c.in_ok-rows.field-0 c.in_ok-statements-in-Order.field-0
    c.in_ok-rows.ensures.told (ap order_result c.in-Order.is) c.as_slice-in-Order.ensures c.in_ok-statements-in-Order.ensures

pub gone_names-requires-clause-within : goal.gone_names-requires-clause-within
gone_names-requires-clause-within c =
    rows_within c.args.new.now.schema.now c.args.new.now.changes.now c.in_ok-ready.ready.items c.as_slice.result.now c.in_ok-rows.field-0 c.in-Cycle.rows c.as_slice-in-Cycle.result.now
    c.in_ok-ready.ensures c.as_slice.ensures.value (ap rows_of c.in-Cycle.is) c.as_slice-in-Cycle.ensures c.in_ok-rows.ensures.within

pub returns : goal.returns
returns c =
    cycled c.args.new.now.schema.now c.args.new.now.changes.now c.args.new_order.now c.in-Cycle.rows c.as_slice-in-Cycle.result.now c.in_ok-rows.field-0 c.in_ok-gone_names-in-Cycle.field-0
    c.in_ok-rows.ensures.told (ap order_result c.in-Cycle.is) c.as_slice-in-Cycle.ensures c.in_ok-gone_names-in-Cycle.ensures
