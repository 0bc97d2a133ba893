use Rattle.session_laws.proofs.Plans.Orders.{order_is}
use Rattle.session_laws.proofs.order.order_or_cycle.Goals as goal

pub returns-clause-order : goal.returns-clause-order
returns-clause-order c = order_is
