use Rattle.std.proofs.Common.{◌≡◌, ◌≤◌, IfOk, length, sym, subst}
use Rattle.row_order.specs.Told.{order_result}
use Rattle.row_order.specs.Lists.{AreListsOf}
use Rattle.row_order.proofs.Alike.{listed_order}
use Rattle.row_order.proofs.lists.order_or_cycle.Goals as goal

pub order_of_lists-requires-clause-size : goal.order_of_lists-requires-clause-size
order_of_lists-requires-clause-size g c = subst (λ ls. length ls ≤ 4294967295) (sym c.as_slice.ensures.value) c.in_ok-lists.ensures.fewer

pub returns-clause-told : goal.returns-clause-told
returns-clause-told g c =
    let waits = g.W.Waits.waits c.args.rows.now in
    let size = g.W.Waits.size c.args.rows.now in
    let are : AreListsOf waits size c.as_slice.result.now = subst (AreListsOf waits size) (sym c.as_slice.ensures.value) c.in_ok-lists.ensures.lists in
    subst (λ target. IfOk c.order_of_lists.result (λ ordered. order_result ordered ≡ target)) (listed_order waits size c.as_slice.result.now are) c.order_of_lists.ensures.told
