use Rattle.std.proofs.Common.{◌<◌, Ok, Err, false, get_or, length, sym, ap, ◌∙◌, subst, arith}
use Rattle.std.specs.List.{All}
use Rattle.row_order.specs.Lists.{waits_in}
use Rattle.row_order.proofs.Cycles.{cycle_within}
use Rattle.row_order.proofs.ListSteps.{cycle_told, order_below, order_told}
use Rattle.row_order.proofs.lists.order_of_lists.Goals as goal

pub returns-in-None-clause-told : goal.returns-in-None-clause-told
returns-in-None-clause-told c =
    let found = c.in_ok-search.search in
    ap Ok c.from_vec.ensures
    ∙ order_told c.args.lists.now found.placed.items found.counts.items found.left.items found.ready c.in_ok-search.ensures.stands c.in_ok-search.ensures.order
    (λ k. ap (λ ls. get_or ls k false) (sym c.as_slice-2.ensures.value) ∙ c.in-None.ensures.none k)

pub returns-in-None-clause-within : goal.returns-in-None-clause-within
returns-in-None-clause-within c =
    let lists = c.args.lists.now in
    subst (All (λ row. row < length lists)) (sym c.from_vec.ensures) (order_below (waits_in lists) (length lists) c.in_ok-search.search.placed.items c.in_ok-search.ensures.order)

pub returns-clause-told : goal.returns-clause-told
returns-clause-told c =
    let found = c.in_ok-search.search in
    let left = c.as_slice-2.ensures.value in
    let within : c.in-Some.row < length found.left.items = omega (arith, c.in-Some.ensures.within, ap length left) in
    ap Err c.from_vec-in-Some.ensures
    ∙ cycle_told c.args.lists.now found.placed.items found.counts.items found.left.items found.ready c.in-Some.row c.in_ok-path-in-Some.path.items c.in_ok-search.ensures.stands c.in_ok-search.ensures.order within
    (ap (λ ls. get_or ls c.in-Some.row false) (sym left) ∙ c.in-Some.ensures.left)
    (λ k h. ap (λ ls. get_or ls k false) (sym left) ∙ c.in-Some.ensures.before k h)
    c.in_ok-path-in-Some.ensures

pub returns-clause-within : goal.returns-clause-within
returns-clause-within c =
    let lists = c.args.lists.now in
    let less : c.in-Some.row < length lists = omega (arith, c.in-Some.ensures.within, ap length c.as_slice-2.ensures.value, c.in_ok-search.ensures.stands.marked) in
    subst (All (λ row. row < length lists)) (sym c.from_vec-in-Some.ensures) (cycle_within (waits_in lists) (length lists) c.in-Some.row c.in_ok-path-in-Some.path.items c.in_ok-path-in-Some.ensures less)
