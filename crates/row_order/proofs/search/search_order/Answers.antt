use Rattle.std.proofs.Common.{◌≡◌, length, ap, ◌∙◌, arith}
use Rattle.row_order.specs.Lists.{waits_in}
use Rattle.row_order.specs.Places.{first_places, order}
use Rattle.row_order.proofs.Ranges.{first_more, first_none}
use Rattle.row_order.proofs.search.search_order.Goals as goal

pub loop-row-init : goal.loop-row-init
loop-row-init c =
    let lists = c.args.rows.now.lists.now in
    record { stands = c.in_ok-search.ensures.stands; order = c.in_ok-search.ensures.placed ∙ first_none (waits_in lists) (length lists) }

pub loop-row-preserved : goal.loop-row-preserved
loop-row-preserved c =
    let lists = c.args.rows.now.lists.now in
    record {
      stands = c.in_ok-place_next.ensures.stands;
      order = c.in_ok-place_next.ensures.placed ∙ first_more (waits_in lists) (length lists) c.loop-row._row c.loop-row.search.placed.items c.loop-row.invariant.order;
    }

pub returns-clause-stands : goal.returns-clause-stands
returns-clause-stands c = c.loop-row.invariant.stands

pub returns-clause-order : goal.returns-clause-order
unfolding order
returns-clause-order c =
    let lists = c.args.rows.now.lists.now in
    let all : c.loop-row._row ≡ length lists = omega (arith, c.loop-row-test.false, c.loop-row.auto._row-end) in
    c.loop-row.invariant.order ∙ ap (first_places (waits_in lists) (length lists)) all
