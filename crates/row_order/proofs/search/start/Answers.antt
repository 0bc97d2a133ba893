use Rattle.row_order.proofs.SearchLemmas.{stands_start}
use Rattle.row_order.proofs.search.start.Goals as goal

pub returns-clause-stands : goal.returns-clause-stands
returns-clause-stands c =
    stands_start c.args.lists.now c.new-placed.result.items c.in_ok-counts.counts.items c.in_ok-left.left.items c.in_ok-ready.ready c.new-placed.ensures.items c.in_ok-counts.ensures c.in_ok-left.ensures c.in_ok-ready.ensures
