use Rattle.std.proofs.Common.{◌≡◌, length}
use Rattle.row_order.specs.Places.{first_places}
use Rattle.row_order.specs.Lists.{Stands, waits_in}
use Rattle.row_order.proofs.search.search_order.Given as goal

abbrev pub invariant-loop-row : goal.invariant-loop-row
invariant-loop-row l = record {
  stands : Stands l.rows.lists.now l.search.placed.items l.search.counts.items l.search.left.items l.search.ready;
  order : l.search.placed.items ≡ first_places (waits_in l.rows.lists.now) (length l.rows.lists.now) l._row;
}
