use Rattle.std.proofs.Common.{◌≡◌, true}
use Rattle.std.proofs.Math.ListN.{replicate}
use Rattle.row_order.proofs.search.all_left.Given as goal

abbrev pub invariant-loop-row : goal.invariant-loop-row
invariant-loop-row l = l.left.items ≡ replicate l._row true
