use Rattle.std.proofs.Common.{◌≡◌, drop}
use Rattle.std.specs.List.{find, range_with_len}
use Rattle.row_order.specs.Places.{holds_up}
use Rattle.row_order.proofs.places.next_blocker.Given as goal

abbrev pub invariant-loop-other : goal.invariant-loop-other
invariant-loop-other g l = find (holds_up (g.W.Waits.waits l.rows) l.placed l.row) (drop l.other (range_with_len 0 (g.W.Waits.size l.rows))) ≡ find (holds_up (g.W.Waits.waits l.rows) l.placed l.row) (range_with_len 0 (g.W.Waits.size l.rows))
