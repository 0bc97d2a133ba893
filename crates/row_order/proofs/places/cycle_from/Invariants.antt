use Rattle.std.proofs.Common.{◌≡◌, ◌<◌, suc, ◌-◌, []}
use Rattle.row_order.specs.Places.{next_blocker, trail}
use Rattle.row_order.proofs.places.cycle_from.Given as goal

abbrev pub invariant-loop-step : goal.invariant-loop-step
invariant-loop-step g l = (l.row < g.W.Waits.size l.rows) × (trail (next_blocker (g.W.Waits.waits l.rows) (g.W.Waits.size l.rows) l.placed) (suc (g.W.Waits.size l.rows) - l._step) l.path.items l.row ≡ trail (next_blocker (g.W.Waits.waits l.rows) (g.W.Waits.size l.rows) l.placed) (suc (g.W.Waits.size l.rows)) [] l.least)
