use Rattle.std.proofs.Common.{◌≡◌, ◌-◌, length}
use Rattle.flush_order.specs.Cells.{known_value}
use Rattle.flush_order.proofs.ready.known_value.Given as goal

abbrev pub invariant-loop-step : goal.invariant-loop-step
invariant-loop-step l = known_value l.schema l.changes (length l.changes.fresh - l._step) l.cell ≡ known_value l.schema l.changes (length l.changes.fresh) l.start
