use Rattle.std.proofs.Common.{◌≡◌, map, take, true}
use Rattle.std.specs.List.{filter}
use Rattle.flush_writes.specs.Writes.{cells_when, writing_some}
use Rattle.flush_plan.proofs.late.late_changed.Given as goal

abbrev pub invariant-loop-row : goal.invariant-loop-row
invariant-loop-row l = l.writings.items ≡ filter writing_some (map (cells_when l.schema l.changes true) (take l.row-index l.changes.changed))
