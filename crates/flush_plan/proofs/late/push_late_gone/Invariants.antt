use Rattle.std.proofs.Common.{◌≡◌, ◌++◌, map, take}
use Rattle.std.specs.List.{filter}
use Rattle.flush_writes.specs.Writes.{late_gone, writing_some}
use Rattle.flush_plan.proofs.late.push_late_gone.Given as goal

abbrev pub invariant-loop-row : goal.invariant-loop-row
invariant-loop-row l = l.out.items ≡ l.fn.out.items ++ filter writing_some (map (late_gone l.schema l.changes) (take l.row-index l.changes.gone))
