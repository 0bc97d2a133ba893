use Rattle.std.proofs.Common.{◌≡◌, map, take}
use Rattle.flush_plan.specs.Flushing.{value_of_cell}
use Rattle.plan_statements.specs.Known.{keys_at}
use Rattle.plan_statements.proofs.statements.cells_sent.Given as goal

abbrev pub invariant-loop-cell : goal.invariant-loop-cell
invariant-loop-cell l = l.sent ≡ map (λ cell. (cell.0, value_of_cell (keys_at l.known) cell.1)) (take l.cell-index l.cells)
