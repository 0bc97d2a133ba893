use Rattle.std.proofs.Common.{◌≡◌, map, take}
use Rattle.row_switches.specs.Switch.{cell_after_switch}
use Rattle.row_switches.proofs.cells.Switch.cells_after_switch.Given as goal

abbrev pub invariant-loop-cell : goal.invariant-loop-cell
invariant-loop-cell l = l.after ≡ map (cell_after_switch l.self.new.now.schema.now l.self.new.now.changes.now l.self.partners.now) (take l.cell-index l.cells)
