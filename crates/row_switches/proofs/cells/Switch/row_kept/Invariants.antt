use Rattle.std.proofs.Common.{◌≡◌, take}
use Rattle.std.specs.List.{filter_map}
use Rattle.row_switches.specs.Switch.{cell_kept}
use Rattle.row_switches.proofs.cells.Switch.row_kept.Given as goal

abbrev pub invariant-loop-cell : goal.invariant-loop-cell
invariant-loop-cell l = l.cells ≡ filter_map (cell_kept l.self.mapping.now l.self.arena.now l.self.new.now.changes.now l.self.partners.now l.row) (take l.cell-index l.cell-items)
