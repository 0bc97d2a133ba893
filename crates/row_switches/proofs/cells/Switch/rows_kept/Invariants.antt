use Rattle.std.proofs.Common.{◌≡◌, map, take}
use Rattle.std.specs.List.{filter}
use Rattle.object_rows.specs.Rows.{has_cells}
use Rattle.row_switches.specs.Switch.{row_kept}
use Rattle.row_switches.proofs.cells.Switch.rows_kept.Given as goal

abbrev pub invariant-loop-row : goal.invariant-loop-row
invariant-loop-row l = l.rows ≡ filter has_cells (map (row_kept l.self.mapping.now l.self.arena.now l.self.new.now.changes.now l.self.partners.now) (take l.row-index l.row-items))
