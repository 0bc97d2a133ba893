use Rattle.std.proofs.Common.{◌≡◌, ◌++◌, map, take}
use Rattle.std.specs.List.{filter}
use Rattle.object_rows.specs.Rows.{changed_row, has_cells}
use Rattle.object_writes.proofs.cells.Projection.push_rows_changed.Given as goal

abbrev pub invariant-loop-table : goal.invariant-loop-table
invariant-loop-table l =
    l.out ≡ l.fn.out ++ filter has_cells (map (changed_row l.self.mapping.now l.self.arena.now l.self.prepared.now l.self.names.now l.object) (take l.table-index l.table-items))
