use Rattle.std.proofs.Common.{◌≡◌, ◌++◌, drop}
use Rattle.std.specs.List.{enumerate_from, filter_map}
use Rattle.object_rows.specs.Rows.{changed_cell}
use Rattle.object_writes.proofs.cells.Projection.changed_cells.Given as goal

abbrev pub invariant-loop-number : goal.invariant-loop-number
invariant-loop-number l =
    l.cells ++ filter_map (changed_cell l.self.mapping.now l.self.arena.now l.self.prepared.now l.self.names.now l.object l.table) (enumerate_from l.number (drop l.number l.columns))
    ≡ filter_map (changed_cell l.self.mapping.now l.self.arena.now l.self.prepared.now l.self.names.now l.object l.table) (enumerate_from 0 l.columns)
