use Rattle.std.proofs.Common.{◌≡◌, ◌++◌, map, drop}
use Rattle.std.specs.List.{enumerate_from}
use Rattle.object_rows.specs.Rows.{new_cell}
use Rattle.object_writes.proofs.cells.Projection.new_row.Given as goal

abbrev pub invariant-loop-number : goal.invariant-loop-number
invariant-loop-number l =
    l.cells ++ map (new_cell l.self.mapping.now l.self.arena.now l.self.prepared.now l.self.names.now (l.place, l.row)) (enumerate_from l.number (drop l.number l.columns))
    ≡ map (new_cell l.self.mapping.now l.self.arena.now l.self.prepared.now l.self.names.now (l.place, l.row)) (enumerate_from 0 l.columns)
