use Rattle.std.proofs.Common.{◌≡◌, ◌++◌, map, drop}
use Rattle.std.specs.List.{enumerate_from}
use Rattle.object_rows.specs.Rows.{new_row}
use Rattle.object_writes.proofs.cells.Projection.new_rows.Given as goal

abbrev pub invariant-loop-place : goal.invariant-loop-place
invariant-loop-place l =
    l.rows ++ map (new_row l.self.mapping.now l.self.arena.now l.self.prepared.now l.self.names.now) (enumerate_from l.place (drop l.place l.names))
    ≡ map (new_row l.self.mapping.now l.self.arena.now l.self.prepared.now l.self.names.now) (enumerate_from 0 l.names)
