use Rattle.std.proofs.Common.{◌≡◌, map, drop}
use Rattle.std.specs.List.{enumerate_from}
use Rattle.object_rows.specs.Cells.{first_cell, relation_cell}
use Rattle.flush_settling.proofs.flushing.Flushing.linked_cell.Given as goal

abbrev pub invariant-loop-number : goal.invariant-loop-number
invariant-loop-number l =
    first_cell (map (relation_cell l.self.projection.now.mapping.now l.self.projection.now.arena.now l.self.projection.now.prepared.now l.self.projection.now.names.now l.object l.table l.name) (enumerate_from l.number (drop l.number l.relations)))
    ≡ first_cell (map (relation_cell l.self.projection.now.mapping.now l.self.projection.now.arena.now l.self.projection.now.prepared.now l.self.projection.now.names.now l.object l.table l.name) (enumerate_from 0 l.relations))
