use Rattle.std.proofs.Common.{◌≡◌, ◌++◌, drop}
use Rattle.std.specs.List.{flat_map}
use Rattle.object_rows.specs.Rows.{rows_changed}
use Rattle.object_writes.proofs.cells.Projection.changed_rows.Given as goal

abbrev pub invariant-loop-object : goal.invariant-loop-object
invariant-loop-object l =
    l.rows ++ flat_map (rows_changed l.self.mapping.now l.self.arena.now l.self.prepared.now l.self.names.now) (drop l.object-index l.object-items)
    ≡ flat_map (rows_changed l.self.mapping.now l.self.arena.now l.self.prepared.now l.self.names.now) l.object-items
