-- When the rows of a prepared graph can be told.
use Rattle.std.specs.Prelude.{◌≡◌}
use Rattle.object_arena.specs.Fit.{IsFit}
use Rattle.object_writes.specs.declared.cells.Projection.{Projection}
use Rattle.object_rows.specs.Rows.{new_names}

-- the objects fit the mapping, and the names are those of the new rows
pub record IsReady (projection : Projection) : Type 0 where
  pub fit : IsFit projection.mapping.now projection.arena.now
  pub names : projection.names.now ≡ new_names projection.mapping.now projection.arena.now projection.prepared.now
