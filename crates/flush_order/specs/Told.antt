-- Cells that may be missing.
use Rattle.std.specs.Prelude.{Option, None, Some}
use Rattle.base_core.specs.declared.value.Value.TheVariants.{Null}
use Rattle.schema_core.specs.declared.changes.RowCell.{RowCell}
use Rattle.schema_core.specs.declared.changes.RowCell.TheVariants.{Given}

abbrev pub held_cell : Option RowCell → RowCell
held_cell None = Given Null
held_cell (Some cell) = cell
