-- Cells that are written in a row.
use Rattle.std.specs.Prelude.{cond}
use Rattle.base_core.specs.declared.value.Value.{Value}
use Rattle.schema_core.specs.declared.table.ColumnSpec.{ColumnSpec}

-- a cell, or the key where the cell's column is of the key
abbrev pub cell_or_key : ColumnSpec → Value → Value → Value
cell_or_key column key cell = cond column.key key cell
