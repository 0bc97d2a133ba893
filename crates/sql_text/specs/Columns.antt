-- The names of columns, by the number of their table.
use Rattle.std.specs.Prelude.{ℕ, List, [], Option, Some, None, slice_get}
use Rattle.base_core.specs.declared.ids.ColumnNo.{ColumnNo}
use Rattle.base_core.specs.declared.ids.TableId.{TableId}
use Rattle.schema_core.specs.declared.table.ColumnSpec.{ColumnSpec}
use Rattle.schema_core.specs.Catalog.{Catalog, spec_of}

-- the declaration of a table's column, if there is one
abbrev pub column_of : Catalog → TableId → ColumnNo → Option ColumnSpec
column_of schema table column = slice_get (spec_of schema table).columns column.0

-- the name of a column, none where there is no column
abbrev pub name_or_empty : Option ColumnSpec → List ℕ
name_or_empty None = []
name_or_empty (Some column) = column.name

abbrev pub column_name : Catalog → TableId → ColumnNo → List ℕ
column_name schema table column = name_or_empty (column_of schema table column)
