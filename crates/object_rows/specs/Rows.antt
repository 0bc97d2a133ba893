-- The rows that objects make, change and take away.
use Rattle.std.specs.Prelude.{ℕ, ◌-◌, Bool, false, not, ◌&&◌, ◌==◌, List, [], map, take, slice_get, Option, None, Some, if◌then◌else◌}
use Rattle.std.specs.List.{count_by, enumerate_from, filter, filter_map, flat_map, position}
use Rattle.std.specs.Option.{option_and_then}
use Rattle.base_core.specs.declared.ids.ClassId.{ClassId}
use Rattle.base_core.specs.declared.ids.ColumnNo.{ColumnNo}
use Rattle.base_core.specs.declared.ids.ObjId.{ObjId}
use Rattle.base_core.specs.declared.ids.TableId.{TableId}
use Rattle.base_core.specs.declared.refusal.RowName.{RowName}
use Rattle.base_core.specs.declared.value.Value.{Value}
use Rattle.base_core.specs.declared.value.Value.TheVariants.{Null}
use Rattle.schema_core.specs.declared.changes.ChangedRow.{ChangedRow}
use Rattle.schema_core.specs.declared.changes.GoneRow.{GoneRow}
use Rattle.schema_core.specs.declared.changes.NewRow.{NewRow}
use Rattle.schema_core.specs.declared.changes.RowCell.{RowCell}
use Rattle.schema_core.specs.declared.changes.RowCell.TheVariants.{Given, KeyOf}
use Rattle.schema_core.specs.declared.table.ColumnSpec.{ColumnSpec}
use Rattle.schema_core.specs.Tables.{value_or_null}
use Rattle.class_types.specs.declared.mapped.Attribute.{Attribute}
use Rattle.class_layouts.specs.Columns.{columns_in}
use Rattle.class_layouts.specs.Faults.{is_named}
use Rattle.class_mapping.specs.Mapped.{Mapped, attributes_of, class_spec, root_of, root_table, tables_of}
use Rattle.object_arena.specs.declared.object.Cell.{Cell}
use Rattle.object_arena.specs.declared.object.Object.{Object}
use Rattle.object_arena.specs.Fit.{is_empty}
use Rattle.object_arena.specs.Graph.{Graph, object_at}
pub use Rattle.object_parts.specs.Cells.{is_base}
use Rattle.object_rows.specs.declared.prepared.Prepared.{Prepared}
use Rattle.object_rows.specs.Seen.{keeps_rows, new_objects, object_ids}
use Rattle.object_rows.specs.Cells.{key_value, linked_cell}

-- the columns of a table
abbrev pub columns_at : Mapped → TableId → List ColumnSpec
columns_at mapped table = columns_in mapped.schema.tables table

-- the row of an object in a table
abbrev pub row_name : ObjId → TableId → RowName
row_name object table = record { table = table; object = object }

-- the rows of an object, its root's table first
abbrev pub rows_of : Mapped → Graph → ObjId → List RowName
rows_of mapped graph object = map (row_name object) (tables_of mapped (object_at graph object).class)

-- the rows of the new objects in the order in which they were added
unfoldable pub new_names : Mapped → Graph → Prepared → List RowName
new_names mapped graph prepared = flat_map (rows_of mapped graph) (new_objects graph prepared)

-- ---- an object's cells in a table

abbrev pub is_at : TableId → ℕ → Attribute → Bool
is_at table column attribute = attribute.table.0 == table.0 && attribute.column.0 == column

-- the cell of an object that is a column of a table
abbrev pub cell_for : Mapped → Object → TableId → ℕ → Option Cell
cell_for mapped object table column = option_and_then (slice_get object.cells) (position (is_at table column) (attributes_of mapped object.class))

abbrev pub value_now : Option Cell → Value
value_now None = Null
value_now (Some cell) = value_or_null cell.value

abbrev pub value_before : Option Cell → Value
value_before None = Null
value_before (Some cell) = value_or_null cell.base

-- the table is a joined one: its key is that of the row in the root's table
abbrev pub is_joined : Mapped → ClassId → TableId → Bool
is_joined mapped class table = not ((root_table mapped class).0 == table.0)

-- which part of the key the column at a place is
abbrev pub key_part : List ColumnSpec → ℕ → ℕ
key_part columns column = count_by (λ other. other.key) (take column columns)

-- the column tells the class of a row
abbrev pub is_discriminator : Mapped → ClassId → TableId → List ℕ → Bool
is_discriminator mapped class table name = not (is_joined mapped class table) && is_named (class_spec mapped (root_of mapped class)).discriminator name

-- ---- new rows

abbrev pub cell_or : Option RowCell → Option Cell → RowCell
cell_or (Some cell) own = cell
cell_or None own = Given (value_now own)

-- what a column of a new row holds that is no part of the key of a row before it: the class's identity, what a changed link
-- gives, or what the object holds
abbrev pub own_cell : Mapped → Graph → Prepared → List RowName → RowName → ℕ × ColumnSpec → RowCell
own_cell mapped graph prepared rows row column =
    if is_discriminator mapped (object_at graph row.object).class row.table column.1.name
    then Given (value_or_null (class_spec mapped (object_at graph row.object).class).identity)
    else cell_or (linked_cell mapped graph prepared rows row.object row.table column.1.name) (cell_for mapped (object_at graph row.object) row.table column.0)

-- a part of the key of a joined table is that of the row before, which is the same object's
abbrev pub new_cell : Mapped → Graph → Prepared → List RowName → ℕ × RowName → ℕ × ColumnSpec → RowCell
new_cell mapped graph prepared rows placed column =
    if is_joined mapped (object_at graph placed.1.object).class placed.1.table && column.1.key
    then KeyOf (placed.0 - 1) (key_part (columns_at mapped placed.1.table) column.0)
    else own_cell mapped graph prepared rows placed.1 column

abbrev pub new_row : Mapped → Graph → Prepared → List RowName → ℕ × RowName → NewRow
new_row mapped graph prepared rows placed =
    record { name = placed.1; cells = map (new_cell mapped graph prepared rows placed) (enumerate_from 0 (columns_at mapped placed.1.table)) }

-- a row for each table of each new object
unfoldable pub new_rows : Mapped → Graph → Prepared → List NewRow
new_rows mapped graph prepared =
    map (new_row mapped graph prepared (new_names mapped graph prepared)) (enumerate_from 0 (new_names mapped graph prepared))

-- ---- changed rows

abbrev pub change_to : Option Value → Value → Option RowCell
change_to base value = if is_base base value then None else Some (Given value)

-- what a link gives, unless it is what the row has
abbrev pub linked_change : Option Value → RowCell → Option RowCell
linked_change base (KeyOf place part) = Some (KeyOf place part)
linked_change base (Given value) = change_to base value

-- what an object holds, unless it is what the row has or is not known
abbrev pub own_change : Option Value → Option Value → Option RowCell
own_change base None = None
own_change base (Some value) = change_to base value

abbrev pub cell_change : Option RowCell → Cell → Option RowCell
cell_change (Some cell) own = linked_change own.base cell
cell_change None own = own_change own.base own.value

abbrev pub change_in : Mapped → Graph → Prepared → List RowName → ObjId → TableId → List ℕ → Option Cell → Option RowCell
change_in mapped graph prepared rows object table name None = None
change_in mapped graph prepared rows object table name (Some own) = cell_change (linked_cell mapped graph prepared rows object table name) own

abbrev pub in_column : ℕ → Option RowCell → Option (ColumnNo × RowCell)
in_column column None = None
in_column column (Some cell) = Some (record { 0 = column }, cell)

-- what changes in a column of an object's row in a table
abbrev pub change_at : Mapped → Graph → Prepared → List RowName → ObjId → TableId → ℕ × ColumnSpec → Option RowCell
change_at mapped graph prepared rows object table column =
    change_in mapped graph prepared rows object table column.1.name (cell_for mapped (object_at graph object) table column.0)

-- a column outside the key that changes, with what it holds then
abbrev pub changed_cell : Mapped → Graph → Prepared → List RowName → ObjId → TableId → ℕ × ColumnSpec → Option (ColumnNo × RowCell)
changed_cell mapped graph prepared rows object table column =
    if column.1.key then None else in_column column.0 (change_at mapped graph prepared rows object table column)

abbrev pub changed_cells : Mapped → Graph → Prepared → List RowName → ObjId → TableId → List (ColumnNo × RowCell)
changed_cells mapped graph prepared rows object table =
    filter_map (changed_cell mapped graph prepared rows object table) (enumerate_from 0 (columns_at mapped table))

abbrev pub key_or_none : Option (List Value) → List Value
key_or_none None = []
key_or_none (Some key) = key

abbrev pub changed_row : Mapped → Graph → Prepared → List RowName → ObjId → TableId → ChangedRow
changed_row mapped graph prepared rows object table =
    record { name = row_name object table; key = key_or_none (object_at graph object).identity; cells = changed_cells mapped graph prepared rows object table }

abbrev pub has_cells : ChangedRow → Bool
has_cells row = not (is_empty row.cells)

abbrev pub rows_changed : Mapped → Graph → Prepared → List RowName → ObjId → List ChangedRow
rows_changed mapped graph prepared rows object =
    filter has_cells (map (changed_row mapped graph prepared rows object) (tables_of mapped (object_at graph object).class))

-- the rows with changed cells of each object that keeps its rows
unfoldable pub changed_rows : Mapped → Graph → Prepared → List ChangedRow
changed_rows mapped graph prepared =
    flat_map (rows_changed mapped graph prepared (new_names mapped graph prepared)) (filter (keeps_rows graph prepared) (object_ids graph))

-- ---- deleted rows

-- what the row of an object had in a column when it was last read or written
abbrev pub gone_cell : Mapped → Object → TableId → ℕ × ColumnSpec → Value
gone_cell mapped object table column =
    if is_joined mapped object.class table && column.1.key then key_value object.identity (key_part (columns_at mapped table) column.0)
    else value_before (cell_for mapped object table column.0)

abbrev pub gone_row : Mapped → Graph → ObjId → TableId → GoneRow
gone_row mapped graph object table =
    record { name = row_name object table; base = map (gone_cell mapped (object_at graph object) table) (enumerate_from 0 (columns_at mapped table)) }

abbrev pub rows_gone : Mapped → Graph → ObjId → List GoneRow
rows_gone mapped graph object = map (gone_row mapped graph object) (tables_of mapped (object_at graph object).class)

-- a row for each table of each object that is to be deleted
unfoldable pub gone_rows : Mapped → Graph → Prepared → List GoneRow
gone_rows mapped graph prepared = flat_map (rows_gone mapped graph) prepared.deleted
