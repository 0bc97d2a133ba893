-- Keys that pass in one flush from deleted rows to new ones: both become one changed row.
use Rattle.std.specs.Prelude.{ℕ, ◌+◌, Bool, false, ◌&&◌, List, [], ◌∷◌, ◌++◌, filter, map, nat_eq, slice_get, slice_index_or, Option, None, Some, is_none, is_some, if◌then◌else◌}
use Rattle.std.specs.List.{enumerate_from, filter_map, list_any}
use Rattle.std.specs.Option.{option_map}
use Rattle.base_core.specs.declared.ids.ColumnNo.{ColumnNo}
use Rattle.base_core.specs.declared.ids.ObjId.{ObjId}
use Rattle.base_core.specs.declared.ids.TableId.{TableId}
use Rattle.base_core.specs.declared.value.Value.{Value}
use Rattle.base_core.specs.declared.value.Value.TheVariants.{Null}
use Rattle.schema_core.specs.declared.changes.ChangedRow.{ChangedRow}
use Rattle.schema_core.specs.declared.changes.GoneRow.{GoneRow}
use Rattle.schema_core.specs.declared.changes.NewRow.{NewRow}
use Rattle.schema_core.specs.declared.changes.RowCell.{RowCell}
use Rattle.schema_core.specs.declared.changes.RowCell.TheVariants.{Given, KeyOf}
use Rattle.schema_core.specs.declared.changes.RowChanges.{RowChanges}
use Rattle.schema_core.specs.declared.table.ColumnSpec.{ColumnSpec}
use Rattle.schema_core.specs.Catalog.{Catalog}
use Rattle.schema_core.specs.DependencyOrder.{is_among}
use Rattle.class_mapping.specs.Mapped.{Mapped, tables_of}
use Rattle.object_arena.specs.declared.object.Cell.{Cell}
use Rattle.object_arena.specs.declared.object.Object.{Object}
use Rattle.object_arena.specs.Graph.{Graph, place_of}
use Rattle.flush_order.specs.Orders.{gone_at}
use Rattle.row_partners.specs.Partners.{known_key, partners}
use Rattle.object_rows.specs.Rows.{cell_for, columns_at, has_cells, in_column, linked_change}

-- ---- cells that name the key of a switched row

-- for each new row how many before it stay new
abbrev pub numbers_from : ℕ → List (Option ℕ) → List ℕ
numbers_from count [] = []
numbers_from count (None ∷ partners) = count ∷ numbers_from (count + 1) partners
numbers_from count (Some gone ∷ partners) = count ∷ numbers_from count partners

abbrev pub key_cell : Catalog → RowChanges → List (Option ℕ) → ℕ → ℕ → Option ℕ → RowCell
key_cell schema changes partners place part (Some gone) = Given (slice_index_or (known_key schema changes place) part Null)
key_cell schema changes partners place part None = KeyOf (slice_index_or (numbers_from 0 partners) place place) part

-- a cell, where the key of a switched row is a value and rows that stay new are counted alone
abbrev pub cell_after_switch : Catalog → RowChanges → List (Option ℕ) → RowCell → RowCell
cell_after_switch schema changes partners (Given value) = Given value
cell_after_switch schema changes partners (KeyOf place part) = key_cell schema changes partners place part (slice_index_or partners place None)

-- ---- the rows that stay

abbrev pub row_staying : Catalog → RowChanges → List (Option ℕ) → ℕ × NewRow → Option NewRow
row_staying schema changes partners placed =
    if is_some (slice_index_or partners placed.0 None) then None
    else Some (record { name = placed.1.name; cells = map (cell_after_switch schema changes partners) placed.1.cells })

-- the new rows that are not switched
abbrev pub rows_staying : Catalog → RowChanges → List (Option ℕ) → List NewRow
rows_staying schema changes partners = filter_map (row_staying schema changes partners) (enumerate_from 0 changes.fresh)

-- the record of an object, if it has been made
abbrev pub object_if : Graph → ObjId → Option Object
object_if graph object = slice_get graph.objects (place_of object)

abbrev pub base_of : Option Cell → Option Value
base_of None = None
base_of (Some cell) = cell.base

-- what the row of an object is known to hold in a column
abbrev pub base_in : Mapped → TableId → ℕ → Option Object → Option Value
base_in mapped table column None = None
base_in mapped table column (Some object) = base_of (cell_for mapped object table column)

-- a cell of a changed row, unless the row holds it already
abbrev pub cell_kept : Mapped → Graph → RowChanges → List (Option ℕ) → ChangedRow → ColumnNo × RowCell → Option (ColumnNo × RowCell)
cell_kept mapped graph changes partners row cell =
    option_map (λ now. (cell.0, now)) (linked_change (base_in mapped row.name.table cell.0.0 (object_if graph row.name.object)) (cell_after_switch mapped.schema changes partners cell.1))

abbrev pub row_kept : Mapped → Graph → RowChanges → List (Option ℕ) → ChangedRow → ChangedRow
row_kept mapped graph changes partners row = record row { cells = filter_map (cell_kept mapped graph changes partners row) row.cells }

-- the changed rows of which a cell is left
abbrev pub rows_kept : Mapped → Graph → RowChanges → List (Option ℕ) → List ChangedRow
rows_kept mapped graph changes partners = filter has_cells (map (row_kept mapped graph changes partners) changes.changed)

abbrev pub is_number : ℕ → Option ℕ → Bool
is_number number None = false
is_number number (Some gone) = nat_eq gone number

abbrev pub row_left : List (Option ℕ) → ℕ × GoneRow → Option GoneRow
row_left partners placed = if list_any (is_number placed.0) partners then None else Some placed.1

-- the deleted rows that are not switched
abbrev pub rows_left : RowChanges → List (Option ℕ) → List GoneRow
rows_left changes partners = filter_map (row_left partners) (enumerate_from 0 changes.gone)

-- ---- the rows that are switched

-- a column of a table of the object's class that is no attribute of the object
abbrev pub is_unread : Mapped → TableId → ℕ → Option Object → Bool
is_unread mapped table column None = false
is_unread mapped table column (Some object) = is_among (tables_of mapped object.class) table && is_none (cell_for mapped object table column)

-- what a deleted row is known to hold in a column
abbrev pub value_gone : Mapped → Graph → GoneRow → ℕ → Option Value
value_gone mapped graph row column =
    if is_unread mapped row.name.table column (object_if graph row.name.object) then None else Some (slice_index_or row.base column Null)

-- the cell of a column outside the key of a new row, unless the deleted row is known to hold it
abbrev pub cell_switched : Mapped → Graph → RowChanges → List (Option ℕ) → NewRow → GoneRow → ℕ × ColumnSpec → Option (ColumnNo × RowCell)
cell_switched mapped graph changes partners row gone column =
    if column.1.key then None
    else in_column column.0 (linked_change (value_gone mapped graph gone column.0) (cell_after_switch mapped.schema changes partners (slice_index_or row.cells column.0 (Given Null))))

-- the changed row in place of a new and a deleted one: under their key, with the new row's name and the cells that change
abbrev pub row_switched : Mapped → Graph → RowChanges → List (Option ℕ) → ℕ × NewRow → GoneRow → ChangedRow
row_switched mapped graph changes partners placed gone = record {
  name = placed.1.name;
  key = known_key mapped.schema changes placed.0;
  cells = filter_map (cell_switched mapped graph changes partners placed.1 gone) (enumerate_from 0 (columns_at mapped placed.1.name.table));
}

abbrev pub switch_of : Mapped → Graph → RowChanges → List (Option ℕ) → ℕ × NewRow → Option ChangedRow
switch_of mapped graph changes partners placed =
    option_map (λ gone. row_switched mapped graph changes partners placed (gone_at changes.gone gone)) (slice_index_or partners placed.0 None)

-- a changed row for each new row that is switched, perhaps without cells
abbrev pub rows_switched : Mapped → Graph → RowChanges → List (Option ℕ) → List ChangedRow
rows_switched mapped graph changes partners = filter_map (switch_of mapped graph changes partners) (enumerate_from 0 changes.fresh)

-- ---- all changes

abbrev pub changes_by : Mapped → Graph → RowChanges → List (Option ℕ) → RowChanges
changes_by mapped graph changes partners = record {
  fresh = rows_staying mapped.schema changes partners;
  changed = rows_kept mapped graph changes partners ++ rows_switched mapped graph changes partners;
  gone = rows_left changes partners;
  post = changes.post;
  warnings = changes.warnings;
}

-- changes with their switched rows
abbrev pub with_switches : Mapped → Graph → RowChanges → RowChanges
with_switches mapped graph changes = changes_by mapped graph changes (partners mapped.schema changes)

-- the same where some row is switched
abbrev pub switched_changes : Mapped → Graph → RowChanges → Option RowChanges
switched_changes mapped graph changes = if list_any is_some (partners mapped.schema changes) then Some (with_switches mapped graph changes) else None
