-- The keys of new rows, and the tables that the changes state, in one step.
use Rattle.std.specs.Prelude.{ℕ, Bool, cond, not, ◌&&◌, ◌||◌, List, [], ◌∷◌, ◌++◌, map, Option, None, Some, is_some, if◌then◌else◌}
use Rattle.std.specs.List.{list_any, list_all, filter, fold}
use Rattle.std.specs.Option.{option_and_then, unwrap_or}
use Rattle.base_core.specs.declared.ids.ColumnNo.{ColumnNo}
use Rattle.base_core.specs.declared.ids.TableId.{TableId}
use Rattle.base_core.specs.declared.value.Value.{Value}
use Rattle.schema_core.specs.declared.changes.ChangedRow.{ChangedRow}
use Rattle.schema_core.specs.declared.changes.GoneRow.{GoneRow}
use Rattle.schema_core.specs.declared.changes.RowCell.{RowCell}
use Rattle.schema_core.specs.declared.changes.RowChanges.{RowChanges}
use Rattle.schema_core.specs.declared.table.ColumnSpec.{ColumnSpec}
use Rattle.schema_core.specs.declared.table.TableSpec.{TableSpec}
use Rattle.schema_core.specs.Apply.{with_cells, with_own_key}
use Rattle.schema_core.specs.Catalog.{Catalog, spec_of}
use Rattle.schema_core.specs.Declaration.{some_two}
use Rattle.schema_core.specs.Tables.{Rows, Tables, has_null, is_created, key_of, row_under, rows_in, with_row, with_rows, without_row, given_value}
use Rattle.flush_order.specs.Cells.{first_cells, is_late, known_row, new_at, table_at}
use Rattle.flush_plan.specs.Flushing.{Keys, Sofar, key_of_new, value_of_cell}
use Rattle.flush_order.specs.Orders.{place_of_gone}
use Rattle.flush_writes.specs.Writes.{late_gone, writes_some}
use Rattle.flush_order.specs.Refers.{names}
use Rattle.flush_order.specs.Sorted.{Place, same_place}

-- ---- Keys

abbrev pub placed_under : TableSpec → Sofar → ℕ → TableId → Rows → Option (List Value) → Option Sofar
placed_under spec sofar place table rows None = None
placed_under spec sofar place table rows (Some row) = Some (record { tables = with_rows sofar.tables table (with_row rows (key_of spec row) row); keys = (place, key_of spec row) ∷ sofar.keys })

abbrev pub placed_in : Catalog → RowChanges → Sofar → ℕ → Option Rows → Option Sofar
placed_in schema changes sofar place None = None
placed_in schema changes sofar place (Some rows) =
    placed_under (spec_of schema (table_at changes place)) sofar place (table_at changes place) rows
    (with_own_key (spec_of schema (table_at changes place)) rows (map (value_of_cell sofar.keys) (first_cells schema changes place)))

-- one more new row stands among the rows before it
unfoldable pub place_new : Catalog → RowChanges → Sofar → ℕ → Option Sofar
place_new schema changes sofar place = placed_in schema changes sofar place (rows_in sofar.tables (table_at changes place))

abbrev pub place_on : Catalog → RowChanges → Option Sofar → ℕ → Option Sofar
place_on schema changes None place = None
place_on schema changes (Some sofar) place = place_new schema changes sofar place

-- the new rows put in by this order, each with its key; none where a key cannot be generated or a table is not created
unfoldable pub all_placed : Catalog → RowChanges → Tables → List ℕ → Option Sofar
all_placed schema changes tables order = fold (place_on schema changes) (Some (record { tables = tables; keys = [] })) order

-- ---- Stated

-- the row under a key
abbrev pub row_at : Tables → Place → Option (List Value)
row_at tables place = option_and_then (λ rows. row_under rows place.1) (rows_in tables place.0)

-- what is to stand under a table and key: a row, or none
abbrev pub Edit : Type 0
Edit = Place × Option (List Value)

abbrev pub edited_rows : Rows → List Value → Option (List Value) → Rows
edited_rows rows key None = without_row rows key
edited_rows rows key (Some row) = with_row rows key row

abbrev pub edited_in : Tables → Edit → Option Rows → Tables
edited_in tables edit None = tables
edited_in tables edit (Some rows) = with_rows tables edit.0.0 (edited_rows rows edit.0.1 edit.1)

unfoldable pub with_edit : Tables → Edit → Tables
with_edit tables edit = edited_in tables edit (rows_in tables edit.0.0)

-- the first row, but for the columns that pass: these are of the second
abbrev pub blend : (ColumnSpec → Bool) → List ColumnSpec → List Value → List Value → List Value
blend test [] row other = []
blend test (column ∷ columns) [] other = []
blend test (column ∷ columns) (cell ∷ row) [] = []
blend test (column ∷ columns) (cell ∷ row) (other ∷ others) = cond (test column) other cell ∷ blend test columns row others

-- a new row's table and key
abbrev pub place_of_new : RowChanges → Keys → ℕ → Place
place_of_new changes keys place = (table_at changes place, key_of_new keys place)

-- the new row as it was placed, and with what is written once all rows stand
abbrev pub edit_new : Catalog → RowChanges → Sofar → ℕ → Edit
edit_new schema changes placed place = (
  place_of_new changes placed.keys place,
  Some (blend (is_late schema changes (table_at changes place)) (spec_of schema (table_at changes place)).columns
      (unwrap_or (row_at placed.tables (place_of_new changes placed.keys place)) []) (map (value_of_cell placed.keys) (new_at changes place).cells)),
)

abbrev pub old_row : Tables → ChangedRow → List Value
old_row tables row = unwrap_or (row_at tables (row.name.table, row.key)) []

abbrev pub put_cells : (RowCell → Value) → List (ColumnNo × RowCell) → List (ColumnNo × Value)
put_cells value cells = map (λ cell. (cell.0, value cell.1)) cells

abbrev pub edit_changed : Tables → Keys → ChangedRow → Edit
edit_changed tables keys row = ((row.name.table, row.key), Some (with_cells (old_row tables row) (put_cells (value_of_cell keys) row.cells)))

abbrev pub edit_gone : Catalog → GoneRow → Edit
edit_gone schema row = (place_of_gone schema row, None)

-- the changed rows with a changed cell
abbrev pub written_rows : RowChanges → List ChangedRow
written_rows changes = filter (λ row. writes_some row.cells) changes.changed

-- what is to stand under each table and key that the changes name
abbrev pub edits : Catalog → Tables → RowChanges → List ℕ → Sofar → List Edit
edits schema tables changes order placed =
    map (edit_gone schema) changes.gone ++ map (edit_changed tables placed.keys) (written_rows changes) ++ map (edit_new schema changes placed) order

abbrev pub is_present : Tables → Place → Bool
is_present tables place = is_some (row_at tables place)

-- every named table is created
abbrev pub tables_stand : Tables → RowChanges → Bool
tables_stand tables changes =
    list_all (λ row. is_created tables row.name.table) changes.fresh
    && list_all (λ row. is_created tables row.name.table) changes.changed
    && list_all (λ row. is_created tables row.name.table) changes.gone

-- every row that is changed, or cleared before it is deleted, is present
abbrev pub rows_stand : Catalog → Tables → RowChanges → Bool
rows_stand schema tables changes =
    list_all (λ row. is_present tables (row.name.table, row.key)) (written_rows changes)
    && list_all (λ row. not (writes_some (late_gone schema changes row).1) || is_present tables (place_of_gone schema row)) changes.gone

-- no key of a new row is in the old tables, is that of a deleted row, or is twice among the new rows
abbrev pub keys_are_new : Catalog → Tables → RowChanges → List ℕ → Keys → Bool
keys_are_new schema tables changes order keys =
    not (list_any (λ place. is_present tables (place_of_new changes keys place)) order)
    && not (list_any (λ place. list_any (λ row. same_place (place_of_gone schema row) (place_of_new changes keys place)) changes.gone) order)
    && not (some_two (λ one other. same_place (place_of_new changes keys one) (place_of_new changes keys other)) order)

abbrev pub stated_under : Catalog → Tables → RowChanges → List ℕ → Option Sofar → Option Tables
stated_under schema tables changes order None = None
stated_under schema tables changes order (Some placed) =
    if tables_stand tables changes && rows_stand schema tables changes && keys_are_new schema tables changes order placed.keys
    then Some (fold with_edit tables (edits schema tables changes order placed))
    else None

-- the tables that the changes state, where they do
unfoldable pub stated_tables : Catalog → Tables → RowChanges → List ℕ → Option Tables
stated_tables schema tables changes order = stated_under schema tables changes order (all_placed schema changes tables order)

-- ---- Guess

-- a part of the new row's key is generated, or comes from one that is
abbrev pub is_open : Catalog → RowChanges → ℕ → Bool
is_open schema changes place = has_null (key_of (spec_of schema (table_at changes place)) (known_row schema changes place))

-- a foreign key of the row equals the key of a new row that is not known before it is drawn
abbrev pub guesses : Catalog → RowChanges → List ℕ → Keys → TableId → List Value → Bool
guesses schema changes order keys table row =
    list_any (λ foreign. list_any (λ place. is_open schema changes place && names schema row table (table_at changes place) (key_of_new keys place) foreign) order) (spec_of schema table).foreigns

unfoldable pub guess : Catalog → Tables → RowChanges → List ℕ → Keys → Bool
guess schema tables changes order keys =
    list_any (λ place. guesses schema changes order keys (table_at changes place) (map given_value (new_at changes place).cells)) order
    || list_any (λ row. guesses schema changes order keys row.name.table (with_cells (old_row tables row) (put_cells given_value row.cells))) (written_rows changes)
