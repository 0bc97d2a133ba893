-- What a statement on rows does: the keys of its rows and the tables that it leaves, or the first rule that it violates.
use Rattle.std.specs.Prelude.{ℕ, ℤ, pos, ◌+ℤ◌, Bool, true, false, not, cond, ◌&&◌, List, [], ◌∷◌, map, slice_set, Option, None, Some, is_some, Result, Ok, Err, if◌then◌else◌}
use Rattle.std.specs.List.{list_any}
use Rattle.std.specs.Option.{option_map}
use Rattle.std.specs.Ordering.{int_eq}
use Rattle.base_core.specs.declared.ids.ColumnNo.{ColumnNo}
use Rattle.base_core.specs.declared.ids.TableId.{TableId}
use Rattle.base_core.specs.declared.value.Value.{Value}
use Rattle.base_core.specs.declared.value.Value.TheVariants.{Null, Bool as BoolValue, Int, Text, Bytes}
use Rattle.schema_core.specs.declared.statement.Violation.{Violation}
use Rattle.schema_core.specs.declared.statement.Violation.TheVariants.{NoTable, Missing, NotNull, KeysSpent, PrimaryKey}
use Rattle.schema_core.specs.declared.statement.RowStmt.{RowStmt}
use Rattle.schema_core.specs.declared.statement.RowStmt.TheVariants.{Insert, Update, Delete}
use Rattle.schema_core.specs.declared.table.ColumnSpec.{ColumnSpec}
use Rattle.schema_core.specs.declared.table.TableSpec.{TableSpec}
use Rattle.schema_core.specs.Catalog.{Catalog, has_generated_key, is_required, spec_of}
use Rattle.schema_core.specs.Judged.{Judged, and_then, change_all, lacks_value, remove_all, write_all}
use Rattle.schema_core.specs.Tables.{Rows, Tables, has_null, key_of, row_under, rows_in, with_row}

-- the keys of the statement's rows and the tables then, or the first violation
abbrev pub Outcome : Type 0
Outcome = Judged (List (List Value) × Tables)

-- the outcome with these keys
abbrev pub answer_keys : List (List Value) → Judged Tables → Outcome
answer_keys keys left = and_then left (λ tables. Ok (keys, tables))

-- ---- an INSERT

-- the key is to be generated
abbrev pub wants_key : TableSpec → List Value → Bool
wants_key spec row = has_generated_key spec && has_null (key_of spec row)

-- the columns that take no NULL in an INSERT: a key that is generated may be left open
abbrev pub is_demanded : TableSpec → ColumnSpec → Bool
is_demanded spec column = is_required column && not (column.key && has_generated_key spec)

abbrev pub key_after : List Value → Option ℤ
key_after (Int n ∷ []) = if int_eq n (pos 9223372036854775807) then None else Some (n +ℤ pos 1)
key_after key = None

-- one above the table's greatest key, 1 in an empty table, none where the greatest key is 9223372036854775807
abbrev pub next_key : Rows → Option ℤ
next_key [] = Some (pos 1)
next_key (row ∷ []) = key_after row.0
next_key (row ∷ other ∷ rows) = next_key (other ∷ rows)

-- the row with this value in its key
abbrev pub with_key : List ColumnSpec → Value → List Value → List Value
with_key [] key row = []
with_key (column ∷ columns) key [] = []
with_key (column ∷ columns) key (cell ∷ row) = cond column.key key cell ∷ with_key columns key row

-- a new row with its key, which is the next one of these rows where the row leaves it open
abbrev pub with_own_key : TableSpec → Rows → List Value → Option (List Value)
with_own_key spec rows row = if wants_key spec row then option_map (λ key. with_key spec.columns (Int key) row) (next_key rows) else Some row

-- a new row under its key, which none of these rows has
abbrev pub entry_of : TableSpec → Rows → Option (List Value) → Judged (List Value × List Value)
entry_of spec rows None = Err KeysSpent
entry_of spec rows (Some row) = if is_some (row_under rows (key_of spec row)) then Err PrimaryKey else Ok (key_of spec row, row)

-- New rows under their keys, one after another: a key is above those of the old rows and the rows before it where it is generated, and else none of them has it.
-- The rows of one statement all give their keys or all leave them open, so it violates one of the two rules at most.
abbrev pub entries_of : TableSpec → Rows → List (List Value) → Judged Rows
entries_of spec rows [] = Ok []
entries_of spec rows (row ∷ more) =
    and_then (entry_of spec rows (with_own_key spec rows row)) (λ entry. and_then (entries_of spec (with_row rows entry.0 entry.1) more) (λ entries. Ok (entry ∷ entries)))

-- the keys of rows
abbrev pub keys_of_entries : Rows → List (List Value)
keys_of_entries entries = map (λ entry. entry.0) entries

unfoldable pub insert_rows : Catalog → Tables → TableId → Rows → List (List Value) → Outcome
insert_rows schema tables table rows new =
    if list_any (lacks_value (is_demanded (spec_of schema table)) (spec_of schema table).columns) new then Err NotNull
    else and_then (entries_of (spec_of schema table) rows new) (λ entries. answer_keys (keys_of_entries entries) (write_all schema tables table rows entries))

-- ---- an UPDATE

-- the row with these cells written
abbrev pub with_cells : List Value → List (ColumnNo × Value) → List Value
with_cells row [] = row
with_cells row (cell ∷ cells) = with_cells (slice_set row cell.0.0 cell.1) cells

abbrev pub update_found : Catalog → Tables → TableId → Rows → List Value → List (ColumnNo × Value) → Option (List Value) → Outcome
update_found schema tables table rows key cells None = Err Missing
update_found schema tables table rows key cells (Some row) = answer_keys (key ∷ []) (change_all schema tables table rows ((key, with_cells row cells) ∷ []))

unfoldable pub update_row : Catalog → Tables → TableId → Rows → List Value → List (ColumnNo × Value) → Outcome
update_row schema tables table rows key cells = update_found schema tables table rows key cells (row_under rows key)

-- ---- a DELETE

-- that of an absent key changes nothing
abbrev pub delete_found : Catalog → Tables → TableId → Rows → List Value → Option (List Value) → Outcome
delete_found schema tables table rows key None = Ok (key ∷ [], tables)
delete_found schema tables table rows key (Some row) = answer_keys (key ∷ []) (remove_all schema tables table rows (key ∷ []))

unfoldable pub delete_row : Catalog → Tables → TableId → Rows → List Value → Outcome
delete_row schema tables table rows key = delete_found schema tables table rows key (row_under rows key)

-- ---- a statement

-- the table that is written
abbrev pub table_of : RowStmt → TableId
table_of (Insert table rows) = table
table_of (Update table key cells) = table
table_of (Delete table key) = table

abbrev pub apply_found : Catalog → Tables → RowStmt → Option Rows → Outcome
apply_found schema tables statement None = Err (NoTable (table_of statement))
apply_found schema tables (Insert table new) (Some rows) = insert_rows schema tables table rows new
apply_found schema tables (Update table key cells) (Some rows) = update_row schema tables table rows key cells
apply_found schema tables (Delete table key) (Some rows) = delete_row schema tables table rows key

-- a statement on rows, done in one step and judged on the tables that it leaves
unfoldable pub apply : Catalog → Tables → RowStmt → Outcome
apply schema tables statement = apply_found schema tables statement (rows_in tables (table_of statement))
