-- What each phase of a flush writes: INSERTs of runs, cells of rows that stand, DELETEs; keys of new rows may still stand open.
use Rattle.std.specs.Prelude.{ℕ, suc, Bool, true, false, cond, not, ◌&&◌, List, [], ◌∷◌, map, slice_index_or}
use Rattle.std.specs.List.{filter}
use Rattle.base_core.specs.declared.ids.ColumnNo.{ColumnNo}
use Rattle.base_core.specs.declared.ids.TableId.{TableId}
use Rattle.base_core.specs.declared.value.Value.TheVariants.{Null}
use Rattle.schema_core.specs.declared.changes.ChangedRow.{ChangedRow}
use Rattle.schema_core.specs.declared.changes.GoneRow.{GoneRow}
use Rattle.schema_core.specs.declared.changes.Planned.{Planned}
use Rattle.schema_core.specs.declared.changes.Planned.TheVariants.{Insert, Update, Remove}
use Rattle.schema_core.specs.declared.changes.RowCell.{RowCell}
use Rattle.schema_core.specs.declared.changes.RowCell.TheVariants.{Given}
use Rattle.schema_core.specs.declared.changes.RowChanges.{RowChanges}
use Rattle.schema_core.specs.declared.table.ColumnKind.TheVariants.{Integer}
use Rattle.schema_core.specs.declared.table.ColumnSpec.{ColumnSpec}
use Rattle.schema_core.specs.Catalog.{Catalog, spec_of}
use Rattle.flush_order.specs.Cells.{is_late, table_at}
use Rattle.flush_order.specs.Orders.{gone_at, gone_rows}
use Rattle.flush_order.specs.Refers.{gone_key}
use Rattle.flush_order.specs.Sorted.{Place, sorted_numbers}
use Rattle.flush_writes.specs.Runs.{is_nothing}

abbrev pub no_column : ColumnSpec
no_column = record { name = []; kind = Integer; key = false; not_null = false }

-- the INSERT of a run, whose rows are all of one table
abbrev pub insert_run : RowChanges → List ℕ → Planned
insert_run changes [] = Insert (record { 0 = 0 }) []
insert_run changes (place ∷ places) = Insert (table_at changes place) (place ∷ places)

-- a row that is written under its table and key: these cells
abbrev pub Writing : Type 0
Writing = Place × List (ColumnNo × RowCell)

abbrev pub writes_some : List (ColumnNo × RowCell) → Bool
writes_some [] = false
writes_some (cell ∷ cells) = true

abbrev pub update_of : Writing → Planned
update_of row = Update row.0.0 (map Given row.0.1) row.1

abbrev pub column_of : Catalog → TableId → ColumnNo → ColumnSpec
column_of schema table column = slice_index_or (spec_of schema table).columns column.0 no_column

-- the column is written before, or after, all rows stand
abbrev pub is_written_when : Catalog → RowChanges → Bool → TableId → ColumnNo → Bool
is_written_when schema changes late table column = cond (is_late schema changes table (column_of schema table column)) late (not late)

-- the cells of a changed row that are written before, or after, all rows stand
abbrev pub cells_when : Catalog → RowChanges → Bool → ChangedRow → Writing
cells_when schema changes late row = ((row.name.table, row.key), filter (λ cell. is_written_when schema changes late row.name.table cell.0) row.cells)

abbrev pub no_changed : ChangedRow
no_changed = record { name = record { table = record { 0 = 0 }; object = record { 0 = 0 } }; key = []; cells = [] }

abbrev pub place_of_changed : ChangedRow → Place
place_of_changed row = (row.name.table, row.key)

abbrev pub changed_rows : RowChanges → List ChangedRow
changed_rows changes = map (λ number. slice_index_or changes.changed number no_changed) (sorted_numbers (map place_of_changed changes.changed))

abbrev pub writing_some : Writing → Bool
writing_some row = writes_some row.1

-- the UPDATEs of changed rows that have a cell to be written before all rows stand
abbrev pub updates_to : Catalog → RowChanges → List ChangedRow → List Planned
updates_to schema changes rows = map update_of (filter writing_some (map (cells_when schema changes false) rows))

abbrev pub updates : Catalog → RowChanges → List Planned
updates schema changes = updates_to schema changes (changed_rows changes)

-- the cells other than NULL in the columns that pass, from this column's number on
abbrev pub cells_from_number : (ColumnSpec → Bool) → ℕ → List ColumnSpec → List RowCell → List (ColumnNo × RowCell)
cells_from_number test place [] cells = []
cells_from_number test place (column ∷ columns) [] = []
cells_from_number test place (column ∷ columns) (cell ∷ cells) = cond (test column && not (is_nothing cell)) ((record { 0 = place }, cell) ∷ cells_from_number test (suc place) columns cells) (cells_from_number test (suc place) columns cells)

abbrev pub late_cells : Catalog → RowChanges → TableId → List RowCell → List (ColumnNo × RowCell)
late_cells schema changes table cells = cells_from_number (is_late schema changes table) 0 (spec_of schema table).columns cells

abbrev pub late_gone : Catalog → RowChanges → GoneRow → Writing
late_gone schema changes row = ((row.name.table, gone_key schema row), map (λ cell. (cell.0, Given Null)) (late_cells schema changes row.name.table (map Given row.base)))

abbrev pub remove_of : Catalog → GoneRow → Planned
remove_of schema row = Remove row.name.table (gone_key schema row)

-- the DELETEs by the order of deleted rows
abbrev pub removes : Catalog → RowChanges → List ℕ → List Planned
removes schema changes gone_order = map (λ place. remove_of schema (gone_at (gone_rows schema changes) place)) gone_order
