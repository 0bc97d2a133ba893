-- New rows made ready for the search of their order.
use Rattle.std.specs.Prelude.{◌≡◌, ◌<◌, ◌≤◌, ◌+◌, ℕ, List, length, map, slice_get, Some}
use Rattle.std.specs.List.{All}
use Rattle.schema_core.specs.declared.changes.ChangedRow.{ChangedRow}
use Rattle.schema_core.specs.declared.changes.GoneRow.{GoneRow}
use Rattle.schema_core.specs.declared.changes.RowCell.{RowCell}
use Rattle.schema_core.specs.declared.changes.RowChanges.{RowChanges}
use Rattle.schema_core.specs.Catalog.{Catalog, IsTable, spec_of}
use Rattle.schema_core.specs.Tables.{key_of}
use Rattle.flush_order.specs.declared.refers.ReadyGone.{ReadyGone}
use Rattle.flush_order.specs.declared.refers.ReadyRow.{ReadyRow}
use Rattle.flush_order.specs.Cells.{first_cells, known_row, table_at}
use Rattle.flush_order.specs.Orders.{gone_rows}
use Rattle.flush_order.specs.Refers.{gone_key, last_base}

-- a changed row is of a declared table, and names columns of it
pub record IsInTable (schema : Catalog) (row : ChangedRow) : Type 0 where
  pub declared : IsTable schema row.name.table
  pub columns : All (λ cell. cell.0.0 < length (spec_of schema row.name.table).columns) row.cells

-- the tables of all rows are declared, and there are no more rows, and no more columns, than have numbers
pub record AreInRange (schema : Catalog) (changes : RowChanges) : Type 0 where
  pub least : length changes.fresh ≤ 4294967295
  pub declared : (place : ℕ) → place < length changes.fresh → IsTable schema (table_at changes place)
  pub changed : All (IsInTable schema) changes.changed
  pub gone : All (λ row. IsTable schema row.name.table) changes.gone
  pub fewer : length changes.changed + length changes.gone ≤ 4294967295
  pub tables : length schema.tables ≤ 4294967295
  pub narrow : All (λ spec. length spec.columns ≤ 4294967295) schema.tables

-- the cells that each INSERT writes
pub record AreFirst (schema : Catalog) (changes : RowChanges) (firsts : List (List RowCell)) : Type 0 where
  pub size : length firsts ≡ length changes.fresh
  pub each : (place : ℕ) → place < length firsts → slice_get firsts place ≡ Some (first_cells schema changes place)

abbrev pub ready_row : Catalog → RowChanges → ℕ → ReadyRow
ready_row schema changes place = record { table = table_at changes place; first = first_cells schema changes place; known = known_row schema changes place; key = key_of (spec_of schema (table_at changes place)) (known_row schema changes place) }

-- each of the rows is ready, and its table declared
pub record AreReady (schema : Catalog) (changes : RowChanges) (rows : List ReadyRow) : Type 0 where
  pub size : length rows ≡ length changes.fresh
  pub least : length rows ≤ 4294967295
  pub declared : (place : ℕ) → place < length rows → IsTable schema (table_at changes place)
  pub each : (place : ℕ) → place < length rows → slice_get rows place ≡ Some (ready_row schema changes place)

abbrev pub ready_gone : Catalog → RowChanges → GoneRow → ReadyGone
ready_gone schema changes row = record { name = row.name; last = last_base schema changes row; key = gone_key schema row }

-- the deleted rows by table and key, each ready, and its table declared
pub record AreReadyGone (schema : Catalog) (changes : RowChanges) (rows : List ReadyGone) : Type 0 where
  pub least : length rows ≤ 4294967295
  pub sorted : rows ≡ map (ready_gone schema changes) (gone_rows schema changes)
  pub declared : All (λ row. IsTable schema row.name.table) rows
