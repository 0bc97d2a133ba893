-- The statements of a flush in their order, in which keys of new rows may still stand open.
use Rattle.std.specs.Prelude.{ℕ, Bool, true, ◌&&◌, List, [], ◌++◌, map, length, slice_index_or, nat_eq, Result, Ok, Err}
use Rattle.std.specs.List.{filter, flat_map, range_with_len}
use Rattle.base_core.specs.declared.ids.ColumnNo.{ColumnNo}
use Rattle.base_core.specs.declared.ids.TableId.{TableId}
use Rattle.base_core.specs.declared.refusal.Refusal.{Refusal}
use Rattle.base_core.specs.declared.refusal.Refusal.TheVariants.{CircularDependencyError}
use Rattle.schema_core.specs.declared.changes.Planned.{Planned}
use Rattle.schema_core.specs.declared.changes.Planned.TheVariants.{Update}
use Rattle.schema_core.specs.declared.changes.RowCell.{RowCell}
use Rattle.schema_core.specs.declared.changes.RowCell.TheVariants.{KeyOf}
use Rattle.schema_core.specs.declared.changes.RowChanges.{RowChanges}
use Rattle.schema_core.specs.Catalog.{Catalog, spec_of}
use Rattle.schema_core.specs.DependencyOrder.{table_ids}
use Rattle.flush_order.specs.Cells.{first_cells, key_parts, new_at, table_at}
use Rattle.flush_order.specs.Orders.{delete_order, gone_at, gone_rows, insert_order}
use Rattle.flush_order.specs.Sorted.{sorted_numbers}
use Rattle.flush_writes.specs.Runs.{runs}
use Rattle.flush_writes.specs.Writes.{cells_when, insert_run, late_cells, late_gone, removes, update_of, updates, writes_some, Writing, writing_some}

-- ---- what is written once all rows stand

-- the parts of a new row's key
abbrev pub key_at : Catalog → RowChanges → ℕ → List RowCell
key_at schema changes place = map (KeyOf place) (range_with_len 0 (length (key_parts (spec_of schema (table_at changes place)).columns (first_cells schema changes place))))

abbrev pub late_new : Catalog → RowChanges → ℕ → List (ColumnNo × RowCell)
late_new schema changes place = late_cells schema changes (table_at changes place) (new_at changes place).cells

abbrev pub no_writing : Writing
no_writing = ((record { 0 = 0 }, []), [])

abbrev pub late_writings : Catalog → RowChanges → List Writing
late_writings schema changes = filter writing_some (map (cells_when schema changes true) changes.changed ++ map (late_gone schema changes) changes.gone)

-- what is written, by table and key
abbrev pub by_place : List Writing → List Writing
by_place writings = map (λ number. slice_index_or writings number no_writing) (sorted_numbers (map (λ row. row.0) writings))

-- the old rows that are written once all rows stand
abbrev pub late_old : Catalog → RowChanges → List Writing
late_old schema changes = by_place (late_writings schema changes)

abbrev pub is_of : TableId → TableId → Bool
is_of table other = nat_eq other.0 table.0

-- what is written in new rows of one table once all rows stand
abbrev pub late_updates_of : Catalog → RowChanges → TableId → List ℕ → List Planned
late_updates_of schema changes table order =
    map (λ place. Update table (key_at schema changes place) (late_new schema changes place)) (filter (λ place. is_of table (table_at changes place) && writes_some (late_new schema changes place)) order)

-- what is written in one table once all rows stand
abbrev pub late_in : Catalog → RowChanges → List ℕ → TableId → List Planned
late_in schema changes order table =
    late_updates_of schema changes table order
    ++ map update_of (filter (λ row. is_of table row.0.0) (late_old schema changes))

abbrev pub late_updates : Catalog → RowChanges → List ℕ → List Planned
late_updates schema changes order = flat_map (late_in schema changes order) (table_ids schema)

-- ---- the plan

abbrev pub statements : Catalog → RowChanges → List ℕ → List ℕ → List Planned
statements schema changes new_order gone_order =
    map (insert_run changes) (runs schema changes new_order)
    ++ updates schema changes
    ++ late_updates schema changes new_order
    ++ removes schema changes gone_order

abbrev pub unless_gone_cycle : Catalog → RowChanges → List ℕ → Result (List ℕ) (List ℕ) → Result (List Planned) Refusal
unless_gone_cycle schema changes new_order (Err rows) = Err (CircularDependencyError (map (λ place. (gone_at (gone_rows schema changes) place).name) rows))
unless_gone_cycle schema changes new_order (Ok gone_order) = Ok (statements schema changes new_order gone_order)

abbrev pub unless_new_cycle : Catalog → RowChanges → Result (List ℕ) (List ℕ) → Result (List Planned) Refusal
unless_new_cycle schema changes (Err rows) = Err (CircularDependencyError (map (λ place. (new_at changes place).name) rows))
unless_new_cycle schema changes (Ok new_order) = unless_gone_cycle schema changes new_order (delete_order schema changes (gone_rows schema changes))

-- the statements of a flush, or the rows of a cycle; new rows are tried first
unfoldable pub plan : Catalog → RowChanges → Result (List Planned) Refusal
plan schema changes = unless_new_cycle schema changes (insert_order schema changes)
