-- Rows by table and key, and those to which a row refers, as they are found by their keys.
use Rattle.std.specs.Prelude.{◌≡◌, ◌<◌, ℕ, cond, List, [], ◌∷◌, ◌++◌, length, nat_lt, Option, None, Some}
use Rattle.std.specs.List.{All}
use Rattle.std.specs.Option.{unwrap_or}
use Rattle.std.specs.BTreeMap.{BTreeMap, get}
use Rattle.base_core.specs.declared.ids.TableId.{TableId}
use Rattle.base_core.specs.declared.value.Value.{Value}
use Rattle.schema_core.specs.declared.changes.RowCell.{RowCell}
use Rattle.schema_core.specs.declared.changes.RowCell.TheVariants.{Given, KeyOf}
use Rattle.schema_core.specs.declared.changes.RowChanges.{RowChanges}
use Rattle.schema_core.specs.declared.table.ForeignSpec.{ForeignSpec}
use Rattle.schema_core.specs.Catalog.{Catalog, spec_of, target_of}
use Rattle.schema_core.specs.Tables.{cells_of, has_null}
use Rattle.row_order.specs.Places.{is_among}
use Rattle.flush_order.specs.Cells.{first_cells, known_row, table_at}
use Rattle.flush_order.specs.Orders.{gone_at, gone_rows}
use Rattle.flush_order.specs.Ready.{ready_gone, ready_row}
use Rattle.flush_order.specs.Refers.{last_base}
use Rattle.flush_order.specs.Sorted.{Place, place_cmp, same_place}

abbrev pub Index : Type 0
Index = BTreeMap Place (List ℕ)

-- the rows under a table and key
abbrev pub rows_under : Index → Place → List ℕ
rows_under index place = unwrap_or (get place_cmp index place) []

-- of so many rows each stands under its own table and key, and no other
pub record IsIndexOf (places : ℕ → Place) (size : ℕ) (index : Index) : Type 0 where
  pub within : (place : Place) → All (λ row. row < size) (rows_under index place)
  pub each : (place : Place) (row : ℕ) → row < size → is_among (rows_under index place) row ≡ same_place (places row) place

-- the table and key of a new row, and of a deleted one
abbrev pub new_place : Catalog → RowChanges → ℕ → Place
new_place schema changes row = ((ready_row schema changes row).table, (ready_row schema changes row).key)

abbrev pub gone_place : Catalog → RowChanges → ℕ → Place
gone_place schema changes row = ((gone_at (gone_rows schema changes) row).name.table, (ready_gone schema changes (gone_at (gone_rows schema changes) row)).key)

-- the rows that these values name in a table, where none is NULL
abbrev pub rows_of_key : Index → List Value → Option TableId → List ℕ
rows_of_key index key None = []
rows_of_key index key (Some table) = cond (has_null key) [] (rows_under index (table, key))

-- the rows that a foreign key of a row names
abbrev pub rows_named : Catalog → Index → List Value → TableId → ForeignSpec → List ℕ
rows_named schema index row table foreign = rows_of_key index (cells_of (spec_of schema table) row foreign.columns) (target_of schema foreign)

-- the rows that its foreign keys name
abbrev pub rows_referred : Catalog → Index → List Value → TableId → List ForeignSpec → List ℕ
rows_referred schema index row table [] = []
rows_referred schema index row table (foreign ∷ foreigns) = rows_named schema index row table foreign ++ rows_referred schema index row table foreigns

-- the rows whose keys the cells take, of so many
abbrev pub rows_taken : ℕ → List RowCell → List ℕ
rows_taken size [] = []
rows_taken size (Given value ∷ cells) = rows_taken size cells
rows_taken size (KeyOf place part ∷ cells) = cond (nat_lt place size) (place ∷ rows_taken size cells) (rows_taken size cells)

-- the new rows for which a new row waits
abbrev pub new_blockers : Catalog → RowChanges → Index → ℕ → List ℕ
new_blockers schema changes index row = rows_taken (length changes.fresh) (first_cells schema changes row) ++ rows_referred schema index (known_row schema changes row) (table_at changes row) (spec_of schema (table_at changes row)).foreigns

-- the deleted rows to which a deleted row refers
abbrev pub gone_targets : Catalog → RowChanges → Index → ℕ → List ℕ
gone_targets schema changes index row = rows_referred schema index (last_base schema changes (gone_at (gone_rows schema changes) row)) (gone_at (gone_rows schema changes) row).name.table (spec_of schema (gone_at (gone_rows schema changes) row).name.table).foreigns
