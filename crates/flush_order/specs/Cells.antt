-- The columns that are written after all rows, and the cells of new rows while keys stand open.
use Rattle.std.specs.Prelude.{ℕ, zero, suc, Bool, cond, ◌&&◌, List, [], ◌∷◌, map, length, slice_index_or, nat_eq}
use Rattle.std.specs.List.{list_any}
use Rattle.base_core.specs.declared.ids.TableId.{TableId}
use Rattle.base_core.specs.declared.value.Value.{Value}
use Rattle.base_core.specs.declared.value.Value.TheVariants.{Null}
use Rattle.schema_core.specs.declared.changes.NewRow.{NewRow}
use Rattle.schema_core.specs.declared.changes.RowCell.{RowCell}
use Rattle.schema_core.specs.declared.changes.RowCell.TheVariants.{Given, KeyOf}
use Rattle.schema_core.specs.declared.changes.RowChanges.{RowChanges}
use Rattle.schema_core.specs.declared.table.ColumnSpec.{ColumnSpec}
use Rattle.schema_core.specs.Catalog.{Catalog, foreign_of, has_name, spec_of}

-- the column of this name is in the foreign key of this table and number
abbrev pub is_in : Catalog → TableId → List ℕ → TableId × ℕ → Bool
is_in schema table name post = nat_eq post.0.0 table.0 && has_name (foreign_of (spec_of schema table) post.1).columns name

-- the column of this name is in a foreign key that is written after all rows
abbrev pub late_name : Catalog → RowChanges → TableId → List ℕ → Bool
late_name schema changes table name = list_any (is_in schema table name) changes.post

abbrev pub is_late : Catalog → RowChanges → TableId → ColumnSpec → Bool
is_late schema changes table column = late_name schema changes table column.name

-- the cells, with another one in the columns that pass
abbrev pub cells_cleared : {A : Type 0} → (ColumnSpec → Bool) → A → List ColumnSpec → List A → List A
cells_cleared test none [] cells = []
cells_cleared test none (column ∷ columns) [] = []
cells_cleared test none (column ∷ columns) (cell ∷ cells) = cond (test column) none cell ∷ cells_cleared test none columns cells

-- the cells of the primary key
abbrev pub key_parts : {A : Type 0} → List ColumnSpec → List A → List A
key_parts [] cells = []
key_parts (column ∷ columns) [] = []
key_parts (column ∷ columns) (cell ∷ cells) = cond column.key (cell ∷ key_parts columns cells) (key_parts columns cells)

abbrev pub no_row : NewRow
no_row = record { name = record { table = record { 0 = 0 }; object = record { 0 = 0 } }; cells = [] }

-- the new row of a place
abbrev pub new_at : RowChanges → ℕ → NewRow
new_at changes place = slice_index_or changes.fresh place no_row

abbrev pub table_at : RowChanges → ℕ → TableId
table_at changes place = (new_at changes place).name.table

-- the cells that the INSERT of a new row writes
abbrev pub first_cells : Catalog → RowChanges → ℕ → List RowCell
first_cells schema changes place = cells_cleared (is_late schema changes (table_at changes place)) (Given Null) (spec_of schema (table_at changes place)).columns (new_at changes place).cells

-- the cell of a new row's key
abbrev pub part_at : Catalog → RowChanges → ℕ → ℕ → RowCell
part_at schema changes place part = slice_index_or (key_parts (spec_of schema (table_at changes place)).columns (first_cells schema changes place)) part (Given Null)

-- the cell's value as far as it is known before a key is drawn, going back over so many rows; NULL where it is not
abbrev pub known_value : Catalog → RowChanges → ℕ → RowCell → Value
known_value schema changes steps (Given value) = value
known_value schema changes zero (KeyOf place part) = Null
known_value schema changes (suc steps) (KeyOf place part) = known_value schema changes steps (part_at schema changes place part)

-- a new row as far as it is known
abbrev pub known_row : Catalog → RowChanges → ℕ → List Value
known_row schema changes place = map (known_value schema changes (length changes.fresh)) (first_cells schema changes place)
