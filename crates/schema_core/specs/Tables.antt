-- The created tables with their rows, and when they are legal.
use Rattle.std.specs.Prelude.{◌≡◌, ◌<◌, ℕ, Bool, true, false, not, cond, ◌&&◌, ◌||◌, List, [], ◌∷◌, map, length, Option, None, Some, MatchOption, is_some, IsTrue}
use Rattle.std.specs.List.{list_any, AllByRecursion}
use Rattle.std.specs.Option.{option_and_then}
use Rattle.std.specs.List.Sorted.{IsStrictlySortedBy}
use Rattle.std.specs.Map.{keys_of, lookup, remove_entry}
use Rattle.std.specs.BTreeMap.{insert_entry, is_at}
use Rattle.std.specs.declared.cmp.Ordering.{Ordering}
use Rattle.std.specs.declared.cmp.Ordering.TheVariants.{Less}
use Rattle.std.specs.Ordering.{nat_cmp, is_eq}
use Rattle.std.specs.Cmp.Lexicographic.{pointwise}
use Rattle.base_core.specs.declared.ids.TableId.{TableId}
use Rattle.base_core.specs.declared.value.Kind.{Kind}
use Rattle.base_core.specs.declared.value.Kind.TheVariants as kinds
use Rattle.base_core.specs.declared.value.Value.{Value}
use Rattle.base_core.specs.declared.value.Value.TheVariants.{Null, Bool as BoolValue, Int, Text, Bytes}
use Rattle.base_core.specs.Order.{values_cmp}
use Rattle.schema_core.specs.declared.changes.RowCell.{RowCell}
use Rattle.schema_core.specs.declared.changes.RowCell.TheVariants.{Given, KeyOf}
use Rattle.schema_core.specs.declared.table.ColumnSpec.{ColumnSpec}
use Rattle.schema_core.specs.declared.table.ForeignSpec.{ForeignSpec}
use Rattle.schema_core.specs.declared.table.TableSpec.{TableSpec}
use Rattle.schema_core.specs.Catalog.{Catalog, is_required, kind_of, same_kind, same_name, spec_of, target_of, IsTable}

-- The rows of a table, each with its key before it, ascending by key.
abbrev pub Rows : Type 0
Rows = List (List Value × List Value)

-- Each created table with its rows, ascending by number.
abbrev pub Tables : Type 0
Tables = List (TableId × Rows)

abbrev pub table_cmp : TableId → TableId → Ordering
table_cmp one other = nat_cmp one.0 other.0

-- the rows of a table, where it is created
abbrev pub rows_in : Tables → TableId → Option Rows
rows_in tables table = lookup (is_at (table_cmp table)) tables

abbrev pub is_created : Tables → TableId → Bool
is_created tables table = is_some (rows_in tables table)

-- the tables with these rows in one of them
abbrev pub with_rows : Tables → TableId → Rows → Tables
with_rows tables table rows = insert_entry table_cmp tables table rows

-- the row of a key
abbrev pub row_under : Rows → List Value → Option (List Value)
row_under rows key = lookup (is_at (values_cmp key)) rows

-- the rows with one more, or another under its key
abbrev pub with_row : Rows → List Value → List Value → Rows
with_row rows key row = insert_entry values_cmp rows key row

-- the rows without the one of a key
abbrev pub without_row : Rows → List Value → Rows
without_row rows key = remove_entry (is_at (values_cmp key)) rows

abbrev pub is_null : Value → Bool
is_null Null = true
is_null value = false

-- the value that is known, or NULL
abbrev pub value_or_null : Option Value → Value
value_or_null None = Null
value_or_null (Some value) = value

-- the value that a cell of a flush gives; NULL where it is a part of a new row's key
abbrev pub given_value : RowCell → Value
given_value (Given value) = value
given_value (KeyOf place part) = Null

-- the value's kind; NULL has none
abbrev pub kind_of_value : Value → Option Kind
kind_of_value Null = None
kind_of_value (BoolValue b) = Some kinds.Boolean
kind_of_value (Int n) = Some kinds.Integer
kind_of_value (Text t) = Some kinds.Text
kind_of_value (Bytes b) = Some kinds.Bytes

abbrev pub fits_kind : ColumnSpec → Option Kind → Bool
fits_kind column None = not (is_required column)
fits_kind column (Some kind) = same_kind (kind_of column.kind) kind

-- the value is of the column's kind, or NULL where the column takes it
abbrev pub fits : ColumnSpec → Value → Bool
fits column value = fits_kind column (kind_of_value value)

-- a row has one cell for each column, and each fits
abbrev pub is_legal_row : TableSpec → List Value → Bool
is_legal_row spec row = pointwise fits spec.columns row

-- the cells of the primary key
abbrev pub key_cells : List ColumnSpec → List Value → List Value
key_cells [] row = []
key_cells (column ∷ columns) [] = []
key_cells (column ∷ columns) (cell ∷ row) = cond column.key (cell ∷ key_cells columns row) (key_cells columns row)

-- a row's key
abbrev pub key_of : TableSpec → List Value → List Value
key_of spec row = key_cells spec.columns row

-- the cell in the column of a name
abbrev pub cell_of : List ColumnSpec → List Value → List ℕ → Value
cell_of [] row name = Null
cell_of (column ∷ columns) [] name = Null
cell_of (column ∷ columns) (cell ∷ row) name = cond (same_name column.name name) cell (cell_of columns row name)

-- the cells in the columns of a list: a unique constraint's value, or a foreign key
abbrev pub cells_of : TableSpec → List Value → List (List ℕ) → List Value
cells_of spec row names = map (cell_of spec.columns row) names

abbrev pub has_null : List Value → Bool
has_null = list_any is_null

abbrev pub same_values : List Value → List Value → Bool
same_values one other = is_eq (values_cmp one other)

-- the rows have the same value, without a NULL, in the columns of a unique constraint
abbrev pub collide : TableSpec → List (List ℕ) → List Value → List Value → Bool
collide spec unique one other = not (has_null (cells_of spec one unique)) && same_values (cells_of spec one unique) (cells_of spec other unique)

-- a row under another key collides with this one
abbrev pub repeats_unique : TableSpec → Rows → List Value → List Value → Bool
repeats_unique spec rows key row = list_any (λ unique. list_any (λ other. not (same_values key other.0) && collide spec unique row other.1) rows) spec.uniques

abbrev pub has_row : List Value → Option Rows → Bool
has_row key None = false
has_row key (Some rows) = is_some (row_under rows key)

-- a key names a row of the table to which a foreign key refers
abbrev pub names_row : Catalog → Tables → ForeignSpec → List Value → Bool
names_row schema tables foreign key = has_row key (option_and_then (rows_in tables) (target_of schema foreign))

-- a row's foreign key has no NULL and names no row
abbrev pub dangles : Catalog → Tables → TableSpec → List Value → ForeignSpec → Bool
dangles schema tables spec row foreign = not (has_null (cells_of spec row foreign.columns)) && not (names_row schema tables foreign (cells_of spec row foreign.columns))

-- some foreign key of a row dangles
abbrev pub some_dangles : Catalog → Tables → TableSpec → List Value → Bool
some_dangles schema tables spec row = list_any (dangles schema tables spec row) spec.foreigns

-- some row of the tables has a foreign key that dangles
abbrev pub has_dangling : Catalog → Tables → Bool
has_dangling schema tables = list_any (λ created. list_any (λ row. some_dangles schema tables (spec_of schema created.0) row.1) created.1) tables

-- each row of each created table meets the fact, given the table's number and its rows
abbrev pub EachRow : (TableId → Rows → List Value × List Value → Type 0) → Tables → Type 0
EachRow P tables = AllByRecursion (λ created. AllByRecursion (P created.0 created.1) created.1) tables

-- tables are ascending by number, and the rows of each by key
pub record AreAscending (tables : Tables) : Type 0 where
  pub numbers : IsStrictlySortedBy table_cmp (keys_of tables)
  pub keys : AllByRecursion (λ created. IsStrictlySortedBy values_cmp (keys_of created.1)) tables

-- What the tables of a schema keep.
pub record Legal (schema : Catalog) (tables : Tables) : Type 0 where
  -- only declared tables are created
  pub created : AllByRecursion (λ created. IsTable schema created.0) tables
  -- each row stands under its own key
  pub keys : EachRow (λ table rows row. key_of (spec_of schema table) row.1 ≡ row.0) tables
  -- a cell is NULL or of its column's kind, and not NULL where the column takes none
  pub cells : EachRow (λ table rows row. is_legal_row (spec_of schema table) row.1 ≡ true) tables
  -- no two rows of a table have equal values without a NULL in one unique constraint
  pub uniques : EachRow (λ table rows row. repeats_unique (spec_of schema table) rows row.0 row.1 ≡ false) tables
  -- each foreign key without a NULL names a row of its target
  pub foreigns : has_dangling schema tables ≡ false
