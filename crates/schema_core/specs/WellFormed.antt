-- Which statements on rows, and which keys, fit a schema: what a keeper may be sent.
use Rattle.std.specs.Prelude.{◌≡◌, ◌<◌, ◌≤◌, ℕ, Bool, true, false, not, ◌&&◌, ◌||◌, List, [], ◌∷◌, length, nat_lt, nat_eq, suc}
use Rattle.std.specs.List.{list_all, list_any}
use Rattle.std.specs.Cmp.Lexicographic.{pointwise}
use Rattle.base_core.specs.declared.ids.ColumnNo.{ColumnNo}
use Rattle.base_core.specs.declared.ids.TableId.{TableId}
use Rattle.base_core.specs.declared.value.Value.{Value}
use Rattle.schema_core.specs.declared.statement.RowStmt.{RowStmt}
use Rattle.schema_core.specs.declared.statement.RowStmt.TheVariants.{Insert, Update, Delete}
use Rattle.schema_core.specs.declared.statement.Violation.{Violation}
use Rattle.schema_core.specs.declared.statement.Violation.TheVariants as violations
use Rattle.schema_core.specs.declared.table.ColumnSpec.{ColumnSpec}
use Rattle.schema_core.specs.declared.table.TableSpec.{TableSpec}
use Rattle.schema_core.specs.Apply.{table_of, wants_key}
use Rattle.schema_core.specs.Catalog.{Catalog, IsTable, key_columns, spec_of}
use Rattle.schema_core.specs.Tables.{fits, is_null, key_of}

-- the value is NULL or of the column's kind
abbrev pub may_hold : ColumnSpec → Value → Bool
may_hold column value = is_null value || fits column value

-- a row has one value for each column, NULL or of its kind
abbrev pub is_row : TableSpec → List Value → Bool
is_row spec row = pointwise may_hold spec.columns row

-- a key has one value for each key column, of its kind and not NULL
abbrev pub is_key : TableSpec → List Value → Bool
is_key spec key = pointwise fits (key_columns spec) key

-- a key has the values that were given for it; a NULL leaves one open
abbrev pub IsDrawnFor : List Value → List Value → Type 0
IsDrawnFor [] key = key ≡ []
IsDrawnFor (given ∷ more) [] = ⊥
IsDrawnFor (given ∷ more) (drawn ∷ key) = (is_null given ≡ false → drawn ≡ given) × IsDrawnFor more key

-- the columns from this place on; cells are of columns at or behind the place, in order, each once, none of the key
abbrev pub are_cells : ℕ → List ColumnSpec → List (ColumnNo × Value) → Bool
are_cells place columns [] = true
are_cells place [] (cell ∷ cells) = false
are_cells place (column ∷ columns) (cell ∷ cells) =
    (nat_lt place cell.0.0 && are_cells (suc place) columns (cell ∷ cells)) || (nat_eq place cell.0.0 && not column.key && may_hold column cell.1 && are_cells (suc place) columns cells)

-- New rows of one statement: 1 to 1000 of them, with one value for each column. All give their keys or all leave them open for generated ones, and
-- there is one row where a generated key is all that it has.
pub record AreNewRows (spec : TableSpec) (rows : List (List Value)) : Type 0 where
  pub some : 0 < length rows
  pub few : length rows ≤ 1000
  pub wide : list_all (is_row spec) rows ≡ true
  pub alike : (list_all (wants_key spec) rows || not (list_any (wants_key spec) rows)) ≡ true
  pub alone : length spec.columns ≡ 1 → list_any (wants_key spec) rows ≡ true → length rows ≡ 1

-- the statement names a declared table, and its cells fit the table's columns
abbrev pub IsWellFormed : Catalog → RowStmt → Type 0
IsWellFormed schema (Insert table rows) = IsTable schema table × AreNewRows (spec_of schema table) rows
IsWellFormed schema (Update table key cells) = IsTable schema table × (is_key (spec_of schema table) key ≡ true) × (0 < length cells) × (are_cells 0 (spec_of schema table).columns cells ≡ true)
IsWellFormed schema (Delete table key) = IsTable schema table × (is_key (spec_of schema table) key ≡ true)

-- one key for each row, in order, with the values that the row gives for it
abbrev pub AreKeysOf : TableSpec → List (List Value) → List (List Value) → Type 0
AreKeysOf spec [] keys = keys ≡ []
AreKeysOf spec (row ∷ rows) [] = ⊥
AreKeysOf spec (row ∷ rows) (key ∷ keys) = (is_key spec key ≡ true) × IsDrawnFor (key_of spec row) key × AreKeysOf spec rows keys

-- what a keeper answers to an accepted statement: the keys of the rows of an INSERT, else the statement's key alone
abbrev pub AreKeysFor : Catalog → RowStmt → List (List Value) → Type 0
AreKeysFor schema (Insert table rows) keys = AreKeysOf (spec_of schema table) rows keys
AreKeysFor schema (Update table key cells) keys = keys ≡ key ∷ []
AreKeysFor schema (Delete table key) keys = keys ≡ key ∷ []

-- which violations a statement may meet
abbrev pub MayViolate : RowStmt → Violation → Type 0
MayViolate statement (violations.NoTable absent) = absent ≡ table_of statement
MayViolate (Insert table rows) violations.Missing = ⊥
MayViolate (Update table key cells) violations.KeysSpent = ⊥
MayViolate (Update table key cells) violations.PrimaryKey = ⊥
MayViolate (Delete table key) violations.Foreign = Unit {0}
MayViolate (Delete table key) violation = ⊥
MayViolate statement violation = Unit {0}
