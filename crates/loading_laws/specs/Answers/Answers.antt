-- What selects of a class's rows answer that also ask for keys: of all its rows those that have the keys.
use Rattle.std.specs.Prelude.{◌≡◌, false, List, [], filter, length, map, Ok}
use Rattle.std.specs.List.{AllByRecursion, list_any}
use Rattle.base_core.specs.declared.ids.ClassId.{ClassId}
use Rattle.base_core.specs.declared.value.Value.{Value}
use Rattle.schema_core.specs.Tables.{has_null, same_values}
use Rattle.sql_semantics.specs.Eval.{Row, Tables, column}
use Rattle.sql_semantics.specs.Rows.{Frame, answer, at}
use Rattle.class_mapping.specs.Mapped.{Mapped}
use Rattle.load_columns.specs.declared.placing.SourceColumn.{SourceColumn}
use Rattle.load_columns.specs.Conditions.{has_one_of, has_values}
use Rattle.load_columns.specs.Placing.{attribute_columns, from_root}
use Rattle.load_selects.specs.Selects.{class_rows}

-- ---- joined rows

-- what stands in a column of the sources at a joined row
abbrev pub value_at : Frame → Row → SourceColumn → Value
value_at frame row place = column (at frame row) place.source place.column.0

abbrev pub values_at : Frame → List SourceColumn → Row → List Value
values_at frame columns row = map (value_at frame row) columns

-- as many values as there are columns, none of them NULL
pub record IsKeyOf (columns : List SourceColumn) (key : List Value) : Type 0 where
  pub long : length columns ≡ length key
  pub known : has_null key ≡ false

-- what a row of these items has for columns, which are among them
pub record Reads (items columns : List SourceColumn) (read : Row → List Value) : Type 0 where
  pub same : (frame : Frame) (row : Row) → read (values_at frame items row) ≡ values_at frame columns row
  pub long : (row : Row) → length (read row) ≡ length columns

-- ---- the laws

-- the rows of a class over these tables
abbrev pub AreRowsOf : Mapped → ClassId → Tables → List Row → Type 0
AreRowsOf mapped class tables all = answer mapped.schema tables (class_rows mapped class []) ≡ Ok all

-- To the select of a class's rows whose columns hold a key all its rows are answered that have the key there.
abbrev pub KeyedRowsAreFilters : Type 0
KeyedRowsAreFilters =
    (mapped : Mapped) (class : ClassId) (tables : Tables) (columns : List SourceColumn) (read : Row → List Value) (key : List Value) (all rows : List Row)
    → Reads (attribute_columns mapped class (from_root 0)) columns read → IsKeyOf columns key → AreRowsOf mapped class tables all
    → answer mapped.schema tables (class_rows mapped class (has_values columns key)) ≡ Ok rows → rows ≡ filter (λ row. same_values (read row) key) all

-- The same of several keys: the rows that have one of them.
abbrev pub RowsOfKeysAreFilters : Type 0
RowsOfKeysAreFilters =
    (mapped : Mapped) (class : ClassId) (tables : Tables) (columns : List SourceColumn) (read : Row → List Value) (keys : List (List Value)) (all rows : List Row)
    → Reads (attribute_columns mapped class (from_root 0)) columns read → AllByRecursion (IsKeyOf columns) keys → AreRowsOf mapped class tables all
    → answer mapped.schema tables (class_rows mapped class (has_one_of columns keys)) ≡ Ok rows → rows ≡ filter (λ row. list_any (same_values (read row)) keys) all
