-- The rows of several sources, one for each: what stands in their columns, and whether conditions are true there.
use Rattle.std.specs.Prelude.{ℕ, ◌+◌, Bool, false, List, [], ◌∷◌, ◌++◌, length, map, slice_get, None, Ok, Err}
use Rattle.std.specs.List.{list_all}
use Rattle.std.specs.Option.{option_and_then}
use Rattle.base_core.specs.declared.value.Value.{Value}
use Rattle.expr_types.specs.declared.expr.Expr.{Expr}
use Rattle.sql_semantics.specs.Checked.{Checked}
use Rattle.sql_semantics.specs.Truth.{passes}
use Rattle.sql_semantics.specs.Eval.{Row, Tables, Place, item_or_null, meaning_of}
use Rattle.load_columns.specs.declared.placing.SourceColumn.{SourceColumn}

-- ---- places

-- the rows one after another
abbrev pub whole : List Row → Row
whole [] = []
whole (row ∷ rows) = row ++ whole rows

-- where each of them begins
abbrev pub starts_from : ℕ → List Row → List ℕ
starts_from start [] = []
starts_from start (row ∷ rows) = start ∷ starts_from (start + length row) rows

-- where an expression over these sources is evaluated
abbrev pub place_of : Tables → List Row → Place
place_of tables rows = record { row = whole rows; starts = starts_from 0 rows; tables = tables; group = None }

-- ---- columns

-- what stands in a column of a source, NULL where there is none
abbrev pub cell : List Row → SourceColumn → Value
cell rows column = item_or_null (option_and_then (λ row. slice_get row column.column.0) (slice_get rows column.source))

abbrev pub cells : List SourceColumn → List Row → Row
cells columns rows = map (cell rows) columns

-- ---- conditions

abbrev pub is_true : Checked Value → Bool
is_true (Ok value) = passes value
is_true (Err refusal) = false

-- a condition is true at these rows
abbrev pub holds_at : Tables → Expr → List Row → Bool
holds_at tables condition rows = is_true (meaning_of condition (place_of tables rows))

abbrev pub all_hold : Tables → List Expr → List Row → Bool
all_hold tables conditions rows = list_all (λ condition. holds_at tables condition rows) conditions
