-- The lines of replies, byte by byte.
use Rattle.std.specs.Prelude.{ℕ, List, ◌++◌, codes, length}
use Rattle.std.specs.List.{flat_map}
use Rattle.std.specs.Fmt.{decimal}
use Rattle.base_core.specs.declared.refusal.Refusal.{Refusal}
use Rattle.base_core.specs.declared.value.Value.{Value}
use Rattle.printing.specs.Texts.{Names, with_separators, refusal_text, row_text}
use Rattle.schema_core.specs.declared.table.ColumnSpec.{ColumnSpec}
use Rattle.schema_core.specs.declared.table.TableSpec.{TableSpec}

-- the names of a table's columns, between commas
abbrev pub columns_text : List ColumnSpec → List ℕ
columns_text columns = with_separators (codes ", ") (λ column. column.name) columns

-- the line `table NAME (COLUMN, COLUMN)`
abbrev pub table_line : TableSpec → List ℕ
table_line spec = codes "table " ++ spec.name ++ codes " (" ++ columns_text spec.columns ++ codes ")\n"

-- a row's line: its values in parentheses, behind two spaces
abbrev pub row_line : List Value → List ℕ
row_line row = codes "  " ++ row_text row ++ codes "\n"

-- a table's line, and one for each of its rows
abbrev pub table_text : TableSpec → List (List Value) → List ℕ
table_text spec rows = table_line spec ++ flat_map row_line rows

-- a row of a select on a line of its own: its values in parentheses
abbrev pub answer_line : List Value → List ℕ
answer_line row = row_text row ++ codes "\n"

-- the line `rows N`
abbrev pub count_line : ℕ → List ℕ
count_line count = codes "rows " ++ decimal count ++ codes "\n"

-- the rows of a select, each on its line, and behind them how many they are
abbrev pub rows_text : List (List Value) → List ℕ
rows_text rows = flat_map answer_line rows ++ count_line (length rows)

-- the line `error LINE: REFUSAL`
abbrev pub error_line : Names → ℕ → Refusal → List ℕ
error_line names line refusal = codes "error " ++ decimal line ++ codes ": " ++ refusal_text names refusal ++ codes "\n"
