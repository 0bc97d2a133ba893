-- What a bulk statement takes of its table, and makes of it, over the tables before it: rows in the order of their keys, for each its condition and then its expressions, in order.
use Rattle.std.specs.Prelude.{ℕ, Bool, true, if◌then◌else◌, List, [], ◌∷◌, ◌++◌, replicate, Option, Some, None, Ok}
use Rattle.base_core.specs.declared.ids.ColumnNo.{ColumnNo}
use Rattle.base_core.specs.declared.value.Value.{Value}
use Rattle.base_core.specs.declared.value.Value.TheVariants.{Null}
use Rattle.schema_core.specs.Apply.{with_cells}
use Rattle.schema_core.specs.Tables.{Rows}
use Rattle.expr_types.specs.declared.expr.Expr.{Expr}
use Rattle.sql_semantics.specs.Checked.{Checked, ◌>>=◌}
use Rattle.sql_semantics.specs.Truth.{passes}
use Rattle.sql_semantics.specs.Eval.{Place, Row, Tables, meaning_of}

-- a row of the table, which alone is in scope
abbrev pub at : Tables → Row → Place
at tables row = record { row = row; starts = 0 ∷ []; tables = tables; group = None }

-- the statement takes the row: without a condition every one, else those for which it is true
abbrev pub takes : Tables → Option Expr → Row → Checked Bool
takes tables None row = Ok true
takes tables (Some e) row = meaning_of e (at tables row) >>= λ v. Ok (passes v)

-- what is written into a column: NULL, or the value of an expression at the row as it was
abbrev pub value_for : Tables → Row → Option Expr → Checked Value
value_for tables row None = Ok Null
value_for tables row (Some e) = meaning_of e (at tables row)

-- the cells that are written, behind those so far
abbrev pub cells_from : Tables → Row → List (ColumnNo × Value) → List (ColumnNo × Option Expr) → Checked (List (ColumnNo × Value))
cells_from tables row done [] = Ok done
cells_from tables row done (cell ∷ cells) = value_for tables row cell.1 >>= λ v. cells_from tables row (done ++ (cell.0, v) ∷ []) cells

-- the row with the cells written
abbrev pub rewritten_row : Tables → List (ColumnNo × Option Expr) → Row → Checked Row
rewritten_row tables cells row = cells_from tables row [] cells >>= λ written. Ok (with_cells row written)

-- the rows behind those so far, with one that is taken
abbrev pub one_more : Tables → List (ColumnNo × Option Expr) → Rows → List Value × Row → Bool → Checked Rows
one_more tables cells done entry taken = if taken then (rewritten_row tables cells entry.1 >>= λ row. Ok (done ++ (entry.0, row) ∷ [])) else Ok done

-- the rows that an UPDATE takes, each under its key with its cells written, behind those so far
abbrev pub updated_from : Tables → List (ColumnNo × Option Expr) → Option Expr → Rows → Rows → Checked Rows
updated_from tables cells filter done [] = Ok done
updated_from tables cells filter done (entry ∷ rows) = takes tables filter entry.1 >>= λ taken. one_more tables cells done entry taken >>= λ more. updated_from tables cells filter more rows

-- the keys of the rows that a DELETE takes, behind those so far
abbrev pub deleted_from : Tables → Option Expr → List (List Value) → Rows → Checked (List (List Value))
deleted_from tables filter done [] = Ok done
deleted_from tables filter done (entry ∷ rows) = takes tables filter entry.1 >>= λ taken. deleted_from tables filter (if taken then done ++ entry.0 ∷ [] else done) rows

-- each column with its value
abbrev pub column_values : List ColumnNo → List Value → List (ColumnNo × Value)
column_values (column ∷ columns) (v ∷ values) = (column, v) ∷ column_values columns values
column_values columns values = []

-- the row of so many columns that an INSERT puts in: the values in their columns, NULL in the others
abbrev pub inserted_row : ℕ → List ColumnNo → List Value → Row
inserted_row width columns values = with_cells (replicate width Null) (column_values columns values)
