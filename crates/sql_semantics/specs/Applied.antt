-- What a bulk statement does: the number of its rows and the tables that it leaves, or the first refusal.
use Rattle.std.specs.Prelude.{ℕ, List, [], ◌∷◌, ◌++◌, map, length, Option, None, Some, Ok, Err}
use Rattle.base_core.specs.declared.ids.ColumnNo.{ColumnNo}
use Rattle.base_core.specs.declared.ids.TableId.{TableId}
use Rattle.base_core.specs.declared.value.Value.{Value}
use Rattle.base_core.specs.declared.refusal.Refusal.{Refusal}
use Rattle.base_core.specs.declared.refusal.Refusal.TheVariants as refusals
use Rattle.schema_core.specs.Apply as row
use Rattle.schema_core.specs.Catalog.{Catalog, spec_of}
use Rattle.schema_core.specs.Judged.{Judged, change_all, remove_all}
use Rattle.schema_core.specs.Refusals.{violation_refusal}
use Rattle.schema_core.specs.Tables.{Rows, Tables, rows_in}
use Rattle.expr_types.specs.declared.expr.Expr.{Expr}
use Rattle.expr_types.specs.declared.select.Bulk.{Bulk}
use Rattle.expr_types.specs.declared.select.Bulk.TheVariants as bulk
use Rattle.sql_semantics.specs.Checked.{Checked, ◌>>=◌}
use Rattle.sql_semantics.specs.Created.{bare}
use Rattle.sql_semantics.specs.Rows.{require_created, flat, named_where}
use Rattle.sql_semantics.specs.Taken.{deleted_from, inserted_row, updated_from}

-- the number of rows and the tables then, or the first refusal
abbrev pub Outcome : Type 0
Outcome = Checked (ℕ × Tables)

-- the table that is written
abbrev pub table_of : Bulk → TableId
table_of (bulk.Insert table columns values) = table
table_of (bulk.Update table cells filter) = table
table_of (bulk.Delete table filter) = table

-- ---- tables that are not there

-- the rows of the written table, which stands first in the text
abbrev pub rows_or_refusal : TableId → Option Rows → Checked Rows
rows_or_refusal table None = Err (refusals.OperationalError table)
rows_or_refusal table (Some rows) = Ok rows

-- the tables of each `exists`, in reading order
abbrev pub named_in : List (ColumnNo × Option Expr) → Option Expr → List ℕ
named_in cells filter = flat (map (λ cell. named_where cell.1) cells) ++ named_where filter

-- ---- the judgement on what is left

-- an answer, or the refusal of a statement that violates a rule of its table
abbrev pub of_judged : {A : Type 0} → TableId → Judged A → Checked A
of_judged table (Ok a) = Ok a
of_judged table (Err violation) = Err (violation_refusal table violation)

-- so many rows, and the tables that are left
abbrev pub count_rows : TableId → ℕ → Judged Tables → Outcome
count_rows table count left = of_judged table left >>= λ tables. Ok (count, tables)

-- an UPDATE that writes these rows; one that takes no row changes nothing
abbrev pub update_entries : Catalog → Tables → TableId → Rows → Rows → Outcome
update_entries schema tables table rows [] = Ok (0, tables)
update_entries schema tables table rows (entry ∷ entries) = count_rows table (length (entry ∷ entries)) (change_all schema tables table rows (entry ∷ entries))

-- a DELETE of the rows of these keys; one that takes no row changes nothing
abbrev pub delete_keys : Catalog → Tables → TableId → Rows → List (List Value) → Outcome
delete_keys schema tables table rows [] = Ok (0, tables)
delete_keys schema tables table rows (key ∷ keys) = count_rows table (length (key ∷ keys)) (remove_all schema tables table rows (key ∷ keys))

-- an INSERT of one row does what the statement on that row does
abbrev pub of_row : TableId → row.Outcome → Outcome
of_row table done = of_judged table done >>= λ answer. Ok (1, answer.1)

-- an INSERT into a table that has these rows
abbrev pub insert : Catalog → Tables → TableId → List ColumnNo → List Value → Rows → Outcome
insert schema tables table columns values rows = of_row table (row.insert_rows schema tables table rows (inserted_row (length (spec_of schema table).columns) columns values ∷ []))

-- an UPDATE of a table that has these rows
abbrev pub update : Catalog → Tables → TableId → List (ColumnNo × Option Expr) → Option Expr → Rows → Outcome
update schema tables table cells filter rows =
    require_created (bare tables) (named_in cells filter) >>= λ _. updated_from (bare tables) cells filter [] rows >>= λ entries. update_entries schema tables table rows entries

-- a DELETE of a table that has these rows
abbrev pub delete : Catalog → Tables → TableId → Option Expr → Rows → Outcome
delete schema tables table filter rows =
    require_created (bare tables) (named_in [] filter) >>= λ _. deleted_from (bare tables) filter [] rows >>= λ keys. delete_keys schema tables table rows keys

-- a bulk statement, done in one step and judged on the tables that it leaves
unfoldable pub bulk_outcome : Catalog → Tables → Bulk → Outcome
bulk_outcome schema tables (bulk.Insert table columns values) = rows_or_refusal table (rows_in tables table) >>= insert schema tables table columns values
bulk_outcome schema tables (bulk.Update table cells filter) = rows_or_refusal table (rows_in tables table) >>= update schema tables table cells filter
bulk_outcome schema tables (bulk.Delete table filter) = rows_or_refusal table (rows_in tables table) >>= delete schema tables table filter
