-- What a statement leaves of a table, judged on the rows that it wrote or took out: statements on rows and bulk statements alike.
use Rattle.std.specs.Prelude.{Bool, true, false, not, ◌&&◌, ◌||◌, List, [], ◌∷◌, Result, Ok, Err, if◌then◌else◌}
use Rattle.std.specs.List.{list_any}
use Rattle.base_core.specs.declared.ids.TableId.{TableId}
use Rattle.base_core.specs.declared.value.Value.{Value}
use Rattle.schema_core.specs.declared.statement.Violation.{Violation}
use Rattle.schema_core.specs.declared.statement.Violation.TheVariants.{NotNull, Unique, Foreign}
use Rattle.schema_core.specs.declared.table.ColumnSpec.{ColumnSpec}
use Rattle.schema_core.specs.declared.table.ForeignSpec.{ForeignSpec}
use Rattle.schema_core.specs.declared.table.TableSpec.{TableSpec}
use Rattle.schema_core.specs.Catalog.{Catalog, is_required, spec_of}
use Rattle.schema_core.specs.Tables.{Rows, Tables, cells_of, dangles, is_null, names_row, repeats_unique, some_dangles, with_row, with_rows, without_row}

-- an answer, or the first rule that is violated
abbrev pub Judged : Type 0 → Type 0
Judged A = Result A Violation

-- what comes next, where no rule was violated
abbrev pub and_then : {A B : Type 0} → Judged A → (A → Judged B) → Judged B
and_then (Ok a) next = next a
and_then (Err violation) next = Err violation

-- ---- the rows that are left

-- the rows with these written, each under its key
abbrev pub with_all : Rows → Rows → Rows
with_all rows [] = rows
with_all rows (entry ∷ entries) = with_all (with_row rows entry.0 entry.1) entries

-- the rows without those of these keys
abbrev pub without_all : Rows → List (List Value) → Rows
without_all rows [] = rows
without_all rows (key ∷ keys) = without_all (without_row rows key) keys

-- ---- what rows are tested for

-- a NULL stands in a column that takes none
abbrev pub lacks_value : (ColumnSpec → Bool) → List ColumnSpec → List Value → Bool
lacks_value required [] row = false
lacks_value required (column ∷ columns) [] = false
lacks_value required (column ∷ columns) (cell ∷ row) = (required column && is_null cell) || lacks_value required columns row

-- a written row has a NULL in a column that takes none
abbrev pub some_lacks : TableSpec → Rows → Bool
some_lacks spec entries = list_any (λ entry. lacks_value is_required spec.columns entry.1) entries

-- a written row has a unique value of another row that is left
abbrev pub some_repeats : TableSpec → Rows → Rows → Bool
some_repeats spec left entries = list_any (λ entry. repeats_unique spec left entry.0 entry.1) entries

-- a foreign key of a written row names no row of the tables that are left
abbrev pub some_written_dangles : Catalog → Tables → TableSpec → Rows → Bool
some_written_dangles schema left spec entries = list_any (λ entry. some_dangles schema left spec entry.1) entries

-- a row's foreign key named a row before, and names none of the tables that are left
abbrev pub loses_row : Catalog → Tables → Tables → TableSpec → List Value → ForeignSpec → Bool
loses_row schema before left spec row foreign = names_row schema before foreign (cells_of spec row foreign.columns) && dangles schema left spec row foreign

-- a row that is left refers to one that was taken out
abbrev pub some_loses_row : Catalog → Tables → Tables → Bool
some_loses_row schema before left =
    list_any (λ created. list_any (λ row. list_any (loses_row schema before left (spec_of schema created.0) row.1) (spec_of schema created.0).foreigns) created.1) left

-- ---- the tables that are left

-- the tables with these rows written in one of them, unless one of these repeats a unique value or refers to no row
unfoldable pub write_all : Catalog → Tables → TableId → Rows → Rows → Judged Tables
write_all schema tables table rows entries =
    if some_repeats (spec_of schema table) (with_all rows entries) entries then Err Unique
    else if some_written_dangles schema (with_rows tables table (with_all rows entries)) (spec_of schema table) entries then Err Foreign
    else Ok (with_rows tables table (with_all rows entries))

-- the same, unless one of these lacks a value
unfoldable pub change_all : Catalog → Tables → TableId → Rows → Rows → Judged Tables
change_all schema tables table rows entries = if some_lacks (spec_of schema table) entries then Err NotNull else write_all schema tables table rows entries

-- the tables without the rows of these keys, unless a row that is left refers to one of them
unfoldable pub remove_all : Catalog → Tables → TableId → Rows → List (List Value) → Judged Tables
remove_all schema tables table rows keys =
    if some_loses_row schema tables (with_rows tables table (without_all rows keys)) then Err Foreign else Ok (with_rows tables table (without_all rows keys))
