-- Names of a bulk statement as it is written.
use Rattle.std.specs.Prelude.{ℕ, not, if◌then◌else◌, List, [], ◌∷◌, ◌++◌, length, map, ◌==◌, Option, None, is_none}
use Rattle.std.specs.Option.{option_map, unwrap_or}
use Rattle.base_core.specs.declared.ids.ColumnNo.{ColumnNo}
use Rattle.base_core.specs.declared.refusal.Refusal.{Refusal}
use Rattle.base_core.specs.declared.value.Value.{Value}
use Rattle.base_core.specs.declared.refusal.RequestKind.TheVariants.{WrongKind}
use Rattle.schema_core.specs.declared.table.TableSpec.{TableSpec}
use Rattle.schema_core.specs.Catalog.{Catalog, has_name, spec_of}
use Rattle.expr_types.specs.declared.expr.Expr.{Expr}
use Rattle.expr_types.specs.declared.select.Bulk.{Bulk}
use Rattle.expr_types.specs.declared.select.Bulk.TheVariants as bulk
use Rattle.script_types.specs.declared.expression.Syn.{Syn}
use Rattle.script_types.specs.declared.select.SynBulk.{SynBulk}
use Rattle.script_types.specs.declared.select.SynBulk.TheVariants.{Insert, Update, Delete}
use Rattle.script_names.specs.Faults.{fault_if, faults_if_given}
use Rattle.script_names.specs.Scopes.{Scope, find_column, outer_scope}
use Rattle.script_names.specs.Naming.{name_faults, named_expression, table_faults, table_number, unknown_name}

-- the declared table alone is in scope, under its own name
abbrev pub scope_alone : List ℕ → Scope
scope_alone table = outer_scope (record { table = table; alias = None } ∷ [])

-- the declaration of the table of a name
abbrev pub spec_named : Catalog → List ℕ → TableSpec
spec_named schema table = spec_of schema (table_number schema table)

-- ---- faults

-- a column is to be there, and to be given once
abbrev pub column_faults : TableSpec → List (List ℕ) → List ℕ → List Refusal
column_faults spec before name = if is_none (find_column spec name) then unknown_name name else fault_if (has_name before name) WrongKind

-- columns in the order of the text, behind those of these names
abbrev pub columns_faults : TableSpec → List (List ℕ) → List (List ℕ) → List Refusal
columns_faults spec before [] = []
columns_faults spec before (name ∷ names) = column_faults spec before name ++ columns_faults spec (before ++ name ∷ []) names

-- a cell: its column before what is written into it
abbrev pub cell_faults : Catalog → TableSpec → Scope → List (List ℕ) → List ℕ × Option Syn → List Refusal
cell_faults schema spec scope before cell = column_faults spec before cell.0 ++ faults_if_given (λ e. name_faults schema e scope) cell.1

-- cells in the order of the text
abbrev pub cells_faults : Catalog → TableSpec → Scope → List (List ℕ) → List (List ℕ × Option Syn) → List Refusal
cells_faults schema spec scope before [] = []
cells_faults schema spec scope before (cell ∷ cells) = cell_faults schema spec scope before cell ++ cells_faults schema spec scope (before ++ cell.0 ∷ []) cells

abbrev pub insert_faults : Catalog → List ℕ → List (List ℕ) → List Value → List Refusal
insert_faults schema table columns values =
    table_faults schema table ++ columns_faults (spec_named schema table) [] columns ++ fault_if (not (length values == length columns)) WrongKind

abbrev pub update_faults : Catalog → List ℕ → List (List ℕ × Option Syn) → Option Syn → List Refusal
update_faults schema table cells filter =
    table_faults schema table ++ cells_faults schema (spec_named schema table) (scope_alone table) [] cells
    ++ faults_if_given (λ e. name_faults schema e (scope_alone table)) filter

abbrev pub delete_faults : Catalog → List ℕ → Option Syn → List Refusal
delete_faults schema table filter = table_faults schema table ++ faults_if_given (λ e. name_faults schema e (scope_alone table)) filter

-- names that stand for nothing, columns that are given twice and wrong numbers of operands or values, in reading order
abbrev pub bulk_name_faults : Catalog → SynBulk → List Refusal
bulk_name_faults schema (Insert table columns values) = insert_faults schema table columns values
bulk_name_faults schema (Update table cells filter) = update_faults schema table cells filter
bulk_name_faults schema (Delete table filter) = delete_faults schema table filter

-- ---- what is said

-- a number that no column has, for a name that stands for none
abbrev pub column_number : TableSpec → List ℕ → ColumnNo
column_number spec name = unwrap_or (find_column spec name) (record { 0 = length spec.columns })

abbrev pub named_cell : Catalog → TableSpec → Scope → List ℕ × Option Syn → ColumnNo × Option Expr
named_cell schema spec scope cell = (column_number spec cell.0, option_map (λ e. named_expression schema e scope) cell.1)

abbrev pub named_insert : Catalog → List ℕ → List (List ℕ) → List Value → Bulk
named_insert schema table columns values = bulk.Insert (table_number schema table) (map (column_number (spec_named schema table)) columns) values

abbrev pub named_update : Catalog → List ℕ → List (List ℕ × Option Syn) → Option Syn → Bulk
named_update schema table cells filter =
    bulk.Update (table_number schema table) (map (named_cell schema (spec_named schema table) (scope_alone table)) cells)
    (option_map (λ e. named_expression schema e (scope_alone table)) filter)

abbrev pub named_delete : Catalog → List ℕ → Option Syn → Bulk
named_delete schema table filter = bulk.Delete (table_number schema table) (option_map (λ e. named_expression schema e (scope_alone table)) filter)

-- the statement with numbers for its names, in the form in which it is written
abbrev pub named_bulk : Catalog → SynBulk → Bulk
named_bulk schema (Insert table columns values) = named_insert schema table columns values
named_bulk schema (Update table cells filter) = named_update schema table cells filter
named_bulk schema (Delete table filter) = named_delete schema table filter
