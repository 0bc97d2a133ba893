-- Operands of a statement that are of another kind than their places want, in reading order, as it is written.
use Rattle.std.specs.Prelude.{List, [], ◌∷◌, ◌++◌, Option, Result, Ok, Err}
use Rattle.std.specs.List.{flat_map}
use Rattle.base_core.specs.declared.ids.ColumnNo.{ColumnNo}
use Rattle.base_core.specs.declared.ids.TableId.{TableId}
use Rattle.base_core.specs.declared.value.Value.{Value}
use Rattle.base_core.specs.declared.value.Value.TheVariants as value
use Rattle.base_core.specs.declared.value.Kind.{Kind}
use Rattle.base_core.specs.declared.value.Kind.TheVariants.{Boolean}
use Rattle.base_core.specs.declared.refusal.Refusal.{Refusal}
use Rattle.schema_core.specs.Catalog.{Catalog}
use Rattle.expr_types.specs.declared.expr.Expr.{Expr}
use Rattle.expr_types.specs.declared.select.Bulk.{Bulk}
use Rattle.expr_types.specs.declared.select.Bulk.TheVariants.{Insert, Update, Delete}
use Rattle.expr_types.specs.declared.select.Joined.{Joined}
use Rattle.expr_types.specs.declared.select.Select.{Select}
use Rattle.sql_semantics.specs.Kinds.{Scope, all_of, column_kind, expression_kind, kind_or_mismatch, value_kind}
use Rattle.sql_semantics.specs.Shapes.{scope_of}
use Rattle.script_names.specs.Faults.{faults_if_given}

-- ---- refusals

-- the refusal of an answer, if it is one
abbrev pub fault_of : {A : Type 0} → Result A Refusal → List Refusal
fault_of (Ok a) = []
fault_of (Err e) = e ∷ []

-- what is refused first of two things that are judged in order
abbrev pub first_refusal : Result (Unit {0}) Refusal → Result (Unit {0}) Refusal → Result (Unit {0}) Refusal
first_refusal (Err e) second = Err e
first_refusal (Ok u) second = second

-- ---- selects

-- the first operand of another kind than its place wants
abbrev pub mismatch : Catalog → Scope → Expr → List Refusal
mismatch schema scope e = fault_of (expression_kind schema e scope)

-- the same where the expression itself is to be of a kind
abbrev pub mismatch_for : Catalog → Scope → Kind → Expr → List Refusal
mismatch_for schema scope wanted e = fault_of (all_of wanted (expression_kind schema e scope ∷ []))

-- a condition is true or false; that of a join stands under the sources up to its own
abbrev pub join_mismatches : Catalog → Scope → List Joined → List Refusal
join_mismatches schema before [] = []
join_mismatches schema before (join ∷ joins) =
    mismatch_for schema (before ++ join.origin.table ∷ []) Boolean join.on ++ join_mismatches schema (before ++ join.origin.table ∷ []) joins

abbrev pub mismatches_under : Catalog → Scope → Select → List Refusal
mismatches_under schema scope s =
    flat_map (λ item. mismatch schema scope item.0) s.items
    ++ join_mismatches schema (s.first.table ∷ []) s.joins
    ++ faults_if_given (mismatch_for schema scope Boolean) s.filter
    ++ flat_map (mismatch schema scope) s.groups
    ++ faults_if_given (mismatch_for schema scope Boolean) s.having
    ++ flat_map (λ key. mismatch schema scope key.0) s.order

-- operands of other kinds than their places want, in reading order
unfoldable pub mismatches : Catalog → Select → List Refusal
mismatches schema s = mismatches_under schema (scope_of s) s

-- ---- bulk statements

-- NULL is for every column, another value for one of its kind
abbrev pub value_faults : Catalog → TableId → ColumnNo → Value → List Refusal
value_faults schema table column value.Null = []
value_faults schema table column v = fault_of (kind_or_mismatch (column_kind schema (table ∷ []) 0 column) (value_kind v))

abbrev pub values_faults : Catalog → TableId → List ColumnNo → List Value → List Refusal
values_faults schema table (column ∷ columns) (v ∷ values) = value_faults schema table column v ++ values_faults schema table columns values
values_faults schema table columns values = []

abbrev pub cell_mismatch : Catalog → TableId → ColumnNo × Option Expr → List Refusal
cell_mismatch schema table cell = faults_if_given (mismatch_for schema (table ∷ []) (column_kind schema (table ∷ []) 0 cell.0)) cell.1

-- values and operands of other kinds than their places want, in reading order
abbrev pub bulk_mismatches : Catalog → Bulk → List Refusal
bulk_mismatches schema (Insert table columns values) = values_faults schema table columns values
bulk_mismatches schema (Update table cells filter) =
    flat_map (cell_mismatch schema table) cells ++ faults_if_given (mismatch_for schema (table ∷ []) Boolean) filter
bulk_mismatches schema (Delete table filter) = faults_if_given (mismatch_for schema (table ∷ []) Boolean) filter
