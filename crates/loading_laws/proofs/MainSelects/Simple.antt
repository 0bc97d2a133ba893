-- Conditions over columns alone: they name no source, and stand wherever their columns do.
use Rattle.std.proofs.Common.{◌≡◌, ℕ, ◌<◌, Bool, true, false, ◌&&◌, List, [], ◌∷◌, ◌++◌, length, map, Option, Ok, sym, ap, subst, ◌∙◌}
use Rattle.std.specs.Prelude.{is_some, slice_get}
use Rattle.std.specs.Option.{option_and_then}
use Rattle.std.specs.List.{AllByRecursion, list_all}
use Rattle.std.proofs.lemmas.List.{length-map, map-append}
use Rattle.base_core.proofs.Lists.{get_before}
use Rattle.base_core.specs.declared.ids.TableId.{TableId}
use Rattle.base_core.specs.declared.value.Kind.TheVariants as kinds
use Rattle.base_core.specs.declared.value.Value.{Value}
use Rattle.schema_core.specs.declared.table.ColumnSpec.{ColumnSpec}
use Rattle.schema_core.specs.Catalog.{Catalog, spec_of}
use Rattle.expr_types.specs.declared.expr.CompareOp.TheVariants.{Equal}
use Rattle.expr_types.specs.declared.expr.Expr.{Expr}
use Rattle.expr_types.specs.declared.expr.Expr.TheOpen.{Expr-F}
use Rattle.expr_types.specs.declared.expr.Origin.{Origin}
use Rattle.expr_types.specs.Level.{operands, scope_below}
use Rattle.expr_types.proofs.Folds.{fold-Column, fold-Compare, fold-InList}
use Rattle.sql_semantics.specs.Kinds.{Judged, Scope, all_alike, column_in, expression_kind, gives, kind_where, value_kind}
use Rattle.sql_semantics.specs.Plain.{adds_name, fits, is_given, name_of, names_apart}
use Rattle.sql_semantics.proofs.Equations.{fits-Column, fits-InList, judged-Column, judged-InList}
use Rattle.load_columns.specs.declared.placing.SourceColumn.{SourceColumn}
use Rattle.load_columns.specs.Conditions.{column_of, equal_column, equal_columns, is_in}
use Rattle.collection_selects.proofs.Plain.{IsPart}

abbrev Names : Type 0
Names = List (List ℕ)

-- whatever the names of the sources are, no source of the condition has one of them
abbrev pub IsSimple : Catalog → Expr → Type 0
IsSimple schema e = (names : Names) → names_apart schema e names ≡ true

abbrev named_step : Catalog → Expr-F (Names → Bool) → Names → Bool
named_step schema level names = adds_name schema names level && list_all (λ apart. apart (scope_below (λ (around : Names) (origin : Origin). around ++ name_of schema origin ∷ []) names level)) (operands level)

column_simple : (schema : Catalog) (column : SourceColumn) → IsSimple schema (column_of column)
unfolding names_apart
column_simple schema column names = ap (λ (f : Names → Bool). f names) (fold-Column (Names → Bool) (named_step schema) column.source column.column)

equal_simple : (schema : Catalog) (one other : SourceColumn) → IsSimple schema (equal_column one other)
unfolding names_apart
equal_simple schema one other names =
    ap (λ (f : Names → Bool). f names) (fold-Compare (Names → Bool) (named_step schema) Equal (column_of one) (column_of other))
    ∙ ap (λ (b : Bool). b && (names_apart schema (column_of other) names && true)) (column_simple schema one names) ∙ ap (λ (b : Bool). b && true) (column_simple schema other names)

pub in_simple : (schema : Catalog) (column : SourceColumn) (values : List Value) → IsSimple schema (is_in column values)
unfolding names_apart
in_simple schema column values names =
    ap (λ (f : Names → Bool). f names) (fold-InList (Names → Bool) (named_step schema) false (column_of column) values) ∙ ap (λ (b : Bool). b && true) (column_simple schema column names)

pub equals_simple : (schema : Catalog) (columns others : List SourceColumn) → AllByRecursion (IsSimple schema) (equal_columns columns others)
equals_simple schema [] others = tt
equals_simple schema (column ∷ columns) [] = tt
equals_simple schema (column ∷ columns) (other ∷ others) = (equal_simple schema column other, equals_simple schema columns others)

abbrev table_of : Origin → TableId
table_of origin = origin.table

-- such a condition stands under other names of the same tables
part_renamed : (schema : Catalog) (sources others : List Origin) (e : Expr) → map table_of sources ≡ map table_of others → IsSimple schema e → IsPart schema sources e → IsPart schema others e
part_renamed schema sources others e same simple h = record {
  stands = record {
    fitting = ap (fits schema e) (sym same) ∙ h.stands.fitting;
    typed = ap (expression_kind schema e) (sym same) ∙ h.stands.typed;
    in_normal_form = h.stands.in_normal_form;
    full_lists = h.stands.full_lists;
    apart = simple (map (name_of schema) others);
    no_aggregate = h.stands.no_aggregate;
  };
  whole = h.whole;
}

pub parts_renamed : (schema : Catalog) (sources others : List Origin) (es : List Expr) → map table_of sources ≡ map table_of others → AllByRecursion (IsSimple schema) es → AllByRecursion (IsPart schema sources) es
    → AllByRecursion (IsPart schema others) es
parts_renamed schema sources others [] same simple h = tt
parts_renamed schema sources others (e ∷ es) same simple h = (part_renamed schema sources others e same simple.0 h.0, parts_renamed schema sources others es same simple.1 h.1)

-- ---- a list of values of a column

fits_in : (schema : Catalog) (scope : Scope) (column : SourceColumn) (values : List Value)
    → fits schema (is_in column values) scope ≡ (list_all is_given values && ((is_some (column_in schema scope column.source column.column) && true) && true))
fits_in schema scope column values = fits-InList schema scope false (column_of column) values ∙ ap (λ (b : Bool). list_all is_given values && (b && true)) (fits-Column schema scope column.source column.column)

kind_in : (schema : Catalog) (scope : Scope) (column : SourceColumn) (values : List Value)
    → expression_kind schema (is_in column values) scope ≡ gives kinds.Boolean (all_alike (Ok (kind_where (column_in schema scope column.source column.column)) ∷ map (λ v. Ok (value_kind v)) values))
kind_in schema scope column values =
    judged-InList schema scope false (column_of column) values
    ∙ ap (λ (judged : Judged). gives kinds.Boolean (all_alike (judged ∷ map (λ v. Ok (value_kind v)) values))) (judged-Column schema scope column.source column.column)

-- it stands as soon as its source does
pub in_before : (schema : Catalog) (sources more : List Origin) (column : SourceColumn) (values : List Value) → column.source < length sources → IsPart schema (sources ++ more) (is_in column values)
    → IsPart schema sources (is_in column values)
in_before schema sources more column values less h =
    let within : column.source < length (map table_of sources) = subst (λ (n : ℕ). column.source < n) (sym (length-map sources table_of)) less in
    let same : column_in schema (map table_of sources) column.source column.column ≡ column_in schema (map table_of (sources ++ more)) column.source column.column =
    ap (λ (found : Option TableId). option_and_then (λ table. slice_get (spec_of schema table).columns column.column.0) found)
    (sym (ap (λ (tables : List TableId). slice_get tables column.source) (map-append table_of sources more) ∙ get_before (map table_of sources) (map table_of more) column.source within)) in
    record {
      stands = record {
        fitting =
            fits_in schema (map table_of sources) column values ∙ ap (λ (found : Option ColumnSpec). list_all is_given values && ((is_some found && true) && true)) same
            ∙ sym (fits_in schema (map table_of (sources ++ more)) column values) ∙ h.stands.fitting;
        typed =
            kind_in schema (map table_of sources) column values
            ∙ ap (λ (found : Option ColumnSpec). gives kinds.Boolean (all_alike (Ok (kind_where found) ∷ map (λ v. Ok (value_kind v)) values))) same
            ∙ sym (kind_in schema (map table_of (sources ++ more)) column values) ∙ h.stands.typed;
        in_normal_form = h.stands.in_normal_form;
        full_lists = h.stands.full_lists;
        apart = in_simple schema column values (map (name_of schema) sources);
        no_aggregate = h.stands.no_aggregate;
      };
      whole = h.whole;
    }
