-- A place in a query, alone or of a group, and the same with one more source.
use Rattle.std.proofs.Common.{◌≡◌, ℕ, zero, suc, ◌+◌, ◌≤◌, Bool, true, false, List, [], ◌∷◌, ◌++◌, length, Option, Some, None, refl, ap, subst, ◌∙◌, arith, length-append}
use Rattle.std.specs.List.{slice_get, AllByRecursion}
use Rattle.std.specs.Option.{option_and_then}
use Rattle.base_core.proofs.Lists.{get_after, get_before}
use Rattle.base_core.specs.declared.ids.TableId.{TableId}
use Rattle.base_core.specs.declared.value.Value.{Value}
use Rattle.base_core.specs.declared.value.Kind.{Kind}
use Rattle.schema_core.specs.declared.table.ColumnSpec.{ColumnSpec}
use Rattle.schema_core.specs.Catalog.{Catalog, kind_of, spec_of}
use Rattle.base_core.specs.declared.ids.ColumnNo.{ColumnNo}
use Rattle.expr_types.specs.declared.expr.Expr.TheVariants as expr
use Rattle.sql_semantics.specs.Kinds.{Scope, column_in}
use Rattle.sql_semantics.specs.Plain.{is_of_kind}
use Rattle.sql_semantics.specs.Eval.{Row, Place, after, inside, item_or_null, rows_in, without_group}
use Rattle.select_laws.specs.Places.{StandsAt, FitsTable, BeginsAt, FitsPlace, FitsGroup, FitsNoRows}
use Rattle.select_laws.proofs.Apart.{Apart, column_inner}

stands_more : (row r : Row) (k : ℕ) (kind : Kind) → StandsAt row k kind → StandsAt (row ++ r) k kind
stands_more row r k kind h = (omega (arith, length-append {A = Value}, h.0), ap (λ o. is_of_kind kind (item_or_null o)) (get_before row r k h.0) ∙ h.1)

stands_after : (row r : Row) (c : ℕ) (kind : Kind) → StandsAt r c kind → StandsAt (row ++ r) (length row + c) kind
stands_after row r c kind h = (omega (arith, length-append {A = Value}, h.0), ap (λ o. is_of_kind kind (item_or_null o)) (get_after row r c) ∙ h.1)

-- columns of the sources at these places
abbrev Columns : (ℕ → Type 0) → Catalog → Row → Scope → List ℕ → Type 0
Columns P schema row scope starts =
    (s c : ℕ) (column : ColumnSpec) → P s → option_and_then (λ table. slice_get (spec_of schema table).columns c) (slice_get scope s) ≡ Some column → BeginsAt row (slice_get starts s) c (kind_of column.kind)

enter_columns : (P : ℕ → Type 0) (schema : Catalog) (row r : Row) (t : TableId) (scope : Scope) (starts : List ℕ) → length starts ≡ length scope → FitsTable schema t r → Columns P schema row scope starts →
    Columns P schema (row ++ r) (scope ++ t ∷ []) (starts ++ length row ∷ [])
enter_columns P schema row r t [] [] e f h zero c column at is = stands_after row r c (kind_of column.kind) (f c column is)
enter_columns P schema row r t [] [] e f h (suc s) c column at is = absurd (cc)
enter_columns P schema row r t [] (x ∷ starts) e f h s c column at is = absurd (omega arith)
enter_columns P schema row r t (u ∷ scope) [] e f h s c column at is = absurd (omega arith)
enter_columns P schema row r t (u ∷ scope) (x ∷ starts) e f h zero c column at is = stands_more row r (x + c) (kind_of column.kind) (h zero c column at is)
enter_columns P schema row r t (u ∷ scope) (x ∷ starts) e f h (suc s) c column at is = enter_columns (λ k. P (suc k)) schema row r t scope starts (omega arith) f (λ k. h (suc k)) s c column at is

-- what a column reads is NULL or of the kind
abbrev pub ReadsAt : Row → Option ℕ → ℕ → Kind → Type 0
ReadsAt row start c kind = is_of_kind kind (after row c start) ≡ true

begins_reads : (row : Row) (start : Option ℕ) (c : ℕ) (kind : Kind) → BeginsAt row start c kind → ReadsAt row start c kind
begins_reads row (Some start) c kind h = h.1
begins_reads row None c kind h = absurd h

-- the place without its group, at a row
abbrev pub member : Place → Row → Place
member p row = record (without_group p) { row = row }

-- the columns of the sources behind the outer ones stand in the row, those of all sources can be read where one is free to, and there each row of the group fits too
pub record Fits (schema : Catalog) (scope : Scope) (outer : ℕ) (free : Bool) (p : Place) : Type 0 where
  pub begins : length p.starts ≡ length scope
  pub columns : (s c : ℕ) (column : ColumnSpec) → outer ≤ s → column_in schema scope s (record { 0 = c }) ≡ Some column → BeginsAt p.row (slice_get p.starts s) c (kind_of column.kind)
  pub shown : free ≡ true → (s c : ℕ) (column : ColumnSpec) → column_in schema scope s (record { 0 = c }) ≡ Some column → ReadsAt p.row (slice_get p.starts s) c (kind_of column.kind)
  pub rows : (table : TableId) → AllByRecursion (FitsTable schema table) (rows_in p.tables table.0)
  pub each : (members : List Row) → free ≡ true → p.group ≡ Some members → AllByRecursion (λ row. FitsPlace schema scope (member p row)) members

no_members : {A : Type 0} (group : Option (List Row)) (rows : List Row) → group ≡ None → group ≡ Some rows → A
no_members None rows e is = absurd (cc)
no_members (Some members) rows e is = absurd (cc)

-- a place without a group
pub alone : (schema : Catalog) (scope : Scope) (free : Bool) (p : Place) → FitsPlace schema scope p → Fits schema scope 0 free p
alone schema scope free p h = record {
  begins = h.begins;
  columns = λ s c column at is. h.columns s c column is;
  shown = λ may s c column is. begins_reads p.row (slice_get p.starts s) c (kind_of column.kind) (h.columns s c column is);
  rows = h.rows;
  each = λ members may is. no_members p.group members h.no_group is;
}

same_members : (group : Option (List Row)) (members rows : List Row) → group ≡ Some members → group ≡ Some rows → members ≡ rows
same_members (Some all) members rows e is = cc
same_members None members rows e is = absurd (cc)

-- a place of a group
pub in_group : (schema : Catalog) (scope : Scope) (p : Place) (members : List Row) → FitsGroup schema scope p members → Fits schema scope 0 true p
in_group schema scope p members h = record {
  begins = h.one.begins;
  columns = λ s c column at is. h.one.columns s c column is;
  shown = λ may s c column is. begins_reads p.row (slice_get p.starts s) c (kind_of column.kind) (h.one.columns s c column is);
  rows = h.one.rows;
  each = λ rows may is. subst (AllByRecursion (λ row. FitsPlace schema scope (member p row))) (same_members p.group members rows h.group is) h.each;
}

reads_nothing : (row : Row) (start : Option ℕ) (c : ℕ) (kind : Kind) → row ≡ [] → ReadsAt row start c kind
reads_nothing [] (Some start) c kind e = refl
reads_nothing [] None c kind e = refl
reads_nothing (v ∷ row) start c kind e = absurd (cc)

no_source : {A : Type 0} (schema : Catalog) (scope : Scope) (s c : ℕ) (column : ColumnSpec) → length scope ≤ s → column_in schema scope s (record { 0 = c }) ≡ Some column → A
no_source schema [] s c column at is = absurd (cc)
no_source schema (t ∷ scope) zero c column at is = absurd (omega arith)
no_source schema (t ∷ scope) (suc s) c column at is = no_source schema scope s c column (omega arith) is

-- a place of a group without rows
pub in_no_rows : (schema : Catalog) (scope : Scope) (p : Place) → FitsNoRows schema scope p → Fits schema scope (length scope) true p
in_no_rows schema scope p h = record {
  begins = h.begins;
  columns = λ s c column at is. no_source schema scope s c column at is;
  shown = λ may s c column is. reads_nothing p.row (slice_get p.starts s) c (kind_of column.kind) h.no_row;
  rows = h.rows;
  each = λ rows may is. subst (AllByRecursion (λ row. FitsPlace schema scope (member p row))) (same_members p.group [] rows h.group is) tt;
}

not_free : {A : Type 0} → false ≡ true → A
not_free e = absurd (cc)

-- in an `exists` nothing is free
pub enter : (schema : Catalog) (scope : Scope) (outer : ℕ) (free : Bool) (p : Place) (t : TableId) (r : Row) → Fits schema scope outer free p → FitsTable schema t r → Fits schema (scope ++ t ∷ []) outer false (inside p r)
enter schema scope outer free p t r h f = record {
  begins = let e = h.begins in omega (arith, length-append {A = ℕ}, length-append {A = TableId});
  columns = enter_columns (λ s. outer ≤ s) schema p.row r t scope p.starts h.begins f h.columns;
  shown = λ may s c column is. not_free may;
  rows = h.rows;
  each = λ members may is. not_free may;
}

-- what a column reads where it may stand
pub column_reads : (schema : Catalog) (scope : Scope) (outer : ℕ) (free : Bool) (p : Place) → Fits schema scope outer free p → (s : ℕ) (c : ColumnNo) (column : ColumnSpec) → Apart p.group outer free (expr.Column s c) →
    column_in schema scope s c ≡ Some column → ReadsAt p.row (slice_get p.starts s) c.0 (kind_of column.kind)
column_reads schema scope outer true p h s c column a is = h.shown refl s c.0 column is
column_reads schema scope outer false p h s c column a is =
    begins_reads p.row (slice_get p.starts s) c.0 (kind_of column.kind) (h.columns s c.0 column (column_inner p.group outer s c a) is)
