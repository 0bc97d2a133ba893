-- The normal form of a bulk statement that a line can say and that has no fault fits its table, and gives each column once.
use Rattle.std.proofs.Common.{◌≡◌, ℕ, Bool, true, false, cond, List, [], ◌∷◌, ◌++◌, length, get_or, map, Option, Some, None, Ok, Err, refl, sym, ap, subst, ◌∙◌, arith}
use Rattle.std.proofs.lemmas.Bool.{and_from, and_parts}
use Rattle.std.proofs.lemmas.Option.{slice_get-get_or}
use Rattle.std.specs.List.{AllByRecursion, filter_map, flat_map, list_all}
use Rattle.std.specs.Option.{is_none, is_some, option_map, option_to_list, unwrap_or}
use Rattle.std.specs.Result.{is_ok}
use Rattle.base_core.specs.declared.ids.ColumnNo.{ColumnNo}
use Rattle.base_core.specs.declared.ids.TableId.{TableId}
use Rattle.base_core.specs.declared.refusal.Refusal.{Refusal}
use Rattle.base_core.specs.declared.refusal.Refusal.TheVariants.{TypeMismatch}
use Rattle.base_core.specs.declared.refusal.RequestKind.{RequestKind}
use Rattle.base_core.specs.declared.refusal.RequestKind.TheVariants.{WrongKind}
use Rattle.base_core.specs.declared.value.Kind.{Kind}
use Rattle.base_core.specs.declared.value.Kind.TheVariants as kinds
use Rattle.base_core.specs.declared.value.Value.{Value}
use Rattle.base_core.specs.declared.value.Value.TheVariants as value
use Rattle.schema_core.specs.declared.table.ColumnSpec.{ColumnSpec}
use Rattle.schema_core.specs.declared.table.TableSpec.{TableSpec}
use Rattle.schema_core.specs.Catalog.{Catalog, has_name, kind_of, same_kind, spec_of}
use Rattle.expr_types.specs.declared.expr.Expr.{Expr}
use Rattle.expr_types.specs.Normal.{normal}
use Rattle.expr_types.specs.NormalSelect.{normal_where}
use Rattle.expr_normal.proofs.Fixed.{normal_again}
use Rattle.sql_semantics.specs.Kinds.{column_in, column_kind, expression_kind, kind_or_mismatch, kind_where}
use Rattle.sql_semantics.specs.Plain.{IfSet, IsFilter, IsWritten, StandsIn, alone, are_for, has_kind as has_value_kind, is_kind_where, lacks_aggregate, names_apart}
use Rattle.plain_statements.specs.Tested.{names_alone}
use Rattle.select_laws.proofs.KeptKinds.{kind_kept}
use Rattle.select_laws.proofs.KeptLists.{lists_kept}
use Rattle.select_laws.proofs.KeptPlain.{fits_kept}
use Rattle.script_types.specs.declared.expression.Syn.{Syn}
use Rattle.statement_names.specs.BulkNames.{cell_faults, cells_faults, column_faults, column_number, columns_faults, named_cell, scope_alone}
use Rattle.script_names.specs.Faults.{fault_if, faults_if_given}
use Rattle.script_names.specs.Naming.{name_faults, named_expression, table_number, unknown_name}
use Rattle.script_names.specs.Scopes.{Scope, find_column}
use Rattle.statement_kinds.specs.Mismatches.{cell_mismatch, fault_of, mismatch_for, value_faults, values_faults}
use Rattle.script_resolve.proofs.Placing.{cell_first}
use Rattle.script_resolve.specs.Sayable.{is_sayable, is_sayable_if_given}
use Rattle.script_resolve.proofs.Columns.{found_column, no_column}
use Rattle.script_resolve.proofs.NamedFits.{IsScope, named_stands, outer_is}
use Rattle.script_resolve.proofs.Parts.{nil_parts}
use Rattle.script_resolve.proofs.PlainSelect.{kind_is}

-- ---- columns

unless_held : (b : Bool) (kind : RequestKind) → fault_if b kind ≡ [] → b ≡ false
unless_held true kind h = absurd cc
unless_held false kind h = refl

-- a column without a fault is there, and is not among those before it
pub column_there : (spec : TableSpec) (before : List (List ℕ)) (name : List ℕ) → column_faults spec before name ≡ [] → (number : ColumnNo) × (find_column spec name ≡ Some number) × (has_name before name ≡ false)
column_there spec before name h = at (find_column spec name) refl h
  where
    at : (o : Option ColumnNo) → find_column spec name ≡ o → cond (is_none o) (unknown_name name) (fault_if (has_name before name) WrongKind) ≡ [] → (number : ColumnNo) × (find_column spec name ≡ Some number) × (has_name before name ≡ false)
    at None is g = absurd cc
    at (Some number) is g = (number, is, unless_held (has_name before name) WrongKind g)

module _ (schema : Catalog) (name : List ℕ) where
  abbrev t : TableId
  t = table_number schema name

  abbrev spec : TableSpec
  spec = spec_of schema t

  -- its number is that of a column
  number_there : (before : List (List ℕ)) (column : List ℕ) → column_faults spec before column ≡ [] → (there : ColumnSpec) × (column_in schema (t ∷ []) 0 (column_number spec column) ≡ Some there)
  number_there before column h =
      let found = column_there spec before column h in
      let there : ColumnSpec = get_or spec.columns found.0.0 no_column in
      let is = slice_get-get_or spec.columns found.0.0 no_column (found_column spec column found.0 found.1).0 in
      (there, ap (λ (o : Option ColumnNo). column_in schema (t ∷ []) 0 (unwrap_or o (record { 0 = length spec.columns }))) found.1 ∙ is)

  -- ---- values

  of_kind : (b : Bool) (wanted : Kind) (e : Refusal) → fault_of {A = Kind} (cond b (Ok wanted) (Err e)) ≡ [] → b ≡ true
  of_kind true wanted e h = refl
  of_kind false wanted e h = absurd cc

  kind_told : (c : ColumnNo) (there : ColumnSpec) → column_in schema (t ∷ []) 0 c ≡ Some there → (found : Kind) → fault_of (kind_or_mismatch (column_kind schema (t ∷ []) 0 c) found) ≡ [] → same_kind found (kind_of there.kind) ≡ true
  kind_told c there at found h =
      of_kind (same_kind found (kind_of there.kind)) (kind_of there.kind) (TypeMismatch (kind_of there.kind) found)
      (ap (λ (o : Option ColumnSpec). fault_of (kind_or_mismatch (kind_where o) found)) (sym at) ∙ h)

  value_is_for : (c : ColumnNo) (there : ColumnSpec) → column_in schema (t ∷ []) 0 c ≡ Some there → (v : Value) → value_faults schema t c v ≡ [] → has_value_kind (column_in schema (t ∷ []) 0 c) v ≡ true
  value_is_for c there at value.Null h = ap (λ o. has_value_kind o value.Null) at
  value_is_for c there at (value.Bool b) h = ap (λ o. has_value_kind o (value.Bool b)) at ∙ kind_told c there at kinds.Boolean h
  value_is_for c there at (value.Int n) h = ap (λ o. has_value_kind o (value.Int n)) at ∙ kind_told c there at kinds.Integer h
  value_is_for c there at (value.Text s) h = ap (λ o. has_value_kind o (value.Text s)) at ∙ kind_told c there at kinds.Text h
  value_is_for c there at (value.Bytes b) h = ap (λ o. has_value_kind o (value.Bytes b)) at ∙ kind_told c there at kinds.Bytes h

  pub values_are_for : (before : List (List ℕ)) (columns : List (List ℕ)) (values : List Value) → columns_faults spec before columns ≡ [] → length values ≡ length columns
      → values_faults schema t (map (column_number spec) columns) values ≡ [] → are_for schema t (map (column_number spec) columns) values ≡ true
  values_are_for before [] [] free long kind = refl
  values_are_for before [] (v ∷ values) free long kind = absurd (omega arith)
  values_are_for before (column ∷ columns) [] free long kind = absurd (omega arith)
  values_are_for before (column ∷ columns) (v ∷ values) free long kind =
      let c : ColumnNo = column_number spec column in
      let f = nil_parts (column_faults spec before column) (columns_faults spec (before ++ column ∷ []) columns) free in
      let there = number_there before column f.0 in
      let k = nil_parts (value_faults schema t c v) (values_faults schema t (map (column_number spec) columns) values) kind in
      and_from (has_value_kind (column_in schema (t ∷ []) 0 c) v) (are_for schema t (map (column_number spec) columns) values) (value_is_for c there.0 there.1 v k.0) (values_are_for (before ++ column ∷ []) columns values f.1 (omega arith) k.1)

  -- ---- expressions

  abbrev scope : Scope
  scope = scope_alone name

  abbrev named : Syn → Expr
  named e = named_expression schema e scope

  abbrev apart : Expr → Bool
  apart e = names_apart schema e (names_alone schema t)

  scope_is : IsScope schema scope (t ∷ [])
  scope_is = outer_is schema (record { table = name; alias = None } ∷ [])

  stands : (e : Syn) (kind : Kind) → is_sayable e ≡ true → name_faults schema e scope ≡ [] → expression_kind schema (named e) (t ∷ []) ≡ Ok kind → apart (normal (named e)) ≡ true → StandsIn schema (alone t) (normal (named e))
  stands e kind say free typed far =
      let s = named_stands schema e scope (t ∷ []) scope_is say free in
      record {
        fitting = fits_kept schema (t ∷ []) (named e) ∙ s.0;
        typed = ap is_ok (kind_kept (named e) schema (t ∷ []) kind typed);
        in_normal_form = normal_again (named e);
        full_lists = lists_kept (named e) s.1;
        apart = far;
      }

  pub filter_stands : (o : Option Syn) → is_sayable_if_given o ≡ true → faults_if_given (λ e. name_faults schema e scope) o ≡ []
      → faults_if_given (mismatch_for schema (t ∷ []) kinds.Boolean) (option_map named o) ≡ [] → list_all apart (option_to_list (normal_where (option_map named o))) ≡ true
      → list_all lacks_aggregate (option_to_list (normal_where (option_map named o))) ≡ true → IfSet (IsFilter schema (alone t)) (normal_where (option_map named o))
  filter_stands None say free kind far lacks = tt
  filter_stands (Some e) say free kind far lacks =
      let typed = kind_is kinds.Boolean (expression_kind schema (named e) (t ∷ [])) kind in
      record {
        condition = record {
          stands = stands e kinds.Boolean say free typed (and_parts (apart (normal (named e))) true far).0;
          boolean = kind_kept (named e) schema (t ∷ []) kinds.Boolean typed;
        };
        no_aggregate = (and_parts (lacks_aggregate (normal (named e))) true lacks).0;
      }

  written : (c : ColumnNo) (there : ColumnSpec) → column_in schema (t ∷ []) 0 c ≡ Some there → (o : Option Syn) → is_sayable_if_given o ≡ true → faults_if_given (λ e. name_faults schema e scope) o ≡ []
      → cell_mismatch schema t (c, option_map named o) ≡ [] → list_all apart (option_to_list (normal_where (option_map named o))) ≡ true
      → list_all lacks_aggregate (option_to_list (normal_where (option_map named o))) ≡ true → IfSet (IsWritten schema t c) (normal_where (option_map named o))
  written c there at None say free kind far lacks = tt
  written c there at (Some e) say free kind far lacks =
      let wanted : Kind = column_kind schema (t ∷ []) 0 c in
      let typed = kind_is wanted (expression_kind schema (named e) (t ∷ [])) kind in
      let of_column : wanted ≡ kind_of there.kind = ap kind_where at in
      record {
        stands = stands e wanted say free typed (and_parts (apart (normal (named e))) true far).0;
        no_aggregate = (and_parts (lacks_aggregate (normal (named e))) true lacks).0;
        of_kind = (wanted, kind_kept (named e) schema (t ∷ []) wanted typed, subst (λ (o : Option ColumnSpec). is_kind_where o wanted) (sym at) of_column);
      }

  -- ---- cells

  abbrev cell_of : List ℕ × Option Syn → ColumnNo × Option Expr
  cell_of = named_cell schema spec scope

  abbrev form_of : ColumnNo × Option Expr → ColumnNo × Option Expr
  form_of cell = (cell.0, normal_where cell.1)

  pub cells_there : (before : List (List ℕ)) (cells : List (List ℕ × Option Syn)) → cells_faults schema spec scope before cells ≡ [] → list_all (λ (cell : ColumnNo × Option Expr). is_some (column_in schema (t ∷ []) 0 cell.0)) (map form_of (map cell_of cells)) ≡ true
  cells_there before [] free = refl
  cells_there before (cell ∷ cells) free =
      let g = nil_parts (cell_faults schema spec scope before cell) (cells_faults schema spec scope (before ++ cell.0 ∷ []) cells) free in
      let f = nil_parts (column_faults spec before cell.0) (faults_if_given (λ e. name_faults schema e scope) cell.1) g.0 in
      and_from (is_some (column_in schema (t ∷ []) 0 (column_number spec cell.0))) (list_all (λ (c : ColumnNo × Option Expr). is_some (column_in schema (t ∷ []) 0 c.0)) (map form_of (map cell_of cells))) (ap is_some (number_there before cell.0 f.0).1) (cells_there (before ++ cell.0 ∷ []) cells g.1)

  pub cells_written : (before : List (List ℕ)) (cells : List (List ℕ × Option Syn)) → list_all (λ (cell : List ℕ × Option Syn). is_sayable_if_given cell.1) cells ≡ true → cells_faults schema spec scope before cells ≡ []
      → flat_map (cell_mismatch schema t) (map cell_of cells) ≡ [] → list_all apart (filter_map (λ cell. cell.1) (map form_of (map cell_of cells))) ≡ true
      → list_all lacks_aggregate (filter_map (λ cell. cell.1) (map form_of (map cell_of cells))) ≡ true → AllByRecursion (λ (cell : ColumnNo × Option Expr). IfSet (IsWritten schema t cell.0) cell.1) (map form_of (map cell_of cells))
  cells_written before [] say free kind far lacks = tt
  cells_written before (cell ∷ cells) say free kind far lacks =
      let here : ColumnNo × Option Expr = form_of (cell_of cell) in
      let rest : List (ColumnNo × Option Expr) = map form_of (map cell_of cells) in
      let s = and_parts (is_sayable_if_given cell.1) (list_all (λ (c : List ℕ × Option Syn). is_sayable_if_given c.1) cells) say in
      let g = nil_parts (cell_faults schema spec scope before cell) (cells_faults schema spec scope (before ++ cell.0 ∷ []) cells) free in
      let f = nil_parts (column_faults spec before cell.0) (faults_if_given (λ e. name_faults schema e scope) cell.1) g.0 in
      let k = nil_parts (cell_mismatch schema t (cell_of cell)) (flat_map (cell_mismatch schema t) (map cell_of cells)) kind in
      let a = and_parts (list_all apart (option_to_list here.1)) (list_all apart (filter_map (λ (c : ColumnNo × Option Expr). c.1) rest)) (sym (cell_first apart here rest) ∙ far) in
      let l = and_parts (list_all lacks_aggregate (option_to_list here.1)) (list_all lacks_aggregate (filter_map (λ (c : ColumnNo × Option Expr). c.1) rest)) (sym (cell_first lacks_aggregate here rest) ∙ lacks) in
      let there = number_there before cell.0 f.0 in
      (written (column_number spec cell.0) there.0 there.1 cell.1 s.0 f.1 k.0 a.0 l.0, cells_written (before ++ cell.0 ∷ []) cells s.1 g.1 k.1 a.1 l.1)
