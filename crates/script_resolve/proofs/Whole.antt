-- Whole statements: of which kind their faults are, and what is known of those that have none.
use Rattle.std.proofs.Common.{◌≡◌, ℕ, Bool, true, false, cond, not, ◌==◌, List, [], ◌∷◌, ◌++◌, length, map, Option, Result, Ok, Err, refl, sym, subst, ◌∙◌}
use Rattle.std.specs.Prelude.{IfErr, IfOk}
use Rattle.std.proofs.lemmas.Bool.{and_parts, eqb-true, ltb-true}
use Rattle.std.specs.List.{filter_map, flat_map, list_all}
use Rattle.std.specs.Option.{is_none, option_map, option_to_list}
use Rattle.base_core.specs.Answers.{Gives, Refuses}
use Rattle.base_core.specs.declared.ids.ColumnNo.{ColumnNo}
use Rattle.base_core.specs.declared.ids.TableId.{TableId}
use Rattle.base_core.specs.declared.refusal.Refusal.{Refusal}
use Rattle.base_core.specs.declared.refusal.RequestKind.TheVariants.{DuplicateFrom, NotGrouped, WrongKind}
use Rattle.base_core.specs.declared.value.Kind.{Kind}
use Rattle.base_core.specs.declared.value.Kind.TheVariants as kinds
use Rattle.base_core.specs.declared.value.Value.{Value}
use Rattle.base_core.specs.declared.value.Value.TheVariants as value
use Rattle.schema_core.specs.Catalog.{Catalog, IsTable, has_name}
use Rattle.schema_core.specs.declared.table.TableSpec.{TableSpec}
use Rattle.expr_types.specs.declared.expr.Expr.{Expr}
use Rattle.expr_types.specs.declared.select.Joined.{Joined}
use Rattle.expr_types.specs.declared.select.Select.{Select}
use Rattle.expr_types.specs.declared.select.Bulk.{Bulk}
use Rattle.expr_types.specs.declared.select.Bulk.TheVariants as bulk
use Rattle.expr_types.specs.NormalSelect.{normal_select, normal_where}
use Rattle.sql_semantics.specs.Kinds.{Scope as Tables, all_of, column_kind, expression_kind, kind_or_mismatch}
use Rattle.sql_semantics.specs.Applied.{table_of}
use Rattle.sql_semantics.specs.Plain.{IsPlainSelect, lacks_aggregate, names_apart}
use Rattle.sql_semantics.specs.PlainStatement.{IsFittingBulk}
use Rattle.sql_semantics.specs.Shapes.{scope_of}
use Rattle.script_types.specs.declared.expression.Syn.{Syn}
use Rattle.script_types.specs.declared.expression.SynSource.{SynSource}
use Rattle.script_types.specs.declared.select.SynJoin.{SynJoin}
use Rattle.script_types.specs.declared.select.SynSelect.{SynSelect}
use Rattle.script_types.specs.declared.select.SynBulk.{SynBulk}
use Rattle.script_types.specs.declared.select.SynBulk.TheVariants as written
use Rattle.statement_names.specs.BulkNames.{bulk_name_faults, cell_faults, cells_faults, column_faults, columns_faults, delete_faults, insert_faults, named_bulk, named_cell, scope_alone, spec_named, update_faults}
use Rattle.script_names.specs.Faults.{IsFirst, fault_if, faults_if_given, unless}
use Rattle.script_names.proofs.Firsts.{gives_told}
use Rattle.script_names.specs.Naming.{faults_in, name_faults, named_expression, source_faults, table_faults, table_number, unknown_name}
use Rattle.script_names.specs.Scopes.{Scope, find_column, outer_scope}
use Rattle.statement_names.specs.SelectNames.{faults_under, join_faults, joins_faults, named_select, scope_written, select_name_faults}
use Rattle.plain_statements.specs.Tested.{names_alone}
use Rattle.statement_kinds.specs.Mismatches.{bulk_mismatches, cell_mismatch, join_mismatches, mismatch, mismatch_for, mismatches, mismatches_under, value_faults, values_faults}
use Rattle.statement_kinds.specs.NormalBulk.{normal_bulk}
use Rattle.script_resolve.specs.JudgedBulks.{bulk_place_faults, expressions_in, judged_bulk}
use Rattle.script_resolve.specs.Judging.{has_names_apart, has_parts_in_place, judged_select, place_faults}
use Rattle.script_resolve.proofs.Placing.{bulk_parts}
use Rattle.script_resolve.specs.Bulks.{bulk_faults, gives_once, resolved_bulk}
use Rattle.script_resolve.specs.Refusals.{CanRefuse}
use Rattle.script_resolve.specs.Sayable.{is_sayable_bulk, is_sayable_if_given, is_sayable_select}
use Rattle.script_resolve.specs.Selects.{resolved_select, select_faults}
use Rattle.script_resolve.proofs.BulkFits.{cells_there, cells_written, filter_stands, values_are_for}
use Rattle.script_resolve.proofs.Causes.{Causes, all_fail, causes_both, causes_each, causes_given, causes_if, causes_of, first_cause, kind_causes, kind_fails, names_cause, table_causes}
use Rattle.script_resolve.proofs.GivenOnce.{cells_once, columns_once}
use Rattle.script_resolve.proofs.NamedFits.{is_declared_table}
use Rattle.script_resolve.proofs.Parts.{nil_parts, nil_three}
use Rattle.script_resolve.proofs.PlainSelect.{no_fault, plain_select}

-- ---- answers

-- where the answer is Ok there are no faults, and it is what was asked for
pub answered : {A : Type 0} (xs : List Refusal) (a x : A) → unless xs a ≡ Ok x → (xs ≡ []) × (a ≡ x)
answered [] a x h = (refl, cc)
answered (f ∷ xs) a x h = (absurd cc, absurd cc)

pub of_answer : {A : Type 0} (P : A → Type 0) (r : Result A Refusal) (xs : List Refusal) (a : A) → Gives (λ x. x) r (unless xs a) → (xs ≡ [] → P a) → IfOk r P
of_answer P (Ok x) xs a g f = let h = answered xs a x g in subst P h.1 (f h.0)
of_answer P (Err e) xs a g f = tt

-- ---- causes

module _ (schema : Catalog) where
  mismatch_causes : (scope : Tables) (e : Expr) → Causes (mismatch schema scope e)
  mismatch_causes scope e = causes_of (expression_kind schema e scope) (kind_causes schema e scope)

  wanted_causes : (scope : Tables) (wanted : Kind) (e : Expr) → Causes (mismatch_for schema scope wanted e)
  wanted_causes scope wanted e = causes_of (all_of wanted (expression_kind schema e scope ∷ [])) (all_fail wanted (expression_kind schema e scope ∷ []) (kind_causes schema e scope, tt))

  joins_causes : (before : List SynSource) (joins : List SynJoin) → Causes (joins_faults schema before joins)
  joins_causes before [] = tt
  joins_causes before (join ∷ joins) =
      let more : List SynSource = before ++ join.source ∷ [] in
      causes_both (join_faults schema (outer_scope more) join) (joins_faults schema more joins)
      (causes_both (source_faults schema join.source) (name_faults schema join.on (outer_scope more)) (table_causes schema join.source.table) (names_cause schema join.on (outer_scope more))) (joins_causes more joins)

  join_kinds_causes : (before : Tables) (joins : List Joined) → Causes (join_mismatches schema before joins)
  join_kinds_causes before [] = tt
  join_kinds_causes before (join ∷ joins) =
      let here : Tables = before ++ join.origin.table ∷ [] in
      causes_both (mismatch_for schema here kinds.Boolean join.on) (join_mismatches schema here joins) (wanted_causes here kinds.Boolean join.on) (join_kinds_causes here joins)

  listed_causes : (scope : Scope) (es : List Syn) → Causes (faults_in scope (map (name_faults schema) es))
  listed_causes scope [] = tt
  listed_causes scope (e ∷ es) = causes_both (name_faults schema e scope) (faults_in scope (map (name_faults schema) es)) (names_cause schema e scope) (listed_causes scope es)

  given_under : (scope : Scope) (o : Option Syn) → Causes (faults_if_given (λ e. name_faults schema e scope) o)
  given_under scope o = causes_given (λ e. name_faults schema e scope) o (λ e. names_cause schema e scope)

  names_under_causes : (scope : Scope) (s : SynSelect) → Causes (faults_under schema scope s)
  names_under_causes scope s =
      let items : List Refusal = flat_map (λ item. name_faults schema item.0 scope) s.items in
      let first : List Refusal = source_faults schema s.first in
      let joins : List Refusal = joins_faults schema (s.first ∷ []) s.joins in
      let filter : List Refusal = faults_if_given (λ e. name_faults schema e scope) s.filter in
      let groups : List Refusal = faults_in scope (map (name_faults schema) s.groups) in
      let having : List Refusal = faults_if_given (λ e. name_faults schema e scope) s.having in
      let order : List Refusal = flat_map (λ key. name_faults schema key.0 scope) s.order in
      let one = causes_both items first (causes_each (λ item. name_faults schema item.0 scope) s.items (λ item. names_cause schema item.0 scope)) (table_causes schema s.first.table) in
      let two = causes_both (items ++ first) joins one (joins_causes (s.first ∷ []) s.joins) in
      let three = causes_both (items ++ first ++ joins) filter two (given_under scope s.filter) in
      let four = causes_both (items ++ first ++ joins ++ filter) groups three (listed_causes scope s.groups) in
      let five = causes_both (items ++ first ++ joins ++ filter ++ groups) having four (given_under scope s.having) in
      causes_both (items ++ first ++ joins ++ filter ++ groups ++ having) order five (causes_each (λ key. name_faults schema key.0 scope) s.order (λ key. names_cause schema key.0 scope))

  kinds_under_causes : (scope : Tables) (s : Select) → Causes (mismatches_under schema scope s)
  kinds_under_causes scope s =
      let items : List Refusal = flat_map (λ item. mismatch schema scope item.0) s.items in
      let joins : List Refusal = join_mismatches schema (s.first.table ∷ []) s.joins in
      let filter : List Refusal = faults_if_given (mismatch_for schema scope kinds.Boolean) s.filter in
      let groups : List Refusal = flat_map (mismatch schema scope) s.groups in
      let having : List Refusal = faults_if_given (mismatch_for schema scope kinds.Boolean) s.having in
      let order : List Refusal = flat_map (λ key. mismatch schema scope key.0) s.order in
      let one = causes_both items joins (causes_each (λ item. mismatch schema scope item.0) s.items (λ item. mismatch_causes scope item.0)) (join_kinds_causes (s.first.table ∷ []) s.joins) in
      let two = causes_both (items ++ joins) filter one (causes_given (mismatch_for schema scope kinds.Boolean) s.filter (wanted_causes scope kinds.Boolean)) in
      let three = causes_both (items ++ joins ++ filter) groups two (causes_each (mismatch schema scope) s.groups (mismatch_causes scope)) in
      let four = causes_both (items ++ joins ++ filter ++ groups) having three (causes_given (mismatch_for schema scope kinds.Boolean) s.having (wanted_causes scope kinds.Boolean)) in
      causes_both (items ++ joins ++ filter ++ groups ++ having) order four (causes_each (λ key. mismatch schema scope key.0) s.order (λ key. mismatch_causes scope key.0))

  place_causes : (s : Select) → Causes (place_faults schema s)
  unfolding place_faults
  place_causes s =
      causes_both (fault_if (not (has_parts_in_place s)) NotGrouped) (fault_if (not (has_names_apart schema s)) DuplicateFrom)
      (causes_if (not (has_parts_in_place s)) NotGrouped tt) (causes_if (not (has_names_apart schema s)) DuplicateFrom tt)

  select_causes : (s : SynSelect) → Causes (select_faults schema s)
  unfolding select_name_faults mismatches
  select_causes s =
      let n : Select = named_select schema s in
      causes_both (select_name_faults schema s) (judged_select schema n) (names_under_causes (scope_written s) s)
      (causes_both (mismatches schema n) (place_faults schema (normal_select n)) (kinds_under_causes (scope_of n) n) (place_causes (normal_select n)))

  -- ---- bulk statements

  column_causes : (spec : TableSpec) (before : List (List ℕ)) (name : List ℕ) → Causes (column_faults spec before name)
  column_causes spec before name = at (is_none (find_column spec name))
    where
      at : (b : Bool) → Causes (cond b (unknown_name name) (fault_if (has_name before name) WrongKind))
      at true = (tt, tt)
      at false = causes_if (has_name before name) WrongKind tt

  columns_causes : (spec : TableSpec) (before names : List (List ℕ)) → Causes (columns_faults spec before names)
  columns_causes spec before [] = tt
  columns_causes spec before (name ∷ names) =
      causes_both (column_faults spec before name) (columns_faults spec (before ++ name ∷ []) names) (column_causes spec before name) (columns_causes spec (before ++ name ∷ []) names)

  cells_causes : (spec : TableSpec) (scope : Scope) (before : List (List ℕ)) (cells : List (List ℕ × Option Syn)) → Causes (cells_faults schema spec scope before cells)
  cells_causes spec scope before [] = tt
  cells_causes spec scope before (cell ∷ cells) =
      let here = causes_both (column_faults spec before cell.0) (faults_if_given (λ e. name_faults schema e scope) cell.1) (column_causes spec before cell.0) (given_under scope cell.1) in
      causes_both (cell_faults schema spec scope before cell) (cells_faults schema spec scope (before ++ cell.0 ∷ []) cells) here (cells_causes spec scope (before ++ cell.0 ∷ []) cells)

  bulk_names_causes : (b : SynBulk) → Causes (bulk_name_faults schema b)
  bulk_names_causes (written.Insert table columns values) =
      let first : List Refusal = table_faults schema table in
      let middle : List Refusal = columns_faults (spec_named schema table) [] columns in
      causes_both (first ++ middle) (fault_if (not (length values == length columns)) WrongKind)
      (causes_both first middle (table_causes schema table) (columns_causes (spec_named schema table) [] columns)) (causes_if (not (length values == length columns)) WrongKind tt)
  bulk_names_causes (written.Update table cells filter) =
      let first : List Refusal = table_faults schema table in
      let middle : List Refusal = cells_faults schema (spec_named schema table) (scope_alone table) [] cells in
      causes_both (first ++ middle) (faults_if_given (λ e. name_faults schema e (scope_alone table)) filter)
      (causes_both first middle (table_causes schema table) (cells_causes (spec_named schema table) (scope_alone table) [] cells)) (given_under (scope_alone table) filter)
  bulk_names_causes (written.Delete table filter) =
      causes_both (table_faults schema table) (faults_if_given (λ e. name_faults schema e (scope_alone table)) filter) (table_causes schema table) (given_under (scope_alone table) filter)

  value_causes : (t : TableId) (c : ColumnNo) (v : Value) → Causes (value_faults schema t c v)
  value_causes t c value.Null = tt
  value_causes t c (value.Bool b) = causes_of (kind_or_mismatch (column_kind schema (t ∷ []) 0 c) kinds.Boolean) (kind_fails (column_kind schema (t ∷ []) 0 c) kinds.Boolean)
  value_causes t c (value.Int n) = causes_of (kind_or_mismatch (column_kind schema (t ∷ []) 0 c) kinds.Integer) (kind_fails (column_kind schema (t ∷ []) 0 c) kinds.Integer)
  value_causes t c (value.Text s) = causes_of (kind_or_mismatch (column_kind schema (t ∷ []) 0 c) kinds.Text) (kind_fails (column_kind schema (t ∷ []) 0 c) kinds.Text)
  value_causes t c (value.Bytes b) = causes_of (kind_or_mismatch (column_kind schema (t ∷ []) 0 c) kinds.Bytes) (kind_fails (column_kind schema (t ∷ []) 0 c) kinds.Bytes)

  values_causes : (t : TableId) (cs : List ColumnNo) (vs : List Value) → Causes (values_faults schema t cs vs)
  values_causes t [] vs = tt
  values_causes t (c ∷ cs) [] = tt
  values_causes t (c ∷ cs) (v ∷ vs) = causes_both (value_faults schema t c v) (values_faults schema t cs vs) (value_causes t c v) (values_causes t cs vs)

  bulk_kinds_causes : (b : Bulk) → Causes (bulk_mismatches schema b)
  bulk_kinds_causes (bulk.Insert t cs vs) = values_causes t cs vs
  bulk_kinds_causes (bulk.Update t cells filter) =
      causes_both (flat_map (cell_mismatch schema t) cells) (faults_if_given (mismatch_for schema (t ∷ []) kinds.Boolean) filter)
      (causes_each (cell_mismatch schema t) cells (λ cell. causes_given (mismatch_for schema (t ∷ []) (column_kind schema (t ∷ []) 0 cell.0)) cell.1 (wanted_causes (t ∷ []) (column_kind schema (t ∷ []) 0 cell.0))))
      (causes_given (mismatch_for schema (t ∷ []) kinds.Boolean) filter (wanted_causes (t ∷ []) kinds.Boolean))
  bulk_kinds_causes (bulk.Delete t filter) = causes_given (mismatch_for schema (t ∷ []) kinds.Boolean) filter (wanted_causes (t ∷ []) kinds.Boolean)

  bulk_causes : (b : SynBulk) → Causes (bulk_faults schema b)
  unfolding bulk_place_faults
  bulk_causes b =
      let n : Bulk = named_bulk schema b in
      let lacks : Bool = list_all lacks_aggregate (expressions_in (normal_bulk n)) in
      let far : Bool = list_all (λ e. names_apart schema e (names_alone schema (table_of (normal_bulk n)))) (expressions_in (normal_bulk n)) in
      let placed = causes_both (fault_if (not lacks) NotGrouped) (fault_if (not far) DuplicateFrom) (causes_if (not lacks) NotGrouped tt) (causes_if (not far) DuplicateFrom tt) in
      causes_both (bulk_name_faults schema b) (judged_bulk schema n) (bulk_names_causes b)
      (causes_both (bulk_mismatches schema n) (bulk_place_faults schema (normal_bulk n)) (bulk_kinds_causes n) placed)

  -- ---- what is known of bulk statements without faults

  abbrev apart : TableId → Expr → Bool
  apart table e = names_apart schema e (names_alone schema table)

  places : (b : Bulk) → bulk_place_faults schema b ≡ [] → (list_all lacks_aggregate (expressions_in b) ≡ true) × (list_all (apart (table_of b)) (expressions_in b) ≡ true)
  unfolding bulk_place_faults
  places b h =
      let both = nil_parts (fault_if (not (list_all lacks_aggregate (expressions_in b))) NotGrouped) (fault_if (not (list_all (apart (table_of b)) (expressions_in b))) DuplicateFrom) h in
      (no_fault (list_all lacks_aggregate (expressions_in b)) NotGrouped both.0, no_fault (list_all (apart (table_of b)) (expressions_in b)) DuplicateFrom both.1)

  is_table : (name : List ℕ) → table_faults schema name ≡ [] → IsTable schema (table_number schema name)
  is_table name h = ltb-true (table_number schema name).0 (length schema.tables) (is_declared_table schema name h)

  pub fitting_bulk : (b : SynBulk) → is_sayable_bulk b ≡ true → bulk_faults schema b ≡ [] → IsFittingBulk schema (normal_bulk (named_bulk schema b))
  fitting_bulk (written.Insert table columns values) say none =
      let named : Bulk = named_bulk schema (written.Insert table columns values) in
      let all = nil_parts (insert_faults schema table columns values) (judged_bulk schema named) none in
      let kind = nil_parts (bulk_mismatches schema named) (bulk_place_faults schema (normal_bulk named)) all.1 in
      let parts = nil_three (table_faults schema table) (columns_faults (spec_named schema table) [] columns) (fault_if (not (length values == length columns)) WrongKind) all.0 in
      let long : length values ≡ length columns = eqb-true (length values) (length columns) (no_fault (length values == length columns) WrongKind parts.2) in
      (is_table table parts.0, values_are_for schema table [] columns values parts.1 long kind.0)
  fitting_bulk (written.Update table cells filter) say none =
      let t : TableId = table_number schema table in
      let named : Bulk = named_bulk schema (written.Update table cells filter) in
      let all = nil_parts (update_faults schema table cells filter) (judged_bulk schema named) none in
      let judged = nil_parts (bulk_mismatches schema named) (bulk_place_faults schema (normal_bulk named)) all.1 in
      let parts = nil_three (table_faults schema table) (cells_faults schema (spec_named schema table) (scope_alone table) [] cells) (faults_if_given (λ e. name_faults schema e (scope_alone table)) filter) all.0 in
      let cells' : List (ColumnNo × Option Expr) = map (named_cell schema (spec_named schema table) (scope_alone table)) cells in
      let filter' : Option Expr = option_map (λ e. named_expression schema e (scope_alone table)) filter in
      let kind = nil_parts (flat_map (cell_mismatch schema t) cells') (faults_if_given (mismatch_for schema (t ∷ []) kinds.Boolean) filter') judged.0 in
      let placed = places (normal_bulk named) judged.1 in
      let forms : List (ColumnNo × Option Expr) = map (λ (c : ColumnNo × Option Expr). (c.0, normal_where c.1)) cells' in
      let inside : List Expr = filter_map (λ (c : ColumnNo × Option Expr). c.1) forms in
      let condition : Option Expr = normal_where filter' in
      let lack = and_parts (list_all lacks_aggregate inside) (list_all lacks_aggregate (option_to_list condition)) (sym (bulk_parts lacks_aggregate forms condition) ∙ placed.0) in
      let far = and_parts (list_all (apart t) inside) (list_all (apart t) (option_to_list condition)) (sym (bulk_parts (apart t) forms condition) ∙ placed.1) in
      let says = and_parts (list_all (λ (cell : List ℕ × Option Syn). is_sayable_if_given cell.1) cells) (is_sayable_if_given filter) say in
      (is_table table parts.0, cells_there schema table [] cells parts.1, cells_written schema table [] cells says.0 parts.1 kind.0 far.0 lack.0, filter_stands schema table filter says.1 parts.2 kind.1 far.1 lack.1)
  fitting_bulk (written.Delete table filter) say none =
      let named : Bulk = named_bulk schema (written.Delete table filter) in
      let all = nil_parts (delete_faults schema table filter) (judged_bulk schema named) none in
      let judged = nil_parts (bulk_mismatches schema named) (bulk_place_faults schema (normal_bulk named)) all.1 in
      let first = nil_parts (table_faults schema table) (faults_if_given (λ e. name_faults schema e (scope_alone table)) filter) all.0 in
      let placed = places (normal_bulk named) judged.1 in
      (is_table table first.0, filter_stands schema table filter say first.1 judged.0 placed.1 placed.0)

  pub given_once : (b : SynBulk) → bulk_faults schema b ≡ [] → gives_once (normal_bulk (named_bulk schema b)) ≡ true
  given_once (written.Insert table columns values) none =
      let all = nil_parts (insert_faults schema table columns values) (judged_bulk schema (named_bulk schema (written.Insert table columns values))) none in
      let parts = nil_three (table_faults schema table) (columns_faults (spec_named schema table) [] columns) (fault_if (not (length values == length columns)) WrongKind) all.0 in
      columns_once (spec_named schema table) [] columns parts.1
  given_once (written.Update table cells filter) none =
      let all = nil_parts (update_faults schema table cells filter) (judged_bulk schema (named_bulk schema (written.Update table cells filter))) none in
      let parts = nil_three (table_faults schema table) (cells_faults schema (spec_named schema table) (scope_alone table) [] cells) (faults_if_given (λ e. name_faults schema e (scope_alone table)) filter) all.0 in
      cells_once schema (spec_named schema table) (scope_alone table) cells parts.1
  given_once (written.Delete table filter) none = refl

-- ---- what callers are told

-- the first operand of another kind is one that names may be refused for
pub kinds_cause : (schema : Catalog) (s : Select) (e : Refusal) → IsFirst e (mismatches schema s) → CanRefuse e
unfolding mismatches
kinds_cause schema s e first = first_cause (λ (s : Select). s) (Err e) (mismatches schema s) s (gives_told (Err e) (mismatches schema s) s tt first) (kinds_under_causes schema (scope_of s) s)

pub resolved_cause : (schema : Catalog) (w : SynSelect) (r : Result Select Refusal) → Gives (λ x. x) r (resolved_select schema w) → IfErr r CanRefuse
unfolding resolved_select
resolved_cause schema w r g = first_cause (λ x. x) r (select_faults schema w) (normal_select (named_select schema w)) g (select_causes schema w)

pub resolved_plain : (schema : Catalog) (w : SynSelect) (r : Result Select Refusal) → Gives (λ x. x) r (resolved_select schema w) → is_sayable_select w ≡ true → IfOk r (IsPlainSelect schema)
unfolding resolved_select
resolved_plain schema w r g say = of_answer (IsPlainSelect schema) r (select_faults schema w) (normal_select (named_select schema w)) g (plain_select schema w say)

pub bulk_cause : (schema : Catalog) (w : SynBulk) (r : Result Bulk Refusal) → Gives (λ x. x) r (resolved_bulk schema w) → IfErr r CanRefuse
unfolding resolved_bulk
bulk_cause schema w r g = first_cause (λ x. x) r (bulk_faults schema w) (normal_bulk (named_bulk schema w)) g (bulk_causes schema w)

pub bulk_fits : (schema : Catalog) (w : SynBulk) (r : Result Bulk Refusal) → Gives (λ x. x) r (resolved_bulk schema w) → is_sayable_bulk w ≡ true → IfOk r (IsFittingBulk schema)
unfolding resolved_bulk
bulk_fits schema w r g say = of_answer (IsFittingBulk schema) r (bulk_faults schema w) (normal_bulk (named_bulk schema w)) g (fitting_bulk schema w say)

pub bulk_once : (schema : Catalog) (w : SynBulk) (r : Result Bulk Refusal) → Gives (λ x. x) r (resolved_bulk schema w) → IfOk r (λ b. gives_once b ≡ true)
unfolding resolved_bulk
bulk_once schema w r g = of_answer (λ b. gives_once b ≡ true) r (bulk_faults schema w) (normal_bulk (named_bulk schema w)) g (given_once schema w)

-- names, and what is judged behind them
pub given_select : (schema : Catalog) (w : SynSelect) (x : Select) → x ≡ normal_select (named_select schema w) → select_faults schema w ≡ [] → resolved_select schema w ≡ Ok x
unfolding resolved_select
given_select schema w x is none = gives_told (Ok x) (select_faults schema w) (normal_select (named_select schema w)) is none

pub refused_select : (schema : Catalog) (w : SynSelect) (e : Refusal) → IsFirst e (select_faults schema w) → Refuses e (resolved_select schema w)
unfolding resolved_select
refused_select schema w e first = gives_told (Err e) (select_faults schema w) (normal_select (named_select schema w)) tt first

pub given_bulk : (schema : Catalog) (w : SynBulk) (x : Bulk) → x ≡ normal_bulk (named_bulk schema w) → bulk_faults schema w ≡ [] → resolved_bulk schema w ≡ Ok x
unfolding resolved_bulk
given_bulk schema w x is none = gives_told (Ok x) (bulk_faults schema w) (normal_bulk (named_bulk schema w)) is none

pub refused_bulk : (schema : Catalog) (w : SynBulk) (e : Refusal) → IsFirst e (bulk_faults schema w) → Refuses e (resolved_bulk schema w)
unfolding resolved_bulk
refused_bulk schema w e first = gives_told (Err e) (bulk_faults schema w) (normal_bulk (named_bulk schema w)) tt first

pub ruleset whole = (given_select, refused_select, given_bulk, refused_bulk)

pub ruleset kind_faults = (kinds_cause)

pub ruleset told = (resolved_cause, resolved_plain, bulk_cause, bulk_fits, bulk_once)
