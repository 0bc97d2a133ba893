-- The normal form of a select that a line can say and that has no fault is plain.
use Rattle.std.proofs.Common.{◌≡◌, ℕ, Bool, true, false, not, ◌&&◌, List, [], ◌∷◌, ◌++◌, length, map, Option, Some, None, Ok, Err, refl, sym, ap, subst, ◌∙◌}
use Rattle.std.proofs.lemmas.Bool.{and_from, and_parts}
use Rattle.std.proofs.lemmas.List.{map-append}
use Rattle.std.specs.List.{AllByRecursion, flat_map, list_all}
use Rattle.std.specs.Option.{option_map, option_to_list}
use Rattle.std.specs.Result.{is_ok}
use Rattle.base_core.specs.declared.refusal.RequestKind.{RequestKind}
use Rattle.base_core.specs.declared.refusal.RequestKind.TheVariants.{DuplicateFrom, NotGrouped}
use Rattle.base_core.specs.declared.value.Kind.{Kind}
use Rattle.base_core.specs.declared.value.Kind.TheVariants as kinds
use Rattle.schema_core.specs.Catalog.{Catalog}
use Rattle.expr_types.specs.declared.expr.Expr.{Expr}
use Rattle.expr_types.specs.declared.expr.Origin.{Origin}
use Rattle.expr_types.specs.declared.select.Joined.{Joined}
use Rattle.expr_types.specs.declared.select.Select.{Select}
use Rattle.expr_types.specs.Normal.{normal}
use Rattle.expr_types.specs.NormalSelect.{normal_join, normal_select, normal_where}
use Rattle.sql_semantics.specs.Kinds.{Judged, Scope as Tables, all_of, expression_kind}
use Rattle.sql_semantics.specs.Plain.{IfSet, IsPlainSelect, and_having, are_distinct, is_declared, is_grouped, is_limit, is_well_grouped, lacks_aggregate, name_of, names_apart, outputs, sources_of}
use Rattle.sql_semantics.specs.Shapes.{scope_of}
use Rattle.sql_semantics.proofs.Typed.{all_of_each, has_kind}
use Rattle.sql_semantics.specs.Typed.{AreTypedJoins, IsTyped, IsTypedCondition, IsTypedFilter, IsTypedSelect}
use Rattle.plain_statements.specs.Tested.{names_of}
use Rattle.select_laws.proofs.KeptPlain.{aggregate_kept, grouped_kept, groups_lack, names_kept, normal_is_plain, sources_kept}
use Rattle.script_types.specs.declared.expression.Syn.{Syn}
use Rattle.script_types.specs.declared.expression.SynSource.{SynSource}
use Rattle.script_types.specs.declared.select.SynJoin.{SynJoin}
use Rattle.script_types.specs.declared.select.SynSelect.{SynSelect}
use Rattle.script_names.specs.Faults.{fault_if, faults_if_given}
use Rattle.script_names.specs.Naming.{faults_in, name_faults, named_expression, named_origin, said_in, source_faults, table_number}
use Rattle.script_names.specs.Scopes.{Scope, outer_scope}
use Rattle.statement_names.specs.SelectNames.{faults_under, join_faults, joins_faults, named_joins, named_select, scope_written, select_name_faults, sources_written}
use Rattle.statement_kinds.specs.Mismatches.{fault_of, join_mismatches, mismatch, mismatch_for, mismatches, mismatches_under}
use Rattle.script_resolve.specs.Judging.{before_groups, has_names_apart, has_parts_in_place, joins_apart, place_faults, under_sources}
use Rattle.script_resolve.proofs.Placing.{before_groups_lack, under_sources_hold}
use Rattle.script_resolve.specs.Sayable.{is_sayable, is_sayable_if_given, is_sayable_select}
use Rattle.script_resolve.specs.Selects.{select_faults}
use Rattle.script_resolve.proofs.NamedFits.{IsScope, is_declared_table, named_stands, outer_is}
use Rattle.script_resolve.proofs.Parts.{eight_hold, five_hold, nil_parts, nil_seven, nil_six, three_hold}

-- ---- one expression

ok_is : (r : Judged) → fault_of r ≡ [] → is_ok r ≡ true
ok_is (Ok kind) h = refl
ok_is (Err e) h = absurd cc

pub kind_is : (wanted : Kind) (r : Judged) → fault_of (all_of wanted (r ∷ [])) ≡ [] → r ≡ Ok wanted
kind_is wanted r h = let k = has_kind (all_of wanted (r ∷ [])) (ok_is (all_of wanted (r ∷ [])) h) in (all_of_each wanted k.0 (r ∷ []) k.1).1.0

pub no_fault : (b : Bool) (kind : RequestKind) → fault_if (not b) kind ≡ [] → b ≡ true
no_fault true kind h = refl
no_fault false kind h = absurd cc

pub lacks_as_written : (e : Expr) → lacks_aggregate (normal e) ≡ true → lacks_aggregate e ≡ true
lacks_as_written e h = sym (ap not (aggregate_kept e)) ∙ h

-- sources under which a statement's expressions stand
module _ (schema : Catalog) (scope : Scope) (sources : List Origin) (is : IsScope schema scope (map (λ (o : Origin). o.table) sources)) where
  abbrev tables : Tables
  tables = map (λ (o : Origin). o.table) sources

  abbrev named : Syn → Expr
  named e = named_expression schema e scope

  abbrev apart : Expr → Bool
  apart e = names_apart schema e (map (name_of schema) sources)

  pub one_typed : (e : Syn) → is_sayable e ≡ true → name_faults schema e scope ≡ [] → is_ok (expression_kind schema (named e) tables) ≡ true → apart (normal (named e)) ≡ true → IsTyped schema sources (named e)
  one_typed e say free typed far =
      let stands = named_stands schema e scope tables is say free in
      record { fitting = stands.0; typed = typed; full_lists = stands.1; apart = sym (names_kept schema (map (name_of schema) sources) (named e)) ∙ far }

  pub condition_typed : (e : Syn) → is_sayable e ≡ true → name_faults schema e scope ≡ [] → mismatch_for schema tables kinds.Boolean (named e) ≡ [] → apart (normal (named e)) ≡ true → IsTypedCondition schema sources (named e)
  condition_typed e say free kind far =
      let boolean = kind_is kinds.Boolean (expression_kind schema (named e) tables) kind in
      record { stands = one_typed e say free (ap is_ok boolean) far; boolean = boolean }

  pub filter_typed : (e : Syn) → is_sayable e ≡ true → name_faults schema e scope ≡ [] → mismatch_for schema tables kinds.Boolean (named e) ≡ [] → apart (normal (named e)) ≡ true
      → lacks_aggregate (normal (named e)) ≡ true → IsTypedFilter schema sources (named e)
  filter_typed e say free kind far lacks = record { condition = condition_typed e say free kind far; no_aggregate = lacks_as_written (named e) lacks }

  pub having_typed : (o : Option Syn) → is_sayable_if_given o ≡ true → faults_if_given (λ e. name_faults schema e scope) o ≡ []
      → faults_if_given (mismatch_for schema tables kinds.Boolean) (option_map named o) ≡ [] → list_all apart (option_to_list (normal_where (option_map named o))) ≡ true
      → IfSet (IsTypedCondition schema sources) (option_map named o)
  having_typed None say free kind far = tt
  having_typed (Some e) say free kind far = condition_typed e say free kind (and_parts (apart (normal (named e))) true far).0

  pub where_typed : (o : Option Syn) → is_sayable_if_given o ≡ true → faults_if_given (λ e. name_faults schema e scope) o ≡ []
      → faults_if_given (mismatch_for schema tables kinds.Boolean) (option_map named o) ≡ [] → list_all apart (option_to_list (normal_where (option_map named o))) ≡ true
      → list_all lacks_aggregate (option_to_list (normal_where (option_map named o))) ≡ true → IfSet (IsTypedFilter schema sources) (option_map named o)
  where_typed None say free kind far lacks = tt
  where_typed (Some e) say free kind far lacks = filter_typed e say free kind (and_parts (apart (normal (named e))) true far).0 (and_parts (lacks_aggregate (normal (named e))) true lacks).0

  pairs_typed : {B : Type 0} (pairs : List (Syn × B)) → list_all (λ p. is_sayable p.0) pairs ≡ true → flat_map (λ (p : Syn × B). name_faults schema p.0 scope) pairs ≡ []
      → flat_map (λ (p : Expr × B). mismatch schema tables p.0) (map (λ (p : Syn × B). (named p.0, p.1)) pairs) ≡ []
      → list_all (λ (p : Expr × B). apart p.0) (map (λ (p : Expr × B). (normal p.0, p.1)) (map (λ (p : Syn × B). (named p.0, p.1)) pairs)) ≡ true
      → AllByRecursion (λ (p : Expr × B). IsTyped schema sources p.0) (map (λ (p : Syn × B). (named p.0, p.1)) pairs)
  pairs_typed [] say free kind far = tt
  pairs_typed {B} (p ∷ pairs) say free kind far =
      let s = and_parts (is_sayable p.0) (list_all (λ (q : Syn × B). is_sayable q.0) pairs) say in
      let f = nil_parts (name_faults schema p.0 scope) (flat_map (λ (q : Syn × B). name_faults schema q.0 scope) pairs) free in
      let rest : List (Expr × B) = map (λ (q : Syn × B). (named q.0, q.1)) pairs in
      let k = nil_parts (mismatch schema tables (named p.0)) (flat_map (λ (q : Expr × B). mismatch schema tables q.0) rest) kind in
      let a = and_parts (apart (normal (named p.0))) (list_all (λ (q : Expr × B). apart q.0) (map (λ (q : Expr × B). (normal q.0, q.1)) rest)) far in
      (one_typed p.0 s.0 f.0 (ok_is (expression_kind schema (named p.0) tables) k.0) a.0, pairs_typed pairs s.1 f.1 k.1 a.1)

  groups_typed : (es : List Syn) → list_all is_sayable es ≡ true → faults_in scope (map (name_faults schema) es) ≡ []
      → flat_map (mismatch schema tables) (said_in scope (map (named_expression schema) es)) ≡ [] → list_all apart (map normal (said_in scope (map (named_expression schema) es))) ≡ true
      → AllByRecursion (IsTyped schema sources) (said_in scope (map (named_expression schema) es))
  groups_typed [] say free kind far = tt
  groups_typed (e ∷ es) say free kind far =
      let rest : List Expr = said_in scope (map (named_expression schema) es) in
      let s = and_parts (is_sayable e) (list_all is_sayable es) say in
      let f = nil_parts (name_faults schema e scope) (faults_in scope (map (name_faults schema) es)) free in
      let k = nil_parts (mismatch schema tables (named e)) (flat_map (mismatch schema tables) rest) kind in
      let a = and_parts (apart (normal (named e))) (list_all apart (map normal rest)) far in
      (one_typed e s.0 f.0 (ok_is (expression_kind schema (named e) tables) k.0) a.0, groups_typed es s.1 f.1 k.1 a.1)

-- ---- sources

module _ (schema : Catalog) where
  abbrev origins : List SynSource → List Origin
  origins = map (named_origin schema)

  tables_are : (sources : List SynSource) → map (λ (o : Origin). o.table) (origins sources) ≡ map (λ (s : SynSource). table_number schema s.table) sources
  tables_are [] = refl
  tables_are (source ∷ sources) = ap (λ ts. table_number schema source.table ∷ ts) (tables_are sources)

  scope_is : (sources : List SynSource) → IsScope schema (outer_scope sources) (map (λ (o : Origin). o.table) (origins sources))
  scope_is sources = subst (IsScope schema (outer_scope sources)) (sym (tables_are sources)) (outer_is schema sources)

  joined_origins : (before : List SynSource) (joins : List SynJoin) → map (λ (j : Joined). j.origin) (named_joins schema before joins) ≡ map (λ (j : SynJoin). named_origin schema j.source) joins
  joined_origins before [] = refl
  joined_origins before (join ∷ joins) = ap (λ os. named_origin schema join.source ∷ os) (joined_origins (before ++ join.source ∷ []) joins)

  origins_of_joins : (joins : List SynJoin) → map (λ (j : SynJoin). named_origin schema j.source) joins ≡ origins (map (λ (j : SynJoin). j.source) joins)
  origins_of_joins [] = refl
  origins_of_joins (join ∷ joins) = ap (λ os. named_origin schema join.source ∷ os) (origins_of_joins joins)

  joins_declared : (before : List SynSource) (joins : List SynJoin) → joins_faults schema before joins ≡ [] → list_all (is_declared schema) (map (λ (j : SynJoin). named_origin schema j.source) joins) ≡ true
  joins_declared before [] free = refl
  joins_declared before (join ∷ joins) free =
      let more : List SynSource = before ++ join.source ∷ [] in
      let g = nil_parts (join_faults schema (outer_scope more) join) (joins_faults schema more joins) free in
      let f = nil_parts (source_faults schema join.source) (name_faults schema join.on (outer_scope more)) g.0 in
      and_from (is_declared schema (named_origin schema join.source)) (list_all (is_declared schema) (map (λ (j : SynJoin). named_origin schema j.source) joins)) (is_declared_table schema join.source.table f.0) (joins_declared more joins g.1)

  -- ---- joins

  joins_typed : (before : List SynSource) (joins : List SynJoin) → list_all (λ (j : SynJoin). is_sayable j.on) joins ≡ true → joins_faults schema before joins ≡ []
      → join_mismatches schema (map (λ (o : Origin). o.table) (origins before)) (named_joins schema before joins) ≡ []
      → joins_apart schema (map (name_of schema) (origins before)) (map normal_join (named_joins schema before joins)) ≡ true
      → list_all (λ (j : Joined). lacks_aggregate j.on) (map normal_join (named_joins schema before joins)) ≡ true
      → AreTypedJoins schema (origins before) (named_joins schema before joins)
  joins_typed before [] say free kind far lacks = tt
  joins_typed before (join ∷ joins) say free kind far lacks =
      let more : List SynSource = before ++ join.source ∷ [] in
      let origin : Origin = named_origin schema join.source in
      let on : Expr = named_expression schema join.on (outer_scope more) in
      let rest : List Joined = named_joins schema more joins in
      let ends : origins more ≡ origins before ++ origin ∷ [] = map-append (named_origin schema) before (join.source ∷ []) in
      let table_end : map (λ (o : Origin). o.table) (origins more) ≡ map (λ (o : Origin). o.table) (origins before) ++ origin.table ∷ [] =
      ap (map (λ (o : Origin). o.table)) ends ∙ map-append (λ (o : Origin). o.table) (origins before) (origin ∷ []) in
      let name_end : map (name_of schema) (origins more) ≡ map (name_of schema) (origins before) ++ name_of schema origin ∷ [] =
      ap (map (name_of schema)) ends ∙ map-append (name_of schema) (origins before) (origin ∷ []) in
      let s = and_parts (is_sayable join.on) (list_all (λ (j : SynJoin). is_sayable j.on) joins) say in
      let g = nil_parts (join_faults schema (outer_scope more) join) (joins_faults schema more joins) free in
      let f = nil_parts (source_faults schema join.source) (name_faults schema join.on (outer_scope more)) g.0 in
      let kind' = subst (λ (ts : Tables). mismatch_for schema ts kinds.Boolean on ++ join_mismatches schema ts rest ≡ []) (sym table_end) kind in
      let k = nil_parts (mismatch_for schema (map (λ (o : Origin). o.table) (origins more)) kinds.Boolean on) (join_mismatches schema (map (λ (o : Origin). o.table) (origins more)) rest) kind' in
      let far' = subst (λ (ns : List (List ℕ)). (names_apart schema (normal on) ns && joins_apart schema ns (map normal_join rest)) ≡ true) (sym name_end) far in
      let a = and_parts (names_apart schema (normal on) (map (name_of schema) (origins more))) (joins_apart schema (map (name_of schema) (origins more)) (map normal_join rest)) far' in
      let l = and_parts (lacks_aggregate (normal on)) (list_all (λ (j : Joined). lacks_aggregate j.on) (map normal_join rest)) lacks in
      let one : IsTypedFilter schema (origins more) on = filter_typed schema (outer_scope more) (origins more) (scope_is more) join.on s.0 f.1 k.0 a.0 l.0 in
      let others : AreTypedJoins schema (origins more) rest = joins_typed more joins s.1 g.1 k.1 a.1 l.1 in
      (subst (λ (os : List Origin). IsTypedFilter schema os on) ends one, subst (λ (os : List Origin). AreTypedJoins schema os rest) ends others)

-- ---- the whole

pub typed_select : (schema : Catalog) (w : SynSelect) → is_sayable_select w ≡ true → select_faults schema w ≡ [] → IsTypedSelect schema (named_select schema w)
unfolding select_name_faults named_select mismatches place_faults
typed_select schema w say none =
    let scope : Scope = scope_written w in
    let s : Select = named_select schema w in
    let n : Select = normal_select s in
    let tables : Tables = scope_of s in
    let names : List (List ℕ) = map (name_of schema) (sources_of s) in
    let sourced : sources_of s ≡ origins schema (sources_written w) =
    ap (λ os. named_origin schema w.first ∷ os) (joined_origins schema (w.first ∷ []) w.joins ∙ origins_of_joins schema w.joins) in
    let is : IsScope schema scope tables = subst (λ (os : List Origin). IsScope schema scope (map (λ (o : Origin). o.table) os)) (sym sourced) (scope_is schema (sources_written w)) in
    let says = eight_hold (list_all (λ item. is_sayable item.0) w.items) (list_all (λ join. is_sayable join.on) w.joins) (is_sayable_if_given w.filter) (list_all is_sayable w.groups)
    (is_sayable_if_given w.having) (list_all (λ key. is_sayable key.0) w.order) (is_limit w.limit) (is_limit w.offset) say in
    let all = nil_parts (faults_under schema scope w) (mismatches_under schema tables s ++ place_faults schema n) none in
    let judged = nil_parts (mismatches_under schema tables s) (place_faults schema n) all.1 in
    let placed = nil_parts (fault_if (not (has_parts_in_place n)) NotGrouped) (fault_if (not (has_names_apart schema n)) DuplicateFrom) judged.1 in
    let free = nil_seven (flat_map (λ item. name_faults schema item.0 scope) w.items) (source_faults schema w.first) (joins_faults schema (w.first ∷ []) w.joins) (faults_if_given (λ e. name_faults schema e scope) w.filter)
    (faults_in scope (map (name_faults schema) w.groups)) (faults_if_given (λ e. name_faults schema e scope) w.having) (flat_map (λ key. name_faults schema key.0 scope) w.order) all.0 in
    let kind = nil_six (flat_map (λ item. mismatch schema tables item.0) s.items) (join_mismatches schema (s.first.table ∷ []) s.joins) (faults_if_given (mismatch_for schema tables kinds.Boolean) s.filter)
    (flat_map (mismatch schema tables) s.groups) (faults_if_given (mismatch_for schema tables kinds.Boolean) s.having) (flat_map (λ key. mismatch schema tables key.0) s.order) judged.0 in
    let grouped : Bool = list_all (is_well_grouped (is_grouped n) n.groups (length (sources_of n))) (and_having n.having (outputs n)) in
    let groups = and_parts (list_all lacks_aggregate (before_groups n)) grouped (no_fault (has_parts_in_place n) NotGrouped placed.0) in
    let lack = three_hold (list_all (λ join. lacks_aggregate join.on) n.joins) (list_all lacks_aggregate (option_to_list n.filter)) (list_all lacks_aggregate n.groups) (sym (before_groups_lack n) ∙ groups.0) in
    let apart = three_hold (are_distinct (names_of schema (sources_of n))) (joins_apart schema (name_of schema n.first ∷ []) n.joins) (list_all (λ e. names_apart schema e (names_of schema (sources_of n))) (under_sources n))
    (no_fault (has_names_apart schema n) DuplicateFrom placed.1) in
    let kept : sources_of n ≡ sources_of s = sources_kept s in
    let around : list_all (λ e. names_apart schema e names) (under_sources n) ≡ true = subst (λ (os : List Origin). list_all (λ e. names_apart schema e (map (name_of schema) os)) (under_sources n) ≡ true) kept apart.2 in
    let far = five_hold (list_all (λ e. names_apart schema e names) (option_to_list n.filter)) (list_all (λ e. names_apart schema e names) n.groups) (list_all (λ e. names_apart schema e names) (option_to_list n.having))
    (list_all (λ item. names_apart schema item.0 names) n.items) (list_all (λ key. names_apart schema key.0 names) n.order) (sym (under_sources_hold (λ e. names_apart schema e names) n) ∙ around) in
    record {
      declared_tables = and_from (is_declared schema (named_origin schema w.first)) (list_all (is_declared schema) (map (λ (j : Joined). j.origin) s.joins)) (is_declared_table schema w.first.table free.1)
          (ap (list_all (is_declared schema)) (joined_origins schema (w.first ∷ []) w.joins) ∙ joins_declared schema (w.first ∷ []) w.joins free.2);
      distinct_names = subst (λ (os : List Origin). are_distinct (map (name_of schema) os) ≡ true) kept apart.0;
      items_typed = pairs_typed schema scope (sources_of s) is w.items says.0 free.0 kind.0 far.3;
      joins_typed = joins_typed schema (w.first ∷ []) w.joins says.1 free.2 kind.1 apart.1 lack.0;
      filter_typed = where_typed schema scope (sources_of s) is w.filter says.2 free.3 kind.2 far.0 lack.1;
      groups_typed = groups_typed schema scope (sources_of s) is w.groups says.3 free.4 kind.3 far.1;
      groups_plain = sym (groups_lack s.groups) ∙ lack.2;
      having_typed = having_typed schema scope (sources_of s) is w.having says.4 free.5 kind.4 far.2;
      order_typed = pairs_typed schema scope (sources_of s) is w.order says.5 free.6 kind.5 far.4;
      grouped_columns = subst (λ (g : Bool). list_all (is_well_grouped g (map normal s.groups) (length (sources_of s))) (and_having (normal_where s.having) (outputs n)) ≡ true) (grouped_kept s)
          (subst (λ (os : List Origin). list_all (is_well_grouped (is_grouped n) (map normal s.groups) (length os)) (and_having (normal_where s.having) (outputs n)) ≡ true) kept groups.1);
      fits_limit = says.6;
      fits_offset = says.7;
    }

-- a resolved select that a line can say is plain
pub plain_select : (schema : Catalog) (w : SynSelect) → is_sayable_select w ≡ true → select_faults schema w ≡ [] → IsPlainSelect schema (normal_select (named_select schema w))
plain_select schema w say none = normal_is_plain schema (named_select schema w) (typed_select schema w say none)
