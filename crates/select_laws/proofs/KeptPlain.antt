-- The normal form of a typed select is plain.
use Rattle.std.proofs.Common.{◌≡◌, ℕ, suc, Bool, true, false, not, ◌&&◌, ◌||◌, nat_lt, List, [], ◌∷◌, ◌++◌, length, map, Option, Some, None, Ok, refl, sym, ap, subst, ◌∙◌}
use Rattle.std.proofs.Math.Bool.{or-false}
use Rattle.std.proofs.lemmas.List.Folds.{list_any-append}
use Rattle.std.specs.List.{list_all, list_any, AllByRecursion}
use Rattle.std.specs.Option.{is_some}
use Rattle.std.specs.Result.{is_ok}
use Rattle.base_core.specs.declared.value.Kind.{Kind}
use Rattle.schema_core.specs.Catalog.{Catalog}
use Rattle.expr_types.specs.declared.expr.Expr.{Expr}
use Rattle.expr_types.specs.declared.expr.Origin.{Origin}
use Rattle.expr_types.specs.declared.select.Joined.{Joined}
use Rattle.expr_types.specs.declared.select.Select.{Select}
use Rattle.expr_types.specs.Level.{aggregate_level, has_aggregate}
use Rattle.expr_types.specs.Normal.{normal}
use Rattle.expr_types.specs.NormalSelect.{normal_join, normal_select, normal_where}
use Rattle.expr_normal.proofs.Fixed.{normal_again}
use Rattle.sql_semantics.specs.Kinds.{Scope, Judged, expression_kind}
use Rattle.sql_semantics.specs.Plain.{AreJoined, IfSet, IsCondition, IsFilter, IsPlainSelect, StandsIn, adds_name, and_having, are_distinct, fits, fits_level, is_grouped, lacks_aggregate, name_of, names_apart, outputs, is_well_grouped, sources_of}
use Rattle.sql_semantics.specs.Typed.{AreTypedJoins, IsTyped, IsTypedCondition, IsTypedFilter, IsTypedSelect}
use Rattle.sql_semantics.proofs.Equations.{enter}
use Rattle.sql_semantics.proofs.Typed.{has_kind}
use Rattle.select_laws.proofs.KeptFolds.{Keeps, KeepsTest, every_keeps, every_step, kept}
use Rattle.select_laws.proofs.KeptKinds.{kind_kept}
use Rattle.select_laws.proofs.KeptLists.{lists_kept}

-- ---- tests of every level

fits_test : (schema : Catalog) → KeepsTest Scope (fits_level schema)
fits_test schema = record {
  ands = λ s xs. refl;
  ors = λ s xs. refl;
  nots = λ s a. refl;
  likes = λ s g a b. refl;
  ilikes = λ s g a b. refl;
  lowers = λ s a. refl;
  compares = λ s op a b. refl;
  nulls = λ s g a. refl;
  lists = λ s g a vs. refl;
  ranges = λ s g a low high. refl;
  distincts = λ s g a b. refl;
  exist = λ s g o a. refl;
}

pub fits_kept : (schema : Catalog) (scope : Scope) (e : Expr) → fits schema (normal e) scope ≡ fits schema e scope
unfolding fits
fits_kept schema scope e = ap (λ (f : Scope → Bool). f scope) (kept (Scope → Bool) (every_step enter (fits_level schema)) (every_keeps Scope enter (fits_level schema) (fits_test schema)) e)

names_test : (schema : Catalog) → KeepsTest (List (List ℕ)) (adds_name schema)
names_test schema = record {
  ands = λ s xs. refl;
  ors = λ s xs. refl;
  nots = λ s a. refl;
  likes = λ s g a b. refl;
  ilikes = λ s g a b. refl;
  lowers = λ s a. refl;
  compares = λ s op a b. refl;
  nulls = λ s g a. refl;
  lists = λ s g a vs. refl;
  ranges = λ s g a low high. refl;
  distincts = λ s g a b. refl;
  exist = λ s g o a. refl;
}

pub names_kept : (schema : Catalog) (names : List (List ℕ)) (e : Expr) → names_apart schema (normal e) names ≡ names_apart schema e names
unfolding names_apart
names_kept schema names e =
    let below : List (List ℕ) → Origin → List (List ℕ) = λ names origin. names ++ name_of schema origin ∷ [] in
    ap (λ (f : List (List ℕ) → Bool). f names) (kept (List (List ℕ) → Bool) (every_step below (adds_name schema)) (every_keeps (List (List ℕ)) below (adds_name schema) (names_test schema)) e)

-- ---- aggregates

or_pair : (a b : Bool) → (a || (b || false)) ≡ ((a || false) || ((b || false) || false))
or_pair a b = ap (λ c. a || c) (sym (or-false (b || false))) ∙ ap (λ c. c || ((b || false) || false)) (sym (or-false a))

any_flat : (xs ys zs : List Bool) → list_any (λ has. has) (xs ++ list_any (λ has. has) ys ∷ zs) ≡ list_any (λ has. has) (xs ++ ys ++ zs)
any_flat [] ys zs = sym (list_any-append (λ has. has) ys zs)
any_flat (x ∷ xs) ys zs = ap (λ b. x || b) (any_flat xs ys zs)

aggregate_keeps : Keeps Bool aggregate_level
aggregate_keeps = record {
  ands = any_flat;
  ors = any_flat;
  nots = λ a. or-false (a || false) ∙ or-false a;
  compares = λ op a b. sym (or-false (a || (b || false)));
  nulls = λ g a. sym (or-false (a || false));
  likes = λ g a b. sym (or-false (a || (b || false)));
  ilikes = λ g a b. sym (or-false (a || (b || false)));
  lists = λ g a vs. sym (or-false (a || false));
  ranges = λ g a low high. sym (or-false (a || (low || (high || false))));
  distincts = λ g a b. sym (or-false (a || (b || false)));
  exist = λ g o a. sym (or-false (a || false));
  lowers = λ g a b. or_pair a b;
}

pub aggregate_kept : (e : Expr) → has_aggregate (normal e) ≡ has_aggregate e
unfolding has_aggregate
aggregate_kept e = kept Bool aggregate_level aggregate_keeps e

-- ---- expressions

ok_kind : (r : Judged) (k : Kind) → r ≡ Ok k → is_ok r ≡ true
ok_kind r k e = ap is_ok e

stands : (schema : Catalog) (sources : List Origin) (e : Expr) → IsTyped schema sources e → StandsIn schema sources (normal e)
stands schema sources e h =
    let scope : Scope = map (λ (origin : Origin). origin.table) sources in
    let kind = has_kind (expression_kind schema e scope) h.typed in
    record {
      fitting = fits_kept schema scope e ∙ h.fitting;
      typed = ok_kind (expression_kind schema (normal e) scope) kind.0 (kind_kept e schema scope kind.0 kind.1);
      in_normal_form = normal_again e;
      full_lists = lists_kept e h.full_lists;
      apart = names_kept schema (map (name_of schema) sources) e ∙ h.apart;
    }

is_condition : (schema : Catalog) (sources : List Origin) (e : Expr) → IsTypedCondition schema sources e → IsCondition schema sources (normal e)
is_condition schema sources e h = record {
  stands = stands schema sources e h.stands;
  boolean = kind_kept e schema (map (λ (origin : Origin). origin.table) sources) _ h.boolean;
}

lacks_kept : (e : Expr) → lacks_aggregate (normal e) ≡ lacks_aggregate e
lacks_kept e = ap not (aggregate_kept e)

is_filter : (schema : Catalog) (sources : List Origin) (e : Expr) → IsTypedFilter schema sources e → IsFilter schema sources (normal e)
is_filter schema sources e h = record { condition = is_condition schema sources e h.condition; no_aggregate = lacks_kept e ∙ h.no_aggregate }

-- ---- the parts of a select

if_set : (P Q : Expr → Type 0) → ((e : Expr) → P e → Q (normal e)) → (o : Option Expr) → IfSet P o → IfSet Q (normal_where o)
if_set P Q f None h = tt
if_set P Q f (Some e) h = f e h

each_stands : {A : Type 0} (schema : Catalog) (sources : List Origin) (xs : List (Expr × A)) → AllByRecursion (λ x. IsTyped schema sources x.0) xs
    → AllByRecursion (λ (x : Expr × A). StandsIn schema sources x.0) (map (λ x. (normal x.0, x.1)) xs)
each_stands schema sources [] h = tt
each_stands schema sources (x ∷ xs) h = (stands schema sources x.0 h.0, each_stands schema sources xs h.1)

groups_stand : (schema : Catalog) (sources : List Origin) (es : List Expr) → AllByRecursion (IsTyped schema sources) es → AllByRecursion (StandsIn schema sources) (map normal es)
groups_stand schema sources [] h = tt
groups_stand schema sources (e ∷ es) h = (stands schema sources e h.0, groups_stand schema sources es h.1)

pub groups_lack : (es : List Expr) → list_all lacks_aggregate (map normal es) ≡ list_all lacks_aggregate es
groups_lack [] = refl
groups_lack (e ∷ es) = ap (λ b. b && list_all lacks_aggregate (map normal es)) (lacks_kept e) ∙ ap (λ b. lacks_aggregate e && b) (groups_lack es)

joins_stand : (schema : Catalog) (before : List Origin) (js : List Joined) → AreTypedJoins schema before js → AreJoined schema before (map normal_join js)
joins_stand schema before [] h = tt
joins_stand schema before (j ∷ js) h =
    let one = is_filter schema (before ++ j.origin ∷ []) j.on h.0 in (one.condition, one.no_aggregate, joins_stand schema (before ++ j.origin ∷ []) js h.1)

origins_kept : (js : List Joined) → map (λ (j : Joined). j.origin) (map normal_join js) ≡ map (λ (j : Joined). j.origin) js
origins_kept [] = refl
origins_kept (j ∷ js) = ap (λ os. j.origin ∷ os) (origins_kept js)

pub sources_kept : (s : Select) → sources_of (normal_select s) ≡ sources_of s
sources_kept s = ap (λ os. s.first ∷ os) (origins_kept s.joins)

any_kept : {A : Type 0} (xs : List (Expr × A)) → list_any has_aggregate (map (λ (x : Expr × A). x.0) (map (λ (x : Expr × A). (normal x.0, x.1)) xs)) ≡ list_any has_aggregate (map (λ (x : Expr × A). x.0) xs)
any_kept [] = refl
any_kept {A} (x ∷ xs) =
    ap (λ b. b || list_any has_aggregate (map (λ (y : Expr × A). y.0) (map (λ (y : Expr × A). (normal y.0, y.1)) xs))) (aggregate_kept x.0) ∙ ap (λ b. has_aggregate x.0 || b) (any_kept xs)

outputs_kept : (s : Select) → list_any has_aggregate (outputs (normal_select s)) ≡ list_any has_aggregate (outputs s)
outputs_kept s =
    let items : List Expr = map (λ (i : Expr × Option (List ℕ)). i.0) s.items in
    let order : List Expr = map (λ (k : Expr × Bool). k.0) s.order in
    let items' : List Expr = map (λ (i : Expr × Option (List ℕ)). i.0) (normal_select s).items in
    let order' : List Expr = map (λ (k : Expr × Bool). k.0) (normal_select s).order in
    list_any-append has_aggregate items' order' ∙ ap (λ b. b || list_any has_aggregate order') (any_kept s.items) ∙ ap (λ b. list_any has_aggregate items || b) (any_kept s.order)
    ∙ sym (list_any-append has_aggregate items order)

groups_long : (es : List Expr) → length (map normal es) ≡ length es
groups_long [] = refl
groups_long (e ∷ es) = ap suc (groups_long es)

having_set : (o : Option Expr) → is_some (normal_where o) ≡ is_some o
having_set None = refl
having_set (Some e) = refl

pub grouped_kept : (s : Select) → is_grouped (normal_select s) ≡ is_grouped s
grouped_kept s =
    ap (λ n. nat_lt 0 n || is_some (normal_where s.having) || list_any has_aggregate (outputs (normal_select s))) (groups_long s.groups)
    ∙ ap (λ b. nat_lt 0 (length s.groups) || b || list_any has_aggregate (outputs (normal_select s))) (having_set s.having)
    ∙ ap (λ b. nat_lt 0 (length s.groups) || is_some s.having || b) (outputs_kept s)

-- the normal form of a typed select is plain
pub normal_is_plain : (schema : Catalog) (s : Select) → IsTypedSelect schema s → IsPlainSelect schema (normal_select s)
normal_is_plain schema s h =
    let same : sources_of s ≡ sources_of (normal_select s) = sym (sources_kept s) in
    record {
      declared_tables = subst (λ os. list_all (λ (o : Origin). nat_lt o.table.0 (length schema.tables)) os ≡ true) same h.declared_tables;
      distinct_names = subst (λ os. are_distinct (map (name_of schema) os) ≡ true) same h.distinct_names;
      items_stand = subst (λ os. AllByRecursion (λ (item : Expr × Option (List ℕ)). StandsIn schema os item.0) (normal_select s).items) same (each_stands schema (sources_of s) s.items h.items_typed);
      joins_stand = joins_stand schema (s.first ∷ []) s.joins h.joins_typed;
      filter_stands = subst (λ os. IfSet (IsFilter schema os) (normal_where s.filter)) same (if_set (IsTypedFilter schema (sources_of s)) (IsFilter schema (sources_of s)) (is_filter schema (sources_of s)) s.filter h.filter_typed);
      groups_stand = subst (λ os. AllByRecursion (StandsIn schema os) (map normal s.groups)) same (groups_stand schema (sources_of s) s.groups h.groups_typed);
      groups_plain = groups_lack s.groups ∙ h.groups_plain;
      having_stands = subst (λ os. IfSet (IsCondition schema os) (normal_where s.having)) same (if_set (IsTypedCondition schema (sources_of s)) (IsCondition schema (sources_of s)) (is_condition schema (sources_of s)) s.having h.having_typed);
      order_stands = subst (λ os. AllByRecursion (λ (key : Expr × Bool). StandsIn schema os key.0) (normal_select s).order) same (each_stands schema (sources_of s) s.order h.order_typed);
      grouped_columns = subst (λ (g : Bool). list_all (is_well_grouped g (map normal s.groups) (length (sources_of (normal_select s)))) (and_having (normal_where s.having) (outputs (normal_select s))) ≡ true) (sym (grouped_kept s))
          (subst (λ os. list_all (is_well_grouped (is_grouped s) (map normal s.groups) (length os)) (and_having (normal_where s.having) (outputs (normal_select s))) ≡ true) same h.grouped_columns);
      fits_limit = h.fits_limit;
      fits_offset = h.fits_offset;
    }
