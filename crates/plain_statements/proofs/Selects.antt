-- The test of a select holds exactly where the select is plain.
use Rattle.std.proofs.Common.{◌≡◌, ℕ, ◌+◌, Bool, true, false, ◌&&◌, ◌||◌, ◌↔◌, IsTrue, nat_lt, List, [], ◌∷◌, ◌++◌, map, length, Option, Some, None, is_some, refl, sym, ap, subst, ◌∙◌, arith}
use Rattle.std.proofs.lemmas.Bool.{and_from, and_parts}
use Rattle.std.proofs.lemmas.List.{length-map, map-append}
use Rattle.std.proofs.lemmas.List.Folds.{list_all-append, list_all-map, list_any-append}
use Rattle.std.specs.List.{list_all, list_any, AllByRecursion}
use Rattle.schema_core.specs.Catalog.{Catalog}
use Rattle.expr_types.specs.declared.expr.Expr.{Expr}
use Rattle.expr_types.specs.declared.expr.Origin.{Origin}
use Rattle.expr_types.specs.declared.select.Joined.{Joined}
use Rattle.expr_types.specs.declared.select.Select.{Select}
use Rattle.expr_types.specs.Level.{has_aggregate}
use Rattle.sql_semantics.specs.Kinds.{Scope}
use Rattle.sql_semantics.specs.Plain.{AreJoined, IfSet, IsCondition, IsFilter, IsPlainSelect, StandsIn, and_having, are_distinct, is_declared, is_grouped, is_limit, lacks_aggregate, name_of, outputs, is_well_grouped, sources_of}
use Rattle.expr_scopes.specs.Scopes as scopes
use Rattle.plain_statements.specs.Tested as test
use Rattle.plain_statements.proofs.Conditions.{Tells, condition, each, if_there, row_condition, standing}

-- ---- joins

abbrev Names : Type 0
Names = List (List ℕ)

tables_end : (before : List Origin) (origin : Origin) → test.tables_of (before ++ origin ∷ []) ≡ test.tables_of before ++ origin.table ∷ []
tables_end before origin = map-append (λ (o : Origin). o.table) before (origin ∷ [])

names_end : (schema : Catalog) (before : List Origin) (origin : Origin) → test.names_of schema (before ++ origin ∷ []) ≡ test.names_of schema before ++ name_of schema origin ∷ []
names_end schema before origin = map-append (name_of schema) before (origin ∷ [])

-- the tables and names of sources, in the words of their ends
at_end : (schema : Catalog) (before : List Origin) (origin : Origin) (P : Scope → Names → Type 0)
    → P (test.tables_of (before ++ origin ∷ [])) (test.names_of schema (before ++ origin ∷ [])) → P (test.tables_of before ++ origin.table ∷ []) (test.names_of schema before ++ name_of schema origin ∷ [])
at_end schema before origin P h =
    subst (λ (ns : Names). P (test.tables_of before ++ origin.table ∷ []) ns) (names_end schema before origin)
    (subst (λ (ts : Scope). P ts (test.names_of schema (before ++ origin ∷ []))) (tables_end before origin) h)

join_told : (schema : Catalog) (before : List Origin) (origin : Origin) (e : Expr)
    → Tells (test.is_filter schema (test.tables_of before ++ origin.table ∷ []) (test.names_of schema before ++ name_of schema origin ∷ []) e) (IsFilter schema (before ++ origin ∷ []) e)
join_told schema before origin e =
    at_end schema before origin (λ ts ns. Tells (test.is_filter schema ts ns e) (IsFilter schema (before ++ origin ∷ []) e)) (row_condition schema (before ++ origin ∷ []) e)

joined : (schema : Catalog) (before : List Origin) (joins : List Joined) → Tells (test.are_joined schema (test.tables_of before) (test.names_of schema before) joins) (AreJoined schema before joins)
joined schema before [] = record { told = λ h. tt; holds = λ h. refl }
joined schema before (join ∷ joins) =
    let ts : Scope = test.tables_of before ++ join.origin.table ∷ [] in
    let ns : Names = test.names_of schema before ++ name_of schema join.origin ∷ [] in
    let one = join_told schema before join.origin join.on in
    let rest : Tells (test.are_joined schema ts ns joins) (AreJoined schema (before ++ join.origin ∷ []) joins) =
    at_end schema before join.origin (λ us ms. Tells (test.are_joined schema us ms joins) (AreJoined schema (before ++ join.origin ∷ []) joins)) (joined schema (before ++ join.origin ∷ []) joins) in
    record {
      told = λ h.
          let both = and_parts (test.is_filter schema ts ns join.on) (test.are_joined schema ts ns joins) h in
          let filter = one.told both.0 in (filter.condition, filter.no_aggregate, rest.told both.1);
      holds = λ h. and_from (test.is_filter schema ts ns join.on) (test.are_joined schema ts ns joins) (one.holds (record { condition = h.0; no_aggregate = h.1 })) (rest.holds h.2);
    }

-- ---- groups

any_map : {A B : Type 0} (p : B → Bool) (f : A → B) (xs : List A) → list_any p (map f xs) ≡ list_any (λ x. p (f x)) xs
any_map p f [] = refl
any_map p f (x ∷ xs) = ap (λ b. p (f x) || b) (any_map p f xs)

or_moved : (a b c d : Bool) → (((a || b) || c) || d) ≡ ((a || b) || (c || d))
or_moved true b c d = refl
or_moved false true c d = refl
or_moved false false c d = refl

grouped : (s : Select) → test.groups_rows s ≡ is_grouped s
grouped s =
    let own : Bool = nat_lt 0 (length s.groups) || is_some s.having in
    let items : List Expr = map (λ (item : Expr × Option (List ℕ)). item.0) s.items in
    let keys : List Expr = map (λ (key : Expr × Bool). key.0) s.order in
    or_moved (nat_lt 0 (length s.groups)) (is_some s.having) (list_any (λ (item : Expr × Option (List ℕ)). has_aggregate item.0) s.items) (list_any (λ (key : Expr × Bool). has_aggregate key.0) s.order)
    ∙ ap (λ b. own || (b || list_any (λ (key : Expr × Bool). has_aggregate key.0) s.order)) (sym (any_map has_aggregate (λ (item : Expr × Option (List ℕ)). item.0) s.items))
    ∙ ap (λ b. own || (list_any has_aggregate items || b)) (sym (any_map has_aggregate (λ (key : Expr × Bool). key.0) s.order))
    ∙ ap (λ b. own || b) (sym (list_any-append has_aggregate items keys))

and_moved : (a b c : Bool) → ((a && b) && c) ≡ (a && (b && c))
and_moved true b c = refl
and_moved false b c = refl

with_having : (p : Expr → Bool) (having : Option Expr) (es : List Expr) → (test.if_set p having && list_all p es) ≡ list_all p (and_having having es)
with_having p None es = refl
with_having p (Some e) es = refl

all_settled : (g : Bool) (groups : List Expr) (own : ℕ) (s : Select) → test.are_settled g groups own s ≡ list_all (is_well_grouped g groups own) (and_having s.having (outputs s))
all_settled g groups own s =
    let p : Expr → Bool = is_well_grouped g groups own in
    let items : List Expr = map (λ (item : Expr × Option (List ℕ)). item.0) s.items in
    let keys : List Expr = map (λ (key : Expr × Bool). key.0) s.order in
    and_moved (test.if_set p s.having) (list_all (λ (item : Expr × Option (List ℕ)). p item.0) s.items) (list_all (λ (key : Expr × Bool). p key.0) s.order)
    ∙ ap (λ b. test.if_set p s.having && (b && list_all (λ (key : Expr × Bool). p key.0) s.order)) (sym (list_all-map p (λ (item : Expr × Option (List ℕ)). item.0) s.items))
    ∙ ap (λ b. test.if_set p s.having && (list_all p items && b)) (sym (list_all-map p (λ (key : Expr × Bool). key.0) s.order))
    ∙ ap (λ b. test.if_set p s.having && b) (sym (list_all-append p items keys))
    ∙ with_having p s.having (outputs s)

-- in the words of the definition
settled_is : (s : Select) → test.are_settled (test.groups_rows s) s.groups (length (test.tables_of (sources_of s))) s ≡ list_all (is_well_grouped (is_grouped s) s.groups (length (sources_of s))) (and_having s.having (outputs s))
settled_is s =
    ap (λ g. test.are_settled g s.groups (length (test.tables_of (sources_of s))) s) (grouped s)
    ∙ ap (λ (n : ℕ). test.are_settled (is_grouped s) s.groups n s) (length-map (sources_of s) (λ (o : Origin). o.table))
    ∙ all_settled (is_grouped s) s.groups (length (sources_of s)) s

-- the same where the number of sources is counted by the joins
pub select_settled : (s : Select) → test.are_settled (test.groups_rows s) s.groups (length s.joins + 1) s ≡ list_all (is_well_grouped (is_grouped s) s.groups (length (sources_of s))) (and_having s.having (outputs s))
select_settled s =
    ap (λ g. test.are_settled g s.groups (length s.joins + 1) s) (grouped s)
    ∙ ap (λ (n : ℕ). test.are_settled (is_grouped s) s.groups n s) (counted s)
    ∙ all_settled (is_grouped s) s.groups (length (sources_of s)) s
  where
    counted : (s : Select) → length s.joins + 1 ≡ length (sources_of s)
    counted s = let long = length-map s.joins (λ (j : Joined). j.origin) in omega arith

-- ---- groups

group : (schema : Catalog) (sources : List Origin) (e : Expr) → Tells (test.is_group schema (test.tables_of sources) (test.names_of schema sources) e) (StandsIn schema sources e × (lacks_aggregate e ≡ true))
group schema sources e =
    let first : Bool = test.stands schema (test.tables_of sources) (test.names_of schema sources) e in
    record {
      told = λ h. let both = and_parts first (lacks_aggregate e) h in ((standing schema sources e).told both.0, both.1);
      holds = λ h. and_from first (lacks_aggregate e) ((standing schema sources e).holds h.0) h.1;
    }

both_all : {A : Type 0} (P Q : A → Type 0) (xs : List A) → AllByRecursion P xs → AllByRecursion Q xs → AllByRecursion (λ x. P x × Q x) xs
both_all P Q [] h g = tt
both_all P Q (x ∷ xs) h g = ((h.0, g.0), both_all P Q xs h.1 g.1)

first_all : {A : Type 0} (P Q : A → Type 0) (xs : List A) → AllByRecursion (λ x. P x × Q x) xs → AllByRecursion P xs
first_all P Q [] h = tt
first_all P Q (x ∷ xs) h = (h.0.0, first_all P Q xs h.1)

second_all : {A : Type 0} (P Q : A → Type 0) (xs : List A) → AllByRecursion (λ x. P x × Q x) xs → AllByRecursion Q xs
second_all P Q [] h = tt
second_all P Q (x ∷ xs) h = (h.0.1, second_all P Q xs h.1)

pub alike : {A : Type 0} (p : A → Bool) (xs : List A) → Tells (list_all p xs) (AllByRecursion (λ x. p x ≡ true) xs)
alike p = each p (λ x. p x ≡ true) (λ x. record { told = λ h. h; holds = λ h. h })

-- ---- the whole

known : (schema : Catalog) (sources : List Origin) → list_all (scopes.is_known schema) (test.tables_of sources) ≡ list_all (is_declared schema) sources
known schema sources = list_all-map (scopes.is_known schema) (λ (o : Origin). o.table) sources

module _ (schema : Catalog) (s : Select) where
  abbrev ts : Scope
  ts = test.tables_of (sources_of s)

  abbrev ns : Names
  ns = test.names_of schema (sources_of s)

  abbrev filtered : Bool
  filtered = test.if_set (test.is_filter schema ts ns) s.filter

  abbrev having : Bool
  having = test.if_set (test.is_condition schema ts ns) s.having

  abbrev items : Bool
  items = test.are_items schema ts ns s.items

  abbrev groups : Bool
  groups = list_all (test.is_group schema ts ns) s.groups

  abbrev keys : Bool
  keys = test.are_keys schema ts ns s.order

  abbrev sourced : Bool
  sourced = test.are_sources schema ts ns

  abbrev gathered : Bool
  gathered = test.are_settled (test.groups_rows s) s.groups (length ts) s

  abbrev under : Bool
  under = test.plain_under schema ts ns s

  abbrev on : Bool
  on = test.are_joined schema (s.first.table ∷ []) (name_of schema s.first ∷ []) s.joins

  filter_tells : Tells filtered (IfSet (IsFilter schema (sources_of s)) s.filter)
  filter_tells = if_there (test.is_filter schema ts ns) (IsFilter schema (sources_of s)) (row_condition schema (sources_of s)) s.filter

  having_tells : Tells having (IfSet (IsCondition schema (sources_of s)) s.having)
  having_tells = if_there (test.is_condition schema ts ns) (IsCondition schema (sources_of s)) (condition schema (sources_of s)) s.having

  items_tell : Tells items (AllByRecursion (λ (item : Expr × Option (List ℕ)). StandsIn schema (sources_of s) item.0) s.items)
  items_tell =
      each (λ (item : Expr × Option (List ℕ)). test.stands schema ts ns item.0) (λ (item : Expr × Option (List ℕ)). StandsIn schema (sources_of s) item.0) (λ item. standing schema (sources_of s) item.0) s.items

  keys_tell : Tells keys (AllByRecursion (λ (key : Expr × Bool). StandsIn schema (sources_of s) key.0) s.order)
  keys_tell = each (λ (key : Expr × Bool). test.stands schema ts ns key.0) (λ (key : Expr × Bool). StandsIn schema (sources_of s) key.0) (λ key. standing schema (sources_of s) key.0) s.order

  groups_tell : Tells groups (AllByRecursion (λ e. StandsIn schema (sources_of s) e × (lacks_aggregate e ≡ true)) s.groups)
  groups_tell = each (test.is_group schema ts ns) (λ e. StandsIn schema (sources_of s) e × (lacks_aggregate e ≡ true)) (group schema (sources_of s)) s.groups

  joins_tell : Tells on (AreJoined schema (s.first ∷ []) s.joins)
  joins_tell = joined schema (s.first ∷ []) s.joins

  told : test.plain_select schema s ≡ true → IsPlainSelect schema s
  told h =
      let a = and_parts (is_limit s.limit && is_limit s.offset && under) on h in
      let b = and_parts (is_limit s.limit && is_limit s.offset) under a.0 in
      let c = and_parts (is_limit s.limit) (is_limit s.offset) b.0 in
      let d = and_parts (sourced && gathered) (test.are_placed schema ts ns s) b.1 in
      let e = and_parts sourced gathered d.0 in
      let f = and_parts (list_all (scopes.is_known schema) ts) (are_distinct ns) e.0 in
      let g = and_parts (filtered && having && items && groups) keys d.1 in
      let i = and_parts (filtered && having && items) groups g.0 in
      let j = and_parts (filtered && having) items i.0 in
      let k = and_parts filtered having j.0 in
      let groups_are = groups_tell.told i.1 in
      record {
        declared_tables = sym (known schema (sources_of s)) ∙ f.0;
        distinct_names = f.1;
        items_stand = items_tell.told j.1;
        joins_stand = joins_tell.told a.1;
        filter_stands = filter_tells.told k.0;
        groups_stand = first_all (StandsIn schema (sources_of s)) (λ e. lacks_aggregate e ≡ true) s.groups groups_are;
        groups_plain = (alike lacks_aggregate s.groups).holds (second_all (StandsIn schema (sources_of s)) (λ e. lacks_aggregate e ≡ true) s.groups groups_are);
        having_stands = having_tells.told k.1;
        order_stands = keys_tell.told g.1;
        grouped_columns = sym (settled_is s) ∙ e.1;
        fits_limit = c.0;
        fits_offset = c.1;
      }

  holds : IsPlainSelect schema s → test.plain_select schema s ≡ true
  holds p =
      let sources : sourced ≡ true = and_from (list_all (scopes.is_known schema) ts) (are_distinct ns) (known schema (sources_of s) ∙ p.declared_tables) p.distinct_names in
      let grouping : groups ≡ true =
      groups_tell.holds (both_all (StandsIn schema (sources_of s)) (λ e. lacks_aggregate e ≡ true) s.groups p.groups_stand ((alike lacks_aggregate s.groups).told p.groups_plain)) in
      let parts : test.are_placed schema ts ns s ≡ true =
      and_from (filtered && having && items && groups) keys
      (and_from (filtered && having && items) groups
      (and_from (filtered && having) items (and_from filtered having (filter_tells.holds p.filter_stands) (having_tells.holds p.having_stands)) (items_tell.holds p.items_stand))
      grouping)
      (keys_tell.holds p.order_stands) in
      let below : under ≡ true = and_from (sourced && gathered) (test.are_placed schema ts ns s) (and_from sourced gathered sources (settled_is s ∙ p.grouped_columns)) parts in
      and_from (is_limit s.limit && is_limit s.offset && under) on
      (and_from (is_limit s.limit && is_limit s.offset) under (and_from (is_limit s.limit) (is_limit s.offset) p.fits_limit p.fits_offset) below)
      (joins_tell.holds p.joins_stand)

pub select_decided : (schema : Catalog) (s : Select) (b : Bool) → b ≡ test.plain_select schema s → IsTrue b ↔ IsPlainSelect schema s
select_decided schema s b is = ((λ h. told schema s (sym is ∙ h)), (λ p. is ∙ holds schema s p))
