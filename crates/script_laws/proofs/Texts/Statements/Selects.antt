-- A plain select is had from its form.
use Rattle.std.proofs.Common.{◌≡◌, ℕ, ◌++◌, Bool, true, List, [], ◌∷◌, map, Option, Some, None, refl, sym, ap, ◌∙◌, append_assoc}
use Rattle.std.specs.Prelude.{pos}
use Rattle.std.specs.List.{list_all}
use Rattle.std.specs.Option.{option_map}
use Rattle.std.proofs.lemmas.Bool.{and_parts}
use Rattle.base_core.specs.declared.value.Value.{Value}
use Rattle.base_core.specs.declared.value.Value.TheVariants as cell
use Rattle.schema_core.specs.Catalog.{Catalog}
use Rattle.expr_types.specs.declared.expr.Expr.{Expr}
use Rattle.expr_types.specs.declared.expr.Origin.{Origin}
use Rattle.expr_types.specs.declared.select.Joined.{Joined}
use Rattle.expr_types.specs.declared.select.Select.{Select}
use Rattle.sql_semantics.specs.Plain.{AreJoined, IsCondition, IsFilter, IsPlainSelect, StandsIn, are_distinct, is_declared, name_of, sources_of}
use Rattle.base_core.specs.declared.dialect.Dialect.{Dialect}
use Rattle.script_laws.specs.Texts.Grammar.Trees.{Sql}
use Rattle.script_laws.specs.Texts.Expressions.Tree.{tree}
use Rattle.script_laws.specs.Texts.Forms.Forms.{JoinForm, SelectForm}
use Rattle.script_laws.specs.Texts.Forms.Form.{joins_form, number, select_form}
use Rattle.sql_semantics.specs.DistinctNames.{has_distinct_names}
use Rattle.script_laws.proofs.Texts.Readings.Back.{back, from_tree, origin_back, origin_told, source_names}
use Rattle.script_laws.proofs.Texts.Readings.Selects.{one_select_form}
use Rattle.script_laws.specs.Texts.Statements.{IsOneSelect}
use Rattle.script_laws.proofs.Texts.Statements.Parts.{with_next, one_more, list_told, option_told, front_distinct}

-- ---- from a form

abbrev item_back : Catalog → List Origin → Sql × Option (List ℕ) → Expr × Option (List ℕ)
item_back schema scope item = (back schema item.0 scope, item.1)

abbrev key_back : Catalog → List Origin → Sql × Bool → Expr × Bool
key_back schema scope key = (back schema key.0 scope, key.1)

abbrev tree_back : Catalog → List Origin → Sql → Expr
tree_back schema scope x = back schema x scope

abbrev joined_made : Bool → Origin → Expr → Joined
joined_made left origin on = record { left = left; origin = origin; on = on }

-- the joins, each under the sources up to it
abbrev joins_back : Catalog → List Origin → List JoinForm → List Joined
joins_back schema before [] = []
joins_back schema before (join ∷ joins) =
    joined_made join.left (origin_back schema join.source) (back schema join.on (before ++ origin_back schema join.source ∷ [])) ∷ joins_back schema (before ++ origin_back schema join.source ∷ []) joins

abbrev number_back : Value → ℕ
number_back (cell.Int (pos n)) = n
number_back v = 0

abbrev made : Bool → List (Expr × Option (List ℕ)) → Origin → List Joined → Option Expr → List Expr → Option Expr → List (Expr × Bool) → Option ℕ → Option ℕ → Select
made distinct items first joins filter groups having order limit offset =
    record { distinct = distinct; items = items; first = first; joins = joins; filter = filter; groups = groups; having = having; order = order; limit = limit; offset = offset }

abbrev made_under : Catalog → SelectForm → List Origin → Select
made_under schema form scope =
    made form.distinct (map (item_back schema scope) form.items) (origin_back schema form.first) (joins_back schema (origin_back schema form.first ∷ []) form.joins) (option_map (tree_back schema scope) form.filter)
    (map (tree_back schema scope) form.groups) (option_map (tree_back schema scope) form.having) (map (key_back schema scope) form.order) (option_map number_back form.limit) (option_map number_back form.offset)

abbrev sources_back : Catalog → SelectForm → List Origin
sources_back schema form = origin_back schema form.first ∷ map (λ join. origin_back schema join.source) form.joins

abbrev select_back : Catalog → SelectForm → Select
select_back schema form = made_under schema form (sources_back schema form)

number_told : (o : Option ℕ) → option_map number_back (option_map number o) ≡ o
number_told None = refl
number_told (Some n) = refl

module _ (q : Dialect) (schema : Catalog) (named : has_distinct_names schema ≡ true) where
  -- ---- sources

  origins_told : (before : List Origin) (joins : List Joined) → list_all (is_declared schema) (map (λ join. join.origin) joins) ≡ true
      → map (λ join. origin_back schema join.source) (joins_form q schema before joins) ≡ map (λ join. join.origin) joins
  origins_told before [] there = refl
  origins_told before (join ∷ joins) there =
      let both = and_parts (is_declared schema join.origin) (list_all (is_declared schema) (map (λ (j : Joined). j.origin) joins)) there in
      one_more (origin_told q schema named join.origin both.0) (origins_told (before ++ join.origin ∷ []) joins both.1)

  sources_told : (s : Select) → list_all (is_declared schema) (sources_of s) ≡ true → sources_back schema (select_form q schema s) ≡ sources_of s
  sources_told s there =
      let both = and_parts (is_declared schema s.first) (list_all (is_declared schema) (map (λ (j : Joined). j.origin) s.joins)) there in
      one_more (origin_told q schema named s.first both.0) (origins_told (s.first ∷ []) s.joins both.1)

  joins_told : (before : List Origin) (joins : List Joined) → list_all (is_declared schema) (map (λ join. join.origin) joins) ≡ true
      → are_distinct (source_names schema (before ++ map (λ join. join.origin) joins)) ≡ true → AreJoined schema before joins → joins_back schema before (joins_form q schema before joins) ≡ joins
  joins_told before [] there distinct joined = refl
  joins_told before (join ∷ joins) there distinct joined =
      let both = and_parts (is_declared schema join.origin) (list_all (is_declared schema) (map (λ (j : Joined). j.origin) joins)) there in
      let under : List Origin = before ++ join.origin ∷ [] in
      let others : List Origin = map (λ (j : Joined). j.origin) joins in
      let split : are_distinct (source_names schema (under ++ others)) ≡ true =
      ap (λ (scope : List Origin). are_distinct (source_names schema scope)) (append_assoc before (join.origin ∷ []) others) ∙ distinct in
      ap (λ (o : Origin). joined_made join.left o (back schema (tree q schema join.on under) (before ++ o ∷ [])) ∷ joins_back schema (before ++ o ∷ []) (joins_form q schema under joins))
      (origin_told q schema named join.origin both.0)
      ∙ one_more (ap (joined_made join.left join.origin) (from_tree q schema named under join.on (front_distinct (name_of schema) under others split) joined.0.stands))
      (joins_told under joins both.1 split joined.2)

  -- ---- the whole

  select_told : (s : Select) → IsPlainSelect schema s → select_back schema (select_form q schema s) ≡ s
  select_told s plain =
      let scope : List Origin = sources_of s in
      let each : (e : Expr) → StandsIn schema scope e → tree_back schema scope (tree q schema e scope) ≡ e = λ e stands. from_tree q schema named scope e plain.distinct_names stands in
      let there = and_parts (is_declared schema s.first) (list_all (is_declared schema) (map (λ (j : Joined). j.origin) s.joins)) plain.declared_tables in
      let start : made s.distinct ≡ made s.distinct = refl in
      ap (made_under schema (select_form q schema s)) (sources_told s plain.declared_tables)
      ∙ with_next (with_next (with_next (with_next (with_next (with_next (with_next (with_next (with_next start
      (list_told (λ (item : Expr × Option (List ℕ)). (tree q schema item.0 scope, item.1)) (item_back schema scope) (λ item. StandsIn schema scope item.0)
      (λ item stands. ap (λ (e : Expr). (e, item.1)) (each item.0 stands)) s.items plain.items_stand))
      (origin_told q schema named s.first there.0))
      (ap (λ (o : Origin). joins_back schema (o ∷ []) (joins_form q schema (s.first ∷ []) s.joins)) (origin_told q schema named s.first there.0) ∙ joins_told (s.first ∷ []) s.joins there.1 plain.distinct_names plain.joins_stand))
      (option_told (λ (e : Expr). tree q schema e scope) (tree_back schema scope) (IsFilter schema scope) (λ e is. each e is.condition.stands) s.filter plain.filter_stands))
      (list_told (λ (e : Expr). tree q schema e scope) (tree_back schema scope) (StandsIn schema scope) each s.groups plain.groups_stand))
      (option_told (λ (e : Expr). tree q schema e scope) (tree_back schema scope) (IsCondition schema scope) (λ e is. each e is.stands) s.having plain.having_stands))
      (list_told (λ (key : Expr × Bool). (tree q schema key.0 scope, key.1)) (key_back schema scope) (λ key. StandsIn schema scope key.0) (λ key stands. ap (λ (e : Expr). (e, key.1)) (each key.0 stands)) s.order plain.order_stands))
      (number_told s.limit))
      (number_told s.offset)

pub one_select : IsOneSelect
one_select dialect schema text values it other named plain other_plain reads other_reads =
    sym (select_told dialect schema named it plain)
    ∙ (ap (select_back schema) (one_select_form dialect text values (select_form dialect schema it) (select_form dialect schema other) reads other_reads) ∙ select_told dialect schema named other other_plain)
