-- What stands under the sources of a select stands under those of a wider one.
use Rattle.std.proofs.Common.{◌≡◌, ℕ, Bool, true, false, not, ◌&&◌, ◌||◌, if◌then◌else◌, List, [], ◌∷◌, ◌++◌, length, map, refl, sym, ap, ◌∙◌, append-nil}
use Rattle.std.specs.Prelude.{is_ok}
use Rattle.std.specs.List.{list_all, list_any}
use Rattle.std.proofs.Math.Bool.{or-true}
use Rattle.std.proofs.lemmas.List.{length-map, map-append}
use Rattle.base_core.specs.declared.ids.TableId.{TableId}
use Rattle.schema_core.specs.Catalog.{Catalog}
use Rattle.expr_types.specs.declared.expr.Origin.{Origin}
use Rattle.expr_types.specs.declared.expr.Expr.{Expr, roll-Expr}
use Rattle.expr_types.specs.declared.expr.Expr.TheOpen.{Expr-F}
use Rattle.expr_types.specs.declared.expr.Expr.TheFolds.{fold-roll-Expr, map-Expr, para-roll-Expr}
use Rattle.expr_types.specs.Level.{aggregate_level, has_aggregate, is_aggregate, operands}
use Rattle.expr_types.proofs.Folds.{bare, by_levels}
use Rattle.expr_types.proofs.Operands.{operands_map}
use Rattle.sql_semantics.specs.Kinds.{expression_kind}
use Rattle.sql_semantics.specs.Plain.{Found, IsFilter, StandsIn, fits, is_exists, is_well_grouped, is_well_grouped_level, lacks_aggregate, name_of, names_apart, operands_lack}
use Rattle.main_selects.specs.Shifted.{shifted}
use Rattle.alias_names.specs.Names.{exists_names}
use Rattle.loading_laws.proofs.MainSelects.Forms.{normal_shifted}
use Rattle.loading_laws.proofs.Wide.Levels.{aggregates_stay}
use Rattle.loading_laws.proofs.Wide.Selected.{was_neither}
use Rattle.loading_laws.proofs.MainSelects.Scopes.{apart_shifted, are_free, fits_shifted, kind_shifted, lists_stay}

-- ---- under more sources

module _ (schema : Catalog) (sources more : List Origin) where
  abbrev sh : Expr → Expr
  sh = shifted (length sources) (length more)

  abbrev table : Origin → TableId
  table origin = origin.table

  -- what is found of it among what the sources have
  wide_by : {A B : Type 0} (f : Origin → A) (found : Expr → List A → B) (e : Expr)
      → found (shifted (length (map f sources)) (length (map f more)) e) (map f sources ++ (map f more ++ [])) ≡ found e (map f sources ++ [])
      → found (sh e) (map f (sources ++ more)) ≡ found e (map f sources)
  wide_by f found e law =
      ap (λ (n : ℕ). found (shifted n (length more) e) (map f (sources ++ more))) (sym (length-map sources f))
      ∙ ap (λ (n : ℕ). found (shifted (length (map f sources)) n e) (map f (sources ++ more))) (sym (length-map more f))
      ∙ ap (found (shifted (length (map f sources)) (length (map f more)) e)) (map-append f sources more ∙ ap (λ xs. map f sources ++ xs) (sym (append-nil (map f more))))
      ∙ law ∙ ap (found e) (append-nil (map f sources))

  fits_wide : (e : Expr) → fits schema (sh e) (map table (sources ++ more)) ≡ fits schema e (map table sources)
  fits_wide e = wide_by table (fits schema) e (fits_shifted schema (map table sources) (map table more) e [])

  kind_wide : (e : Expr) → expression_kind schema (sh e) (map table (sources ++ more)) ≡ expression_kind schema e (map table sources)
  kind_wide e = wide_by table (expression_kind schema) e (kind_shifted schema (map table sources) (map table more) e [])

  abbrev pub AreNew : Expr → Type 0
  AreNew e = are_free (map (name_of schema) more) (exists_names schema e) ≡ true

  apart_wide : (e : Expr) → AreNew e → names_apart schema (sh e) (map (name_of schema) (sources ++ more)) ≡ names_apart schema e (map (name_of schema) sources)
  apart_wide e new = wide_by (name_of schema) (names_apart schema) e (apart_shifted schema (map (name_of schema) sources) (map (name_of schema) more) e [] new)

  pub stands_wide : (e : Expr) → AreNew e → StandsIn schema sources e → StandsIn schema (sources ++ more) (sh e)
  stands_wide e new h = record {
    fitting = fits_wide e ∙ h.fitting;
    typed = ap is_ok (kind_wide e) ∙ h.typed;
    in_normal_form = normal_shifted (length sources) (length more) e ∙ ap sh h.in_normal_form;
    full_lists = lists_stay (length sources) (length more) e ∙ h.full_lists;
    apart = apart_wide e new ∙ h.apart;
  }

  pub filter_wide : (e : Expr) → AreNew e → IsFilter schema sources e → IsFilter schema (sources ++ more) (sh e)
  filter_wide e new h = record {
    condition = record { stands = stands_wide e new h.condition.stands; boolean = kind_wide e ∙ h.condition.boolean };
    no_aggregate = ap not (aggregates_stay (length sources) (length more) e) ∙ h.no_aggregate;
  }

-- ---- without aggregates

same_aggregate : {A B : Type 0} (f : A → B) (x : Expr-F A) → is_aggregate (map-Expr A B f x) ≡ is_aggregate x
same_aggregate f (Expr-F.Call k es) = refl
same_aggregate f Expr-F.CountAll = refl
same_aggregate f x = refl

module _ (own : ℕ) where
  abbrev settled : Expr → Bool
  settled = is_well_grouped false [] own

  abbrev with_settled : Expr → Found
  with_settled e = (e, settled e)

  abbrev IsSettled : Expr → Type 0
  IsSettled e = has_aggregate e ≡ false → settled e ≡ true

  aggregate_rolled : (x : Expr-F Expr) → has_aggregate (roll-Expr x) ≡ aggregate_level (map-Expr Expr Bool has_aggregate x)
  unfolding has_aggregate
  aggregate_rolled x = fold-roll-Expr Bool aggregate_level x

  settled_rolled : (x : Expr-F Expr) → settled (roll-Expr x) ≡ is_well_grouped_level false own (map-Expr Expr Found with_settled x)
  unfolding is_well_grouped
  settled_rolled x = para-roll-Expr Bool (is_well_grouped_level false own) x

  all_lack : (es : List Expr) → list_any (λ has. has) (map has_aggregate es) ≡ false → list_all (λ (found : Found). lacks_aggregate found.0) (map with_settled es) ≡ true
  all_lack [] h = refl
  all_lack (e ∷ es) h =
      let both = was_neither (has_aggregate e) (list_any (λ has. has) (map has_aggregate es)) h in
      ap (λ (b : Bool). not b && list_all (λ (found : Found). lacks_aggregate found.0) (map with_settled es)) both.0 ∙ all_lack es both.1

  each_settled : (ks : List ((e : Expr) × IsSettled e)) → list_any (λ has. has) (map has_aggregate (map (λ k. k.0) ks)) ≡ false → list_all (λ (found : Found). found.1) (map with_settled (map (λ k. k.0) ks)) ≡ true
  each_settled [] h = refl
  each_settled (k ∷ ks) h =
      let both = was_neither (has_aggregate k.0) (list_any (λ has. has) (map has_aggregate (map (λ (k : (e : Expr) × IsSettled e). k.0) ks))) h in
      ap (λ (b : Bool). b && list_all (λ (found : Found). found.1) (map with_settled (map (λ (k : (e : Expr) × IsSettled e). k.0) ks))) (k.1 both.0) ∙ each_settled ks both.1

  level_by : (aggregate exists lack all : Bool) → aggregate ≡ false → lack ≡ true → all ≡ true → (if aggregate then lack else (not (false) && (not exists || lack) && all)) ≡ true
  level_by aggregate exists lack all a l s = ap (λ (b : Bool). if b then lack else ((not exists || lack) && all)) a ∙ ap (λ (b : Bool). (not exists || b) && all) l ∙ ap (λ (b : Bool). b && all) (or-true (not exists)) ∙ s

  settled_level : (y : Expr-F ((e : Expr) × IsSettled e)) → IsSettled (roll-Expr (bare y))
  settled_level y h =
      let x : Expr-F Expr = bare y in
      let ks : List ((e : Expr) × IsSettled e) = operands y in
      let plain : operands x ≡ map (λ (k : (e : Expr) × IsSettled e). k.0) ks = operands_map (λ (k : (e : Expr) × IsSettled e). k.0) y in
      let level : Expr-F Found = map-Expr Expr Found with_settled x in
      let both = was_neither (is_aggregate (map-Expr Expr Bool has_aggregate x)) (list_any (λ has. has) (operands (map-Expr Expr Bool has_aggregate x))) (sym (aggregate_rolled x) ∙ h) in
      let none : list_any (λ has. has) (map has_aggregate (map (λ (k : (e : Expr) × IsSettled e). k.0) ks)) ≡ false =
      ap (λ (es : List Expr). list_any (λ has. has) (map has_aggregate es)) (sym plain) ∙ ap (list_any (λ has. has)) (sym (operands_map has_aggregate x)) ∙ both.1 in
      let here : operands level ≡ map with_settled (map (λ (k : (e : Expr) × IsSettled e). k.0) ks) = operands_map with_settled x ∙ ap (map with_settled) plain in
      settled_rolled x
      ∙ level_by (is_aggregate level) (is_exists level) (operands_lack level) (list_all (λ (found : Found). found.1) (operands level))
      (same_aggregate with_settled x ∙ sym (same_aggregate has_aggregate x) ∙ both.0)
      (ap (list_all (λ (found : Found). lacks_aggregate found.0)) here ∙ all_lack (map (λ (k : (e : Expr) × IsSettled e). k.0) ks) none)
      (ap (list_all (λ (found : Found). found.1)) here ∙ each_settled ks none)

  -- what has no aggregate stands in a query without groups
  pub lacking_settled : (e : Expr) → IsSettled e
  lacking_settled = by_levels IsSettled settled_level
