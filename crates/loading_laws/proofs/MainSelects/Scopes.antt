-- An expression under more sources: its kind, and that it fits them, and their names.
use Rattle.std.proofs.Common.{◌≡◌, ℕ, ◌+◌, ◌-◌, Bool, true, not, ◌&&◌, ◌||◌, List, [], ◌∷◌, ◌++◌, length, map, Option, Ok, refl, sym, ap, subst, ◌∙◌, append_assoc}
use Rattle.std.specs.Prelude.{is_some, slice_get}
use Rattle.std.specs.Option.{option_and_then}
use Rattle.std.specs.List.{AllByRecursion, flat_map, list_all}
use Rattle.std.proofs.lemmas.Bool.{and_parts}
use Rattle.std.proofs.lemmas.List.{length-map}
use Rattle.std.proofs.lemmas.List.Folds.{list_all-append, list_any-append}
use Rattle.base_core.specs.declared.ids.ColumnNo.{ColumnNo}
use Rattle.base_core.specs.declared.ids.TableId.{TableId}
use Rattle.base_core.specs.declared.value.Kind.TheVariants as kinds
use Rattle.schema_core.specs.declared.table.ColumnSpec.{ColumnSpec}
use Rattle.schema_core.specs.Catalog.{Catalog, has_name, same_name, spec_of}
use Rattle.expr_types.specs.declared.expr.Origin.{Origin}
use Rattle.expr_types.specs.declared.expr.Expr.{Expr, roll-Expr}
use Rattle.expr_types.specs.declared.expr.Expr.TheOpen.{Expr-F}
use Rattle.expr_types.specs.declared.expr.Expr.TheFolds.{fold-roll-Expr, map-Expr}
use Rattle.expr_types.specs.Level.{everywhere, operands, scope_below}
use Rattle.expr_types.proofs.Folds.{bare, by_levels}
use Rattle.expr_types.proofs.Operands.{operands_map}
use Rattle.sql_semantics.specs.Kinds.{Judged, Scope, all_alike, all_of, call_kind, column_in, expression_kind, gives, in_scope, judged_level, kind_where, value_kind}
use Rattle.sql_semantics.specs.Plain.{adds_name, fits, fits_level, full_level, has_full_lists, name_of, names_apart, takes}
use Rattle.collection_selects.proofs.Pairs.Led.{was_false}
use Rattle.main_selects.specs.Shifted.{shifted, shifted_place}
use Rattle.alias_names.specs.Names.{exists_names, names_at, own_names}
use Rattle.loading_laws.proofs.Wide.Levels.{between, every_one, fold_moved, fold_stays, get_shifted, moved}

-- ---- what asks for no source

pub lists_stay : (own more : ℕ) (e : Expr) → has_full_lists (shifted own more e) ≡ has_full_lists e
unfolding has_full_lists
lists_stay own more = fold_stays full_level own more blind
  where
    blind : (x : Expr-F Bool) → full_level (moved own more x) ≡ full_level x
    blind (Expr-F.Column s c) = refl
    blind x = refl

-- ---- places

column_shifted : (schema : Catalog) (own extra inner : Scope) (source : ℕ) (column : ColumnNo)
    → column_in schema (own ++ (extra ++ inner)) (shifted_place (length own) (length extra) source) column ≡ column_in schema (own ++ inner) source column
column_shifted schema own extra inner source column = ap (λ (found : Option TableId). option_and_then (λ table. slice_get (spec_of schema table).columns column.0) found) (get_shifted own extra inner source)

-- ---- tests at every level

moved_operands : {A : Type 0} (own more : ℕ) (x : Expr-F A) → operands (moved own more x) ≡ operands x
moved_operands own more (Expr-F.Column s c) = refl
moved_operands own more x = refl

module _ {S : Type 0} (enter : S → Origin → S) (test : S → Expr-F (S → Bool) → Bool) (wide narrow : S → S) (own more : ℕ)
    (widens : (s : S) (o : Origin) → enter (wide s) o ≡ wide (enter s o)) (narrows : (s : S) (o : Origin) → enter (narrow s) o ≡ narrow (enter s o))
    (Fine : Expr → Type 0) (below : (x : Expr-F Expr) → Fine (roll-Expr x) → AllByRecursion Fine (operands x))
    (alike : (x : Expr-F Expr) → Fine (roll-Expr x) → (f g : Expr → S → Bool) (s : S) → test (wide s) (moved own more (map-Expr Expr (S → Bool) f x)) ≡ test (narrow s) (map-Expr Expr (S → Bool) g x)) where
  abbrev step : Expr-F (S → Bool) → S → Bool
  step level s = test s level && list_all (λ holds. holds (scope_below enter s level)) (operands level)

  abbrev holds : Expr → S → Bool
  holds = everywhere enter test

  abbrev Claim : Expr → Type 0
  Claim e = Fine e → (s : S) → holds (shifted own more e) (wide s) ≡ holds e (narrow s)

  abbrev Known : Type 0
  Known = (e : Expr) × Claim e

  wide_below : (f : Expr → S → Bool) (x : Expr-F Expr) (s : S) → scope_below enter (wide s) (moved own more (map-Expr Expr (S → Bool) f x)) ≡ wide (scope_below enter s x)
  wide_below f (Expr-F.Exists g o a) s = widens s o
  wide_below f (Expr-F.Column source c) s = refl
  wide_below f x s = refl

  narrow_below : (f : Expr → S → Bool) (x : Expr-F Expr) (s : S) → scope_below enter (narrow s) (map-Expr Expr (S → Bool) f x) ≡ narrow (scope_below enter s x)
  narrow_below f (Expr-F.Exists g o a) s = narrows s o
  narrow_below f x s = refl

  each_holds : (ks : List Known) (s : S) → AllByRecursion Fine (map (λ k. k.0) ks)
      → list_all (λ h. h (wide s)) (map (λ e. holds (shifted own more e)) (map (λ k. k.0) ks)) ≡ list_all (λ h. h (narrow s)) (map holds (map (λ k. k.0) ks))
  each_holds [] s fine = refl
  each_holds (k ∷ ks) s fine =
      ap (λ (b : Bool). b && list_all (λ (h : S → Bool). h (wide s)) (map (λ e. holds (shifted own more e)) (map (λ (k : Known). k.0) ks))) (k.1 fine.0 s)
      ∙ ap (λ (b : Bool). holds k.0 (narrow s) && b) (each_holds ks s fine.1)

  level_holds : (y : Expr-F Known) → Claim (roll-Expr (bare y))
  level_holds y fine s =
      let x : Expr-F Expr = bare y in
      let f : Expr → S → Bool = λ e. holds (shifted own more e) in
      let under : S = scope_below enter s x in
      let ks : List Known = operands y in
      let plain : operands x ≡ map (λ (k : Known). k.0) ks = operands_map (λ (k : Known). k.0) y in
      let inside : AllByRecursion Fine (map (λ (k : Known). k.0) ks) = subst (AllByRecursion Fine) plain (below x fine) in
      let there : operands (moved own more (map-Expr Expr (S → Bool) f x)) ≡ map f (map (λ (k : Known). k.0) ks) =
      moved_operands own more (map-Expr Expr (S → Bool) f x) ∙ operands_map f x ∙ ap (map f) plain in
      let here : operands (map-Expr Expr (S → Bool) holds x) ≡ map holds (map (λ (k : Known). k.0) ks) = operands_map holds x ∙ ap (map holds) plain in
      ap (λ (h : S → Bool). h (wide s)) (fold_moved step own more x)
      ∙ ap (λ (b : Bool). b && list_all (λ (h : S → Bool). h (scope_below enter (wide s) (moved own more (map-Expr Expr (S → Bool) f x)))) (operands (moved own more (map-Expr Expr (S → Bool) f x)))) (alike x fine f holds s)
      ∙ ap (λ (t : S). test (narrow s) (map-Expr Expr (S → Bool) holds x) && list_all (λ (h : S → Bool). h t) (operands (moved own more (map-Expr Expr (S → Bool) f x)))) (wide_below f x s)
      ∙ ap (λ (hs : List (S → Bool)). test (narrow s) (map-Expr Expr (S → Bool) holds x) && list_all (λ (h : S → Bool). h (wide under)) hs) there
      ∙ ap (λ (b : Bool). test (narrow s) (map-Expr Expr (S → Bool) holds x) && b) (each_holds ks under inside)
      ∙ ap (λ (hs : List (S → Bool)). test (narrow s) (map-Expr Expr (S → Bool) holds x) && list_all (λ (h : S → Bool). h (narrow under)) hs) (sym here)
      ∙ ap (λ (t : S). test (narrow s) (map-Expr Expr (S → Bool) holds x) && list_all (λ (h : S → Bool). h t) (operands (map-Expr Expr (S → Bool) holds x))) (sym (narrow_below holds x s))
      ∙ ap (λ (h : S → Bool). h (narrow s)) (sym (fold-roll-Expr (S → Bool) step x))

  pub holds_alike : (e : Expr) → Claim e
  holds_alike = by_levels Claim level_holds

-- ---- it fits

module _ (schema : Catalog) (own extra : Scope) where
  abbrev wide : Scope → Scope
  wide inner = own ++ (extra ++ inner)

  abbrev narrow : Scope → Scope
  narrow inner = own ++ inner

  fits_alike : (x : Expr-F Expr) (f g : Expr → Scope → Bool) (s : Scope)
      → fits_level schema (wide s) (moved (length own) (length extra) (map-Expr Expr (Scope → Bool) f x)) ≡ fits_level schema (narrow s) (map-Expr Expr (Scope → Bool) g x)
  fits_alike (Expr-F.Column source c) f g s = ap (λ (found : Option ColumnSpec). is_some found) (column_shifted schema own extra s source c)
  fits_alike (Expr-F.Call k es) f g s = ap (takes k) (length-map es f ∙ sym (length-map es g))
  fits_alike x f g s = refl

  pub fits_shifted : (e : Expr) (inner : Scope) → fits schema (shifted (length own) (length extra) e) (wide inner) ≡ fits schema e (narrow inner)
  unfolding fits
  fits_shifted e inner =
      holds_alike (λ (scope : Scope) (o : Origin). scope ++ o.table ∷ []) (fits_level schema) wide narrow (length own) (length extra) (λ s o. between own extra s o.table) (λ s o. append_assoc own s (o.table ∷ []))
      (λ e. Unit {0}) (λ x fine. every_one (λ e. Unit {0}) (λ e. tt) (operands x)) (λ x fine f g s. fits_alike x f g s) e tt inner

  -- ---- its kind

  abbrev kind_of_shifted : Expr → Scope → Judged
  kind_of_shifted e = expression_kind schema (shifted (length own) (length extra) e)

  abbrev Kinded : Expr → Type 0
  Kinded e = (inner : Scope) → kind_of_shifted e (wide inner) ≡ expression_kind schema e (narrow inner)

  two_kinds : (of : Judged → Judged → Judged) (a b : (e : Expr) × Kinded e) (inner : Scope)
      → of (kind_of_shifted a.0 (wide inner)) (kind_of_shifted b.0 (wide inner)) ≡ of (expression_kind schema a.0 (narrow inner)) (expression_kind schema b.0 (narrow inner))
  two_kinds of a b inner = ap (λ x. of x (kind_of_shifted b.0 (wide inner))) (a.1 inner) ∙ ap (λ x. of (expression_kind schema a.0 (narrow inner)) x) (b.1 inner)

  each_kind : (ks : List ((e : Expr) × Kinded e)) (inner : Scope) → in_scope (wide inner) (map kind_of_shifted (map (λ k. k.0) ks)) ≡ in_scope (narrow inner) (map (expression_kind schema) (map (λ k. k.0) ks))
  each_kind [] inner = refl
  each_kind (k ∷ ks) inner =
      ap (λ (j : Judged). j ∷ in_scope (wide inner) (map kind_of_shifted (map (λ (k : (e : Expr) × Kinded e). k.0) ks))) (k.1 inner)
      ∙ ap (λ (js : List Judged). expression_kind schema k.0 (narrow inner) ∷ js) (each_kind ks inner)

  kind_level : (y : Expr-F ((e : Expr) × Kinded e)) (inner : Scope)
      → judged_level schema (moved (length own) (length extra) (map-Expr Expr (Scope → Judged) kind_of_shifted (bare y))) (wide inner)
      ≡ judged_level schema (map-Expr Expr (Scope → Judged) (expression_kind schema) (bare y)) (narrow inner)
  kind_level (Expr-F.Column source c) inner = ap (λ (found : Option ColumnSpec). let judged : Judged = Ok (kind_where found) in judged) (column_shifted schema own extra inner source c)
  kind_level (Expr-F.Lit v) inner = refl
  kind_level (Expr-F.Compare op a b) inner = two_kinds (λ x y. gives kinds.Boolean (all_alike (x ∷ y ∷ []))) a b inner
  kind_level (Expr-F.IsNull n a) inner = ap (gives kinds.Boolean) (a.1 inner)
  kind_level (Expr-F.And es) inner = ap (all_of kinds.Boolean) (each_kind es inner)
  kind_level (Expr-F.Or es) inner = ap (all_of kinds.Boolean) (each_kind es inner)
  kind_level (Expr-F.Not a) inner = ap (λ x. all_of kinds.Boolean (x ∷ [])) (a.1 inner)
  kind_level (Expr-F.Arith op a b) inner = two_kinds (λ x y. all_of kinds.Integer (x ∷ y ∷ [])) a b inner
  kind_level (Expr-F.Neg a) inner = ap (λ x. all_of kinds.Integer (x ∷ [])) (a.1 inner)
  kind_level (Expr-F.Concat a b) inner = two_kinds (λ x y. all_of kinds.Text (x ∷ y ∷ [])) a b inner
  kind_level (Expr-F.Like n a b) inner = two_kinds (λ x y. gives kinds.Boolean (all_of kinds.Text (x ∷ y ∷ []))) a b inner
  kind_level (Expr-F.Ilike n a b) inner = two_kinds (λ x y. gives kinds.Boolean (all_of kinds.Text (x ∷ y ∷ []))) a b inner
  kind_level (Expr-F.InList n a vs) inner = ap (λ x. gives kinds.Boolean (all_alike (x ∷ map (λ v. let judged : Judged = Ok (value_kind v) in judged) vs))) (a.1 inner)
  kind_level (Expr-F.Between n a b c) inner =
      two_kinds (λ x y. gives kinds.Boolean (all_alike (x ∷ y ∷ kind_of_shifted c.0 (wide inner) ∷ []))) a b inner
      ∙ ap (λ x. gives kinds.Boolean (all_alike (expression_kind schema a.0 (narrow inner) ∷ expression_kind schema b.0 (narrow inner) ∷ x ∷ []))) (c.1 inner)
  kind_level (Expr-F.Distinct n a b) inner = two_kinds (λ x y. gives kinds.Boolean (all_alike (x ∷ y ∷ []))) a b inner
  kind_level (Expr-F.Call k es) inner = ap (call_kind k) (each_kind es inner)
  kind_level Expr-F.CountAll inner = refl
  kind_level (Expr-F.Exists n o a) inner =
      ap (λ x. all_of kinds.Boolean (x ∷ []))
      (ap (kind_of_shifted a.0) (between own extra inner o.table) ∙ a.1 (inner ++ o.table ∷ []) ∙ sym (ap (expression_kind schema a.0) (append_assoc own inner (o.table ∷ []))))

  pub kind_shifted : (e : Expr) → Kinded e
  unfolding expression_kind
  kind_shifted =
      by_levels Kinded
      (λ y inner. ap (λ (j : Scope → Judged). j (wide inner)) (fold_moved (judged_level schema) (length own) (length extra) (bare y)) ∙ kind_level y inner
      ∙ sym (ap (λ (j : Scope → Judged). j (narrow inner)) (fold-roll-Expr (Scope → Judged) (judged_level schema) (bare y))))

-- ---- its names

abbrev Names : Type 0
Names = List (List ℕ)

-- none of the names is one of the others
abbrev pub are_free : Names → Names → Bool
are_free extra names = list_all (λ name. not (has_name extra name)) names

module _ (schema : Catalog) (own extra : Names) where
  abbrev IsFree : Expr → Type 0
  IsFree e = are_free extra (exists_names schema e) ≡ true

  names_rolled : (x : Expr-F Expr) → exists_names schema (roll-Expr x) ≡ names_at schema (map-Expr Expr Names (exists_names schema) x)
  unfolding exists_names
  names_rolled x = fold-roll-Expr Names (names_at schema) x

  free_parts : (one other : Names) → are_free extra (one ++ other) ≡ true → (are_free extra one ≡ true) × (are_free extra other ≡ true)
  free_parts one other h = and_parts (are_free extra one) (are_free extra other) (sym (list_all-append (λ name. not (has_name extra name)) one other) ∙ h)

  each_free : (es : List Expr) → are_free extra (flat_map (λ names. names) (map (exists_names schema) es)) ≡ true → AllByRecursion IsFree es
  each_free [] h = tt
  each_free (e ∷ es) h =
      let both = free_parts (exists_names schema e) (flat_map (λ names. names) (map (exists_names schema) es)) h in
      (both.0, each_free es both.1)

  below_free : (x : Expr-F Expr) → IsFree (roll-Expr x) → AllByRecursion IsFree (operands x)
  below_free x h =
      let level : Expr-F Names = map-Expr Expr Names (exists_names schema) x in
      let told : are_free extra (own_names schema level ++ flat_map (λ names. names) (operands level)) ≡ true = ap (are_free extra) (sym (names_rolled x)) ∙ h in
      each_free (operands x) (ap (λ (all : List Names). are_free extra (flat_map (λ names. names) all)) (sym (operands_map (exists_names schema) x)) ∙ (free_parts (own_names schema level) (flat_map (λ names. names) (operands level)) told).1)

  name_stays : (inner : Names) (name : List ℕ) → not (has_name extra name) ≡ true → has_name (own ++ (extra ++ inner)) name ≡ has_name (own ++ inner) name
  name_stays inner name h =
      let test : List ℕ → Bool = λ other. same_name other name in
      list_any-append test own (extra ++ inner)
      ∙ ap (λ (b : Bool). has_name own name || b) (list_any-append test extra inner ∙ ap (λ (b : Bool). b || has_name inner name) (was_false (has_name extra name) h))
      ∙ sym (list_any-append test own inner)

  names_alike : (x : Expr-F Expr) → IsFree (roll-Expr x) → (f g : Expr → Names → Bool) (inner : Names)
      → adds_name schema (own ++ (extra ++ inner)) (moved (length own) (length extra) (map-Expr Expr (Names → Bool) f x)) ≡ adds_name schema (own ++ inner) (map-Expr Expr (Names → Bool) g x)
  names_alike (Expr-F.Exists n o a) h f g inner =
      let level : Expr-F Names = Expr-F.Exists n o (exists_names schema a) in
      let told : are_free extra (own_names schema level ++ flat_map (λ names. names) (operands level)) ≡ true = ap (are_free extra) (sym (names_rolled (Expr-F.Exists n o a))) ∙ h in
      ap not (name_stays inner (name_of schema o) (and_parts (not (has_name extra (name_of schema o))) true (free_parts (name_of schema o ∷ []) (flat_map (λ names. names) (operands level)) told).0).0)
  names_alike (Expr-F.Column s c) h f g inner = refl
  names_alike x h f g inner = refl

  pub apart_shifted : (e : Expr) (inner : Names) → IsFree e → names_apart schema (shifted (length own) (length extra) e) (own ++ (extra ++ inner)) ≡ names_apart schema e (own ++ inner)
  unfolding names_apart
  apart_shifted e inner free =
      holds_alike (λ (names : Names) (o : Origin). names ++ name_of schema o ∷ []) (adds_name schema) (λ inner. own ++ (extra ++ inner)) (λ inner. own ++ inner) (length own) (length extra)
      (λ s o. between own extra s (name_of schema o)) (λ s o. append_assoc own s (name_of schema o ∷ [])) IsFree below_free names_alike e free inner
