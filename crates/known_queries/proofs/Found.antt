-- Whether an expression finds its columns, by one level; what fits finds them.
use Rattle.std.proofs.Common.{◌≡◌, Bool, true, ◌&&◌, List, [], ◌∷◌, map, refl, sym, ap, ◌∙◌}
use Rattle.std.proofs.lemmas.Bool.{and_from, and_parts}
use Rattle.std.specs.List.{list_all}
use Rattle.schema_core.specs.Catalog.{Catalog}
use Rattle.expr_types.specs.declared.expr.Expr.{Expr, roll-Expr}
use Rattle.expr_types.specs.declared.expr.Expr.TheOpen.{Expr-F}
use Rattle.expr_types.specs.declared.expr.Expr.TheFolds.{fold-roll-Expr, map-Expr}
use Rattle.expr_types.specs.Level.{operands, scope_below}
use Rattle.expr_types.proofs.Folds.{bare, by_levels}
use Rattle.expr_types.proofs.Operands.{operands_map}
use Rattle.sql_semantics.specs.Kinds.{Scope}
use Rattle.sql_semantics.specs.Plain.{fits, fits_level}
use Rattle.sql_semantics.proofs.Equations.{enter, fits_rolled}
use Rattle.known_queries.specs.Known.{finds_column, finds_columns}

abbrev pub found_step : Catalog → Expr-F (Scope → Bool) → Scope → Bool
found_step schema level scope = finds_column schema scope level && list_all (λ holds. holds (scope_below enter scope level)) (operands level)

pub found_rolled : (schema : Catalog) (scope : Scope) (x : Expr-F Expr) → finds_columns schema (roll-Expr x) scope ≡ found_step schema (map-Expr Expr (Scope → Bool) (finds_columns schema) x) scope
unfolding finds_columns
found_rolled schema scope x = ap (λ (f : Scope → Bool). f scope) (fold-roll-Expr (Scope → Bool) (found_step schema) x)

module _ (schema : Catalog) where
  abbrev Claim : Expr → Type 0
  Claim e = (scope : Scope) → fits schema e scope ≡ true → finds_columns schema e scope ≡ true

  abbrev Known : Type 0
  Known = (e : Expr) × Claim e

  abbrev plain : List Known → List Expr
  plain = map (λ (k : Known). k.0)

  -- a test of a level's operands
  abbrev with_test : (Expr → Scope → Bool) → Expr-F Expr → Expr-F (Scope → Bool)
  with_test = map-Expr Expr (Scope → Bool)

  test_kept : (x : Expr-F Expr) (scope : Scope) → fits_level schema scope (with_test (fits schema) x) ≡ true → finds_column schema scope (with_test (finds_columns schema) x) ≡ true
  test_kept (Expr-F.Column s c) scope h = h
  test_kept x scope h = refl

  below : (f : Expr → Scope → Bool) (x : Expr-F Expr) (scope : Scope) → scope_below enter scope (with_test f x) ≡ scope_below enter scope x
  below f (Expr-F.Exists g o a) scope = refl
  below f x scope = refl

  listed : (f : Expr → Scope → Bool) (y : Expr-F Known) → operands (with_test f (bare y)) ≡ map f (plain (operands y))
  listed f y = operands_map f (bare y) ∙ ap (map f) (operands_map (λ (k : Known). k.0) y)

  -- the operands of a level, in their own scope
  all_below : (f : Expr → Scope → Bool) (y : Expr-F Known) (scope : Scope) → list_all (λ (holds : Scope → Bool). holds (scope_below enter scope (with_test f (bare y)))) (operands (with_test f (bare y)))
      ≡ list_all (λ (holds : Scope → Bool). holds (scope_below enter scope (bare y))) (map f (plain (operands y)))
  all_below f y scope =
      ap (λ (s : Scope). list_all (λ (holds : Scope → Bool). holds s) (operands (with_test f (bare y)))) (below f (bare y) scope)
      ∙ ap (list_all (λ (holds : Scope → Bool). holds (scope_below enter scope (bare y)))) (listed f y)

  each : (scope : Scope) (ks : List Known) → list_all (λ (holds : Scope → Bool). holds scope) (map (fits schema) (plain ks)) ≡ true → list_all (λ (holds : Scope → Bool). holds scope) (map (finds_columns schema) (plain ks)) ≡ true
  each scope [] h = refl
  each scope (k ∷ ks) h =
      let both = and_parts (fits schema k.0 scope) (list_all (λ (holds : Scope → Bool). holds scope) (map (fits schema) (plain ks))) h in
      and_from (finds_columns schema k.0 scope) (list_all (λ (holds : Scope → Bool). holds scope) (map (finds_columns schema) (plain ks))) (k.1 scope both.0) (each scope ks both.1)

  step : (y : Expr-F Known) → Claim (roll-Expr (bare y))
  step y scope h =
      let x : Expr-F Expr = bare y in
      let fitting : Expr-F (Scope → Bool) = with_test (fits schema) x in
      let finding : Expr-F (Scope → Bool) = with_test (finds_columns schema) x in
      let both = and_parts (fits_level schema scope fitting) (list_all (λ (holds : Scope → Bool). holds (scope_below enter scope fitting)) (operands fitting)) (sym (fits_rolled schema scope x) ∙ h) in
      let inner = each (scope_below enter scope x) (operands y) (sym (all_below (fits schema) y scope) ∙ both.1) in
      found_rolled schema scope x
      ∙ and_from (finds_column schema scope finding) (list_all (λ (holds : Scope → Bool). holds (scope_below enter scope finding)) (operands finding)) (test_kept x scope both.0) (all_below (finds_columns schema) y scope ∙ inner)

  pub fits_finds : (e : Expr) → Claim e
  fits_finds = by_levels Claim step
