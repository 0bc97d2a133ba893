-- An expression in normal form under more sources is in normal form.
use Rattle.std.proofs.Common.{◌≡◌, ℕ, Bool, not, List, [], ◌∷◌, ◌++◌, map, Option, None, Some, refl, sym, ap, ◌∙◌}
use Rattle.std.specs.Option.{option_map}
use Rattle.std.proofs.lemmas.List.{map-append}
use Rattle.expr_types.specs.declared.expr.Func.{Func}
use Rattle.expr_types.specs.declared.expr.Func.TheVariants.{Lower}
use Rattle.expr_types.specs.declared.expr.Expr.{Expr, out-Expr, roll-Expr}
use Rattle.expr_types.specs.declared.expr.Expr.TheOpen.{Expr-F}
use Rattle.expr_types.specs.declared.expr.Expr.TheFolds.{fold-roll-Expr, map-Expr}
use Rattle.expr_types.specs.declared.expr.Expr.TheVariants as expr
use Rattle.expr_types.specs.declared.expr.Expr.TheViews.{out-roll-Expr, roll-out-Expr}
use Rattle.expr_types.specs.Level.{operands}
use Rattle.expr_types.specs.Normal.{and_parts, and_parts_at, joined_parts, like_by, lower_argument, lower_argument_at, lower_argument_by, negation_of, negation_of_level, normal, normal_level, normal_like, opposite, or_parts, or_parts_at}
use Rattle.expr_types.proofs.Folds.{bare, by_levels}
use Rattle.main_selects.specs.Shifted.{shifted}
use Rattle.loading_laws.proofs.Wide.Levels.{every_one, fold_moved, map_twice, moved, same_below, shifted_rolled}

module _ (own more : ℕ) where
  abbrev sh : Expr → Expr
  sh = shifted own more

  -- an expression whose level is known
  shifted_of : (x : Expr-F Expr) (e : Expr) → roll-Expr x ≡ e → sh e ≡ roll-Expr (moved own more (map-Expr Expr Expr sh x))
  shifted_of x e is = ap sh (sym is) ∙ shifted_rolled own more x

  out_shifted : (n : Expr) → out-Expr (sh n) ≡ moved own more (map-Expr Expr Expr sh (out-Expr n))
  out_shifted n = ap out-Expr (shifted_of (out-Expr n) n (roll-out-Expr n)) ∙ out-roll-Expr (moved own more (map-Expr Expr Expr sh (out-Expr n)))

  -- ---- lists

  ands : (n : Expr) → and_parts (sh n) ≡ map sh (and_parts n)
  unfolding and_parts
  ands n = ap (and_parts_at (sh n)) (out_shifted n) ∙ by (out-Expr n)
    where
      by : (x : Expr-F Expr) → and_parts_at (sh n) (moved own more (map-Expr Expr Expr sh x)) ≡ map sh (and_parts_at n x)
      by (Expr-F.And es) = refl
      by (Expr-F.Column s c) = refl
      by x = refl

  ors : (n : Expr) → or_parts (sh n) ≡ map sh (or_parts n)
  unfolding or_parts
  ors n = ap (or_parts_at (sh n)) (out_shifted n) ∙ by (out-Expr n)
    where
      by : (x : Expr-F Expr) → or_parts_at (sh n) (moved own more (map-Expr Expr Expr sh x)) ≡ map sh (or_parts_at n x)
      by (Expr-F.Or es) = refl
      by (Expr-F.Column s c) = refl
      by x = refl

  parts_shifted : (parts : Expr → List Expr) → ((n : Expr) → parts (sh n) ≡ map sh (parts n)) → (ns : List Expr) → joined_parts parts (map sh ns) ≡ map sh (joined_parts parts ns)
  parts_shifted parts each [] = refl
  parts_shifted parts each (n ∷ ns) =
      ap (λ (xs : List Expr). xs ++ joined_parts parts (map sh ns)) (each n) ∙ ap (λ (xs : List Expr). map sh (parts n) ++ xs) (parts_shifted parts each ns)
      ∙ sym (map-append sh (parts n) (joined_parts parts ns))

  -- ---- opposites

  negated : (n : Expr) → negation_of (sh n) ≡ sh (negation_of n)
  unfolding negation_of
  negated n = ap (negation_of_level (sh n)) (out_shifted n) ∙ by (out-Expr n)
    where
      by : (x : Expr-F Expr) → negation_of_level (sh n) (moved own more (map-Expr Expr Expr sh x)) ≡ sh (negation_of_level n x)
      by (Expr-F.Compare op a b) = sym (shifted_of (Expr-F.Compare (opposite op) a b) (expr.Compare (opposite op) a b) (expr.rolls-Compare (opposite op) a b) ∙ expr.rolls-Compare (opposite op) (sh a) (sh b))
      by (Expr-F.IsNull g a) = sym (shifted_of (Expr-F.IsNull (not g) a) (expr.IsNull (not g) a) (expr.rolls-IsNull (not g) a) ∙ expr.rolls-IsNull (not g) (sh a))
      by (Expr-F.Not a) = refl
      by (Expr-F.Like g a b) = sym (shifted_of (Expr-F.Like (not g) a b) (expr.Like (not g) a b) (expr.rolls-Like (not g) a b) ∙ expr.rolls-Like (not g) (sh a) (sh b))
      by (Expr-F.Ilike g a b) = sym (shifted_of (Expr-F.Ilike (not g) a b) (expr.Ilike (not g) a b) (expr.rolls-Ilike (not g) a b) ∙ expr.rolls-Ilike (not g) (sh a) (sh b))
      by (Expr-F.InList g a vs) = sym (shifted_of (Expr-F.InList (not g) a vs) (expr.InList (not g) a vs) (expr.rolls-InList (not g) a vs) ∙ expr.rolls-InList (not g) (sh a) vs)
      by (Expr-F.Between g a b c) = sym (shifted_of (Expr-F.Between (not g) a b c) (expr.Between (not g) a b c) (expr.rolls-Between (not g) a b c) ∙ expr.rolls-Between (not g) (sh a) (sh b) (sh c))
      by (Expr-F.Distinct g a b) = sym (shifted_of (Expr-F.Distinct (not g) a b) (expr.Distinct (not g) a b) (expr.rolls-Distinct (not g) a b) ∙ expr.rolls-Distinct (not g) (sh a) (sh b))
      by (Expr-F.Exists g o a) = sym (shifted_of (Expr-F.Exists (not g) o a) (expr.Exists (not g) o a) (expr.rolls-Exists (not g) o a) ∙ expr.rolls-Exists (not g) o (sh a))
      by (Expr-F.Column s c) = sym (shifted_of (Expr-F.Not n) (expr.Not n) (expr.rolls-Not n) ∙ expr.rolls-Not (sh n))
      by x = sym (shifted_of (Expr-F.Not n) (expr.Not n) (expr.rolls-Not n) ∙ expr.rolls-Not (sh n))

  -- ---- texts that are lowered

  lowered : (n : Expr) → lower_argument (sh n) ≡ option_map sh (lower_argument n)
  unfolding lower_argument
  lowered n = ap lower_argument_at (out_shifted n) ∙ by (out-Expr n)
    where
      called : (k : Func) (es : List Expr) → lower_argument_by k (map sh es) ≡ option_map sh (lower_argument_by k es)
      called Lower [] = refl
      called Lower (e ∷ []) = refl
      called Lower (e ∷ d ∷ es) = refl
      called k es = refl

      by : (x : Expr-F Expr) → lower_argument_at (moved own more (map-Expr Expr Expr sh x)) ≡ option_map sh (lower_argument_at x)
      by (Expr-F.Call k es) = called k es
      by (Expr-F.Column s c) = refl
      by x = refl

  liked_by : (g : Bool) (a b : Expr) (one other : Option Expr) → like_by g (sh a) (sh b) (option_map sh one) (option_map sh other) ≡ sh (like_by g a b one other)
  liked_by g a b (Some x) (Some y) = sym (shifted_of (Expr-F.Ilike g x y) (expr.Ilike g x y) (expr.rolls-Ilike g x y) ∙ expr.rolls-Ilike g (sh x) (sh y))
  liked_by g a b (Some x) None = sym (shifted_of (Expr-F.Like g a b) (expr.Like g a b) (expr.rolls-Like g a b) ∙ expr.rolls-Like g (sh a) (sh b))
  liked_by g a b None other = sym (shifted_of (Expr-F.Like g a b) (expr.Like g a b) (expr.rolls-Like g a b) ∙ expr.rolls-Like g (sh a) (sh b))

  liked : (g : Bool) (a b : Expr) → normal_like g (sh a) (sh b) ≡ sh (normal_like g a b)
  unfolding normal_like
  liked g a b = ap (λ (x : Option Expr). like_by g (sh a) (sh b) x (lower_argument (sh b))) (lowered a) ∙ ap (like_by g (sh a) (sh b) (option_map sh (lower_argument a))) (lowered b) ∙ liked_by g a b (lower_argument a) (lower_argument b)

  -- ---- the normal form

  level_normal : (x : Expr-F Expr) → normal_level (moved own more (map-Expr Expr Expr sh x)) ≡ sh (normal_level x)
  level_normal (Expr-F.And es) = ap (λ (xs : List Expr). expr.And xs) (parts_shifted and_parts ands es) ∙ sym (shifted_of (Expr-F.And (joined_parts and_parts es)) (expr.And (joined_parts and_parts es)) (expr.rolls-And (joined_parts and_parts es)) ∙ expr.rolls-And (map sh (joined_parts and_parts es)))
  level_normal (Expr-F.Or es) = ap (λ (xs : List Expr). expr.Or xs) (parts_shifted or_parts ors es) ∙ sym (shifted_of (Expr-F.Or (joined_parts or_parts es)) (expr.Or (joined_parts or_parts es)) (expr.rolls-Or (joined_parts or_parts es)) ∙ expr.rolls-Or (map sh (joined_parts or_parts es)))
  level_normal (Expr-F.Not a) = negated a
  level_normal (Expr-F.Like g a b) = liked g a b
  level_normal (Expr-F.Column s c) = sym (shifted_rolled own more (Expr-F.Column s c))
  level_normal x = sym (shifted_rolled own more x)

  -- what is made normal under more sources is the normal form under more sources
  pub normal_shifted : (e : Expr) → normal (sh e) ≡ sh (normal e)
  unfolding normal
  normal_shifted =
      by_levels (λ e. normal (sh e) ≡ sh (normal e))
      (λ y.
      fold_moved normal_level own more (bare y)
      ∙ ap (λ (x : Expr-F Expr). normal_level (moved own more x)) (same_below (λ e. normal (sh e)) (λ e. sh (normal e)) y (every_one (λ k. normal (sh k.0) ≡ sh (normal k.0)) (λ k. k.1) (operands y)) ∙ sym (map_twice sh normal (bare y)))
      ∙ level_normal (map-Expr Expr Expr normal (bare y)) ∙ ap sh (sym (fold-roll-Expr Expr normal_level (bare y))))
