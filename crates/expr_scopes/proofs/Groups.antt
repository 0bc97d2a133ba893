-- What is settled, one level at a time.
use Rattle.std.proofs.Common.{◌≡◌, ℕ, Bool, true, false, not, cond, ◌&&◌, ◌||◌, List, [], ◌∷◌, map, refl, sym, ap, ◌∙◌}
use Rattle.std.specs.List.{list_all, list_any}
use Rattle.expr_types.specs.declared.expr.Expr.{Expr, out-Expr, roll-Expr}
use Rattle.expr_types.specs.declared.expr.Expr.TheOpen.{Expr-F}
use Rattle.expr_types.specs.declared.expr.Expr.TheFolds.{map-Expr, para-roll-Expr}
use Rattle.expr_types.specs.declared.expr.Expr.TheViews.{roll-out-Expr}
use Rattle.expr_types.specs.declared.expr.Expr.TheVariants as expr
use Rattle.expr_types.specs.declared.expr.Func.{Func}
use Rattle.expr_types.specs.Level.{has_aggregate, is_aggregate_function}
use Rattle.expr_types.specs.Same.{same}
use Rattle.sql_semantics.specs.Plain.{Found, lacks_aggregate, is_well_grouped, is_well_grouped_level, whole}
use Rattle.expr_scopes.specs.Scopes.{found_in, occurs_in, settled_inside}
use Rattle.expr_scopes.proofs.Neither.{not_either}

module _ (grouped : Bool) (groups : List Expr) (own : ℕ) where
  abbrev found : Expr → Found
  found = found_in grouped groups own

  -- ---- one level

  bare_list : (es : List Expr) → map (λ (f : Found). f.0) (map found es) ≡ es
  bare_list [] = refl
  bare_list (e ∷ es) = ap (λ l. e ∷ l) (bare_list es)

  bared : (x : Expr-F Expr) → map-Expr Found Expr (λ f. f.0) (map-Expr Expr Found found x) ≡ x
  bared (Expr-F.And es) = ap Expr-F.And (bare_list es)
  bared (Expr-F.Or es) = ap Expr-F.Or (bare_list es)
  bared (Expr-F.Call f es) = ap (Expr-F.Call f) (bare_list es)
  bared x = refl

  settled_rolled : (x : Expr-F Expr) → is_well_grouped grouped groups own (roll-Expr x) ≡ ((grouped && occurs_in groups (roll-Expr x)) || is_well_grouped_level grouped own (map-Expr Expr Found found x))
  unfolding is_well_grouped
  settled_rolled x =
      para-roll-Expr Bool (λ level. (grouped && list_any (λ g. same g (whole level)) groups) || is_well_grouped_level grouped own level) x
      ∙ ap (λ y. (grouped && list_any (λ g. same g (roll-Expr y)) groups) || is_well_grouped_level grouped own (map-Expr Expr Found found x)) (bared x)

pub settled_at : (grouped : Bool) (groups : List Expr) (own : ℕ) (e : Expr) → is_well_grouped grouped groups own e ≡ ((grouped && occurs_in groups e) || settled_inside grouped groups own e)
settled_at grouped groups own e =
    ap (is_well_grouped grouped groups own) (sym (roll-out-Expr e))
    ∙ settled_rolled grouped groups own (out-Expr e)
    ∙ ap (λ z. (grouped && occurs_in groups z) || is_well_grouped_level grouped own (map-Expr Expr Found (found_in grouped groups own) (out-Expr e))) (roll-out-Expr e)

-- ---- lists of operands

pub all_found : (grouped : Bool) (groups : List Expr) (own : ℕ) (es : List Expr) → list_all (λ (f : Found). f.1) (map (found_in grouped groups own) es) ≡ list_all (is_well_grouped grouped groups own) es
all_found grouped groups own [] = refl
all_found grouped groups own (e ∷ es) = ap (λ b. is_well_grouped grouped groups own e && b) (all_found grouped groups own es)

pub all_lack : (grouped : Bool) (groups : List Expr) (own : ℕ) (es : List Expr) → list_all (λ (f : Found). lacks_aggregate f.0) (map (found_in grouped groups own) es) ≡ not (list_any (λ has. has) (map has_aggregate es))
all_lack grouped groups own [] = refl
all_lack grouped groups own (e ∷ es) =
    ap (λ b. lacks_aggregate e && b) (all_lack grouped groups own es) ∙ not_either (has_aggregate e) (list_any (λ has. has) (map has_aggregate es))

never : (b c : Bool) → (not (b && false) && true && c) ≡ c
never true c = refl
never false c = refl

abbrev at_level : Bool → List Expr → ℕ → Expr-F Expr → Bool
at_level grouped groups own x = is_well_grouped_level grouped own (map-Expr Expr Found (found_in grouped groups own) x)

pub inside_and : (grouped : Bool) (groups : List Expr) (own : ℕ) (es : List Expr) → settled_inside grouped groups own (expr.And es) ≡ list_all (is_well_grouped grouped groups own) es
inside_and grouped groups own es =
    ap (at_level grouped groups own) (expr.outs-And es) ∙ never grouped (list_all (λ (f : Found). f.1) (map (found_in grouped groups own) es)) ∙ all_found grouped groups own es

pub inside_or : (grouped : Bool) (groups : List Expr) (own : ℕ) (es : List Expr) → settled_inside grouped groups own (expr.Or es) ≡ list_all (is_well_grouped grouped groups own) es
inside_or grouped groups own es =
    ap (at_level grouped groups own) (expr.outs-Or es) ∙ never grouped (list_all (λ (f : Found). f.1) (map (found_in grouped groups own) es)) ∙ all_found grouped groups own es

-- by whether the function is an aggregate
abbrev called : (grouped lack settle : Bool) (b : Bool) → Bool
called grouped lack settle b = cond b lack (not (grouped && false) && true && settle)

pub inside_aggregate : (grouped : Bool) (groups : List Expr) (own : ℕ) (f : Func) (es : List Expr) → is_aggregate_function f ≡ true
    → settled_inside grouped groups own (expr.Call f es) ≡ not (list_any (λ has. has) (map has_aggregate es))
inside_aggregate grouped groups own f es is =
    ap (at_level grouped groups own) (expr.outs-Call f es)
    ∙ ap (called grouped (list_all (λ (f : Found). lacks_aggregate f.0) (map (found_in grouped groups own) es)) (list_all (λ (f : Found). f.1) (map (found_in grouped groups own) es))) is
    ∙ all_lack grouped groups own es

pub inside_call : (grouped : Bool) (groups : List Expr) (own : ℕ) (f : Func) (es : List Expr) → is_aggregate_function f ≡ false
    → settled_inside grouped groups own (expr.Call f es) ≡ list_all (is_well_grouped grouped groups own) es
inside_call grouped groups own f es is =
    ap (at_level grouped groups own) (expr.outs-Call f es)
    ∙ ap (called grouped (list_all (λ (f : Found). lacks_aggregate f.0) (map (found_in grouped groups own) es)) (list_all (λ (f : Found). f.1) (map (found_in grouped groups own) es))) is
    ∙ never grouped (list_all (λ (f : Found). f.1) (map (found_in grouped groups own) es))
    ∙ all_found grouped groups own es

pub ruleset settled_lists = (inside_and, inside_or, inside_aggregate, inside_call)
