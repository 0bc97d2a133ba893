-- Expressions that are one tree have aggregates alike.
use Rattle.std.proofs.Common.{◌≡◌, Bool, true, false, ◌&&◌, ◌||◌, ◌==◌, nat_lt, List, [], ◌∷◌, map, refl, sym, ap, ◌∙◌}
use Rattle.std.proofs.lemmas.Bool.{and_parts, eqb-true}
use Rattle.std.specs.List.{list_any}
use Rattle.expr_types.specs.declared.expr.Func.{Func}
use Rattle.expr_types.specs.declared.expr.Func.TheVariants.{Count, Sum, Min, Max, Lower, Upper, Length, Coalesce}
use Rattle.expr_types.specs.declared.expr.Expr.{Expr, out-Expr, roll-Expr}
use Rattle.expr_types.specs.declared.expr.Expr.TheOpen.{Expr-F}
use Rattle.expr_types.specs.declared.expr.Expr.TheFolds.{fold-roll-Expr, map-Expr}
use Rattle.expr_types.specs.declared.expr.Expr.TheViews.{roll-out-Expr}
use Rattle.expr_types.specs.Level.{aggregate_level, has_aggregate, is_aggregate_function}
use Rattle.expr_types.specs.Same.{function_place, same, same_all, same_level}
use Rattle.expr_types.proofs.Folds.{bare, by_levels, same_rolled}

pub aggregate_rolled : (x : Expr-F Expr) → has_aggregate (roll-Expr x) ≡ aggregate_level (map-Expr Expr Bool has_aggregate x)
unfolding has_aggregate
aggregate_rolled x = fold-roll-Expr Bool aggregate_level x

-- ---- truth values

one_alike : (a p q : Bool) → a ≡ true → (a ≡ true → p ≡ q) → (p || false) ≡ (q || false)
one_alike a p q h f = ap (λ c. c || false) (f h)

two_alike : (a b p q r s : Bool) → (a && b) ≡ true → (a ≡ true → p ≡ q) → (b ≡ true → r ≡ s) → (p || (r || false)) ≡ (q || (s || false))
two_alike a b p q r s h f g = let both = and_parts a b h in ap (λ c. c || (r || false)) (f both.0) ∙ ap (λ c. q || (c || false)) (g both.1)

three_alike : (a b c p q r s t u : Bool) → (a && b && c) ≡ true → (a ≡ true → p ≡ q) → (b ≡ true → r ≡ s) → (c ≡ true → t ≡ u) → (p || (r || (t || false))) ≡ (q || (s || (u || false)))
three_alike a b c p q r s t u h f g k =
    let last = and_parts (a && b) c h in let both = and_parts a b last.0 in
    ap (λ d. d || (r || (t || false))) (f both.0) ∙ ap (λ d. q || d) (ap (λ d. d || (t || false)) (g both.1) ∙ ap (λ d. s || (d || false)) (k last.1))

-- behind a test of the level itself
behind_two : (own a b : Bool) → (own && a && b) ≡ true → (a && b) ≡ true
behind_two true a b h = h
behind_two false a b h = absurd (cc)

behind_three : (own a b c : Bool) → (own && a && b && c) ≡ true → (a && b && c) ≡ true
behind_three true a b c h = h
behind_three false a b c h = absurd (cc)

-- ---- functions

by_place : (f : Func) → is_aggregate_function f ≡ nat_lt (function_place f) 4
by_place Count = refl
by_place Sum = refl
by_place Min = refl
by_place Max = refl
by_place Lower = refl
by_place Upper = refl
by_place Length = refl
by_place Coalesce = refl

functions_alike : (f g : Func) → (function_place f == function_place g) ≡ true → is_aggregate_function f ≡ is_aggregate_function g
functions_alike f g e = by_place f ∙ ap (λ n. nat_lt n 4) (eqb-true (function_place f) (function_place g) e) ∙ sym (by_place g)

-- ---- all levels

abbrev Alike : Expr → Type 0
Alike one = (e : Expr) → same one e ≡ true → has_aggregate one ≡ has_aggregate e

abbrev Known : Type 0
Known = (e : Expr) × Alike e

abbrev plain : List Known → List Expr
plain = map (λ k. k.0)

each_alike : (ks : List Known) (es : List Expr) → same_all (map same (plain ks)) es ≡ true → map has_aggregate (plain ks) ≡ map has_aggregate es
each_alike [] [] h = refl
each_alike [] (e ∷ es) h = absurd (cc)
each_alike (k ∷ ks) [] h = absurd (cc)
each_alike (k ∷ ks) (e ∷ es) h =
    let both = and_parts (same k.0 e) (same_all (map same (plain ks)) es) h in ap (λ b. b ∷ map has_aggregate (plain ks)) (k.1 e both.0) ∙ ap (λ l. has_aggregate e ∷ l) (each_alike ks es both.1)

abbrev any : List Bool → Bool
any = list_any (λ has. has)

level : (y : Expr-F Known) (x : Expr-F Expr) → same_level (map-Expr Expr (Expr → Bool) same (bare y)) x ≡ true → aggregate_level (map-Expr Expr Bool has_aggregate (bare y)) ≡ aggregate_level (map-Expr Expr Bool has_aggregate x)
level (Expr-F.Column s c) (Expr-F.Column t d) h = refl
level (Expr-F.Lit v) (Expr-F.Lit w) h = refl
level (Expr-F.Compare o a b) (Expr-F.Compare p c d) h = two_alike (same a.0 c) (same b.0 d) _ _ _ _ (behind_two _ (same a.0 c) (same b.0 d) h) (a.1 c) (b.1 d)
level (Expr-F.IsNull m a) (Expr-F.IsNull n c) h = one_alike (same a.0 c) _ _ (and_parts _ (same a.0 c) h).1 (a.1 c)
level (Expr-F.And xs) (Expr-F.And ys) h = ap any (each_alike xs ys h)
level (Expr-F.Or xs) (Expr-F.Or ys) h = ap any (each_alike xs ys h)
level (Expr-F.Not a) (Expr-F.Not c) h = one_alike (same a.0 c) _ _ h (a.1 c)
level (Expr-F.Arith o a b) (Expr-F.Arith p c d) h = two_alike (same a.0 c) (same b.0 d) _ _ _ _ (behind_two _ (same a.0 c) (same b.0 d) h) (a.1 c) (b.1 d)
level (Expr-F.Neg a) (Expr-F.Neg c) h = one_alike (same a.0 c) _ _ h (a.1 c)
level (Expr-F.Concat a b) (Expr-F.Concat c d) h = two_alike (same a.0 c) (same b.0 d) _ _ _ _ h (a.1 c) (b.1 d)
level (Expr-F.Like m a b) (Expr-F.Like n c d) h = two_alike (same a.0 c) (same b.0 d) _ _ _ _ (behind_two _ (same a.0 c) (same b.0 d) h) (a.1 c) (b.1 d)
level (Expr-F.Ilike m a b) (Expr-F.Ilike n c d) h = two_alike (same a.0 c) (same b.0 d) _ _ _ _ (behind_two _ (same a.0 c) (same b.0 d) h) (a.1 c) (b.1 d)
level (Expr-F.InList m a vs) (Expr-F.InList n c ws) h = one_alike (same a.0 c) _ _ (and_parts (same a.0 c) _ (behind_two _ (same a.0 c) _ h)).0 (a.1 c)
level (Expr-F.Between m a b x) (Expr-F.Between n c d y) h =
    three_alike (same a.0 c) (same b.0 d) (same x.0 y) _ _ _ _ _ _ (behind_three _ (same a.0 c) (same b.0 d) (same x.0 y) h) (a.1 c) (b.1 d) (x.1 y)
level (Expr-F.Distinct m a b) (Expr-F.Distinct n c d) h = two_alike (same a.0 c) (same b.0 d) _ _ _ _ (behind_two _ (same a.0 c) (same b.0 d) h) (a.1 c) (b.1 d)
level (Expr-F.Call f xs) (Expr-F.Call g ys) h =
    let both = and_parts (function_place f == function_place g) (same_all (map same (plain xs)) ys) h in
    ap (λ b. b || any (map has_aggregate (plain xs))) (functions_alike f g both.0) ∙ ap (λ l. is_aggregate_function g || any l) (each_alike xs ys both.1)
level Expr-F.CountAll Expr-F.CountAll h = refl
level (Expr-F.Exists m o a) (Expr-F.Exists n p c) h = one_alike (same a.0 c) _ _ (and_parts _ (same a.0 c) h).1 (a.1 c)
level y x h = absurd (cc)

step : (y : Expr-F Known) → Alike (roll-Expr (bare y))
step y e h = aggregate_rolled (bare y) ∙ level y (out-Expr e) (sym (same_rolled (bare y) e) ∙ h) ∙ sym (aggregate_rolled (out-Expr e)) ∙ ap has_aggregate (roll-out-Expr e)

pub same_aggregates : (one : Expr) → Alike one
same_aggregates = by_levels Alike step
