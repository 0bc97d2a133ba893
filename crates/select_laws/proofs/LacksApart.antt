-- Where an expression has no aggregate, none stands in an `exists` of it.
use Rattle.std.proofs.Common.{◌≡◌, ℕ, Bool, true, false, ◌&&◌, ◌||◌, not, List, [], ◌∷◌, map, refl, sym, ap, ◌∙◌, arith}
use Rattle.std.proofs.lemmas.Bool.{le-ltb}
use Rattle.std.specs.List.{list_all, list_any}
use Rattle.expr_types.specs.declared.expr.Expr.{Expr, roll-Expr}
use Rattle.expr_types.specs.declared.expr.Expr.TheOpen.{Expr-F}
use Rattle.expr_types.specs.declared.expr.Expr.TheFolds.{fold-roll-Expr, map-Expr}
use Rattle.expr_types.specs.Level.{aggregate_level, has_aggregate, is_aggregate_function}
use Rattle.expr_types.proofs.Folds.{bare, by_levels}
use Rattle.select_laws.specs.Apart.{apart_level, stands_apart}
use Rattle.select_laws.proofs.SameTrees.{aggregate_rolled}
use Rattle.select_laws.proofs.Several.{first_false, one_true, rest_false, three_true, two_true}

pub apart_rolled : (outer : ℕ) (free : Bool) (x : Expr-F Expr) → stands_apart outer (roll-Expr x) free ≡ apart_level outer (map-Expr Expr (Bool → Bool) (stands_apart outer) x) free
unfolding stands_apart
apart_rolled outer free x = ap (λ (f : Bool → Bool). f free) (fold-roll-Expr (Bool → Bool) (apart_level outer) x)

abbrev Lacks : Expr → Type 0
Lacks e = has_aggregate e ≡ false → (free : Bool) → stands_apart 0 e free ≡ true

abbrev Known : Type 0
Known = (e : Expr) × Lacks e

abbrev plain : List Known → List Expr
plain = map (λ k. k.0)

-- a level that is no aggregate and no column of these sources
open_level : (free rest : Bool) → rest ≡ true → ((free || true) && rest) ≡ true
open_level true rest h = h
open_level false rest h = h

each_apart : (ks : List Known) → list_any (λ has. has) (map has_aggregate (plain ks)) ≡ false → (free : Bool) → list_all (λ (holds : Bool → Bool). holds free) (map (stands_apart 0) (plain ks)) ≡ true
each_apart [] lack free = refl
each_apart (k ∷ ks) lack free =
    let any : Bool = list_any (λ has. has) (map has_aggregate (plain ks)) in
    ap (λ b. b && list_all (λ (holds : Bool → Bool). holds free) (map (stands_apart 0) (plain ks))) (k.1 (first_false (has_aggregate k.0) any lack) free)
    ∙ each_apart ks (rest_false (has_aggregate k.0) any lack) free

one_apart : (a : Known) → (has_aggregate a.0 || false) ≡ false → (free below : Bool) → ((free || true) && (stands_apart 0 a.0 below && true)) ≡ true
one_apart a lack free below = open_level free (stands_apart 0 a.0 below && true) (one_true (stands_apart 0 a.0 below) (a.1 (first_false (has_aggregate a.0) false lack) below))

two_apart : (a b : Known) → (has_aggregate a.0 || (has_aggregate b.0 || false)) ≡ false → (free : Bool) → ((free || true) && (stands_apart 0 a.0 free && (stands_apart 0 b.0 free && true))) ≡ true
two_apart a b lack free =
    let rest = rest_false (has_aggregate a.0) (has_aggregate b.0 || false) lack in
    open_level free (stands_apart 0 a.0 free && (stands_apart 0 b.0 free && true))
    (two_true (stands_apart 0 a.0 free) (stands_apart 0 b.0 free) (a.1 (first_false (has_aggregate a.0) (has_aggregate b.0 || false) lack) free) (b.1 (first_false (has_aggregate b.0) false rest) free))

three_apart : (a b c : Known) → (has_aggregate a.0 || (has_aggregate b.0 || (has_aggregate c.0 || false))) ≡ false → (free : Bool)
    → ((free || true) && (stands_apart 0 a.0 free && (stands_apart 0 b.0 free && (stands_apart 0 c.0 free && true)))) ≡ true
three_apart a b c lack free =
    let rest = rest_false (has_aggregate a.0) (has_aggregate b.0 || (has_aggregate c.0 || false)) lack in
    let last = rest_false (has_aggregate b.0) (has_aggregate c.0 || false) rest in
    open_level free (stands_apart 0 a.0 free && (stands_apart 0 b.0 free && (stands_apart 0 c.0 free && true)))
    (three_true (stands_apart 0 a.0 free) (stands_apart 0 b.0 free) (stands_apart 0 c.0 free) (a.1 (first_false (has_aggregate a.0) (has_aggregate b.0 || (has_aggregate c.0 || false)) lack) free)
    (b.1 (first_false (has_aggregate b.0) (has_aggregate c.0 || false) rest) free) (c.1 (first_false (has_aggregate c.0) false last) free))

list_apart : (ks : List Known) → list_any (λ has. has) (map has_aggregate (plain ks)) ≡ false → (free : Bool) → ((free || true) && list_all (λ (holds : Bool → Bool). holds free) (map (stands_apart 0) (plain ks))) ≡ true
list_apart ks lack free = open_level free (list_all (λ (holds : Bool → Bool). holds free) (map (stands_apart 0) (plain ks))) (each_apart ks lack free)

call_apart : (is free rest : Bool) → is ≡ false → ((free || true) && rest) ≡ true → ((free || not (is || false)) && (is || rest)) ≡ true
call_apart true free rest off h = absurd (cc)
call_apart false free rest off h = h

level : (y : Expr-F Known) → aggregate_level (map-Expr Expr Bool has_aggregate (bare y)) ≡ false → (free : Bool) → apart_level 0 (map-Expr Expr (Bool → Bool) (stands_apart 0) (bare y)) free ≡ true
level (Expr-F.Column s c) lack true = refl
level (Expr-F.Column s c) lack false = ap (λ b. not b && true) (le-ltb s 0 (omega arith))
level (Expr-F.Lit v) lack free = open_level free true refl
level (Expr-F.Compare op a b) lack free = two_apart a b lack free
level (Expr-F.IsNull g a) lack free = one_apart a lack free free
level (Expr-F.And es) lack free = list_apart es lack free
level (Expr-F.Or es) lack free = list_apart es lack free
level (Expr-F.Not a) lack free = one_apart a lack free free
level (Expr-F.Arith op a b) lack free = two_apart a b lack free
level (Expr-F.Neg a) lack free = one_apart a lack free free
level (Expr-F.Concat a b) lack free = two_apart a b lack free
level (Expr-F.Like g a b) lack free = two_apart a b lack free
level (Expr-F.Ilike g a b) lack free = two_apart a b lack free
level (Expr-F.InList g a vs) lack free = one_apart a lack free free
level (Expr-F.Between g a low high) lack free = three_apart a low high lack free
level (Expr-F.Distinct g a b) lack free = two_apart a b lack free
level (Expr-F.Call f es) lack free =
    let any : Bool = list_any (λ has. has) (map has_aggregate (plain es)) in
    call_apart (is_aggregate_function f) free _ (first_false (is_aggregate_function f) any lack) (list_apart es (rest_false (is_aggregate_function f) any lack) free)
level Expr-F.CountAll lack free = absurd (cc)
level (Expr-F.Exists g o a) lack free = one_apart a lack free false

step : (y : Expr-F Known) → Lacks (roll-Expr (bare y))
step y lack free = apart_rolled 0 free (bare y) ∙ level y (sym (aggregate_rolled (bare y)) ∙ lack) free

pub lacks_apart : (e : Expr) → Lacks e
lacks_apart = by_levels Lacks step
