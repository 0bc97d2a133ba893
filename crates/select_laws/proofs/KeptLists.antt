-- In the normal form, too, each `and` and `or` has two parts or more.
use Rattle.std.proofs.Common.{◌≡◌, ◌<◌, ◌≤◌, suc, Bool, true, not, ◌&&◌, nat_lt, List, [], ◌∷◌, length, map, Option, Some, None, refl, sym, ap, subst, ◌∙◌, arith, length-append}
use Rattle.std.proofs.lemmas.Bool.{and_parts, lt-ltb, ltb-true}
use Rattle.std.specs.List.{list_all, AllByRecursion}
use Rattle.sql_semantics.proofs.Equations.{full_rolled}
use Rattle.base_core.proofs.Lists.{every_append}
use Rattle.expr_types.specs.declared.expr.Func.TheVariants.{Lower}
use Rattle.expr_types.specs.declared.expr.Expr.{Expr, out-Expr, roll-Expr}
use Rattle.expr_types.specs.declared.expr.Expr.TheOpen.{Expr-F}
use Rattle.expr_types.specs.declared.expr.Expr.TheVariants as expr
use Rattle.expr_types.specs.declared.expr.Expr.TheFolds.{map-Expr}
use Rattle.expr_types.specs.Normal.{normal, negation_of_level, like_by, joined_parts, and_parts as parts_of_and, and_parts_at, or_parts, or_parts_at, lower_argument, opposite}
use Rattle.expr_types.proofs.Folds.{bare, by_levels, whole_is}
use Rattle.expr_normal.proofs.Steps.{normal-Column, normal-Lit, normal-Compare, normal-IsNull, normal-And, normal-Or, normal-Not, normal-Arith, normal-Neg, normal-Concat, normal-Like, normal-Ilike, normal-InList, normal-Between, normal-Distinct, normal-Call, normal-CountAll, normal-Exists}
use Rattle.sql_semantics.specs.Plain.{full_level, has_full_lists}
use Rattle.select_laws.proofs.Several.{first_true, one_true, rest_true, three_true, two_true}
use Rattle.select_laws.proofs.Forms.{and_parts_by, liked_is, lowered_whole, negated_is, or_parts_by}

abbrev Full : Expr → Type 0
Full e = has_full_lists e ≡ true

-- a level is full where what it is made of is
of_level : (x : Expr-F Expr) (e : Expr) → roll-Expr x ≡ e → full_level (map-Expr Expr Bool has_full_lists x) ≡ true → Full e
of_level x e is h = ap has_full_lists (sym is) ∙ full_rolled x ∙ h

to_level : (x : Expr-F Expr) (e : Expr) → roll-Expr x ≡ e → Full e → full_level (map-Expr Expr Bool has_full_lists x) ≡ true
to_level x e is h = sym (full_rolled x) ∙ ap has_full_lists is ∙ h

-- ---- lists

all_full : (es : List Expr) → list_all (λ has. has) (map has_full_lists es) ≡ true → AllByRecursion Full es
all_full [] h = tt
all_full (e ∷ es) h = let both = and_parts (has_full_lists e) (list_all (λ has. has) (map has_full_lists es)) h in (both.0, all_full es both.1)

full_all : (es : List Expr) → AllByRecursion Full es → list_all (λ has. has) (map has_full_lists es) ≡ true
full_all [] h = refl
full_all (e ∷ es) h = ap (λ b. b && list_all (λ has. has) (map has_full_lists es)) h.0 ∙ full_all es h.1

map_length : (es : List Expr) → length (map has_full_lists es) ≡ length es
map_length [] = refl
map_length (e ∷ es) = ap suc (map_length es)

list_full : (es : List Expr) → 1 < length es → AllByRecursion Full es → (nat_lt 1 (length (map has_full_lists es)) && list_all (λ has. has) (map has_full_lists es)) ≡ true
list_full es long h = ap (λ b. b && list_all (λ has. has) (map has_full_lists es)) (ap (nat_lt 1) (map_length es) ∙ lt-ltb 1 (length es) long) ∙ full_all es h

list_parts : (es : List Expr) → (nat_lt 1 (length (map has_full_lists es)) && list_all (λ has. has) (map has_full_lists es)) ≡ true → (1 < length es) × AllByRecursion Full es
list_parts es h =
    let both = and_parts (nat_lt 1 (length (map has_full_lists es))) (list_all (λ has. has) (map has_full_lists es)) h in
    (ltb-true 1 (length es) (ap (nat_lt 1) (sym (map_length es)) ∙ both.0), all_full es both.1)

and_parts_full : (n : Expr) (x : Expr-F Expr) → out-Expr n ≡ x → Full n → (0 < length (and_parts_at n x)) × AllByRecursion Full (and_parts_at n x)
and_parts_full n (Expr-F.And es) is h =
    let both = list_parts es (to_level (Expr-F.And es) n (sym (whole_is n (Expr-F.And es) is)) h) in
    let long = both.0 in (omega (arith, long), both.1)
and_parts_full n level is h = (omega arith, (h, tt))

and_full : (ns : List Expr) → AllByRecursion Full ns → (length ns ≤ length (joined_parts parts_of_and ns)) × AllByRecursion Full (joined_parts parts_of_and ns)
and_full [] h = (omega arith, tt)
and_full (n ∷ ns) h =
    let own : (0 < length (parts_of_and n)) × AllByRecursion Full (parts_of_and n) = subst (λ ps. (0 < length ps) × AllByRecursion Full ps) (sym (and_parts_by n)) (and_parts_full n (out-Expr n) refl h.0) in
    let rest = and_full ns h.1 in
    let some = own.0 in let more = rest.0 in
    (omega (arith, length-append {A = Expr}, some, more), every_append Full (parts_of_and n) (joined_parts parts_of_and ns) own.1 rest.1)

or_parts_full : (n : Expr) (x : Expr-F Expr) → out-Expr n ≡ x → Full n → (0 < length (or_parts_at n x)) × AllByRecursion Full (or_parts_at n x)
or_parts_full n (Expr-F.Or es) is h =
    let both = list_parts es (to_level (Expr-F.Or es) n (sym (whole_is n (Expr-F.Or es) is)) h) in
    let long = both.0 in (omega (arith, long), both.1)
or_parts_full n level is h = (omega arith, (h, tt))

or_full : (ns : List Expr) → AllByRecursion Full ns → (length ns ≤ length (joined_parts or_parts ns)) × AllByRecursion Full (joined_parts or_parts ns)
or_full [] h = (omega arith, tt)
or_full (n ∷ ns) h =
    let own : (0 < length (or_parts n)) × AllByRecursion Full (or_parts n) = subst (λ ps. (0 < length ps) × AllByRecursion Full ps) (sym (or_parts_by n)) (or_parts_full n (out-Expr n) refl h.0) in
    let rest = or_full ns h.1 in
    let some = own.0 in let more = rest.0 in
    (omega (arith, length-append {A = Expr}, some, more), every_append Full (or_parts n) (joined_parts or_parts ns) own.1 rest.1)

-- ---- negations and `like`

full_negated : (n : Expr) (x : Expr-F Expr) → out-Expr n ≡ x → Full n → Full (negation_of_level n x)
full_negated n (Expr-F.Compare op a b) is h = of_level (Expr-F.Compare (opposite op) a b) _ (expr.rolls-Compare (opposite op) a b) (to_level (Expr-F.Compare op a b) n (sym (whole_is n (Expr-F.Compare op a b) is)) h)
full_negated n (Expr-F.IsNull g a) is h = of_level (Expr-F.IsNull (not g) a) _ (expr.rolls-IsNull (not g) a) (to_level (Expr-F.IsNull g a) n (sym (whole_is n (Expr-F.IsNull g a) is)) h)
full_negated n (Expr-F.Like g a b) is h = of_level (Expr-F.Like (not g) a b) _ (expr.rolls-Like (not g) a b) (to_level (Expr-F.Like g a b) n (sym (whole_is n (Expr-F.Like g a b) is)) h)
full_negated n (Expr-F.Ilike g a b) is h = of_level (Expr-F.Ilike (not g) a b) _ (expr.rolls-Ilike (not g) a b) (to_level (Expr-F.Ilike g a b) n (sym (whole_is n (Expr-F.Ilike g a b) is)) h)
full_negated n (Expr-F.InList g a vs) is h = of_level (Expr-F.InList (not g) a vs) _ (expr.rolls-InList (not g) a vs) (to_level (Expr-F.InList g a vs) n (sym (whole_is n (Expr-F.InList g a vs) is)) h)
full_negated n (Expr-F.Between g a low high) is h = of_level (Expr-F.Between (not g) a low high) _ (expr.rolls-Between (not g) a low high) (to_level (Expr-F.Between g a low high) n (sym (whole_is n (Expr-F.Between g a low high) is)) h)
full_negated n (Expr-F.Distinct g a b) is h = of_level (Expr-F.Distinct (not g) a b) _ (expr.rolls-Distinct (not g) a b) (to_level (Expr-F.Distinct g a b) n (sym (whole_is n (Expr-F.Distinct g a b) is)) h)
full_negated n (Expr-F.Exists g o a) is h = of_level (Expr-F.Exists (not g) o a) _ (expr.rolls-Exists (not g) o a) (to_level (Expr-F.Exists g o a) n (sym (whole_is n (Expr-F.Exists g o a) is)) h)
full_negated n (Expr-F.Not a) is h = first_true (has_full_lists a) true (to_level (Expr-F.Not a) n (sym (whole_is n (Expr-F.Not a) is)) h)
full_negated n level is h = of_level (Expr-F.Not n) _ (expr.rolls-Not n) (one_true (has_full_lists n) h)

full_lowered : (a x : Expr) → lower_argument a ≡ Some x → Full a → Full x
full_lowered a x is h = first_true (has_full_lists x) true (to_level (Expr-F.Call Lower (x ∷ [])) a (expr.rolls-Call Lower (x ∷ []) ∙ sym (lowered_whole a x is)) h)

full_liked : (g : Bool) (a b : Expr) (s t : Option Expr) → lower_argument a ≡ s → lower_argument b ≡ t → Full a → Full b → Full (like_by g a b s t)
full_liked g a b (Some x) (Some y) es et ha hb =
    of_level (Expr-F.Ilike g x y) _ (expr.rolls-Ilike g x y) (two_true (has_full_lists x) (has_full_lists y) (full_lowered a x es ha) (full_lowered b y et hb))
full_liked g a b (Some x) None es et ha hb = of_level (Expr-F.Like g a b) _ (expr.rolls-Like g a b) (two_true (has_full_lists a) (has_full_lists b) ha hb)
full_liked g a b None t es et ha hb = of_level (Expr-F.Like g a b) _ (expr.rolls-Like g a b) (two_true (has_full_lists a) (has_full_lists b) ha hb)

-- ---- all levels

abbrev KeepsLists : Expr → Type 0
KeepsLists e = Full e → Full (normal e)

abbrev Known : Type 0
Known = (e : Expr) × KeepsLists e

abbrev plain : List Known → List Expr
plain = map (λ k. k.0)

each_full : (ks : List Known) → AllByRecursion Full (plain ks) → AllByRecursion Full (map normal (plain ks))
each_full [] h = tt
each_full (k ∷ ks) h = (k.1 h.0, each_full ks h.1)

plain_length : (ks : List Known) → length (map normal (plain ks)) ≡ length (plain ks)
plain_length [] = refl
plain_length (k ∷ ks) = ap suc (plain_length ks)

formed : (e n : Expr) → normal e ≡ n → Full n → Full (normal e)
formed e n is h = ap has_full_lists is ∙ h

level : (y : Expr-F Known) → full_level (map-Expr Expr Bool has_full_lists (bare y)) ≡ true → Full (normal (roll-Expr (bare y)))
level (Expr-F.Column s c) h = formed _ _ (ap normal (expr.rolls-Column s c) ∙ normal-Column s c) (of_level (Expr-F.Column s c) _ (expr.rolls-Column s c) refl)
level (Expr-F.Lit v) h = formed _ _ (ap normal (expr.rolls-Lit v) ∙ normal-Lit v) (of_level (Expr-F.Lit v) _ (expr.rolls-Lit v) refl)
level Expr-F.CountAll h = formed _ _ (ap normal expr.rolls-CountAll ∙ normal-CountAll) (of_level Expr-F.CountAll _ expr.rolls-CountAll refl)
level (Expr-F.Compare op a b) h =
    formed _ _ (ap normal (expr.rolls-Compare op a.0 b.0) ∙ normal-Compare op a.0 b.0)
    (of_level (Expr-F.Compare op (normal a.0) (normal b.0)) _ (expr.rolls-Compare op (normal a.0) (normal b.0)) (two_true (has_full_lists (normal a.0)) (has_full_lists (normal b.0)) (a.1 (first_true (has_full_lists a.0) (has_full_lists b.0 && true) h)) (b.1 (first_true (has_full_lists b.0) true (rest_true (has_full_lists a.0) (has_full_lists b.0 && true) h)))))
level (Expr-F.IsNull g a) h =
    formed _ _ (ap normal (expr.rolls-IsNull g a.0) ∙ normal-IsNull g a.0)
    (of_level (Expr-F.IsNull g (normal a.0)) _ (expr.rolls-IsNull g (normal a.0)) (one_true (has_full_lists (normal a.0)) (a.1 (first_true (has_full_lists a.0) true h))))
level (Expr-F.Arith op a b) h =
    formed _ _ (ap normal (expr.rolls-Arith op a.0 b.0) ∙ normal-Arith op a.0 b.0)
    (of_level (Expr-F.Arith op (normal a.0) (normal b.0)) _ (expr.rolls-Arith op (normal a.0) (normal b.0)) (two_true (has_full_lists (normal a.0)) (has_full_lists (normal b.0)) (a.1 (first_true (has_full_lists a.0) (has_full_lists b.0 && true) h)) (b.1 (first_true (has_full_lists b.0) true (rest_true (has_full_lists a.0) (has_full_lists b.0 && true) h)))))
level (Expr-F.Neg a) h =
    formed _ _ (ap normal (expr.rolls-Neg a.0) ∙ normal-Neg a.0)
    (of_level (Expr-F.Neg (normal a.0)) _ (expr.rolls-Neg (normal a.0)) (one_true (has_full_lists (normal a.0)) (a.1 (first_true (has_full_lists a.0) true h))))
level (Expr-F.Concat a b) h =
    formed _ _ (ap normal (expr.rolls-Concat a.0 b.0) ∙ normal-Concat a.0 b.0)
    (of_level (Expr-F.Concat (normal a.0) (normal b.0)) _ (expr.rolls-Concat (normal a.0) (normal b.0)) (two_true (has_full_lists (normal a.0)) (has_full_lists (normal b.0)) (a.1 (first_true (has_full_lists a.0) (has_full_lists b.0 && true) h)) (b.1 (first_true (has_full_lists b.0) true (rest_true (has_full_lists a.0) (has_full_lists b.0 && true) h)))))
level (Expr-F.Ilike g a b) h =
    formed _ _ (ap normal (expr.rolls-Ilike g a.0 b.0) ∙ normal-Ilike g a.0 b.0)
    (of_level (Expr-F.Ilike g (normal a.0) (normal b.0)) _ (expr.rolls-Ilike g (normal a.0) (normal b.0)) (two_true (has_full_lists (normal a.0)) (has_full_lists (normal b.0)) (a.1 (first_true (has_full_lists a.0) (has_full_lists b.0 && true) h)) (b.1 (first_true (has_full_lists b.0) true (rest_true (has_full_lists a.0) (has_full_lists b.0 && true) h)))))
level (Expr-F.InList g a vs) h =
    formed _ _ (ap normal (expr.rolls-InList g a.0 vs) ∙ normal-InList g a.0 vs)
    (of_level (Expr-F.InList g (normal a.0) vs) _ (expr.rolls-InList g (normal a.0) vs) (one_true (has_full_lists (normal a.0)) (a.1 (first_true (has_full_lists a.0) true h))))
level (Expr-F.Between g a low high) h =
    formed _ _ (ap normal (expr.rolls-Between g a.0 low.0 high.0) ∙ normal-Between g a.0 low.0 high.0)
    (of_level (Expr-F.Between g (normal a.0) (normal low.0) (normal high.0)) _ (expr.rolls-Between g (normal a.0) (normal low.0) (normal high.0)) (three_true (has_full_lists (normal a.0)) (has_full_lists (normal low.0)) (has_full_lists (normal high.0)) (a.1 (first_true (has_full_lists a.0) (has_full_lists low.0 && (has_full_lists high.0 && true)) h)) (low.1 (first_true (has_full_lists low.0) (has_full_lists high.0 && true) (rest_true (has_full_lists a.0) (has_full_lists low.0 && (has_full_lists high.0 && true)) h))) (high.1 (first_true (has_full_lists high.0) true (rest_true (has_full_lists low.0) (has_full_lists high.0 && true) (rest_true (has_full_lists a.0) (has_full_lists low.0 && (has_full_lists high.0 && true)) h))))))
level (Expr-F.Distinct g a b) h =
    formed _ _ (ap normal (expr.rolls-Distinct g a.0 b.0) ∙ normal-Distinct g a.0 b.0)
    (of_level (Expr-F.Distinct g (normal a.0) (normal b.0)) _ (expr.rolls-Distinct g (normal a.0) (normal b.0)) (two_true (has_full_lists (normal a.0)) (has_full_lists (normal b.0)) (a.1 (first_true (has_full_lists a.0) (has_full_lists b.0 && true) h)) (b.1 (first_true (has_full_lists b.0) true (rest_true (has_full_lists a.0) (has_full_lists b.0 && true) h)))))
level (Expr-F.Exists g o a) h =
    formed _ _ (ap normal (expr.rolls-Exists g o a.0) ∙ normal-Exists g o a.0)
    (of_level (Expr-F.Exists g o (normal a.0)) _ (expr.rolls-Exists g o (normal a.0)) (one_true (has_full_lists (normal a.0)) (a.1 (first_true (has_full_lists a.0) true h))))
level (Expr-F.And es) h =
    let both = list_parts (plain es) h in let long = both.0 in
    let parts = and_full (map normal (plain es)) (each_full es both.1) in let more = parts.0 in let same = plain_length es in
    formed _ _ (ap normal (expr.rolls-And (plain es)) ∙ normal-And (plain es))
    (of_level (Expr-F.And (joined_parts parts_of_and (map normal (plain es)))) _ (expr.rolls-And (joined_parts parts_of_and (map normal (plain es))))
    (list_full (joined_parts parts_of_and (map normal (plain es))) (omega (arith, long, more, same)) parts.1))
level (Expr-F.Or es) h =
    let both = list_parts (plain es) h in let long = both.0 in
    let parts = or_full (map normal (plain es)) (each_full es both.1) in let more = parts.0 in let same = plain_length es in
    formed _ _ (ap normal (expr.rolls-Or (plain es)) ∙ normal-Or (plain es))
    (of_level (Expr-F.Or (joined_parts or_parts (map normal (plain es)))) _ (expr.rolls-Or (joined_parts or_parts (map normal (plain es))))
    (list_full (joined_parts or_parts (map normal (plain es))) (omega (arith, long, more, same)) parts.1))
level (Expr-F.Not a) h =
    formed _ _ (ap normal (expr.rolls-Not a.0) ∙ normal-Not a.0 ∙ negated_is (normal a.0))
    (full_negated (normal a.0) (out-Expr (normal a.0)) refl (a.1 (first_true (has_full_lists a.0) true h)))
level (Expr-F.Like g a b) h =
    formed _ _ (ap normal (expr.rolls-Like g a.0 b.0) ∙ normal-Like g a.0 b.0 ∙ liked_is g (normal a.0) (normal b.0))
    (full_liked g (normal a.0) (normal b.0) (lower_argument (normal a.0)) (lower_argument (normal b.0)) refl refl
    (a.1 (first_true (has_full_lists a.0) (has_full_lists b.0 && true) h)) (b.1 (first_true (has_full_lists b.0) true (rest_true (has_full_lists a.0) (has_full_lists b.0 && true) h))))
level (Expr-F.Call f es) h =
    formed _ _ (ap normal (expr.rolls-Call f (plain es)) ∙ normal-Call f (plain es))
    (of_level (Expr-F.Call f (map normal (plain es))) _ (expr.rolls-Call f (map normal (plain es))) (full_all (map normal (plain es)) (each_full es (all_full (plain es) h))))

step : (y : Expr-F Known) → KeepsLists (roll-Expr (bare y))
step y h = level y (to_level (bare y) _ refl h)

pub lists_kept : (e : Expr) → KeepsLists e
lists_kept = by_levels KeepsLists step
