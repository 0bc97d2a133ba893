-- Expressions are told to be one tree exactly where they are equal.
use Rattle.std.proofs.Common.{◌≡◌, ℕ, Bool, true, false, ◌&&◌, ◌==◌, List, [], ◌∷◌, map, Option, Some, None, refl, sym, ap, ◌∙◌}
use Rattle.std.proofs.lemmas.Bool.{and_from, and_parts, eq-eqb, eqb-true, false≢true}
use Rattle.std.specs.declared.cmp.Ordering.{Ordering}
use Rattle.std.specs.declared.cmp.Ordering.TheVariants.{Less, Equal, Greater}
use Rattle.std.specs.Ordering.{is_eq, ordering_reverse}
use Rattle.std.specs.Cmp.Lexicographic.{pointwise}
use Rattle.base_core.specs.declared.ids.ColumnNo.{ColumnNo}
use Rattle.base_core.specs.declared.value.Value.{Value}
use Rattle.base_core.specs.declared.value.ArithOp.{ArithOp}
use Rattle.base_core.specs.declared.value.ArithOp.TheVariants.{Add, Sub, Mul}
use Rattle.base_core.specs.Order.{same_value, value_cmp}
use Rattle.base_core.specs.OrderLaws.{value_cmp_total}
use Rattle.base_core.proofs.Exact.{exact_value}
use Rattle.schema_core.proofs.Names.{same_names, name_itself}
use Rattle.expr_types.specs.declared.expr.CompareOp.{CompareOp}
use Rattle.expr_types.specs.declared.expr.CompareOp.TheVariants as compare
use Rattle.expr_types.specs.declared.expr.Func.{Func}
use Rattle.expr_types.specs.declared.expr.Func.TheVariants.{Count, Sum, Min, Max, Lower, Upper, Length, Coalesce}
use Rattle.expr_types.specs.declared.expr.Origin.{Origin}
use Rattle.expr_types.specs.declared.expr.Expr.{Expr, out-Expr, roll-Expr}
use Rattle.expr_types.specs.declared.expr.Expr.TheOpen.{Expr-F}
use Rattle.expr_types.specs.declared.expr.Expr.TheFolds.{map-Expr}
use Rattle.expr_types.specs.declared.expr.Expr.TheViews.{out-roll-Expr, roll-out-Expr}
use Rattle.expr_types.specs.Same.{arith_place, compare_place, function_place, same, same_alias, same_all, same_bool, same_level, same_origin}
use Rattle.expr_types.proofs.Folds.{bare, by_levels, same_rolled}

-- ---- values of functions of several arguments

both_equal : {A B C : Type 0} (f : A → B → C) {a c : A} {b d : B} → a ≡ c → b ≡ d → f a b ≡ f c d
both_equal f {c = c} {b = b} p q = ap (λ x. f x b) p ∙ ap (f c) q

three_equal : {A B C D : Type 0} (f : A → B → C → D) {a d : A} {b e : B} {c i : C} → a ≡ d → b ≡ e → c ≡ i → f a b c ≡ f d e i
three_equal f {d = d} {b = b} {c = c} p q r = ap (λ x. f x b c) p ∙ both_equal (f d) q r

-- ---- what stands in a level beside its operands

bool_is : (m n : Bool) → same_bool m n ≡ true → m ≡ n
bool_is true true h = refl
bool_is true false h = absurd (false≢true h)
bool_is false true h = absurd (false≢true h)
bool_is false false h = refl

bool_itself : (m : Bool) → same_bool m m ≡ true
bool_itself true = refl
bool_itself false = refl

compare_is : (o p : CompareOp) → (compare_place o == compare_place p) ≡ true → o ≡ p
compare_is compare.Equal compare.Equal h = refl
compare_is compare.NotEqual compare.NotEqual h = refl
compare_is compare.Less compare.Less h = refl
compare_is compare.LessEqual compare.LessEqual h = refl
compare_is compare.Greater compare.Greater h = refl
compare_is compare.GreaterEqual compare.GreaterEqual h = refl
compare_is o p h = absurd (false≢true h)

arith_is : (o p : ArithOp) → (arith_place o == arith_place p) ≡ true → o ≡ p
arith_is Add Add h = refl
arith_is Sub Sub h = refl
arith_is Mul Mul h = refl
arith_is o p h = absurd (false≢true h)

function_is : (f g : Func) → (function_place f == function_place g) ≡ true → f ≡ g
function_is Count Count h = refl
function_is Sum Sum h = refl
function_is Min Min h = refl
function_is Max Max h = refl
function_is Lower Lower h = refl
function_is Upper Upper h = refl
function_is Length Length h = refl
function_is Coalesce Coalesce h = refl
function_is f g h = absurd (false≢true h)

alias_is : (a b : Option (List ℕ)) → same_alias a b ≡ true → a ≡ b
alias_is None None h = refl
alias_is None (Some b) h = absurd (false≢true h)
alias_is (Some a) None h = absurd (false≢true h)
alias_is (Some a) (Some b) h = ap Some (same_names a b h)

alias_itself : (a : Option (List ℕ)) → same_alias a a ≡ true
alias_itself None = refl
alias_itself (Some a) = name_itself a

column_is : (c d : ColumnNo) → (c.0 == d.0) ≡ true → c ≡ d
column_is c d h = ap (λ (n : ℕ). record { 0 = n }) (eqb-true c.0 d.0 h)

origin_is : (o p : Origin) → same_origin o p ≡ true → o ≡ p
origin_is o p h =
    let both = and_parts (o.table.0 == p.table.0) (same_alias o.alias p.alias) h in
    ap (λ (n : ℕ). record { table = record { 0 = n }; alias = o.alias }) (eqb-true o.table.0 p.table.0 both.0)
    ∙ ap (λ (a : Option (List ℕ)). record { table = p.table; alias = a }) (alias_is o.alias p.alias both.1)

origin_itself : (o : Origin) → same_origin o o ≡ true
origin_itself o = and_from (o.table.0 == o.table.0) (same_alias o.alias o.alias) (eq-eqb o.table.0 o.table.0 refl) (alias_itself o.alias)

tied : (r : Ordering) → is_eq r ≡ true → r ≡ Equal
tied Less h = absurd (false≢true h)
tied Equal h = refl
tied Greater h = absurd (false≢true h)

reversed_alike : (r : Ordering) → r ≡ ordering_reverse r → is_eq r ≡ true
reversed_alike Less h = absurd (cc)
reversed_alike Equal h = refl
reversed_alike Greater h = absurd (cc)

value_is : (v w : Value) → same_value v w ≡ true → v ≡ w
value_is v w h = exact_value v w (tied (value_cmp v w) h)

value_itself : (v : Value) → same_value v v ≡ true
value_itself v = reversed_alike (value_cmp v v) (value_cmp_total.antisymm v v)

values_are : (vs ws : List Value) → pointwise same_value vs ws ≡ true → vs ≡ ws
values_are [] [] h = refl
values_are [] (w ∷ ws) h = absurd (false≢true h)
values_are (v ∷ vs) [] h = absurd (false≢true h)
values_are (v ∷ vs) (w ∷ ws) h =
    let both = and_parts (same_value v w) (pointwise same_value vs ws) h in
    ap (λ (u : Value). u ∷ vs) (value_is v w both.0) ∙ ap (λ (us : List Value). w ∷ us) (values_are vs ws both.1)

values_themselves : (vs : List Value) → pointwise same_value vs vs ≡ true
values_themselves [] = refl
values_themselves (v ∷ vs) = and_from (same_value v v) (pointwise same_value vs vs) (value_itself v) (values_themselves vs)

-- ---- what is told to be the same is equal

abbrev Told : Expr → Type 0
Told e = (o : Expr) → same e o ≡ true → e ≡ o

abbrev told : List ((e : Expr) × Told e) → List Expr
told = map (λ k. k.0)

each_is : (ks : List ((e : Expr) × Told e)) (es : List Expr) → same_all (map same (told ks)) es ≡ true → told ks ≡ es
each_is [] [] h = refl
each_is [] (e ∷ es) h = absurd (false≢true h)
each_is (k ∷ ks) [] h = absurd (false≢true h)
each_is (k ∷ ks) (e ∷ es) h =
    let both = and_parts (same k.0 e) (same_all (map same (told ks)) es) h in
    ap (λ (d : Expr). d ∷ told ks) (k.1 e both.0) ∙ ap (λ (ds : List Expr). e ∷ ds) (each_is ks es both.1)

-- two parts behind a test of the level itself, and three
two : (own a b : Bool) → (own && a && b) ≡ true → (own ≡ true) × (a ≡ true) × (b ≡ true)
two true a b h = let both = and_parts a b h in (refl, both.0, both.1)
two false a b h = absurd (false≢true h)

three : (own a b c : Bool) → (own && a && b && c) ≡ true → (own ≡ true) × (a ≡ true) × (b ≡ true) × (c ≡ true)
three own a b c h = let last = and_parts (own && a && b) c h in let rest = two own a b last.0 in (rest.0, rest.1, rest.2, last.1)

level_is : (y : Expr-F ((e : Expr) × Told e)) (x : Expr-F Expr) → same_level (map-Expr Expr (Expr → Bool) same (bare y)) x ≡ true → bare y ≡ x
level_is (Expr-F.Column s c) (Expr-F.Column t d) h =
    let both = and_parts (s == t) (c.0 == d.0) h in both_equal Expr-F.Column (eqb-true s t both.0) (column_is c d both.1)
level_is (Expr-F.Lit v) (Expr-F.Lit w) h = ap Expr-F.Lit (value_is v w h)
level_is (Expr-F.Compare o a b) (Expr-F.Compare p c d) h =
    let all = two (compare_place o == compare_place p) (same a.0 c) (same b.0 d) h in
    three_equal Expr-F.Compare (compare_is o p all.0) (a.1 c all.1) (b.1 d all.2)
level_is (Expr-F.IsNull m a) (Expr-F.IsNull n c) h =
    let both = and_parts (same_bool m n) (same a.0 c) h in both_equal Expr-F.IsNull (bool_is m n both.0) (a.1 c both.1)
level_is (Expr-F.And xs) (Expr-F.And ys) h = ap Expr-F.And (each_is xs ys h)
level_is (Expr-F.Or xs) (Expr-F.Or ys) h = ap Expr-F.Or (each_is xs ys h)
level_is (Expr-F.Not a) (Expr-F.Not c) h = ap Expr-F.Not (a.1 c h)
level_is (Expr-F.Arith o a b) (Expr-F.Arith p c d) h =
    let all = two (arith_place o == arith_place p) (same a.0 c) (same b.0 d) h in
    three_equal Expr-F.Arith (arith_is o p all.0) (a.1 c all.1) (b.1 d all.2)
level_is (Expr-F.Neg a) (Expr-F.Neg c) h = ap Expr-F.Neg (a.1 c h)
level_is (Expr-F.Concat a b) (Expr-F.Concat c d) h =
    let both = and_parts (same a.0 c) (same b.0 d) h in both_equal Expr-F.Concat (a.1 c both.0) (b.1 d both.1)
level_is (Expr-F.Like m a b) (Expr-F.Like n c d) h =
    let all = two (same_bool m n) (same a.0 c) (same b.0 d) h in three_equal Expr-F.Like (bool_is m n all.0) (a.1 c all.1) (b.1 d all.2)
level_is (Expr-F.Ilike m a b) (Expr-F.Ilike n c d) h =
    let all = two (same_bool m n) (same a.0 c) (same b.0 d) h in three_equal Expr-F.Ilike (bool_is m n all.0) (a.1 c all.1) (b.1 d all.2)
level_is (Expr-F.InList m a vs) (Expr-F.InList n c ws) h =
    let all = two (same_bool m n) (same a.0 c) (pointwise same_value vs ws) h in
    three_equal Expr-F.InList (bool_is m n all.0) (a.1 c all.1) (values_are vs ws all.2)
level_is (Expr-F.Between m a b x) (Expr-F.Between n c d y) h =
    let all = three (same_bool m n) (same a.0 c) (same b.0 d) (same x.0 y) h in
    ap (λ l. Expr-F.Between l a.0 b.0 x.0) (bool_is m n all.0) ∙ three_equal (Expr-F.Between n) (a.1 c all.1) (b.1 d all.2) (x.1 y all.3)
level_is (Expr-F.Distinct m a b) (Expr-F.Distinct n c d) h =
    let all = two (same_bool m n) (same a.0 c) (same b.0 d) h in three_equal Expr-F.Distinct (bool_is m n all.0) (a.1 c all.1) (b.1 d all.2)
level_is (Expr-F.Call f xs) (Expr-F.Call g ys) h =
    let both = and_parts (function_place f == function_place g) (same_all (map same (told xs)) ys) h in
    both_equal Expr-F.Call (function_is f g both.0) (each_is xs ys both.1)
level_is Expr-F.CountAll Expr-F.CountAll h = refl
level_is (Expr-F.Exists m o a) (Expr-F.Exists n p c) h =
    let all = two (same_bool m n) (same_origin o p) (same a.0 c) h in three_equal Expr-F.Exists (bool_is m n all.0) (origin_is o p all.1) (a.1 c all.2)
level_is y x h = absurd (false≢true h)

told_step : (y : Expr-F ((e : Expr) × Told e)) → Told (roll-Expr (bare y))
told_step y e h = ap roll-Expr (level_is y (out-Expr e) (sym (same_rolled (bare y) e) ∙ h)) ∙ roll-out-Expr e

pub same_is : (e o : Expr) → same e o ≡ true → e ≡ o
same_is = by_levels Told told_step

-- ---- an expression is the same as itself

abbrev Itself : Expr → Type 0
Itself e = same e e ≡ true

each_itself : (ks : List ((e : Expr) × Itself e)) → same_all (map same (map (λ k. k.0) ks)) (map (λ k. k.0) ks) ≡ true
each_itself [] = refl
each_itself (k ∷ ks) = and_from (same k.0 k.0) (same_all (map same (map (λ k. k.0) ks)) (map (λ k. k.0) ks)) k.1 (each_itself ks)

two_from : (own a b : Bool) → own ≡ true → a ≡ true → b ≡ true → (own && a && b) ≡ true
two_from own a b h f g = and_from (own && a) b (and_from own a h f) g

level_itself : (y : Expr-F ((e : Expr) × Itself e)) → same_level (map-Expr Expr (Expr → Bool) same (bare y)) (bare y) ≡ true
level_itself (Expr-F.Column s c) = and_from (s == s) (c.0 == c.0) (eq-eqb s s refl) (eq-eqb c.0 c.0 refl)
level_itself (Expr-F.Lit v) = value_itself v
level_itself (Expr-F.Compare o a b) = two_from (compare_place o == compare_place o) (same a.0 a.0) (same b.0 b.0) (eq-eqb (compare_place o) (compare_place o) refl) a.1 b.1
level_itself (Expr-F.IsNull m a) = and_from (same_bool m m) (same a.0 a.0) (bool_itself m) a.1
level_itself (Expr-F.And ks) = each_itself ks
level_itself (Expr-F.Or ks) = each_itself ks
level_itself (Expr-F.Not a) = a.1
level_itself (Expr-F.Arith o a b) = two_from (arith_place o == arith_place o) (same a.0 a.0) (same b.0 b.0) (eq-eqb (arith_place o) (arith_place o) refl) a.1 b.1
level_itself (Expr-F.Neg a) = a.1
level_itself (Expr-F.Concat a b) = and_from (same a.0 a.0) (same b.0 b.0) a.1 b.1
level_itself (Expr-F.Like m a b) = two_from (same_bool m m) (same a.0 a.0) (same b.0 b.0) (bool_itself m) a.1 b.1
level_itself (Expr-F.Ilike m a b) = two_from (same_bool m m) (same a.0 a.0) (same b.0 b.0) (bool_itself m) a.1 b.1
level_itself (Expr-F.InList m a vs) = two_from (same_bool m m) (same a.0 a.0) (pointwise same_value vs vs) (bool_itself m) a.1 (values_themselves vs)
level_itself (Expr-F.Between m a b x) =
    and_from (same_bool m m && same a.0 a.0 && same b.0 b.0) (same x.0 x.0) (two_from (same_bool m m) (same a.0 a.0) (same b.0 b.0) (bool_itself m) a.1 b.1) x.1
level_itself (Expr-F.Distinct m a b) = two_from (same_bool m m) (same a.0 a.0) (same b.0 b.0) (bool_itself m) a.1 b.1
level_itself (Expr-F.Call f ks) =
    and_from (function_place f == function_place f) (same_all (map same (map (λ k. k.0) ks)) (map (λ k. k.0) ks)) (eq-eqb (function_place f) (function_place f) refl) (each_itself ks)
level_itself Expr-F.CountAll = refl
level_itself (Expr-F.Exists m o a) = two_from (same_bool m m) (same_origin o o) (same a.0 a.0) (bool_itself m) (origin_itself o) a.1

itself_step : (y : Expr-F ((e : Expr) × Itself e)) → Itself (roll-Expr (bare y))
itself_step y = same_rolled (bare y) (roll-Expr (bare y)) ∙ ap (same_level (map-Expr Expr (Expr → Bool) same (bare y))) (out-roll-Expr (bare y)) ∙ level_itself y

pub same_itself : (e : Expr) → same e e ≡ true
same_itself = by_levels Itself itself_step

pub same_from : (e o : Expr) → e ≡ o → same e o ≡ true
same_from e o is = ap (same e) (sym is) ∙ same_itself e
