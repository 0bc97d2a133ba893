-- The normal form of a normal form is itself.
use Rattle.std.proofs.Common.{◌≡◌, ℕ, Bool, not, List, [], ◌∷◌, ◌++◌, map, Option, Some, None, refl, sym, ap, subst, ◌∙◌, arith}
use Rattle.std.specs.Option.{option_map}
use Rattle.std.proofs.lemmas.List.{map-append, append_assoc, append-nil}
use Rattle.base_core.specs.declared.ids.ColumnNo.{ColumnNo}
use Rattle.base_core.specs.declared.value.Value.{Value}
use Rattle.base_core.specs.declared.value.ArithOp.{ArithOp}
use Rattle.expr_types.specs.declared.expr.CompareOp.{CompareOp}
use Rattle.expr_types.specs.declared.expr.Func.{Func}
use Rattle.expr_types.specs.declared.expr.Origin.{Origin}
use Rattle.expr_types.specs.declared.expr.Expr.{Expr, out-Expr, roll-Expr}
use Rattle.expr_types.specs.declared.expr.Expr.TheOpen.{Expr-F}
use Rattle.expr_types.specs.declared.expr.Expr.TheVariants as expr
use Rattle.expr_types.specs.declared.expr.Expr.TheViews.{roll-out-Expr, size-Expr, sized-Not}
use Rattle.expr_types.specs.declared.expr.Expr.TheFolds.{ind-Expr, map-Expr}
use Rattle.expr_types.specs.declared.expr.Func.TheVariants.{Lower}
use Rattle.expr_types.specs.Normal.{normal, negation_of, negation_of_level, normal_like, like_by, lower_argument, lower_argument_at, lower_argument_by, joined_parts, and_parts, and_parts_at, or_parts, or_parts_at, opposite}
use Rattle.expr_types.proofs.Folds.{whole_is}
use Rattle.expr_normal.proofs.Steps.{normal-Column, normal-Lit, normal-Compare, normal-IsNull, normal-And, normal-Or, normal-Not, normal-Arith, normal-Neg, normal-Concat, normal-Like, normal-Ilike, normal-InList, normal-Between, normal-Distinct, normal-Call, normal-CountAll, normal-Exists}

-- what stands below a `not` is in normal form and has no opposite of its own
abbrev OverNot : Expr-F Expr → Type 0
OverNot (Expr-F.Not a) = (normal a ≡ a) × (negation_of a ≡ expr.Not a)
OverNot level = Unit {0}

record Fixed (n : Expr) : Type 0 where
  again : normal n ≡ n
  below : OverNot (out-Expr n)

fixed_at : (n : Expr) (x : Expr-F Expr) → out-Expr n ≡ x → OverNot x → normal n ≡ n → Fixed n
fixed_at n x is over same = record { again = same; below = subst OverNot (sym is) over }

fixed-Column : (s : ℕ) (c : ColumnNo) → Fixed (expr.Column s c)
fixed-Column s c = fixed_at (expr.Column s c) _ (expr.outs-Column s c) tt (normal-Column s c)

fixed-Lit : (v : Value) → Fixed (expr.Lit v)
fixed-Lit v = fixed_at (expr.Lit v) _ (expr.outs-Lit v) tt (normal-Lit v)

fixed-Compare : (op : CompareOp) (a : Expr) (b : Expr) → normal a ≡ a → normal b ≡ b → Fixed (expr.Compare op a b)
fixed-Compare op a b ha hb = fixed_at (expr.Compare op a b) _ (expr.outs-Compare op a b) tt (normal-Compare op a b ∙ rw (ha, hb) refl)

fixed-IsNull : (g : Bool) (a : Expr) → normal a ≡ a → Fixed (expr.IsNull g a)
fixed-IsNull g a ha = fixed_at (expr.IsNull g a) _ (expr.outs-IsNull g a) tt (normal-IsNull g a ∙ rw ha refl)

fixed-Arith : (op : ArithOp) (a : Expr) (b : Expr) → normal a ≡ a → normal b ≡ b → Fixed (expr.Arith op a b)
fixed-Arith op a b ha hb = fixed_at (expr.Arith op a b) _ (expr.outs-Arith op a b) tt (normal-Arith op a b ∙ rw (ha, hb) refl)

fixed-Neg : (a : Expr) → normal a ≡ a → Fixed (expr.Neg a)
fixed-Neg a ha = fixed_at (expr.Neg a) _ (expr.outs-Neg a) tt (normal-Neg a ∙ rw ha refl)

fixed-Concat : (a : Expr) (b : Expr) → normal a ≡ a → normal b ≡ b → Fixed (expr.Concat a b)
fixed-Concat a b ha hb = fixed_at (expr.Concat a b) _ (expr.outs-Concat a b) tt (normal-Concat a b ∙ rw (ha, hb) refl)

fixed-Ilike : (g : Bool) (a : Expr) (b : Expr) → normal a ≡ a → normal b ≡ b → Fixed (expr.Ilike g a b)
fixed-Ilike g a b ha hb = fixed_at (expr.Ilike g a b) _ (expr.outs-Ilike g a b) tt (normal-Ilike g a b ∙ rw (ha, hb) refl)

fixed-InList : (g : Bool) (a : Expr) (vs : List Value) → normal a ≡ a → Fixed (expr.InList g a vs)
fixed-InList g a vs ha = fixed_at (expr.InList g a vs) _ (expr.outs-InList g a vs) tt (normal-InList g a vs ∙ rw ha refl)

fixed-Between : (g : Bool) (a : Expr) (low : Expr) (high : Expr) → normal a ≡ a → normal low ≡ low → normal high ≡ high → Fixed (expr.Between g a low high)
fixed-Between g a low high ha hlow hhigh = fixed_at (expr.Between g a low high) _ (expr.outs-Between g a low high) tt (normal-Between g a low high ∙ rw (ha, hlow, hhigh) refl)

fixed-Distinct : (g : Bool) (a : Expr) (b : Expr) → normal a ≡ a → normal b ≡ b → Fixed (expr.Distinct g a b)
fixed-Distinct g a b ha hb = fixed_at (expr.Distinct g a b) _ (expr.outs-Distinct g a b) tt (normal-Distinct g a b ∙ rw (ha, hb) refl)

fixed-CountAll : Fixed expr.CountAll
fixed-CountAll = fixed_at expr.CountAll _ expr.outs-CountAll tt (normal-CountAll)

fixed-Exists : (g : Bool) (o : Origin) (a : Expr) → normal a ≡ a → Fixed (expr.Exists g o a)
fixed-Exists g o a ha = fixed_at (expr.Exists g o a) _ (expr.outs-Exists g o a) tt (normal-Exists g o a ∙ rw ha refl)

-- ---- `and` and `or`

joined_append : (parts : Expr → List Expr) (xs ys : List Expr) → joined_parts parts (xs ++ ys) ≡ joined_parts parts xs ++ joined_parts parts ys
joined_append parts [] ys = refl
joined_append parts (x ∷ xs) ys = ap (λ z. parts x ++ z) (joined_append parts xs ys) ∙ sym (append_assoc (parts x) (joined_parts parts xs) (joined_parts parts ys))

and_parts_of : (es : List Expr) → and_parts (expr.And es) ≡ es
unfolding and_parts
and_parts_of es = ap (and_parts_at (expr.And es)) (expr.outs-And es)

or_parts_of : (es : List Expr) → or_parts (expr.Or es) ≡ es
unfolding or_parts
or_parts_of es = ap (or_parts_at (expr.Or es)) (expr.outs-Or es)

and_parts_at_normal : (n : Expr) (x : Expr-F Expr) → roll-Expr x ≡ n → joined_parts and_parts (map normal (and_parts_at n x)) ≡ and_parts (normal n)
and_parts_at_normal n (Expr-F.And es) is =
    sym (and_parts_of (joined_parts and_parts (map normal es))) ∙ ap and_parts (sym (normal-And es) ∙ ap normal (sym (expr.rolls-And es) ∙ is))
and_parts_at_normal n level is = append-nil (and_parts (normal n))

and_parts_normal : (n : Expr) → joined_parts and_parts (map normal (and_parts n)) ≡ and_parts (normal n)
unfolding and_parts
and_parts_normal n = and_parts_at_normal n (out-Expr n) (roll-out-Expr n)

or_parts_at_normal : (n : Expr) (x : Expr-F Expr) → roll-Expr x ≡ n → joined_parts or_parts (map normal (or_parts_at n x)) ≡ or_parts (normal n)
or_parts_at_normal n (Expr-F.Or es) is =
    sym (or_parts_of (joined_parts or_parts (map normal es))) ∙ ap or_parts (sym (normal-Or es) ∙ ap normal (sym (expr.rolls-Or es) ∙ is))
or_parts_at_normal n level is = append-nil (or_parts (normal n))

or_parts_normal : (n : Expr) → joined_parts or_parts (map normal (or_parts n)) ≡ or_parts (normal n)
unfolding or_parts
or_parts_normal n = or_parts_at_normal n (out-Expr n) (roll-out-Expr n)

-- an operand with what is known of its normal form
abbrev Known : Type 0
Known = (e : Expr) × Fixed (normal e)

joined_again : (parts : Expr → List Expr) → ((n : Expr) → joined_parts parts (map normal (parts n)) ≡ parts (normal n)) → (es : List Known) →
    joined_parts parts (map normal (joined_parts parts (map normal (map (λ e. e.0) es)))) ≡ joined_parts parts (map normal (map (λ e. e.0) es))
joined_again parts law [] = refl
joined_again parts law (e ∷ es) =
    ap (joined_parts parts) (map-append normal (parts (normal e.0)) (joined_parts parts (map normal (map (λ d. d.0) es))))
    ∙ joined_append parts (map normal (parts (normal e.0))) (map normal (joined_parts parts (map normal (map (λ d. d.0) es))))
    ∙ ap (λ z. z ++ joined_parts parts (map normal (joined_parts parts (map normal (map (λ d. d.0) es))))) (law (normal e.0) ∙ ap parts e.1.again)
    ∙ ap (λ z. parts (normal e.0) ++ z) (joined_again parts law es)

fixed-And : (es : List Known) → Fixed (expr.And (joined_parts and_parts (map normal (map (λ e. e.0) es))))
fixed-And es =
    let ps = joined_parts and_parts (map normal (map (λ (e : Known). e.0) es)) in
    fixed_at (expr.And ps) _ (expr.outs-And ps) tt (normal-And ps ∙ ap expr.And (joined_again and_parts and_parts_normal es))

fixed-Or : (es : List Known) → Fixed (expr.Or (joined_parts or_parts (map normal (map (λ e. e.0) es))))
fixed-Or es =
    let ps = joined_parts or_parts (map normal (map (λ (e : Known). e.0) es)) in
    fixed_at (expr.Or ps) _ (expr.outs-Or ps) tt (normal-Or ps ∙ ap expr.Or (joined_again or_parts or_parts_normal es))

-- ---- functions

mapped_again : (es : List Known) → map normal (map normal (map (λ e. e.0) es)) ≡ map normal (map (λ e. e.0) es)
mapped_again [] = refl
mapped_again (e ∷ es) = rw (e.1.again, mapped_again es) refl

fixed-Call : (f : Func) (es : List Known) → Fixed (expr.Call f (map normal (map (λ e. e.0) es)))
fixed-Call f es =
    let ns = map normal (map (λ (e : Known). e.0) es) in
    fixed_at (expr.Call f ns) _ (expr.outs-Call f ns) tt (normal-Call f ns ∙ ap (expr.Call f) (mapped_again es))

-- ---- `not`

not_fixed : (n : Expr) → Fixed n → negation_of n ≡ expr.Not n → Fixed (expr.Not n)
not_fixed n h is = fixed_at (expr.Not n) _ (expr.outs-Not n) (h.again, is) (normal-Not n ∙ ap negation_of h.again ∙ is)

negated_by : (n : Expr) (x : Expr-F Expr) → out-Expr n ≡ x → negation_of n ≡ negation_of_level n x
unfolding negation_of
negated_by n x is = ap (negation_of_level n) is

-- the level of a fixed form, once more
level_again : (n m : Expr) (x : Expr-F Expr) → out-Expr n ≡ x → normal n ≡ n → normal n ≡ m → out-Expr m ≡ x
level_again n m x is same e = ap out-Expr (sym e ∙ same) ∙ is

below-Compare : (n : Expr) (op : CompareOp) (a : Expr) (b : Expr) → out-Expr n ≡ Expr-F.Compare op a b → normal n ≡ n → (normal a ≡ a) × (normal b ≡ b)
below-Compare n op a b is same =
    let e : Expr-F.Compare op (normal a) (normal b) ≡ Expr-F.Compare op a b =
    sym (expr.outs-Compare op (normal a) (normal b)) ∙ level_again n (expr.Compare op (normal a) (normal b)) (Expr-F.Compare op a b) is same (ap normal (sym (sym (expr.rolls-Compare op a b) ∙ sym (whole_is n (Expr-F.Compare op a b) is))) ∙ normal-Compare op a b) in
    (cc, cc)

below-IsNull : (n : Expr) (g : Bool) (a : Expr) → out-Expr n ≡ Expr-F.IsNull g a → normal n ≡ n → (normal a ≡ a)
below-IsNull n g a is same =
    let e : Expr-F.IsNull g (normal a) ≡ Expr-F.IsNull g a =
    sym (expr.outs-IsNull g (normal a)) ∙ level_again n (expr.IsNull g (normal a)) (Expr-F.IsNull g a) is same (ap normal (sym (sym (expr.rolls-IsNull g a) ∙ sym (whole_is n (Expr-F.IsNull g a) is))) ∙ normal-IsNull g a) in
    cc

below-Ilike : (n : Expr) (g : Bool) (a : Expr) (b : Expr) → out-Expr n ≡ Expr-F.Ilike g a b → normal n ≡ n → (normal a ≡ a) × (normal b ≡ b)
below-Ilike n g a b is same =
    let e : Expr-F.Ilike g (normal a) (normal b) ≡ Expr-F.Ilike g a b =
    sym (expr.outs-Ilike g (normal a) (normal b)) ∙ level_again n (expr.Ilike g (normal a) (normal b)) (Expr-F.Ilike g a b) is same (ap normal (sym (sym (expr.rolls-Ilike g a b) ∙ sym (whole_is n (Expr-F.Ilike g a b) is))) ∙ normal-Ilike g a b) in
    (cc, cc)

below-InList : (n : Expr) (g : Bool) (a : Expr) (vs : List Value) → out-Expr n ≡ Expr-F.InList g a vs → normal n ≡ n → (normal a ≡ a)
below-InList n g a vs is same =
    let e : Expr-F.InList g (normal a) vs ≡ Expr-F.InList g a vs =
    sym (expr.outs-InList g (normal a) vs) ∙ level_again n (expr.InList g (normal a) vs) (Expr-F.InList g a vs) is same (ap normal (sym (sym (expr.rolls-InList g a vs) ∙ sym (whole_is n (Expr-F.InList g a vs) is))) ∙ normal-InList g a vs) in
    cc

below-Between : (n : Expr) (g : Bool) (a : Expr) (low : Expr) (high : Expr) → out-Expr n ≡ Expr-F.Between g a low high → normal n ≡ n → (normal a ≡ a) × (normal low ≡ low) × (normal high ≡ high)
below-Between n g a low high is same =
    let e : Expr-F.Between g (normal a) (normal low) (normal high) ≡ Expr-F.Between g a low high =
    sym (expr.outs-Between g (normal a) (normal low) (normal high)) ∙ level_again n (expr.Between g (normal a) (normal low) (normal high)) (Expr-F.Between g a low high) is same (ap normal (sym (sym (expr.rolls-Between g a low high) ∙ sym (whole_is n (Expr-F.Between g a low high) is))) ∙ normal-Between g a low high) in
    (cc, cc, cc)

below-Distinct : (n : Expr) (g : Bool) (a : Expr) (b : Expr) → out-Expr n ≡ Expr-F.Distinct g a b → normal n ≡ n → (normal a ≡ a) × (normal b ≡ b)
below-Distinct n g a b is same =
    let e : Expr-F.Distinct g (normal a) (normal b) ≡ Expr-F.Distinct g a b =
    sym (expr.outs-Distinct g (normal a) (normal b)) ∙ level_again n (expr.Distinct g (normal a) (normal b)) (Expr-F.Distinct g a b) is same (ap normal (sym (sym (expr.rolls-Distinct g a b) ∙ sym (whole_is n (Expr-F.Distinct g a b) is))) ∙ normal-Distinct g a b) in
    (cc, cc)

below-Exists : (n : Expr) (g : Bool) (o : Origin) (a : Expr) → out-Expr n ≡ Expr-F.Exists g o a → normal n ≡ n → (normal a ≡ a)
below-Exists n g o a is same =
    let e : Expr-F.Exists g o (normal a) ≡ Expr-F.Exists g o a =
    sym (expr.outs-Exists g o (normal a)) ∙ level_again n (expr.Exists g o (normal a)) (Expr-F.Exists g o a) is same (ap normal (sym (sym (expr.rolls-Exists g o a) ∙ sym (whole_is n (Expr-F.Exists g o a) is))) ∙ normal-Exists g o a) in
    cc

-- ---- `like`

lowered_is : (a : Expr) (x : Expr-F Expr) → out-Expr a ≡ x → lower_argument a ≡ lower_argument_at x
unfolding lower_argument
lowered_is a x is = ap lower_argument_at is

lowered_normal_by : (f : Func) (es : List Expr) (x : Expr) → lower_argument_by f es ≡ Some x → lower_argument_by f (map normal es) ≡ Some (normal x)
lowered_normal_by Lower (e ∷ []) x is = ap (option_map normal) is
lowered_normal_by Lower [] x is = absurd (cc)
lowered_normal_by Lower (e ∷ d ∷ es) x is = absurd (cc)
lowered_normal_by f es x is = absurd (cc)

lowered_normal_at : (a : Expr) (l : Expr-F Expr) → out-Expr a ≡ l → (x : Expr) → lower_argument_at l ≡ Some x → lower_argument (normal a) ≡ Some (normal x)
lowered_normal_at a (Expr-F.Call f es) is x e =
    ap lower_argument (ap normal (sym (sym (expr.rolls-Call f es) ∙ sym (whole_is a (Expr-F.Call f es) is))) ∙ normal-Call f es)
    ∙ lowered_is (expr.Call f (map normal es)) _ (expr.outs-Call f (map normal es)) ∙ lowered_normal_by f es x e
lowered_normal_at a level is x e = absurd (cc)

-- the text that a fixed form lowers is fixed
lowered_again : (a x : Expr) → normal a ≡ a → lower_argument a ≡ Some x → normal x ≡ x
lowered_again a x same e =
    let twice : Some (normal x) ≡ Some x = sym (lowered_normal_at a (out-Expr a) refl x (sym (lowered_is a (out-Expr a) refl) ∙ e)) ∙ ap lower_argument same ∙ e in cc

liked_by : (g : Bool) (a b : Expr) (s t : Option Expr) → lower_argument a ≡ s → lower_argument b ≡ t → normal_like g a b ≡ like_by g a b s t
unfolding normal_like
liked_by g a b s t ea eb = rw (ea, eb) refl

like_stays : (g : Bool) (a b : Expr) → normal a ≡ a → normal b ≡ b → normal_like g a b ≡ expr.Like g a b → Fixed (expr.Like g a b)
like_stays g a b ha hb e = fixed_at (expr.Like g a b) _ (expr.outs-Like g a b) tt (normal-Like g a b ∙ rw (ha, hb) e)

fixed_like_by : (g : Bool) (a b : Expr) (s t : Option Expr) → lower_argument a ≡ s → lower_argument b ≡ t → normal a ≡ a → normal b ≡ b → Fixed (like_by g a b s t)
fixed_like_by g a b (Some x) (Some y) es et ha hb = fixed-Ilike g x y (lowered_again a x ha es) (lowered_again b y hb et)
fixed_like_by g a b (Some x) None es et ha hb = like_stays g a b ha hb (liked_by g a b (Some x) None es et)
fixed_like_by g a b None t es et ha hb = like_stays g a b ha hb (liked_by g a b None t es et)

fixed-Like : (g : Bool) (a b : Expr) → normal a ≡ a → normal b ≡ b → Fixed (normal_like g a b)
fixed-Like g a b ha hb = subst Fixed (sym (liked_by g a b (lower_argument a) (lower_argument b) refl refl)) (fixed_like_by g a b (lower_argument a) (lower_argument b) refl refl ha hb)

-- a fixed `like` has fixed operands that are not both lowered
like_below_by : (g : Bool) (a b : Expr) (s t : Option Expr) → lower_argument (normal a) ≡ s → lower_argument (normal b) ≡ t → like_by g (normal a) (normal b) s t ≡ expr.Like g a b → (normal a ≡ a) × (normal b ≡ b) × (normal_like (not g) a b ≡ expr.Like (not g) a b)
like_below_by g a b (Some x) (Some y) es et e =
    let levels : Expr-F.Ilike g x y ≡ Expr-F.Like g a b = sym (expr.outs-Ilike g x y) ∙ ap out-Expr e ∙ expr.outs-Like g a b in absurd (cc)
like_below_by g a b (Some x) None es et e =
    let levels : Expr-F.Like g (normal a) (normal b) ≡ Expr-F.Like g a b = sym (expr.outs-Like g (normal a) (normal b)) ∙ ap out-Expr e ∙ expr.outs-Like g a b in
    let ha : normal a ≡ a = cc in
    let hb : normal b ≡ b = cc in
    (ha, hb, liked_by (not g) a b (Some x) None (ap lower_argument (sym ha) ∙ es) (ap lower_argument (sym hb) ∙ et))
like_below_by g a b None t es et e =
    let levels : Expr-F.Like g (normal a) (normal b) ≡ Expr-F.Like g a b = sym (expr.outs-Like g (normal a) (normal b)) ∙ ap out-Expr e ∙ expr.outs-Like g a b in
    let ha : normal a ≡ a = cc in
    let hb : normal b ≡ b = cc in
    (ha, hb, liked_by (not g) a b None t (ap lower_argument (sym ha) ∙ es) (ap lower_argument (sym hb) ∙ et))

like_negated : (n : Expr) (g : Bool) (a b : Expr) → out-Expr n ≡ Expr-F.Like g a b → normal n ≡ n → Fixed (expr.Like (not g) a b)
like_negated n g a b is same =
    let n_is : expr.Like g a b ≡ n = sym (expr.rolls-Like g a b) ∙ sym (whole_is n (Expr-F.Like g a b) is) in
    let e : like_by g (normal a) (normal b) (lower_argument (normal a)) (lower_argument (normal b)) ≡ expr.Like g a b =
    sym (liked_by g (normal a) (normal b) (lower_argument (normal a)) (lower_argument (normal b)) refl refl) ∙ sym (normal-Like g a b) ∙ ap normal n_is ∙ same ∙ sym n_is in
    let below : (normal a ≡ a) × (normal b ≡ b) × (normal_like (not g) a b ≡ expr.Like (not g) a b) = like_below_by g a b (lower_argument (normal a)) (lower_argument (normal b)) refl refl e in
    like_stays (not g) a b below.0 below.1 below.2

-- a `not` of a `not` of itself would be larger than itself
not_endless : (b : Expr) → b ≡ expr.Not (expr.Not b) → ⊥
not_endless b is = omega (arith, ap size-Expr is, sized-Not b, sized-Not (expr.Not b))

below_not : (a : Expr) (x : Expr-F Expr) → out-Expr a ≡ x → negation_of a ≡ expr.Not a → OverNot x
below_not a (Expr-F.Not b) is e =
    absurd (not_endless b (sym (negated_by a (Expr-F.Not b) is) ∙ e ∙ ap expr.Not (sym (sym (expr.rolls-Not b) ∙ sym (whole_is a (Expr-F.Not b) is)))))
below_not a level is e = tt

negated_fixed_at : (n : Expr) (x : Expr-F Expr) → out-Expr n ≡ x → Fixed n → Fixed (negation_of_level n x)
negated_fixed_at n (Expr-F.Compare op a b) is h = fixed-Compare (opposite op) a b (below-Compare n op a b is h.again).0 (below-Compare n op a b is h.again).1
negated_fixed_at n (Expr-F.IsNull g a) is h = fixed-IsNull (not g) a (below-IsNull n g a is h.again)
negated_fixed_at n (Expr-F.Not a) is h =
    let over : OverNot (Expr-F.Not a) = subst OverNot is h.below in
    record { again = over.0; below = below_not a (out-Expr a) refl over.1 }
negated_fixed_at n (Expr-F.Like g a b) is h = like_negated n g a b is h.again
negated_fixed_at n (Expr-F.Ilike g a b) is h = fixed-Ilike (not g) a b (below-Ilike n g a b is h.again).0 (below-Ilike n g a b is h.again).1
negated_fixed_at n (Expr-F.InList g a vs) is h = fixed-InList (not g) a vs (below-InList n g a vs is h.again)
negated_fixed_at n (Expr-F.Between g a low high) is h = fixed-Between (not g) a low high (below-Between n g a low high is h.again).0 (below-Between n g a low high is h.again).1 (below-Between n g a low high is h.again).2
negated_fixed_at n (Expr-F.Distinct g a b) is h = fixed-Distinct (not g) a b (below-Distinct n g a b is h.again).0 (below-Distinct n g a b is h.again).1
negated_fixed_at n (Expr-F.Exists g o a) is h = fixed-Exists (not g) o a (below-Exists n g o a is h.again)
negated_fixed_at n level is h = not_fixed n h (negated_by n level is)

negated_fixed : (n : Expr) → Fixed n → Fixed (negation_of n)
unfolding negation_of
negated_fixed n h = negated_fixed_at n (out-Expr n) refl h

-- ---- all levels

fixed_level : (y : Expr-F Known) → Fixed (normal (roll-Expr (map-Expr Known Expr (λ e. e.0) y)))
fixed_level (Expr-F.Column s c) = subst Fixed (sym (ap normal (expr.rolls-Column s c) ∙ normal-Column s c)) (fixed-Column s c)
fixed_level (Expr-F.Lit v) = subst Fixed (sym (ap normal (expr.rolls-Lit v) ∙ normal-Lit v)) (fixed-Lit v)
fixed_level (Expr-F.Compare op a b) = subst Fixed (sym (ap normal (expr.rolls-Compare op a.0 b.0) ∙ normal-Compare op a.0 b.0)) (fixed-Compare op (normal a.0) (normal b.0) a.1.again b.1.again)
fixed_level (Expr-F.IsNull g a) = subst Fixed (sym (ap normal (expr.rolls-IsNull g a.0) ∙ normal-IsNull g a.0)) (fixed-IsNull g (normal a.0) a.1.again)
fixed_level (Expr-F.And es) = subst Fixed (sym (ap normal (expr.rolls-And (map (λ (e : Known). e.0) es)) ∙ normal-And (map (λ (e : Known). e.0) es))) (fixed-And es)
fixed_level (Expr-F.Or es) = subst Fixed (sym (ap normal (expr.rolls-Or (map (λ (e : Known). e.0) es)) ∙ normal-Or (map (λ (e : Known). e.0) es))) (fixed-Or es)
fixed_level (Expr-F.Not a) = subst Fixed (sym (ap normal (expr.rolls-Not a.0) ∙ normal-Not a.0)) (negated_fixed (normal a.0) a.1)
fixed_level (Expr-F.Arith op a b) = subst Fixed (sym (ap normal (expr.rolls-Arith op a.0 b.0) ∙ normal-Arith op a.0 b.0)) (fixed-Arith op (normal a.0) (normal b.0) a.1.again b.1.again)
fixed_level (Expr-F.Neg a) = subst Fixed (sym (ap normal (expr.rolls-Neg a.0) ∙ normal-Neg a.0)) (fixed-Neg (normal a.0) a.1.again)
fixed_level (Expr-F.Concat a b) = subst Fixed (sym (ap normal (expr.rolls-Concat a.0 b.0) ∙ normal-Concat a.0 b.0)) (fixed-Concat (normal a.0) (normal b.0) a.1.again b.1.again)
fixed_level (Expr-F.Like g a b) = subst Fixed (sym (ap normal (expr.rolls-Like g a.0 b.0) ∙ normal-Like g a.0 b.0)) (fixed-Like g (normal a.0) (normal b.0) a.1.again b.1.again)
fixed_level (Expr-F.Ilike g a b) = subst Fixed (sym (ap normal (expr.rolls-Ilike g a.0 b.0) ∙ normal-Ilike g a.0 b.0)) (fixed-Ilike g (normal a.0) (normal b.0) a.1.again b.1.again)
fixed_level (Expr-F.InList g a vs) = subst Fixed (sym (ap normal (expr.rolls-InList g a.0 vs) ∙ normal-InList g a.0 vs)) (fixed-InList g (normal a.0) vs a.1.again)
fixed_level (Expr-F.Between g a low high) = subst Fixed (sym (ap normal (expr.rolls-Between g a.0 low.0 high.0) ∙ normal-Between g a.0 low.0 high.0)) (fixed-Between g (normal a.0) (normal low.0) (normal high.0) a.1.again low.1.again high.1.again)
fixed_level (Expr-F.Distinct g a b) = subst Fixed (sym (ap normal (expr.rolls-Distinct g a.0 b.0) ∙ normal-Distinct g a.0 b.0)) (fixed-Distinct g (normal a.0) (normal b.0) a.1.again b.1.again)
fixed_level (Expr-F.Call f es) = subst Fixed (sym (ap normal (expr.rolls-Call f (map (λ (e : Known). e.0) es)) ∙ normal-Call f (map (λ (e : Known). e.0) es))) (fixed-Call f es)
fixed_level Expr-F.CountAll = subst Fixed (sym (ap normal expr.rolls-CountAll ∙ normal-CountAll)) fixed-CountAll
fixed_level (Expr-F.Exists g o a) = subst Fixed (sym (ap normal (expr.rolls-Exists g o a.0) ∙ normal-Exists g o a.0)) (fixed-Exists g o (normal a.0) a.1.again)

fixed : (e : Expr) → Fixed (normal e)
fixed = ind-Expr (λ e. Fixed (normal e)) (λ x y is. subst (λ z. Fixed (normal (roll-Expr z))) is (fixed_level y))

pub normal_again : (e : Expr) → normal (normal e) ≡ normal e
normal_again e = (fixed e).again

-- in a normal form no `not` stands over a `not`
pub not_below : (e b c : Expr) → out-Expr (normal e) ≡ Expr-F.Not b → out-Expr b ≡ Expr-F.Not c → ⊥
not_below e b c is below =
    let over : OverNot (Expr-F.Not b) = subst OverNot is (fixed e).below in
    not_endless c (sym (negated_by b (Expr-F.Not c) below) ∙ over.1 ∙ ap expr.Not (sym (sym (expr.rolls-Not c) ∙ sym (whole_is b (Expr-F.Not c) below))))
