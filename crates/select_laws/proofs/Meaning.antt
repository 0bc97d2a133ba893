-- The normal form means what the expression means.
use Rattle.std.proofs.Common.{◌≡◌, ℕ, length, Bool, true, false, not, ◌||◌, cond, List, [], ◌∷◌, ◌++◌, map, Option, Some, None, Ok, Err, refl, sym, ap, subst, ◌∙◌}
use Rattle.std.specs.List.{AllByRecursion}
use Rattle.std.specs.Result.{is_ok}
use Rattle.base_core.specs.declared.value.Value.TheVariants as value
use Rattle.base_core.specs.declared.value.Kind.TheVariants as kinds
use Rattle.base_core.specs.declared.ids.TableId.{TableId}
use Rattle.base_core.specs.declared.value.Value.{Value}
use Rattle.base_core.specs.declared.value.ArithOp.{ArithOp}
use Rattle.expr_types.specs.declared.expr.CompareOp.{CompareOp}
use Rattle.expr_types.specs.declared.expr.Func.{Func}
use Rattle.expr_types.specs.declared.expr.Expr.{Expr, out-Expr, roll-Expr}
use Rattle.expr_types.specs.declared.expr.Expr.TheOpen.{Expr-F}
use Rattle.expr_types.specs.declared.expr.Expr.TheVariants as expr
use Rattle.expr_types.specs.declared.expr.Expr.TheFolds.{ind-Expr, map-Expr}
use Rattle.expr_types.specs.declared.expr.Func.TheVariants.{Lower}
use Rattle.expr_types.specs.Level.{is_aggregate_function}
use Rattle.expr_types.specs.Normal as form
use Rattle.expr_types.specs.Normal.{normal, negation_of, negation_of_level, normal_like, like_by, joined_parts, and_parts, or_parts}
use Rattle.expr_normal.proofs.Steps.{normal-Column, normal-Lit, normal-Compare, normal-IsNull, normal-And, normal-Or, normal-Not, normal-Arith, normal-Neg, normal-Concat, normal-Like, normal-Ilike, normal-InList, normal-Between, normal-Distinct, normal-Call, normal-CountAll, normal-Exists}
use Rattle.expr_normal.proofs.Fixed.{not_below}
use Rattle.schema_core.specs.Catalog.{Catalog}
use Rattle.sql_semantics.specs.Kinds.{Scope, expression_kind}
use Rattle.sql_semantics.specs.Plain.{fits}
use Rattle.sql_semantics.specs.Checked.{Checked, ◌>>=◌}
use Rattle.sql_semantics.specs.Truth.{truth_of, truth_or_opposite, passes, all3, any3}
use Rattle.sql_semantics.specs.Eval.{Place, Meaning, Row, meaning_of, meaning, truth, all_from, along_from, over, group_values, known_values, without_group, aggregate_value, function_value, call_meaning, is_like, lower_case, some_from, inside, rows_in}
use Rattle.select_laws.specs.Apart.{aggregates_apart, group_apart}
use Rattle.select_laws.specs.Places.{FitsTable, FitsPlace, FitsGroup, FitsNoRows}
use Rattle.select_laws.proofs.Apart.{Free, aggregate_free, apart_alone, apart_grouped}
use Rattle.sql_semantics.proofs.Equations.{evaluated-Compare, evaluated-IsNull, evaluated-And, evaluated-Or, evaluated-Not, evaluated-Arith, evaluated-Neg, evaluated-Concat, evaluated-Like, evaluated-Ilike, evaluated-InList, evaluated-Between, evaluated-Distinct, evaluated-Call, evaluated-Exists, judged-Not}
use Rattle.select_laws.proofs.Forms.{liked_is, lowered_whole, negated_is}
use Rattle.select_laws.proofs.Caseless.{like_low}
use Rattle.select_laws.proofs.Inside.{Fits, member, alone, in_group, in_no_rows, enter}
use Rattle.select_laws.proofs.Lists.{bind_same, bind_assoc, and_same, or_same}
use Rattle.select_laws.proofs.Negations.{Truthful, denied, denied_at}
use Rattle.select_laws.proofs.Truths.{truthful}
use Rattle.sql_semantics.proofs.Typed.{all_of_each, has_kind}
use Rattle.select_laws.proofs.Typed.{Good, good-Compare, good-IsNull, good-And, good-Or, good-Not, good-Arith, good-Neg, good-Concat, good-Like, good-Ilike, good-InList, good-Between, good-Distinct, good-Call, good-Exists, good-Operands}

-- ---- `like` of two lowered texts

like_of_lowered : (v w : Value) → is_like v w ≡ is_like (lower_case v) (lower_case w)
like_of_lowered (value.Text t) (value.Text u) = ap Some (sym (like_low t u))
like_of_lowered v w = refl

abbrev couple : Value → Value → Value × Value
couple x y = (x, y)

abbrev both : Checked Value → Checked Value → Checked (Value × Value)
both r s = r >>= λ x. s >>= λ y. Ok (couple x y)

lowered_pair : (g : Bool) (r s : Checked Value) → (both r s >>= λ v. truth (truth_or_opposite g (is_like v.0 v.1)))
    ≡ (both (r >>= λ x. Ok (lower_case x)) (s >>= λ y. Ok (lower_case y)) >>= λ v. truth (truth_or_opposite g (is_like v.0 v.1)))
lowered_pair g (Ok v) (Ok w) = ap (λ t. truth (truth_or_opposite g t)) (like_of_lowered v w)
lowered_pair g (Ok v) (Err f) = refl
lowered_pair g (Err e) s = refl

lowered_answer : (x : Expr) (p : Place) → meaning_of (expr.Call Lower (x ∷ [])) p ≡ (meaning_of x p >>= λ v. Ok (lower_case v))
lowered_answer x p = ap (λ m. m p) (evaluated-Call Lower (x ∷ [])) ∙ bind_assoc (meaning_of x p) (λ v. Ok (v ∷ [])) (λ vs. Ok (function_value Lower vs))

liked_by_same : (g : Bool) (a b : Expr) (s t : Option Expr) → form.lower_argument a ≡ s → form.lower_argument b ≡ t → (p : Place) → meaning_of (like_by g a b s t) p ≡ meaning_of (expr.Like g a b) p
liked_by_same g a b (Some x) (Some y) es et p =
    ap (λ m. m p) (evaluated-Ilike g x y) ∙ lowered_pair g (meaning_of x p) (meaning_of y p)
    ∙ ap (λ (r : Checked Value). both r (meaning_of y p >>= λ w. Ok (lower_case w)) >>= λ v. truth (truth_or_opposite g (is_like v.0 v.1))) (sym (ap (λ m. meaning_of m p) (lowered_whole a x es) ∙ lowered_answer x p))
    ∙ ap (λ (r : Checked Value). both (meaning_of a p) r >>= λ v. truth (truth_or_opposite g (is_like v.0 v.1))) (sym (ap (λ m. meaning_of m p) (lowered_whole b y et) ∙ lowered_answer y p))
    ∙ sym (ap (λ m. m p) (evaluated-Like g a b))
liked_by_same g a b (Some x) None es et p = refl
liked_by_same g a b None t es et p = refl

liked_same : (g : Bool) (a b : Expr) (p : Place) → meaning_of (normal_like g a b) p ≡ meaning_of (expr.Like g a b) p
liked_same g a b p = ap (λ n. meaning_of n p) (liked_is g a b) ∙ liked_by_same g a b (form.lower_argument a) (form.lower_argument b) refl refl p

like_by_no_not : (g : Bool) (a b : Expr) (s t : Option Expr) (c : Expr) → out-Expr (like_by g a b s t) ≡ Expr-F.Not c → ⊥
like_by_no_not g a b (Some x) (Some y) c is = let e : Expr-F.Ilike g x y ≡ Expr-F.Not c = sym (expr.outs-Ilike g x y) ∙ is in absurd (cc)
like_by_no_not g a b (Some x) None c is = let e : Expr-F.Like g a b ≡ Expr-F.Not c = sym (expr.outs-Like g a b) ∙ is in absurd (cc)
like_by_no_not g a b None t c is = let e : Expr-F.Like g a b ≡ Expr-F.Not c = sym (expr.outs-Like g a b) ∙ is in absurd (cc)

-- ---- negations

under_not : (n : Expr) (x : Expr-F Expr) → out-Expr n ≡ x → ((b c : Expr) → x ≡ Expr-F.Not b → out-Expr b ≡ Expr-F.Not c → ⊥) → (b : Expr) → out-Expr (negation_of_level n x) ≡ Expr-F.Not b → n ≡ b
under_not n (Expr-F.Compare op a b') is h b e = let l : Expr-F.Compare (form.opposite op) a b' ≡ Expr-F.Not b = sym (expr.outs-Compare (form.opposite op) a b') ∙ e in absurd (cc)
under_not n (Expr-F.IsNull g a) is h b e = let l : Expr-F.IsNull (not g) a ≡ Expr-F.Not b = sym (expr.outs-IsNull (not g) a) ∙ e in absurd (cc)
under_not n (Expr-F.Like g a b') is h b e = let l : Expr-F.Like (not g) a b' ≡ Expr-F.Not b = sym (expr.outs-Like (not g) a b') ∙ e in absurd (cc)
under_not n (Expr-F.Ilike g a b') is h b e = let l : Expr-F.Ilike (not g) a b' ≡ Expr-F.Not b = sym (expr.outs-Ilike (not g) a b') ∙ e in absurd (cc)
under_not n (Expr-F.InList g a vs) is h b e = let l : Expr-F.InList (not g) a vs ≡ Expr-F.Not b = sym (expr.outs-InList (not g) a vs) ∙ e in absurd (cc)
under_not n (Expr-F.Between g a low high) is h b e = let l : Expr-F.Between (not g) a low high ≡ Expr-F.Not b = sym (expr.outs-Between (not g) a low high) ∙ e in absurd (cc)
under_not n (Expr-F.Distinct g a b') is h b e = let l : Expr-F.Distinct (not g) a b' ≡ Expr-F.Not b = sym (expr.outs-Distinct (not g) a b') ∙ e in absurd (cc)
under_not n (Expr-F.Exists g o a) is h b e = let l : Expr-F.Exists (not g) o a ≡ Expr-F.Not b = sym (expr.outs-Exists (not g) o a) ∙ e in absurd (cc)
under_not n (Expr-F.Not c) is h b e = absurd (h c b refl e)
under_not n level is h b e = let l : Expr-F.Not n ≡ Expr-F.Not b = sym (expr.outs-Not n) ∙ e in cc

-- ---- the law

record Same (e : Expr) (p : Place) : Type 0 where
  value : meaning_of (normal e) p ≡ meaning_of e p
  under : (b : Expr) → out-Expr (normal e) ≡ Expr-F.Not b → (v : Value) → meaning_of b p ≡ Ok v → Truthful v

abbrev Claim : Expr → Type 0
Claim e = (schema : Catalog) (scope : Scope) (outer : ℕ) (free : Bool) (p : Place) → Fits schema scope outer free p → Good schema scope p.group outer free e → Same e p

abbrev Known : Type 0
Known = (e : Expr) × Claim e

abbrev plain : List Known → List Expr
plain = map (λ k. k.0)

all_from_same : (schema : Catalog) (scope : Scope) (outer : ℕ) (free : Bool) (p : Place) → Fits schema scope outer free p → (es : List Known) → AllByRecursion (Good schema scope p.group outer free) (plain es) → (done : List Value) →
    all_from p done (map meaning_of (map normal (plain es))) ≡ all_from p done (map meaning_of (plain es))
all_from_same schema scope outer free p h [] g done = refl
all_from_same schema scope outer free p h (k ∷ es) g done =
    ap (λ (r : Checked Value). r >>= λ v. all_from p (done ++ v ∷ []) (map meaning_of (map normal (plain es)))) (k.1 schema scope outer free p h g.0).value
    ∙ bind_same (meaning_of k.0 p) _ _ (λ v. all_from_same schema scope outer free p h es g.1 (done ++ v ∷ []))

-- ---- aggregates

along_same : (schema : Catalog) (scope : Scope) (p : Place) (k : Known) → Good schema scope None 0 true k.0 → (rows : List Row) → AllByRecursion (λ row. FitsPlace schema scope (member p row)) rows → (done : List Value) →
    along_from (without_group p) (meaning_of (normal k.0)) done rows ≡ along_from (without_group p) (meaning_of k.0) done rows
along_same schema scope p k g [] each done = refl
along_same schema scope p k g (row ∷ rows) each done =
    ap (λ (r : Checked Value). r >>= λ v. along_from (without_group p) (meaning_of (normal k.0)) (done ++ v ∷ []) rows) (k.1 schema scope 0 true (member p row) (alone schema scope true (member p row) each.0) g).value
    ∙ bind_same (meaning_of k.0 (member p row)) _ _ (λ v. along_same schema scope p k g rows each.1 (done ++ v ∷ []))

over_same : (schema : Catalog) (scope : Scope) (outer : ℕ) (free : Bool) (p : Place) → Fits schema scope outer free p → (k : Known) → Good schema scope None 0 true k.0 → (group : Option (List Row)) → p.group ≡ group → Free group free →
    over group p (meaning_of (normal k.0)) ≡ over group p (meaning_of k.0)
over_same schema scope outer free p h k g None is may = refl
over_same schema scope outer free p h k g (Some rows) is may =
    ap (λ (r : Checked (List Value)). r >>= λ vs. Ok (Some (known_values vs))) (along_same schema scope p k g rows (h.each rows may is) [])

gathered_same : (schema : Catalog) (scope : Scope) (outer : ℕ) (free : Bool) (p : Place) → Fits schema scope outer free p → Free p.group free → (es : List Known) → AllByRecursion (Good schema scope None 0 true) (plain es) →
    group_values (map meaning_of (map normal (plain es))) p ≡ group_values (map meaning_of (plain es)) p
gathered_same schema scope outer free p h may [] g = refl
gathered_same schema scope outer free p h may (k ∷ es) g = over_same schema scope outer free p h k g.0 p.group refl may

cond_same : {A : Type 0} (b : Bool) (x y u v : A) → (b ≡ true → x ≡ u) → (b ≡ false → y ≡ v) → cond b x y ≡ cond b u v
cond_same true x y u v e f = e refl
cond_same false x y u v e f = f refl

called_same : (schema : Catalog) (scope : Scope) (outer : ℕ) (free : Bool) (p : Place) → Fits schema scope outer free p → (f : Func) (es : List Known) → Good schema scope p.group outer free (expr.Call f (plain es)) →
    call_meaning f (map meaning_of (map normal (plain es))) p ≡ call_meaning f (map meaning_of (plain es)) p
called_same schema scope outer free p h f es whole =
    cond_same (is_aggregate_function f) _ _ _ _
    (λ is. ap (λ (r : Checked (Option (List Value))). r >>= aggregate_value f)
    (gathered_same schema scope outer free p h (aggregate_free p.group outer free f (plain es) is whole.apart) es (good-Operands schema scope p.group outer free f (plain es) whole)))
    (λ off. ap (λ (r : Checked (List Value)). r >>= λ vs. Ok (function_value f vs)) (all_from_same schema scope outer free p h es (good-Call schema scope p.group outer free f (plain es) off whole) []))

-- ---- the law, level by level

some_same : (schema : Catalog) (scope : Scope) (outer : ℕ) (free : Bool) (p : Place) (t : TableId) (k : Known) → Fits schema scope outer free p → Good schema (scope ++ t ∷ []) p.group outer false k.0 →
    (rows : List Row) → AllByRecursion (FitsTable schema t) rows → (found : Bool) → some_from p (meaning_of (normal k.0)) found rows ≡ some_from p (meaning_of k.0) found rows
some_same schema scope outer free p t k h g [] all found = refl
some_same schema scope outer free p t k h g (r ∷ rows) all found =
    ap (λ (a : Checked Value). a >>= λ v. some_from p (meaning_of (normal k.0)) (found || passes v) rows) (k.1 schema (scope ++ t ∷ []) outer false (inside p r) (enter schema scope outer free p t r h all.0) g).value
    ∙ bind_same (meaning_of k.0 (inside p r)) _ _ (λ v. some_same schema scope outer free p t k h g rows all.1 (found || passes v))

means-Compare : (op : CompareOp) (a a' : Meaning) (b b' : Meaning) (p : Place) → a p ≡ a' p → b p ≡ b' p → meaning (Expr-F.Compare op a b) p ≡ meaning (Expr-F.Compare op a' b') p
means-Compare op a a' b b' p ha hb = rw (ha, hb) refl

means-IsNull : (g : Bool) (a a' : Meaning) (p : Place) → a p ≡ a' p → meaning (Expr-F.IsNull g a) p ≡ meaning (Expr-F.IsNull g a') p
means-IsNull g a a' p ha = rw ha refl

means-Arith : (op : ArithOp) (a a' : Meaning) (b b' : Meaning) (p : Place) → a p ≡ a' p → b p ≡ b' p → meaning (Expr-F.Arith op a b) p ≡ meaning (Expr-F.Arith op a' b') p
means-Arith op a a' b b' p ha hb = rw (ha, hb) refl

means-Neg : (a a' : Meaning) (p : Place) → a p ≡ a' p → meaning (Expr-F.Neg a) p ≡ meaning (Expr-F.Neg a') p
means-Neg a a' p ha = rw ha refl

means-Concat : (a a' : Meaning) (b b' : Meaning) (p : Place) → a p ≡ a' p → b p ≡ b' p → meaning (Expr-F.Concat a b) p ≡ meaning (Expr-F.Concat a' b') p
means-Concat a a' b b' p ha hb = rw (ha, hb) refl

means-Like : (g : Bool) (a a' : Meaning) (b b' : Meaning) (p : Place) → a p ≡ a' p → b p ≡ b' p → meaning (Expr-F.Like g a b) p ≡ meaning (Expr-F.Like g a' b') p
means-Like g a a' b b' p ha hb = rw (ha, hb) refl

means-Ilike : (g : Bool) (a a' : Meaning) (b b' : Meaning) (p : Place) → a p ≡ a' p → b p ≡ b' p → meaning (Expr-F.Ilike g a b) p ≡ meaning (Expr-F.Ilike g a' b') p
means-Ilike g a a' b b' p ha hb = rw (ha, hb) refl

means-InList : (g : Bool) (vs : List Value) (a a' : Meaning) (p : Place) → a p ≡ a' p → meaning (Expr-F.InList g a vs) p ≡ meaning (Expr-F.InList g a' vs) p
means-InList g vs a a' p ha = rw ha refl

means-Between : (g : Bool) (a a' : Meaning) (low low' : Meaning) (high high' : Meaning) (p : Place) → a p ≡ a' p → low p ≡ low' p → high p ≡ high' p → meaning (Expr-F.Between g a low high) p ≡ meaning (Expr-F.Between g a' low' high') p
means-Between g a a' low low' high high' p ha hlow hhigh = rw (ha, hlow, hhigh) refl

means-Distinct : (g : Bool) (a a' : Meaning) (b b' : Meaning) (p : Place) → a p ≡ a' p → b p ≡ b' p → meaning (Expr-F.Distinct g a b) p ≡ meaning (Expr-F.Distinct g a' b') p
means-Distinct g a a' b b' p ha hb = rw (ha, hb) refl

level : (y : Expr-F Known) → Claim (roll-Expr (map-Expr Known Expr (λ e. e.0) y))
level (Expr-F.Column s c) = subst Claim (sym (expr.rolls-Column s c)) (λ schema scope outer free p h g. record { value = ap (λ z. meaning_of z p) (normal-Column s c); under = λ nb is v' e. let l : (Expr-F.Column s c) ≡ Expr-F.Not nb = sym (expr.outs-Column s c) ∙ ap out-Expr (sym (normal-Column s c)) ∙ is in absurd (cc) })
level (Expr-F.Lit v) = subst Claim (sym (expr.rolls-Lit v)) (λ schema scope outer free p h g. record { value = ap (λ z. meaning_of z p) (normal-Lit v); under = λ nb is v' e. let l : (Expr-F.Lit v) ≡ Expr-F.Not nb = sym (expr.outs-Lit v) ∙ ap out-Expr (sym (normal-Lit v)) ∙ is in absurd (cc) })
level (Expr-F.Compare op a b) = subst Claim (sym (expr.rolls-Compare op a.0 b.0)) (λ schema scope outer free p h g. let ops = good-Compare schema scope p.group outer free op a.0 b.0 g in record { value = ap (λ z. meaning_of z p) (normal-Compare op a.0 b.0) ∙ ap (λ m. m p) (evaluated-Compare op (normal a.0) (normal b.0)) ∙ means-Compare op (meaning_of (normal a.0)) (meaning_of a.0) (meaning_of (normal b.0)) (meaning_of b.0) p (a.1 schema scope outer free p h ops.0).value (b.1 schema scope outer free p h ops.1.0).value ∙ sym (ap (λ m. m p) (evaluated-Compare op a.0 b.0)); under = λ nb is v' e. let l : (Expr-F.Compare op (normal a.0) (normal b.0)) ≡ Expr-F.Not nb = sym (expr.outs-Compare op (normal a.0) (normal b.0)) ∙ ap out-Expr (sym (normal-Compare op a.0 b.0)) ∙ is in absurd (cc) })
level (Expr-F.IsNull g' a) = subst Claim (sym (expr.rolls-IsNull g' a.0)) (λ schema scope outer free p h g. let ops = good-IsNull schema scope p.group outer free g' a.0 g in record { value = ap (λ z. meaning_of z p) (normal-IsNull g' a.0) ∙ ap (λ m. m p) (evaluated-IsNull g' (normal a.0)) ∙ means-IsNull g' (meaning_of (normal a.0)) (meaning_of a.0) p (a.1 schema scope outer free p h ops.0).value ∙ sym (ap (λ m. m p) (evaluated-IsNull g' a.0)); under = λ nb is v' e. let l : (Expr-F.IsNull g' (normal a.0)) ≡ Expr-F.Not nb = sym (expr.outs-IsNull g' (normal a.0)) ∙ ap out-Expr (sym (normal-IsNull g' a.0)) ∙ is in absurd (cc) })
level (Expr-F.And es) = subst Claim (sym (expr.rolls-And (map (λ (e : Known). e.0) es))) (λ schema scope outer free p h g. let ops = good-And schema scope p.group outer free (plain es) g in record { value = ap (λ z. meaning_of z p) (normal-And (plain es)) ∙ and_same p (map normal (plain es)) ∙ ap (λ m. m p) (evaluated-And (map normal (plain es))) ∙ ap (λ r. r >>= λ vs. truth (all3 (map truth_of vs))) (all_from_same schema scope outer free p h es ops []) ∙ sym (ap (λ m. m p) (evaluated-And (plain es))); under = λ nb is v' e. let l : Expr-F.And (joined_parts and_parts (map normal (plain es))) ≡ Expr-F.Not nb = sym (expr.outs-And (joined_parts and_parts (map normal (plain es)))) ∙ ap out-Expr (sym (normal-And (plain es))) ∙ is in absurd (cc) })
level (Expr-F.Or es) = subst Claim (sym (expr.rolls-Or (map (λ (e : Known). e.0) es))) (λ schema scope outer free p h g. let ops = good-Or schema scope p.group outer free (plain es) g in record { value = ap (λ z. meaning_of z p) (normal-Or (plain es)) ∙ or_same p (map normal (plain es)) ∙ ap (λ m. m p) (evaluated-Or (map normal (plain es))) ∙ ap (λ r. r >>= λ vs. truth (any3 (map truth_of vs))) (all_from_same schema scope outer free p h es ops []) ∙ sym (ap (λ m. m p) (evaluated-Or (plain es))); under = λ nb is v' e. let l : Expr-F.Or (joined_parts or_parts (map normal (plain es))) ≡ Expr-F.Not nb = sym (expr.outs-Or (joined_parts or_parts (map normal (plain es)))) ∙ ap out-Expr (sym (normal-Or (plain es))) ∙ is in absurd (cc) })
level (Expr-F.Not a) = subst Claim (sym (expr.rolls-Not a.0)) (λ schema scope outer free p h g. let ops = good-Not schema scope p.group outer free a.0 g in let same = a.1 schema scope outer free p h ops.0 in let typed = (all_of_each kinds.Boolean g.kind (expression_kind schema a.0 scope ∷ []) (sym (judged-Not schema scope a.0) ∙ g.typed)).1.0 in record { value = ap (λ z. meaning_of z p) (normal-Not a.0) ∙ ap (λ z. meaning_of z p) (negated_is (normal a.0)) ∙ denied_at (normal a.0) (out-Expr (normal a.0)) refl p same.under ∙ ap denied same.value ∙ sym (ap (λ m. m p) (evaluated-Not a.0)); under = λ nb is v' e. let n_is = under_not (normal a.0) (out-Expr (normal a.0)) refl (λ b d one two. not_below a.0 b d one two) nb (ap out-Expr (sym (normal-Not a.0 ∙ negated_is (normal a.0))) ∙ is) in truthful a.0 schema scope outer free p h ops.0.fitting ops.0.apart typed v' (sym same.value ∙ ap (λ z. meaning_of z p) n_is ∙ e) })
level (Expr-F.Arith op a b) = subst Claim (sym (expr.rolls-Arith op a.0 b.0)) (λ schema scope outer free p h g. let ops = good-Arith schema scope p.group outer free op a.0 b.0 g in record { value = ap (λ z. meaning_of z p) (normal-Arith op a.0 b.0) ∙ ap (λ m. m p) (evaluated-Arith op (normal a.0) (normal b.0)) ∙ means-Arith op (meaning_of (normal a.0)) (meaning_of a.0) (meaning_of (normal b.0)) (meaning_of b.0) p (a.1 schema scope outer free p h ops.0).value (b.1 schema scope outer free p h ops.1.0).value ∙ sym (ap (λ m. m p) (evaluated-Arith op a.0 b.0)); under = λ nb is v' e. let l : (Expr-F.Arith op (normal a.0) (normal b.0)) ≡ Expr-F.Not nb = sym (expr.outs-Arith op (normal a.0) (normal b.0)) ∙ ap out-Expr (sym (normal-Arith op a.0 b.0)) ∙ is in absurd (cc) })
level (Expr-F.Neg a) = subst Claim (sym (expr.rolls-Neg a.0)) (λ schema scope outer free p h g. let ops = good-Neg schema scope p.group outer free a.0 g in record { value = ap (λ z. meaning_of z p) (normal-Neg a.0) ∙ ap (λ m. m p) (evaluated-Neg (normal a.0)) ∙ means-Neg (meaning_of (normal a.0)) (meaning_of a.0) p (a.1 schema scope outer free p h ops.0).value ∙ sym (ap (λ m. m p) (evaluated-Neg a.0)); under = λ nb is v' e. let l : (Expr-F.Neg (normal a.0)) ≡ Expr-F.Not nb = sym (expr.outs-Neg (normal a.0)) ∙ ap out-Expr (sym (normal-Neg a.0)) ∙ is in absurd (cc) })
level (Expr-F.Concat a b) = subst Claim (sym (expr.rolls-Concat a.0 b.0)) (λ schema scope outer free p h g. let ops = good-Concat schema scope p.group outer free a.0 b.0 g in record { value = ap (λ z. meaning_of z p) (normal-Concat a.0 b.0) ∙ ap (λ m. m p) (evaluated-Concat (normal a.0) (normal b.0)) ∙ means-Concat (meaning_of (normal a.0)) (meaning_of a.0) (meaning_of (normal b.0)) (meaning_of b.0) p (a.1 schema scope outer free p h ops.0).value (b.1 schema scope outer free p h ops.1.0).value ∙ sym (ap (λ m. m p) (evaluated-Concat a.0 b.0)); under = λ nb is v' e. let l : (Expr-F.Concat (normal a.0) (normal b.0)) ≡ Expr-F.Not nb = sym (expr.outs-Concat (normal a.0) (normal b.0)) ∙ ap out-Expr (sym (normal-Concat a.0 b.0)) ∙ is in absurd (cc) })
level (Expr-F.Like g' a b) = subst Claim (sym (expr.rolls-Like g' a.0 b.0)) (λ schema scope outer free p h g. let ops = good-Like schema scope p.group outer free g' a.0 b.0 g in record { value = ap (λ z. meaning_of z p) (normal-Like g' a.0 b.0) ∙ liked_same g' (normal a.0) (normal b.0) p ∙ ap (λ m. m p) (evaluated-Like g' (normal a.0) (normal b.0)) ∙ means-Like g' (meaning_of (normal a.0)) (meaning_of a.0) (meaning_of (normal b.0)) (meaning_of b.0) p (a.1 schema scope outer free p h ops.0).value (b.1 schema scope outer free p h ops.1.0).value ∙ sym (ap (λ m. m p) (evaluated-Like g' a.0 b.0)); under = λ nb is v' e. absurd (like_by_no_not g' (normal a.0) (normal b.0) (form.lower_argument (normal a.0)) (form.lower_argument (normal b.0)) nb (ap out-Expr (sym (normal-Like g' a.0 b.0 ∙ liked_is g' (normal a.0) (normal b.0))) ∙ is)) })
level (Expr-F.Ilike g' a b) = subst Claim (sym (expr.rolls-Ilike g' a.0 b.0)) (λ schema scope outer free p h g. let ops = good-Ilike schema scope p.group outer free g' a.0 b.0 g in record { value = ap (λ z. meaning_of z p) (normal-Ilike g' a.0 b.0) ∙ ap (λ m. m p) (evaluated-Ilike g' (normal a.0) (normal b.0)) ∙ means-Ilike g' (meaning_of (normal a.0)) (meaning_of a.0) (meaning_of (normal b.0)) (meaning_of b.0) p (a.1 schema scope outer free p h ops.0).value (b.1 schema scope outer free p h ops.1.0).value ∙ sym (ap (λ m. m p) (evaluated-Ilike g' a.0 b.0)); under = λ nb is v' e. let l : (Expr-F.Ilike g' (normal a.0) (normal b.0)) ≡ Expr-F.Not nb = sym (expr.outs-Ilike g' (normal a.0) (normal b.0)) ∙ ap out-Expr (sym (normal-Ilike g' a.0 b.0)) ∙ is in absurd (cc) })
level (Expr-F.InList g' a vs) = subst Claim (sym (expr.rolls-InList g' a.0 vs)) (λ schema scope outer free p h g. let ops = good-InList schema scope p.group outer free g' a.0 vs g in record { value = ap (λ z. meaning_of z p) (normal-InList g' a.0 vs) ∙ ap (λ m. m p) (evaluated-InList g' (normal a.0) vs) ∙ means-InList g' vs (meaning_of (normal a.0)) (meaning_of a.0) p (a.1 schema scope outer free p h ops.0).value ∙ sym (ap (λ m. m p) (evaluated-InList g' a.0 vs)); under = λ nb is v' e. let l : (Expr-F.InList g' (normal a.0) vs) ≡ Expr-F.Not nb = sym (expr.outs-InList g' (normal a.0) vs) ∙ ap out-Expr (sym (normal-InList g' a.0 vs)) ∙ is in absurd (cc) })
level (Expr-F.Between g' a low high) = subst Claim (sym (expr.rolls-Between g' a.0 low.0 high.0)) (λ schema scope outer free p h g. let ops = good-Between schema scope p.group outer free g' a.0 low.0 high.0 g in record { value = ap (λ z. meaning_of z p) (normal-Between g' a.0 low.0 high.0) ∙ ap (λ m. m p) (evaluated-Between g' (normal a.0) (normal low.0) (normal high.0)) ∙ means-Between g' (meaning_of (normal a.0)) (meaning_of a.0) (meaning_of (normal low.0)) (meaning_of low.0) (meaning_of (normal high.0)) (meaning_of high.0) p (a.1 schema scope outer free p h ops.0).value (low.1 schema scope outer free p h ops.1.0).value (high.1 schema scope outer free p h ops.1.1.0).value ∙ sym (ap (λ m. m p) (evaluated-Between g' a.0 low.0 high.0)); under = λ nb is v' e. let l : (Expr-F.Between g' (normal a.0) (normal low.0) (normal high.0)) ≡ Expr-F.Not nb = sym (expr.outs-Between g' (normal a.0) (normal low.0) (normal high.0)) ∙ ap out-Expr (sym (normal-Between g' a.0 low.0 high.0)) ∙ is in absurd (cc) })
level (Expr-F.Distinct g' a b) = subst Claim (sym (expr.rolls-Distinct g' a.0 b.0)) (λ schema scope outer free p h g. let ops = good-Distinct schema scope p.group outer free g' a.0 b.0 g in record { value = ap (λ z. meaning_of z p) (normal-Distinct g' a.0 b.0) ∙ ap (λ m. m p) (evaluated-Distinct g' (normal a.0) (normal b.0)) ∙ means-Distinct g' (meaning_of (normal a.0)) (meaning_of a.0) (meaning_of (normal b.0)) (meaning_of b.0) p (a.1 schema scope outer free p h ops.0).value (b.1 schema scope outer free p h ops.1.0).value ∙ sym (ap (λ m. m p) (evaluated-Distinct g' a.0 b.0)); under = λ nb is v' e. let l : (Expr-F.Distinct g' (normal a.0) (normal b.0)) ≡ Expr-F.Not nb = sym (expr.outs-Distinct g' (normal a.0) (normal b.0)) ∙ ap out-Expr (sym (normal-Distinct g' a.0 b.0)) ∙ is in absurd (cc) })
level (Expr-F.Call f es) = subst Claim (sym (expr.rolls-Call f (map (λ (e : Known). e.0) es))) (λ schema scope outer free p h g. record { value = ap (λ z. meaning_of z p) (normal-Call f (plain es)) ∙ ap (λ m. m p) (evaluated-Call f (map normal (plain es))) ∙ called_same schema scope outer free p h f es g ∙ sym (ap (λ m. m p) (evaluated-Call f (plain es))); under = λ nb is v' e. let l : (Expr-F.Call f (map normal (plain es))) ≡ Expr-F.Not nb = sym (expr.outs-Call f (map normal (plain es))) ∙ ap out-Expr (sym (normal-Call f (plain es))) ∙ is in absurd (cc) })
level Expr-F.CountAll = subst Claim (sym expr.rolls-CountAll) (λ schema scope outer free p h g. record { value = ap (λ z. meaning_of z p) normal-CountAll; under = λ nb is v' e. let l : Expr-F.CountAll ≡ Expr-F.Not nb = sym expr.outs-CountAll ∙ ap out-Expr (sym normal-CountAll) ∙ is in absurd (cc) })
level (Expr-F.Exists g' o a) = subst Claim (sym (expr.rolls-Exists g' o a.0)) (λ schema scope outer free p h g. let ops = good-Exists schema scope p.group outer free g' o a.0 g in record { value = ap (λ z. meaning_of z p) (normal-Exists g' o a.0) ∙ ap (λ m. m p) (evaluated-Exists g' o (normal a.0)) ∙ ap (λ r. r >>= λ found. truth (truth_or_opposite g' (Some found))) (some_same schema scope outer free p o.table a h ops.0 (rows_in p.tables o.table.0) (h.rows o.table) false) ∙ sym (ap (λ m. m p) (evaluated-Exists g' o a.0)); under = λ nb is v' e. let l : (Expr-F.Exists g' o (normal a.0)) ≡ Expr-F.Not nb = sym (expr.outs-Exists g' o (normal a.0)) ∙ ap out-Expr (sym (normal-Exists g' o a.0)) ∙ is in absurd (cc) })

same_meaning : (e : Expr) → Claim e
same_meaning = ind-Expr Claim (λ x y is. subst (λ z. Claim (roll-Expr z)) is (level y))

pub in_every_row : (schema : Catalog) (scope : Scope) (e : Expr) → fits schema e scope ≡ true → is_ok (expression_kind schema e scope) ≡ true → (p : Place) → FitsPlace schema scope p → meaning_of (normal e) p ≡ meaning_of e p
in_every_row schema scope e f t p h =
    let k = has_kind (expression_kind schema e scope) t in
    (same_meaning e schema scope 0 true p (alone schema scope true p h) (record { fitting = f; apart = apart_alone p.group true e h.no_group; kind = k.0; typed = k.1 })).value

pub in_every_group : (schema : Catalog) (scope : Scope) (e : Expr) → fits schema e scope ≡ true → is_ok (expression_kind schema e scope) ≡ true → aggregates_apart e ≡ true →
    (p : Place) (members : List Row) → FitsGroup schema scope p members → meaning_of (normal e) p ≡ meaning_of e p
in_every_group schema scope e f t a p members h =
    let k = has_kind (expression_kind schema e scope) t in
    (same_meaning e schema scope 0 true p (in_group schema scope p members h) (record { fitting = f; apart = apart_grouped p.group members 0 true e h.group a; kind = k.0; typed = k.1 })).value

pub in_no_rows_same : (schema : Catalog) (scope : Scope) (e : Expr) → fits schema e scope ≡ true → is_ok (expression_kind schema e scope) ≡ true → group_apart (length scope) e ≡ true →
    (p : Place) → FitsNoRows schema scope p → meaning_of (normal e) p ≡ meaning_of e p
in_no_rows_same schema scope e f t a p h =
    let k = has_kind (expression_kind schema e scope) t in
    (same_meaning e schema scope (length scope) true p (in_no_rows schema scope p h) (record { fitting = f; apart = apart_grouped p.group [] (length scope) true e h.group a; kind = k.0; typed = k.1 })).value
