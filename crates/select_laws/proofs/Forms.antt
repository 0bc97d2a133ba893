-- What the words of the normal form make of an expression, by its level.
use Rattle.std.proofs.Common.{◌≡◌, Bool, List, [], ◌∷◌, Some, refl, sym, ap, ◌∙◌}
use Rattle.expr_types.specs.declared.expr.Func.{Func}
use Rattle.expr_types.specs.declared.expr.Func.TheVariants.{Lower}
use Rattle.expr_types.specs.declared.expr.Expr.{Expr, out-Expr, roll-Expr}
use Rattle.expr_types.specs.declared.expr.Expr.TheOpen.{Expr-F}
use Rattle.expr_types.specs.declared.expr.Expr.TheVariants as expr
use Rattle.expr_types.specs.declared.expr.Expr.TheViews.{roll-out-Expr}
use Rattle.expr_types.specs.Normal as form
use Rattle.expr_types.specs.Normal.{negation_of, negation_of_level, normal_like, like_by, and_parts, and_parts_at, or_parts, or_parts_at}

pub negated_is : (n : Expr) → negation_of n ≡ negation_of_level n (out-Expr n)
unfolding negation_of
negated_is n = refl

pub liked_is : (g : Bool) (a b : Expr) → normal_like g a b ≡ like_by g a b (form.lower_argument a) (form.lower_argument b)
unfolding normal_like
liked_is g a b = refl

pub and_parts_by : (n : Expr) → and_parts n ≡ and_parts_at n (out-Expr n)
unfolding and_parts
and_parts_by n = refl

pub or_parts_by : (n : Expr) → or_parts n ≡ or_parts_at n (out-Expr n)
unfolding or_parts
or_parts_by n = refl

lowered_whole_by : (f : Func) (es : List Expr) (x : Expr) → form.lower_argument_by f es ≡ Some x → expr.Call f es ≡ expr.Call Lower (x ∷ [])
lowered_whole_by Lower (e ∷ []) x is = let same : e ≡ x = cc in ap (λ z. expr.Call Lower (z ∷ [])) same
lowered_whole_by Lower [] x is = absurd (cc)
lowered_whole_by Lower (e ∷ d ∷ es) x is = absurd (cc)
lowered_whole_by f es x is = absurd (cc)

lowered_whole_at : (n : Expr) (l : Expr-F Expr) → out-Expr n ≡ l → (x : Expr) → form.lower_argument_at l ≡ Some x → n ≡ expr.Call Lower (x ∷ [])
lowered_whole_at n (Expr-F.Call f es) is x e = sym (roll-out-Expr n) ∙ ap roll-Expr is ∙ expr.rolls-Call f es ∙ lowered_whole_by f es x e
lowered_whole_at n level is x e = absurd (cc)

pub lowered_whole : (n x : Expr) → form.lower_argument n ≡ Some x → n ≡ expr.Call Lower (x ∷ [])
unfolding form.lower_argument
lowered_whole n x e = lowered_whole_at n (out-Expr n) refl x e
