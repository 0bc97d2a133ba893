-- A negation means the opposite of what it negates.
use Rattle.std.proofs.Common.{◌≡◌, Bool, true, false, not, cond, ◌||◌, List, Option, Some, None, Ok, Err, refl, sym, ap, ◌∙◌}
use Rattle.base_core.specs.declared.value.Value.{Value}
use Rattle.expr_types.specs.declared.expr.CompareOp.{CompareOp}
use Rattle.expr_types.specs.declared.expr.Origin.{Origin}
use Rattle.expr_types.specs.declared.expr.Expr.{Expr, out-Expr}
use Rattle.expr_types.specs.declared.expr.Expr.TheOpen.{Expr-F}
use Rattle.expr_types.specs.declared.expr.Expr.TheVariants as expr
use Rattle.expr_types.specs.declared.expr.CompareOp.TheVariants.{Equal, NotEqual, Less, LessEqual, Greater, GreaterEqual}
use Rattle.expr_types.specs.Normal.{opposite, negation_of_level}
use Rattle.expr_types.proofs.Folds.{whole_is}
use Rattle.base_core.specs.Order.{same_value}
use Rattle.sql_semantics.specs.Checked.{Checked, ◌>>=◌}
use Rattle.sql_semantics.specs.Truth.{truth_of, value_of, not3, truth_or_opposite}
use Rattle.sql_semantics.specs.Eval.{Place, meaning_of, truth, comparison_truth, comparison_holds, below, is_null, between, pair, some_from, rows_in, is_like, among}
use Rattle.sql_semantics.proofs.Equations.{evaluated-Compare, evaluated-IsNull, evaluated-Not, evaluated-Like, evaluated-Ilike, evaluated-InList, evaluated-Between, evaluated-Distinct, evaluated-Exists}

pub truth_value : (t : Option Bool) → truth_of (value_of t) ≡ t
truth_value None = refl
truth_value (Some b) = refl

not_not : (b : Bool) → not (not b) ≡ b
not_not true = refl
not_not false = refl

not_again : (t : Option Bool) → not3 (not3 t) ≡ t
not_again None = refl
not_again (Some b) = ap Some (not_not b)

signed_not : (g : Bool) (t : Option Bool) → truth_or_opposite (not g) t ≡ not3 (truth_or_opposite g t)
signed_not true t = sym (not_again t)
signed_not false t = refl

opposite_ordered : (op : CompareOp) (x y : Value) → comparison_holds (opposite op) x y ≡ not (comparison_holds op x y)
opposite_ordered Equal x y = refl
opposite_ordered NotEqual x y = sym (not_not (same_value x y))
opposite_ordered Less x y = refl
opposite_ordered LessEqual x y = sym (not_not (below y x))
opposite_ordered Greater x y = refl
opposite_ordered GreaterEqual x y = sym (not_not (below x y))

opposite_known : (b : Bool) (x y : Bool) → x ≡ not y → cond b None (Some x) ≡ not3 (cond b None (Some y))
opposite_known true x y e = refl
opposite_known false x y e = ap Some e

opposite_compared : (op : CompareOp) (x y : Value) → comparison_truth (opposite op) x y ≡ not3 (comparison_truth op x y)
opposite_compared op x y = opposite_known (is_null x || is_null y) (comparison_holds (opposite op) x y) (comparison_holds op x y) (opposite_ordered op x y)

-- what `not` makes of an operand's answer
abbrev pub denied : Checked Value → Checked Value
denied r = r >>= λ x. truth (not3 (truth_of x))

denied_truth : {A : Type 0} (r : Checked A) (f g : A → Option Bool) → ((v : A) → g v ≡ not3 (f v)) → (r >>= λ v. truth (g v)) ≡ denied (r >>= λ v. truth (f v))
denied_truth (Ok v) f g h = ap (λ t. Ok (value_of t)) (h v ∙ ap not3 (sym (truth_value (f v))))
denied_truth (Err e) f g h = refl

denied_within : {A : Type 0} (r : Checked A) (s t : A → Checked Value) → ((v : A) → t v ≡ denied (s v)) → (r >>= t) ≡ denied (r >>= s)
denied_within (Ok v) s t h = h v
denied_within (Err e) s t h = refl

-- a value that is true, false or NULL
abbrev pub Truthful : Value → Type 0
Truthful v = value_of (truth_of v) ≡ v

denied_twice : (r : Checked Value) → ((v : Value) → r ≡ Ok v → Truthful v) → r ≡ denied (denied r)
denied_twice (Ok v) h = ap Ok (sym (h v refl) ∙ ap value_of (sym (not_again (truth_of v)) ∙ ap not3 (sym (truth_value (not3 (truth_of v))))))
denied_twice (Err e) h = refl

denied-Compare : (op : CompareOp) (a : Expr) (b : Expr) (p : Place) → meaning_of (expr.Compare (opposite op) a b) p ≡ denied (meaning_of (expr.Compare op a b) p)
denied-Compare op a b p = ap (λ m. m p) (evaluated-Compare (opposite op) a b) ∙ denied_truth (pair (meaning_of a) (meaning_of b) p) _ _ (λ v. opposite_compared op v.0 v.1) ∙ sym (ap (λ m. denied (m p)) (evaluated-Compare op a b))

denied-IsNull : (g : Bool) (a : Expr) (p : Place) → meaning_of (expr.IsNull (not g) a) p ≡ denied (meaning_of (expr.IsNull g a) p)
denied-IsNull g a p = ap (λ m. m p) (evaluated-IsNull (not g) a) ∙ denied_truth (meaning_of a p) _ _ (λ x. signed_not g (Some (is_null x))) ∙ sym (ap (λ m. denied (m p)) (evaluated-IsNull g a))

denied-Like : (g : Bool) (a : Expr) (b : Expr) (p : Place) → meaning_of (expr.Like (not g) a b) p ≡ denied (meaning_of (expr.Like g a b) p)
denied-Like g a b p = ap (λ m. m p) (evaluated-Like (not g) a b) ∙ denied_truth (pair (meaning_of a) (meaning_of b) p) _ _ (λ v. signed_not g (is_like v.0 v.1)) ∙ sym (ap (λ m. denied (m p)) (evaluated-Like g a b))

denied-Ilike : (g : Bool) (a : Expr) (b : Expr) (p : Place) → meaning_of (expr.Ilike (not g) a b) p ≡ denied (meaning_of (expr.Ilike g a b) p)
denied-Ilike g a b p = ap (λ m. m p) (evaluated-Ilike (not g) a b) ∙ denied_truth (pair (meaning_of a) (meaning_of b) p) _ _ (λ v. signed_not g (is_like v.0 v.1)) ∙ sym (ap (λ m. denied (m p)) (evaluated-Ilike g a b))

denied-InList : (g : Bool) (a : Expr) (vs : List Value) (p : Place) → meaning_of (expr.InList (not g) a vs) p ≡ denied (meaning_of (expr.InList g a vs) p)
denied-InList g a vs p = ap (λ m. m p) (evaluated-InList (not g) a vs) ∙ denied_truth (meaning_of a p) _ _ (λ x. signed_not g (among x vs)) ∙ sym (ap (λ m. denied (m p)) (evaluated-InList g a vs))

denied-Between : (g : Bool) (a : Expr) (low : Expr) (high : Expr) (p : Place) → meaning_of (expr.Between (not g) a low high) p ≡ denied (meaning_of (expr.Between g a low high) p)
denied-Between g a low high p = ap (λ m. m p) (evaluated-Between (not g) a low high) ∙ denied_within (meaning_of a p) _ _ (λ x. denied_truth (pair (meaning_of low) (meaning_of high) p) _ _ (λ v. signed_not g (between x v.0 v.1))) ∙ sym (ap (λ m. denied (m p)) (evaluated-Between g a low high))

denied-Distinct : (g : Bool) (a : Expr) (b : Expr) (p : Place) → meaning_of (expr.Distinct (not g) a b) p ≡ denied (meaning_of (expr.Distinct g a b) p)
denied-Distinct g a b p = ap (λ m. m p) (evaluated-Distinct (not g) a b) ∙ denied_truth (pair (meaning_of a) (meaning_of b) p) _ _ (λ v. signed_not g (Some (not (same_value v.0 v.1)))) ∙ sym (ap (λ m. denied (m p)) (evaluated-Distinct g a b))

denied-Exists : (g : Bool) (o : Origin) (a : Expr) (p : Place) → meaning_of (expr.Exists (not g) o a) p ≡ denied (meaning_of (expr.Exists g o a) p)
denied-Exists g o a p = ap (λ m. m p) (evaluated-Exists (not g) o a) ∙ denied_truth (some_from p (meaning_of a) false (rows_in p.tables o.table.0)) _ _ (λ found. signed_not g (Some found)) ∙ sym (ap (λ m. denied (m p)) (evaluated-Exists g o a))

-- the negation of an expression means what `not` makes of it, where a `not` stands over what is true, false or NULL
pub denied_at : (n : Expr) (x : Expr-F Expr) → out-Expr n ≡ x → (p : Place) → ((b : Expr) → x ≡ Expr-F.Not b → (v : Value) → meaning_of b p ≡ Ok v → Truthful v) →
    meaning_of (negation_of_level n x) p ≡ denied (meaning_of n p)
denied_at n (Expr-F.Compare op a b) is p h = denied-Compare op a b p ∙ ap (λ m. denied (meaning_of m p)) (sym (expr.rolls-Compare op a b) ∙ sym (whole_is n (Expr-F.Compare op a b) is))
denied_at n (Expr-F.IsNull g a) is p h = denied-IsNull g a p ∙ ap (λ m. denied (meaning_of m p)) (sym (expr.rolls-IsNull g a) ∙ sym (whole_is n (Expr-F.IsNull g a) is))
denied_at n (Expr-F.Like g a b) is p h = denied-Like g a b p ∙ ap (λ m. denied (meaning_of m p)) (sym (expr.rolls-Like g a b) ∙ sym (whole_is n (Expr-F.Like g a b) is))
denied_at n (Expr-F.Ilike g a b) is p h = denied-Ilike g a b p ∙ ap (λ m. denied (meaning_of m p)) (sym (expr.rolls-Ilike g a b) ∙ sym (whole_is n (Expr-F.Ilike g a b) is))
denied_at n (Expr-F.InList g a vs) is p h = denied-InList g a vs p ∙ ap (λ m. denied (meaning_of m p)) (sym (expr.rolls-InList g a vs) ∙ sym (whole_is n (Expr-F.InList g a vs) is))
denied_at n (Expr-F.Between g a low high) is p h = denied-Between g a low high p ∙ ap (λ m. denied (meaning_of m p)) (sym (expr.rolls-Between g a low high) ∙ sym (whole_is n (Expr-F.Between g a low high) is))
denied_at n (Expr-F.Distinct g a b) is p h = denied-Distinct g a b p ∙ ap (λ m. denied (meaning_of m p)) (sym (expr.rolls-Distinct g a b) ∙ sym (whole_is n (Expr-F.Distinct g a b) is))
denied_at n (Expr-F.Exists g o a) is p h = denied-Exists g o a p ∙ ap (λ m. denied (meaning_of m p)) (sym (expr.rolls-Exists g o a) ∙ sym (whole_is n (Expr-F.Exists g o a) is))
denied_at n (Expr-F.Not a) is p h = denied_twice (meaning_of a p) (h a refl) ∙ sym (ap (λ m. denied (m p)) (evaluated-Not a)) ∙ ap (λ m. denied (meaning_of m p)) (sym (expr.rolls-Not a) ∙ sym (whole_is n (Expr-F.Not a) is))
denied_at n level is p h = ap (λ m. m p) (evaluated-Not n)
