-- Inductions over expressions, level by level, and the equations of a fold, one for each variant.
use Rattle.std.proofs.Common.{◌≡◌, ℕ, Bool, List, map, sym, ap, subst, ◌∙◌}
use Rattle.base_core.specs.declared.ids.ColumnNo.{ColumnNo}
use Rattle.base_core.specs.declared.value.Value.{Value}
use Rattle.base_core.specs.declared.value.ArithOp.{ArithOp}
use Rattle.expr_types.specs.declared.expr.CompareOp.{CompareOp}
use Rattle.expr_types.specs.declared.expr.Func.{Func}
use Rattle.expr_types.specs.declared.expr.Origin.{Origin}
use Rattle.expr_types.specs.declared.expr.Expr.{Expr, out-Expr, roll-Expr}
use Rattle.expr_types.specs.declared.expr.Expr.TheOpen.{Expr-F}
use Rattle.expr_types.specs.declared.expr.Expr.TheFolds.{fold-Expr, fold-roll-Expr, ind-Expr, map-Expr}
use Rattle.expr_types.specs.declared.expr.Expr.TheVariants as expr
use Rattle.expr_types.specs.declared.expr.Expr.TheViews.{roll-out-Expr}
use Rattle.expr_types.specs.Same.{same, same_level}

-- an expression by its level
pub whole_is : (n : Expr) (x : Expr-F Expr) → out-Expr n ≡ x → n ≡ roll-Expr x
whole_is n x is = sym (roll-out-Expr n) ∙ ap roll-Expr is

-- two expressions are one tree level by level
pub same_rolled : (x : Expr-F Expr) (e : Expr) → same (roll-Expr x) e ≡ same_level (map-Expr Expr (Expr → Bool) same x) (out-Expr e)
unfolding same
same_rolled x e = ap (λ (f : Expr → Bool). f e) (fold-roll-Expr (Expr → Bool) (λ level other. same_level level (out-Expr other)) x)

-- a level of operands of which something is known, without what is known
abbrev pub bare : {P : Expr → Type 0} → Expr-F ((e : Expr) × P e) → Expr-F Expr
bare {P} = map-Expr ((e : Expr) × P e) Expr (λ k. k.0)

-- what each level has whose operands have it every expression has
pub by_levels : (P : Expr → Type 0) → ((y : Expr-F ((e : Expr) × P e)) → P (roll-Expr (bare y))) → (e : Expr) → P e
by_levels P step = ind-Expr P (λ x y is. subst (λ z. P (roll-Expr z)) is (step y))

pub fold-Column : (A : Type 0) (step : Expr-F A → A) (s : ℕ) (c : ColumnNo) → fold-Expr A step (expr.Column s c) ≡ step (Expr-F.Column s c)
fold-Column A step s c = ap (fold-Expr A step) (sym (expr.rolls-Column s c)) ∙ fold-roll-Expr A step (Expr-F.Column s c)

pub fold-Lit : (A : Type 0) (step : Expr-F A → A) (v : Value) → fold-Expr A step (expr.Lit v) ≡ step (Expr-F.Lit v)
fold-Lit A step v = ap (fold-Expr A step) (sym (expr.rolls-Lit v)) ∙ fold-roll-Expr A step (Expr-F.Lit v)

pub fold-Compare : (A : Type 0) (step : Expr-F A → A) (op : CompareOp) (a : Expr) (b : Expr) → fold-Expr A step (expr.Compare op a b) ≡ step (Expr-F.Compare op (fold-Expr A step a) (fold-Expr A step b))
fold-Compare A step op a b = ap (fold-Expr A step) (sym (expr.rolls-Compare op a b)) ∙ fold-roll-Expr A step (Expr-F.Compare op a b)

pub fold-IsNull : (A : Type 0) (step : Expr-F A → A) (n : Bool) (a : Expr) → fold-Expr A step (expr.IsNull n a) ≡ step (Expr-F.IsNull n (fold-Expr A step a))
fold-IsNull A step n a = ap (fold-Expr A step) (sym (expr.rolls-IsNull n a)) ∙ fold-roll-Expr A step (Expr-F.IsNull n a)

pub fold-And : (A : Type 0) (step : Expr-F A → A) (es : List Expr) → fold-Expr A step (expr.And es) ≡ step (Expr-F.And (map (fold-Expr A step) es))
fold-And A step es = ap (fold-Expr A step) (sym (expr.rolls-And es)) ∙ fold-roll-Expr A step (Expr-F.And es)

pub fold-Or : (A : Type 0) (step : Expr-F A → A) (es : List Expr) → fold-Expr A step (expr.Or es) ≡ step (Expr-F.Or (map (fold-Expr A step) es))
fold-Or A step es = ap (fold-Expr A step) (sym (expr.rolls-Or es)) ∙ fold-roll-Expr A step (Expr-F.Or es)

pub fold-Not : (A : Type 0) (step : Expr-F A → A) (a : Expr) → fold-Expr A step (expr.Not a) ≡ step (Expr-F.Not (fold-Expr A step a))
fold-Not A step a = ap (fold-Expr A step) (sym (expr.rolls-Not a)) ∙ fold-roll-Expr A step (Expr-F.Not a)

pub fold-Arith : (A : Type 0) (step : Expr-F A → A) (op : ArithOp) (a : Expr) (b : Expr) → fold-Expr A step (expr.Arith op a b) ≡ step (Expr-F.Arith op (fold-Expr A step a) (fold-Expr A step b))
fold-Arith A step op a b = ap (fold-Expr A step) (sym (expr.rolls-Arith op a b)) ∙ fold-roll-Expr A step (Expr-F.Arith op a b)

pub fold-Neg : (A : Type 0) (step : Expr-F A → A) (a : Expr) → fold-Expr A step (expr.Neg a) ≡ step (Expr-F.Neg (fold-Expr A step a))
fold-Neg A step a = ap (fold-Expr A step) (sym (expr.rolls-Neg a)) ∙ fold-roll-Expr A step (Expr-F.Neg a)

pub fold-Concat : (A : Type 0) (step : Expr-F A → A) (a : Expr) (b : Expr) → fold-Expr A step (expr.Concat a b) ≡ step (Expr-F.Concat (fold-Expr A step a) (fold-Expr A step b))
fold-Concat A step a b = ap (fold-Expr A step) (sym (expr.rolls-Concat a b)) ∙ fold-roll-Expr A step (Expr-F.Concat a b)

pub fold-Like : (A : Type 0) (step : Expr-F A → A) (n : Bool) (a : Expr) (b : Expr) → fold-Expr A step (expr.Like n a b) ≡ step (Expr-F.Like n (fold-Expr A step a) (fold-Expr A step b))
fold-Like A step n a b = ap (fold-Expr A step) (sym (expr.rolls-Like n a b)) ∙ fold-roll-Expr A step (Expr-F.Like n a b)

pub fold-Ilike : (A : Type 0) (step : Expr-F A → A) (n : Bool) (a : Expr) (b : Expr) → fold-Expr A step (expr.Ilike n a b) ≡ step (Expr-F.Ilike n (fold-Expr A step a) (fold-Expr A step b))
fold-Ilike A step n a b = ap (fold-Expr A step) (sym (expr.rolls-Ilike n a b)) ∙ fold-roll-Expr A step (Expr-F.Ilike n a b)

pub fold-InList : (A : Type 0) (step : Expr-F A → A) (n : Bool) (a : Expr) (vs : List Value) → fold-Expr A step (expr.InList n a vs) ≡ step (Expr-F.InList n (fold-Expr A step a) vs)
fold-InList A step n a vs = ap (fold-Expr A step) (sym (expr.rolls-InList n a vs)) ∙ fold-roll-Expr A step (Expr-F.InList n a vs)

pub fold-Between : (A : Type 0) (step : Expr-F A → A) (n : Bool) (a : Expr) (low : Expr) (high : Expr) → fold-Expr A step (expr.Between n a low high) ≡ step (Expr-F.Between n (fold-Expr A step a) (fold-Expr A step low) (fold-Expr A step high))
fold-Between A step n a low high = ap (fold-Expr A step) (sym (expr.rolls-Between n a low high)) ∙ fold-roll-Expr A step (Expr-F.Between n a low high)

pub fold-Distinct : (A : Type 0) (step : Expr-F A → A) (n : Bool) (a : Expr) (b : Expr) → fold-Expr A step (expr.Distinct n a b) ≡ step (Expr-F.Distinct n (fold-Expr A step a) (fold-Expr A step b))
fold-Distinct A step n a b = ap (fold-Expr A step) (sym (expr.rolls-Distinct n a b)) ∙ fold-roll-Expr A step (Expr-F.Distinct n a b)

pub fold-Call : (A : Type 0) (step : Expr-F A → A) (f : Func) (es : List Expr) → fold-Expr A step (expr.Call f es) ≡ step (Expr-F.Call f (map (fold-Expr A step) es))
fold-Call A step f es = ap (fold-Expr A step) (sym (expr.rolls-Call f es)) ∙ fold-roll-Expr A step (Expr-F.Call f es)

pub fold-CountAll : (A : Type 0) (step : Expr-F A → A) → fold-Expr A step expr.CountAll ≡ step Expr-F.CountAll
fold-CountAll A step = ap (fold-Expr A step) (sym expr.rolls-CountAll) ∙ fold-roll-Expr A step Expr-F.CountAll

pub fold-Exists : (A : Type 0) (step : Expr-F A → A) (n : Bool) (o : Origin) (a : Expr) → fold-Expr A step (expr.Exists n o a) ≡ step (Expr-F.Exists n o (fold-Expr A step a))
fold-Exists A step n o a = ap (fold-Expr A step) (sym (expr.rolls-Exists n o a)) ∙ fold-roll-Expr A step (Expr-F.Exists n o a)

-- all of them
pub ruleset fold_steps = (fold-Column, fold-Lit, fold-Compare, fold-IsNull, fold-And, fold-Or, fold-Not, fold-Arith, fold-Neg, fold-Concat, fold-Like, fold-Ilike, fold-InList, fold-Between, fold-Distinct, fold-Call, fold-CountAll, fold-Exists)
