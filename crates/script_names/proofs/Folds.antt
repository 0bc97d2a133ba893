-- Inductions over expressions as they are written, level by level, and the equations of a fold, one for each variant.
use Rattle.std.proofs.Common.{◌≡◌, ℕ, Bool, List, map, sym, ap, subst, ◌∙◌}
use Rattle.base_core.specs.declared.value.Value.{Value}
use Rattle.base_core.specs.declared.value.ArithOp.{ArithOp}
use Rattle.expr_types.specs.declared.expr.CompareOp.{CompareOp}
use Rattle.expr_types.specs.declared.expr.Func.{Func}
use Rattle.script_types.specs.declared.expression.SynSource.{SynSource}
use Rattle.script_types.specs.declared.expression.Syn.{Syn, out-Syn, roll-Syn}
use Rattle.script_types.specs.declared.expression.Syn.TheOpen.{Syn-F}
use Rattle.script_types.specs.declared.expression.Syn.TheFolds.{fold-Syn, fold-roll-Syn, ind-Syn, map-Syn}
use Rattle.script_types.specs.declared.expression.Syn.TheVariants as syn
use Rattle.script_types.specs.declared.expression.Syn.TheViews.{roll-out-Syn}

-- an expression by its level
pub whole_is : (n : Syn) (x : Syn-F Syn) → out-Syn n ≡ x → n ≡ roll-Syn x
whole_is n x is = sym (roll-out-Syn n) ∙ ap roll-Syn is

-- a level of operands of which something is known, without what is known
abbrev pub bare : {P : Syn → Type 0} → Syn-F ((e : Syn) × P e) → Syn-F Syn
bare {P} = map-Syn ((e : Syn) × P e) Syn (λ k. k.0)

-- what each level has whose operands have it every expression has
pub by_levels : (P : Syn → Type 0) → ((y : Syn-F ((e : Syn) × P e)) → P (roll-Syn (bare y))) → (e : Syn) → P e
by_levels P step = ind-Syn P (λ x y is. subst (λ z. P (roll-Syn z)) is (step y))

pub fold-Lit : (A : Type 0) (step : Syn-F A → A) (v : Value) → fold-Syn A step (syn.Lit v) ≡ step (Syn-F.Lit v)
fold-Lit A step v = ap (fold-Syn A step) (sym (syn.rolls-Lit v)) ∙ fold-roll-Syn A step (Syn-F.Lit v)

pub fold-Path : (A : Type 0) (step : Syn-F A → A) (s : List ℕ) (c : List ℕ) → fold-Syn A step (syn.Path s c) ≡ step (Syn-F.Path s c)
fold-Path A step s c = ap (fold-Syn A step) (sym (syn.rolls-Path s c)) ∙ fold-roll-Syn A step (Syn-F.Path s c)

pub fold-CountAll : (A : Type 0) (step : Syn-F A → A) → fold-Syn A step syn.CountAll ≡ step Syn-F.CountAll
fold-CountAll A step = ap (fold-Syn A step) (sym syn.rolls-CountAll) ∙ fold-roll-Syn A step Syn-F.CountAll

pub fold-Call : (A : Type 0) (step : Syn-F A → A) (f : Func) (es : List Syn) → fold-Syn A step (syn.Call f es) ≡ step (Syn-F.Call f (map (fold-Syn A step) es))
fold-Call A step f es = ap (fold-Syn A step) (sym (syn.rolls-Call f es)) ∙ fold-roll-Syn A step (Syn-F.Call f es)

pub fold-Exists : (A : Type 0) (step : Syn-F A → A) (s : SynSource) (a : Syn) → fold-Syn A step (syn.Exists s a) ≡ step (Syn-F.Exists s (fold-Syn A step a))
fold-Exists A step s a = ap (fold-Syn A step) (sym (syn.rolls-Exists s a)) ∙ fold-roll-Syn A step (Syn-F.Exists s a)

pub fold-Compare : (A : Type 0) (step : Syn-F A → A) (op : CompareOp) (a : Syn) (b : Syn) → fold-Syn A step (syn.Compare op a b) ≡ step (Syn-F.Compare op (fold-Syn A step a) (fold-Syn A step b))
fold-Compare A step op a b = ap (fold-Syn A step) (sym (syn.rolls-Compare op a b)) ∙ fold-roll-Syn A step (Syn-F.Compare op a b)

pub fold-IsNull : (A : Type 0) (step : Syn-F A → A) (n : Bool) (a : Syn) → fold-Syn A step (syn.IsNull n a) ≡ step (Syn-F.IsNull n (fold-Syn A step a))
fold-IsNull A step n a = ap (fold-Syn A step) (sym (syn.rolls-IsNull n a)) ∙ fold-roll-Syn A step (Syn-F.IsNull n a)

pub fold-Like : (A : Type 0) (step : Syn-F A → A) (n : Bool) (a : Syn) (b : Syn) → fold-Syn A step (syn.Like n a b) ≡ step (Syn-F.Like n (fold-Syn A step a) (fold-Syn A step b))
fold-Like A step n a b = ap (fold-Syn A step) (sym (syn.rolls-Like n a b)) ∙ fold-roll-Syn A step (Syn-F.Like n a b)

pub fold-Ilike : (A : Type 0) (step : Syn-F A → A) (n : Bool) (a : Syn) (b : Syn) → fold-Syn A step (syn.Ilike n a b) ≡ step (Syn-F.Ilike n (fold-Syn A step a) (fold-Syn A step b))
fold-Ilike A step n a b = ap (fold-Syn A step) (sym (syn.rolls-Ilike n a b)) ∙ fold-roll-Syn A step (Syn-F.Ilike n a b)

pub fold-InList : (A : Type 0) (step : Syn-F A → A) (n : Bool) (a : Syn) (vs : List Value) → fold-Syn A step (syn.InList n a vs) ≡ step (Syn-F.InList n (fold-Syn A step a) vs)
fold-InList A step n a vs = ap (fold-Syn A step) (sym (syn.rolls-InList n a vs)) ∙ fold-roll-Syn A step (Syn-F.InList n a vs)

pub fold-Between : (A : Type 0) (step : Syn-F A → A) (n : Bool) (a : Syn) (low : Syn) (high : Syn) → fold-Syn A step (syn.Between n a low high) ≡ step (Syn-F.Between n (fold-Syn A step a) (fold-Syn A step low) (fold-Syn A step high))
fold-Between A step n a low high = ap (fold-Syn A step) (sym (syn.rolls-Between n a low high)) ∙ fold-roll-Syn A step (Syn-F.Between n a low high)

pub fold-Distinct : (A : Type 0) (step : Syn-F A → A) (n : Bool) (a : Syn) (b : Syn) → fold-Syn A step (syn.Distinct n a b) ≡ step (Syn-F.Distinct n (fold-Syn A step a) (fold-Syn A step b))
fold-Distinct A step n a b = ap (fold-Syn A step) (sym (syn.rolls-Distinct n a b)) ∙ fold-roll-Syn A step (Syn-F.Distinct n a b)

pub fold-And : (A : Type 0) (step : Syn-F A → A) (es : List Syn) → fold-Syn A step (syn.And es) ≡ step (Syn-F.And (map (fold-Syn A step) es))
fold-And A step es = ap (fold-Syn A step) (sym (syn.rolls-And es)) ∙ fold-roll-Syn A step (Syn-F.And es)

pub fold-Or : (A : Type 0) (step : Syn-F A → A) (es : List Syn) → fold-Syn A step (syn.Or es) ≡ step (Syn-F.Or (map (fold-Syn A step) es))
fold-Or A step es = ap (fold-Syn A step) (sym (syn.rolls-Or es)) ∙ fold-roll-Syn A step (Syn-F.Or es)

pub fold-Not : (A : Type 0) (step : Syn-F A → A) (a : Syn) → fold-Syn A step (syn.Not a) ≡ step (Syn-F.Not (fold-Syn A step a))
fold-Not A step a = ap (fold-Syn A step) (sym (syn.rolls-Not a)) ∙ fold-roll-Syn A step (Syn-F.Not a)

pub fold-Arith : (A : Type 0) (step : Syn-F A → A) (op : ArithOp) (a : Syn) (b : Syn) → fold-Syn A step (syn.Arith op a b) ≡ step (Syn-F.Arith op (fold-Syn A step a) (fold-Syn A step b))
fold-Arith A step op a b = ap (fold-Syn A step) (sym (syn.rolls-Arith op a b)) ∙ fold-roll-Syn A step (Syn-F.Arith op a b)

pub fold-Concat : (A : Type 0) (step : Syn-F A → A) (a : Syn) (b : Syn) → fold-Syn A step (syn.Concat a b) ≡ step (Syn-F.Concat (fold-Syn A step a) (fold-Syn A step b))
fold-Concat A step a b = ap (fold-Syn A step) (sym (syn.rolls-Concat a b)) ∙ fold-roll-Syn A step (Syn-F.Concat a b)

pub fold-Neg : (A : Type 0) (step : Syn-F A → A) (a : Syn) → fold-Syn A step (syn.Neg a) ≡ step (Syn-F.Neg (fold-Syn A step a))
fold-Neg A step a = ap (fold-Syn A step) (sym (syn.rolls-Neg a)) ∙ fold-roll-Syn A step (Syn-F.Neg a)

-- all of them
pub ruleset fold_steps = (fold-Lit, fold-Path, fold-CountAll, fold-Call, fold-Exists, fold-Compare, fold-IsNull, fold-Like, fold-Ilike, fold-InList, fold-Between, fold-Distinct, fold-And, fold-Or, fold-Not, fold-Arith, fold-Concat, fold-Neg)
