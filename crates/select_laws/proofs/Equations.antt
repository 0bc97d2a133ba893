-- Where aggregates and the columns of outer sources stand, one equation for each variant.
use Rattle.std.proofs.Common.{◌≡◌, ℕ, Bool, List, map, ap}
use Rattle.base_core.specs.declared.ids.ColumnNo.{ColumnNo}
use Rattle.base_core.specs.declared.value.Value.{Value}
use Rattle.base_core.specs.declared.value.ArithOp.{ArithOp}
use Rattle.expr_types.specs.declared.expr.CompareOp.{CompareOp}
use Rattle.expr_types.specs.declared.expr.Func.{Func}
use Rattle.expr_types.specs.declared.expr.Origin.{Origin}
use Rattle.expr_types.specs.declared.expr.Expr.{Expr}
use Rattle.expr_types.specs.declared.expr.Expr.TheOpen.{Expr-F}
use Rattle.expr_types.specs.declared.expr.Expr.TheVariants as expr
use Rattle.expr_types.proofs.Folds.{fold-Column, fold-Compare, fold-IsNull, fold-And, fold-Or, fold-Not, fold-Arith, fold-Neg, fold-Concat, fold-Like, fold-Ilike, fold-InList, fold-Between, fold-Distinct, fold-Call, fold-Exists}
use Rattle.select_laws.specs.Apart.{apart_level, stands_apart}

pub apart-Column : (outer : ℕ) (free : Bool) (s : ℕ) (c : ColumnNo) → stands_apart outer (expr.Column s c) free ≡ apart_level outer (Expr-F.Column s c) free
unfolding stands_apart
apart-Column outer free s c = ap (λ (a : Bool → Bool). a free) (fold-Column (Bool → Bool) (apart_level outer) s c)

pub apart-Compare : (outer : ℕ) (free : Bool) (op : CompareOp) (a : Expr) (b : Expr) → stands_apart outer (expr.Compare op a b) free ≡ apart_level outer (Expr-F.Compare op (stands_apart outer a) (stands_apart outer b)) free
unfolding stands_apart
apart-Compare outer free op a b = ap (λ (a : Bool → Bool). a free) (fold-Compare (Bool → Bool) (apart_level outer) op a b)

pub apart-IsNull : (outer : ℕ) (free : Bool) (g : Bool) (a : Expr) → stands_apart outer (expr.IsNull g a) free ≡ apart_level outer (Expr-F.IsNull g (stands_apart outer a)) free
unfolding stands_apart
apart-IsNull outer free g a = ap (λ (a : Bool → Bool). a free) (fold-IsNull (Bool → Bool) (apart_level outer) g a)

pub apart-And : (outer : ℕ) (free : Bool) (es : List Expr) → stands_apart outer (expr.And es) free ≡ apart_level outer (Expr-F.And (map (stands_apart outer) es)) free
unfolding stands_apart
apart-And outer free es = ap (λ (a : Bool → Bool). a free) (fold-And (Bool → Bool) (apart_level outer) es)

pub apart-Or : (outer : ℕ) (free : Bool) (es : List Expr) → stands_apart outer (expr.Or es) free ≡ apart_level outer (Expr-F.Or (map (stands_apart outer) es)) free
unfolding stands_apart
apart-Or outer free es = ap (λ (a : Bool → Bool). a free) (fold-Or (Bool → Bool) (apart_level outer) es)

pub apart-Not : (outer : ℕ) (free : Bool) (a : Expr) → stands_apart outer (expr.Not a) free ≡ apart_level outer (Expr-F.Not (stands_apart outer a)) free
unfolding stands_apart
apart-Not outer free a = ap (λ (a : Bool → Bool). a free) (fold-Not (Bool → Bool) (apart_level outer) a)

pub apart-Arith : (outer : ℕ) (free : Bool) (op : ArithOp) (a : Expr) (b : Expr) → stands_apart outer (expr.Arith op a b) free ≡ apart_level outer (Expr-F.Arith op (stands_apart outer a) (stands_apart outer b)) free
unfolding stands_apart
apart-Arith outer free op a b = ap (λ (a : Bool → Bool). a free) (fold-Arith (Bool → Bool) (apart_level outer) op a b)

pub apart-Neg : (outer : ℕ) (free : Bool) (a : Expr) → stands_apart outer (expr.Neg a) free ≡ apart_level outer (Expr-F.Neg (stands_apart outer a)) free
unfolding stands_apart
apart-Neg outer free a = ap (λ (a : Bool → Bool). a free) (fold-Neg (Bool → Bool) (apart_level outer) a)

pub apart-Concat : (outer : ℕ) (free : Bool) (a : Expr) (b : Expr) → stands_apart outer (expr.Concat a b) free ≡ apart_level outer (Expr-F.Concat (stands_apart outer a) (stands_apart outer b)) free
unfolding stands_apart
apart-Concat outer free a b = ap (λ (a : Bool → Bool). a free) (fold-Concat (Bool → Bool) (apart_level outer) a b)

pub apart-Like : (outer : ℕ) (free : Bool) (g : Bool) (a : Expr) (b : Expr) → stands_apart outer (expr.Like g a b) free ≡ apart_level outer (Expr-F.Like g (stands_apart outer a) (stands_apart outer b)) free
unfolding stands_apart
apart-Like outer free g a b = ap (λ (a : Bool → Bool). a free) (fold-Like (Bool → Bool) (apart_level outer) g a b)

pub apart-Ilike : (outer : ℕ) (free : Bool) (g : Bool) (a : Expr) (b : Expr) → stands_apart outer (expr.Ilike g a b) free ≡ apart_level outer (Expr-F.Ilike g (stands_apart outer a) (stands_apart outer b)) free
unfolding stands_apart
apart-Ilike outer free g a b = ap (λ (a : Bool → Bool). a free) (fold-Ilike (Bool → Bool) (apart_level outer) g a b)

pub apart-InList : (outer : ℕ) (free : Bool) (g : Bool) (a : Expr) (vs : List Value) → stands_apart outer (expr.InList g a vs) free ≡ apart_level outer (Expr-F.InList g (stands_apart outer a) vs) free
unfolding stands_apart
apart-InList outer free g a vs = ap (λ (a : Bool → Bool). a free) (fold-InList (Bool → Bool) (apart_level outer) g a vs)

pub apart-Between : (outer : ℕ) (free : Bool) (g : Bool) (a : Expr) (low : Expr) (high : Expr) → stands_apart outer (expr.Between g a low high) free ≡ apart_level outer (Expr-F.Between g (stands_apart outer a) (stands_apart outer low) (stands_apart outer high)) free
unfolding stands_apart
apart-Between outer free g a low high = ap (λ (a : Bool → Bool). a free) (fold-Between (Bool → Bool) (apart_level outer) g a low high)

pub apart-Distinct : (outer : ℕ) (free : Bool) (g : Bool) (a : Expr) (b : Expr) → stands_apart outer (expr.Distinct g a b) free ≡ apart_level outer (Expr-F.Distinct g (stands_apart outer a) (stands_apart outer b)) free
unfolding stands_apart
apart-Distinct outer free g a b = ap (λ (a : Bool → Bool). a free) (fold-Distinct (Bool → Bool) (apart_level outer) g a b)

pub apart-Call : (outer : ℕ) (free : Bool) (f : Func) (es : List Expr) → stands_apart outer (expr.Call f es) free ≡ apart_level outer (Expr-F.Call f (map (stands_apart outer) es)) free
unfolding stands_apart
apart-Call outer free f es = ap (λ (a : Bool → Bool). a free) (fold-Call (Bool → Bool) (apart_level outer) f es)

pub apart-Exists : (outer : ℕ) (free : Bool) (g : Bool) (o : Origin) (a : Expr) → stands_apart outer (expr.Exists g o a) free ≡ apart_level outer (Expr-F.Exists g o (stands_apart outer a)) free
unfolding stands_apart
apart-Exists outer free g o a = ap (λ (a : Bool → Bool). a free) (fold-Exists (Bool → Bool) (apart_level outer) g o a)
