-- The equations of the normal form, one for each variant.
use Rattle.std.proofs.Common.{◌≡◌, ℕ, Bool, List, map, ◌∙◌}
use Rattle.base_core.specs.declared.ids.ColumnNo.{ColumnNo}
use Rattle.base_core.specs.declared.value.Value.{Value}
use Rattle.base_core.specs.declared.value.ArithOp.{ArithOp}
use Rattle.expr_types.specs.declared.expr.CompareOp.{CompareOp}
use Rattle.expr_types.specs.declared.expr.Func.{Func}
use Rattle.expr_types.specs.declared.expr.Origin.{Origin}
use Rattle.expr_types.specs.declared.expr.Expr.{Expr}
use Rattle.expr_types.specs.declared.expr.Expr.TheVariants as expr
use Rattle.expr_types.specs.Normal.{normal, normal_level, negation_of, normal_like, joined_parts, and_parts, or_parts}
use Rattle.expr_types.proofs.Folds.{fold-Column, fold-Lit, fold-Compare, fold-IsNull, fold-And, fold-Or, fold-Not, fold-Arith, fold-Neg, fold-Concat, fold-Like, fold-Ilike, fold-InList, fold-Between, fold-Distinct, fold-Call, fold-CountAll, fold-Exists}

pub normal-Column : (s : ℕ) (c : ColumnNo) → normal (expr.Column s c) ≡ expr.Column s c
unfolding normal
normal-Column s c = fold-Column Expr normal_level s c ∙ expr.rolls-Column s c

pub normal-Lit : (v : Value) → normal (expr.Lit v) ≡ expr.Lit v
unfolding normal
normal-Lit v = fold-Lit Expr normal_level v ∙ expr.rolls-Lit v

pub normal-Compare : (op : CompareOp) (a : Expr) (b : Expr) → normal (expr.Compare op a b) ≡ expr.Compare op (normal a) (normal b)
unfolding normal
normal-Compare op a b = fold-Compare Expr normal_level op a b ∙ expr.rolls-Compare op (normal a) (normal b)

pub normal-IsNull : (g : Bool) (a : Expr) → normal (expr.IsNull g a) ≡ expr.IsNull g (normal a)
unfolding normal
normal-IsNull g a = fold-IsNull Expr normal_level g a ∙ expr.rolls-IsNull g (normal a)

pub normal-And : (es : List Expr) → normal (expr.And es) ≡ expr.And (joined_parts and_parts (map normal es))
unfolding normal
normal-And es = fold-And Expr normal_level es

pub normal-Or : (es : List Expr) → normal (expr.Or es) ≡ expr.Or (joined_parts or_parts (map normal es))
unfolding normal
normal-Or es = fold-Or Expr normal_level es

pub normal-Not : (a : Expr) → normal (expr.Not a) ≡ negation_of (normal a)
unfolding normal
normal-Not a = fold-Not Expr normal_level a

pub normal-Arith : (op : ArithOp) (a : Expr) (b : Expr) → normal (expr.Arith op a b) ≡ expr.Arith op (normal a) (normal b)
unfolding normal
normal-Arith op a b = fold-Arith Expr normal_level op a b ∙ expr.rolls-Arith op (normal a) (normal b)

pub normal-Neg : (a : Expr) → normal (expr.Neg a) ≡ expr.Neg (normal a)
unfolding normal
normal-Neg a = fold-Neg Expr normal_level a ∙ expr.rolls-Neg (normal a)

pub normal-Concat : (a : Expr) (b : Expr) → normal (expr.Concat a b) ≡ expr.Concat (normal a) (normal b)
unfolding normal
normal-Concat a b = fold-Concat Expr normal_level a b ∙ expr.rolls-Concat (normal a) (normal b)

pub normal-Like : (g : Bool) (a : Expr) (b : Expr) → normal (expr.Like g a b) ≡ normal_like g (normal a) (normal b)
unfolding normal
normal-Like g a b = fold-Like Expr normal_level g a b

pub normal-Ilike : (g : Bool) (a : Expr) (b : Expr) → normal (expr.Ilike g a b) ≡ expr.Ilike g (normal a) (normal b)
unfolding normal
normal-Ilike g a b = fold-Ilike Expr normal_level g a b ∙ expr.rolls-Ilike g (normal a) (normal b)

pub normal-InList : (g : Bool) (a : Expr) (vs : List Value) → normal (expr.InList g a vs) ≡ expr.InList g (normal a) vs
unfolding normal
normal-InList g a vs = fold-InList Expr normal_level g a vs ∙ expr.rolls-InList g (normal a) vs

pub normal-Between : (g : Bool) (a : Expr) (low : Expr) (high : Expr) → normal (expr.Between g a low high) ≡ expr.Between g (normal a) (normal low) (normal high)
unfolding normal
normal-Between g a low high = fold-Between Expr normal_level g a low high ∙ expr.rolls-Between g (normal a) (normal low) (normal high)

pub normal-Distinct : (g : Bool) (a : Expr) (b : Expr) → normal (expr.Distinct g a b) ≡ expr.Distinct g (normal a) (normal b)
unfolding normal
normal-Distinct g a b = fold-Distinct Expr normal_level g a b ∙ expr.rolls-Distinct g (normal a) (normal b)

pub normal-Call : (f : Func) (es : List Expr) → normal (expr.Call f es) ≡ expr.Call f (map normal es)
unfolding normal
normal-Call f es = fold-Call Expr normal_level f es ∙ expr.rolls-Call f (map normal es)

pub normal-CountAll : normal expr.CountAll ≡ expr.CountAll
unfolding normal
normal-CountAll = fold-CountAll Expr normal_level ∙ expr.rolls-CountAll

pub normal-Exists : (g : Bool) (o : Origin) (a : Expr) → normal (expr.Exists g o a) ≡ expr.Exists g o (normal a)
unfolding normal
normal-Exists g o a = fold-Exists Expr normal_level g o a ∙ expr.rolls-Exists g o (normal a)
