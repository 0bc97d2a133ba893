-- The operands of a level, each changed by a function.
use Rattle.std.proofs.Common.{◌≡◌, map, refl}
use Rattle.expr_types.specs.declared.expr.Expr.TheOpen.{Expr-F}
use Rattle.expr_types.specs.declared.expr.Expr.TheFolds.{map-Expr}
use Rattle.expr_types.specs.Level.{operands}

pub operands_map : {A B : Type 0} (f : A → B) (x : Expr-F A) → operands (map-Expr A B f x) ≡ map f (operands x)
operands_map f (Expr-F.Column s c) = refl
operands_map f (Expr-F.Lit v) = refl
operands_map f (Expr-F.Compare op a b) = refl
operands_map f (Expr-F.IsNull g a) = refl
operands_map f (Expr-F.And es) = refl
operands_map f (Expr-F.Or es) = refl
operands_map f (Expr-F.Not a) = refl
operands_map f (Expr-F.Arith op a b) = refl
operands_map f (Expr-F.Neg a) = refl
operands_map f (Expr-F.Concat a b) = refl
operands_map f (Expr-F.Like g a b) = refl
operands_map f (Expr-F.Ilike g a b) = refl
operands_map f (Expr-F.InList g a vs) = refl
operands_map f (Expr-F.Between g a b c) = refl
operands_map f (Expr-F.Distinct g a b) = refl
operands_map f (Expr-F.Call g es) = refl
operands_map f Expr-F.CountAll = refl
operands_map f (Expr-F.Exists g o a) = refl
