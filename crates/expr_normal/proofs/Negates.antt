-- The normal form of a negation.
use Rattle.std.proofs.Common.{◌≡◌, subst}
use Rattle.expr_types.specs.declared.expr.Expr.{Expr}
use Rattle.expr_types.specs.declared.expr.Expr.TheVariants as expr
use Rattle.expr_types.specs.Normal.{normal, normal_level, negation_of}
use Rattle.expr_types.proofs.Folds.{fold-Not}
use Rattle.expr_normal.proofs.Fixed.{normal_again}

pub normal_of_not : (e : Expr) → normal (expr.Not e) ≡ negation_of (normal e)
unfolding normal
normal_of_not e = fold-Not Expr normal_level e

pub negated_again : (e : Expr) → normal (negation_of (normal e)) ≡ negation_of (normal e)
negated_again e = subst (λ z. normal z ≡ z) (normal_of_not e) (normal_again (expr.Not e))
