-- Expressions that are told to be one tree.
use Rattle.std.proofs.Common.{◌≡◌, Bool, ◌&&◌, ◌==◌, List, [], ◌∷◌, map, refl, ap, ◌∙◌}
use Rattle.std.specs.Cmp.Lexicographic.{pointwise}
use Rattle.expr_types.specs.declared.expr.Expr.{Expr, out-Expr}
use Rattle.expr_types.specs.declared.expr.Expr.TheOpen.{Expr-F}
use Rattle.expr_types.specs.declared.expr.Expr.TheVariants as expr
use Rattle.expr_types.specs.declared.expr.Func.{Func}
use Rattle.expr_types.specs.Same.{function_place, same, same_all, same_level}
use Rattle.expr_types.proofs.Folds.{fold-And, fold-Or, fold-Call}

abbrev step : Expr-F (Expr → Bool) → Expr → Bool
step level other = same_level level (out-Expr other)

pub all_same : (es others : List Expr) → same_all (map same es) others ≡ pointwise same es others
all_same [] [] = refl
all_same [] (o ∷ os) = refl
all_same (e ∷ es) [] = refl
all_same (e ∷ es) (o ∷ os) = ap (λ b. same e o && b) (all_same es os)

pub told_and : (es others : List Expr) → same_level (Expr-F.And (map same es)) (out-Expr (expr.And others)) ≡ pointwise same es others
told_and es others = ap (same_level (Expr-F.And (map same es))) (expr.outs-And others) ∙ all_same es others

pub told_or : (es others : List Expr) → same_level (Expr-F.Or (map same es)) (out-Expr (expr.Or others)) ≡ pointwise same es others
told_or es others = ap (same_level (Expr-F.Or (map same es))) (expr.outs-Or others) ∙ all_same es others

pub told_call : (f g : Func) (es others : List Expr) → same_level (Expr-F.Call f (map same es)) (out-Expr (expr.Call g others)) ≡ ((function_place f == function_place g) && pointwise same es others)
told_call f g es others = ap (same_level (Expr-F.Call f (map same es))) (expr.outs-Call g others) ∙ ap (λ b. (function_place f == function_place g) && b) (all_same es others)

pub ruleset told_lists = (told_and, told_or, told_call)

pub same_and : (es : List Expr) (e : Expr) → same (expr.And es) e ≡ same_level (Expr-F.And (map same es)) (out-Expr e)
unfolding same
same_and es e = ap (λ (f : Expr → Bool). f e) (fold-And (Expr → Bool) step es)

pub same_or : (es : List Expr) (e : Expr) → same (expr.Or es) e ≡ same_level (Expr-F.Or (map same es)) (out-Expr e)
unfolding same
same_or es e = ap (λ (f : Expr → Bool). f e) (fold-Or (Expr → Bool) step es)

pub same_call : (f : Func) (es : List Expr) (e : Expr) → same (expr.Call f es) e ≡ same_level (Expr-F.Call f (map same es)) (out-Expr e)
unfolding same
same_call f es e = ap (λ (g : Expr → Bool). g e) (fold-Call (Expr → Bool) step f es)

pub ruleset of_lists = (same_and, same_or, same_call)
