-- Expressions that are lists of others.
use Rattle.std.proofs.Common.{◌≡◌, ℕ, List, map, ◌∙◌}
use Rattle.expr_types.specs.declared.expr.Expr.{Expr}
use Rattle.expr_types.specs.declared.expr.Expr.TheVariants as expr
use Rattle.expr_types.specs.declared.expr.Func.{Func}
use Rattle.expr_types.proofs.Folds.{fold-And, fold-Or, fold-Call}
use Rattle.main_selects.specs.Shifted.{shift_level, shifted}

pub shifted_and : (own more : ℕ) (es : List Expr) → shifted own more (expr.And es) ≡ expr.And (map (shifted own more) es)
unfolding shifted
shifted_and own more es = fold-And Expr (shift_level own more) es ∙ expr.rolls-And (map (shifted own more) es)

pub shifted_or : (own more : ℕ) (es : List Expr) → shifted own more (expr.Or es) ≡ expr.Or (map (shifted own more) es)
unfolding shifted
shifted_or own more es = fold-Or Expr (shift_level own more) es ∙ expr.rolls-Or (map (shifted own more) es)

pub shifted_call : (own more : ℕ) (f : Func) (es : List Expr) → shifted own more (expr.Call f es) ≡ expr.Call f (map (shifted own more) es)
unfolding shifted
shifted_call own more f es = fold-Call Expr (shift_level own more) f es ∙ expr.rolls-Call f (map (shifted own more) es)

pub ruleset shifted_lists = (shifted_and, shifted_or, shifted_call)
