-- Whether an aggregate stands in a list of operands.
use Rattle.std.proofs.Common.{◌≡◌, ◌||◌, List, map}
use Rattle.std.specs.List.{list_any}
use Rattle.expr_types.specs.declared.expr.Expr.{Expr}
use Rattle.expr_types.specs.declared.expr.Expr.TheVariants as expr
use Rattle.expr_types.specs.declared.expr.Func.{Func}
use Rattle.expr_types.specs.Level.{aggregate_level, has_aggregate, is_aggregate_function}
use Rattle.expr_types.proofs.Folds.{fold-And, fold-Or, fold-Call}

pub of_and : (es : List Expr) → has_aggregate (expr.And es) ≡ list_any (λ has. has) (map has_aggregate es)
unfolding has_aggregate
of_and es = fold-And _ aggregate_level es

pub of_or : (es : List Expr) → has_aggregate (expr.Or es) ≡ list_any (λ has. has) (map has_aggregate es)
unfolding has_aggregate
of_or es = fold-Or _ aggregate_level es

pub of_call : (f : Func) (es : List Expr) → has_aggregate (expr.Call f es) ≡ (is_aggregate_function f || list_any (λ has. has) (map has_aggregate es))
unfolding has_aggregate
of_call f es = fold-Call _ aggregate_level f es

pub ruleset of_lists = (of_and, of_or, of_call)
