-- Whether a list of operands reads rows.
use Rattle.std.proofs.Common.{◌≡◌, ◌||◌, List, map}
use Rattle.std.specs.List.{list_any}
use Rattle.expr_types.specs.declared.expr.Expr.{Expr}
use Rattle.expr_types.specs.declared.expr.Expr.TheVariants as expr
use Rattle.expr_types.specs.declared.expr.Func.{Func}
use Rattle.expr_types.specs.Level.{is_aggregate_function}
use Rattle.expr_types.proofs.Folds.{fold-And, fold-Or, fold-Call}
use Rattle.sqlite_selects.specs.Varying.{reading_level, reads_rows}

pub read_by_and : (es : List Expr) → reads_rows (expr.And es) ≡ list_any (λ reads. reads) (map reads_rows es)
unfolding reads_rows
read_by_and es = fold-And _ reading_level es

pub read_by_or : (es : List Expr) → reads_rows (expr.Or es) ≡ list_any (λ reads. reads) (map reads_rows es)
unfolding reads_rows
read_by_or es = fold-Or _ reading_level es

pub read_by_call : (f : Func) (es : List Expr) → reads_rows (expr.Call f es) ≡ (is_aggregate_function f || list_any (λ reads. reads) (map reads_rows es))
unfolding reads_rows
read_by_call f es = fold-Call _ reading_level f es

pub ruleset read_by_lists = (read_by_and, read_by_or, read_by_call)
