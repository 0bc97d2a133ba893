-- Forms of expressions whose operands are a list.
use Rattle.std.proofs.Common.{◌≡◌, ℕ, List, [], map, ap, ◌∙◌}
use Rattle.schema_core.specs.Catalog.{Catalog}
use Rattle.expr_types.specs.declared.expr.Expr.{Expr}
use Rattle.expr_types.specs.declared.expr.Expr.TheOpen.{Expr-F}
use Rattle.expr_types.specs.declared.expr.Expr.TheVariants as expr
use Rattle.expr_types.specs.declared.expr.Func.{Func}
use Rattle.expr_types.specs.declared.expr.Origin.{Origin}
use Rattle.expr_types.proofs.Folds.{fold-And, fold-Or, fold-Call}
use Rattle.base_core.specs.declared.dialect.Dialect.{Dialect}
use Rattle.sql_expressions.specs.Laid.{laid, laid_level, parts}
use Rattle.sql_text.specs.Pages.{Paged, put_on}
use Rattle.sql_text.proofs.Pages.{on_nil}

pub laid_and : (q : Dialect) (schema : Catalog) (es : List Expr) → laid q schema (expr.And es) ≡ laid_level q schema (Expr-F.And (map (laid q schema) es))
unfolding laid
laid_and q schema es = fold-And _ (laid_level q schema) es

pub laid_or : (q : Dialect) (schema : Catalog) (es : List Expr) → laid q schema (expr.Or es) ≡ laid_level q schema (Expr-F.Or (map (laid q schema) es))
unfolding laid
laid_or q schema es = fold-Or _ (laid_level q schema) es

pub laid_call : (q : Dialect) (schema : Catalog) (f : Func) (es : List Expr) → laid q schema (expr.Call f es) ≡ laid_level q schema (Expr-F.Call f (map (laid q schema) es))
unfolding laid
laid_call q schema f es = fold-Call _ (laid_level q schema) f es

pub no_parts : (page : Paged) (least : ℕ) (word : List ℕ) (q : Dialect) (schema : Catalog) (es : List Expr) (scope : List Origin) → es ≡ [] → put_on page (parts least word (map (laid q schema) es) scope) ≡ page
no_parts page least word q schema es scope none = ap (λ xs. put_on page (parts least word (map (laid q schema) xs) scope)) none ∙ on_nil page

pub ruleset laid_lists = (laid_and, laid_or, laid_call)
