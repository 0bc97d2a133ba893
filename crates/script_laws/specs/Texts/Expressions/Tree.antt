-- The tree of an expression in a dialect: its columns by name, and one tree for what the dialect writes alike.
use Rattle.std.specs.Prelude.{◌++◌, Bool, true, false, List, [], ◌∷◌, map, slice_get}
use Rattle.base_core.specs.declared.value.ArithOp.{ArithOp}
use Rattle.base_core.specs.declared.value.ArithOp.TheVariants.{Add, Sub, Mul}
use Rattle.schema_core.specs.Catalog.{Catalog, spec_of}
use Rattle.expr_types.specs.declared.expr.CompareOp.{CompareOp}
use Rattle.expr_types.specs.declared.expr.CompareOp.TheVariants as compare
use Rattle.expr_types.specs.declared.expr.Expr.{Expr}
use Rattle.expr_types.specs.declared.expr.Expr.TheOpen.{Expr-F}
use Rattle.expr_types.specs.declared.expr.Expr.TheFolds.{fold-Expr}
use Rattle.expr_types.specs.declared.expr.Func.{Func}
use Rattle.expr_types.specs.declared.expr.Func.TheVariants as func
use Rattle.expr_types.specs.declared.expr.Origin.{Origin}
use Rattle.base_core.specs.declared.dialect.Dialect.{Dialect}
use Rattle.base_core.specs.declared.dialect.Dialect.TheVariants.{Sqlite, Postgresql, Mysql}
use Rattle.sql_expressions.specs.Laid.{column_shown, source_shown}
use Rattle.script_laws.specs.Texts.Grammar.Trees.{Test, Equal, NotEqual, Less, LessEqual, Greater, GreaterEqual, Like, Ilike, Distinct, Plus, Minus, Beside, Function, Count, Sum, Min, Max, Lower, Upper, Length, Coalesce, Concat, Source, Sql, column, mark, test, null_test, in_list, between, all_of, any_of, opposite, sum, product, negative, call, count_all, exists, Sqls, none, more}

abbrev pub trees : List Sql → Sqls
trees [] = none
trees (x ∷ xs) = more x (trees xs)

abbrev pub compare_test : CompareOp → Test
compare_test compare.Equal = Equal
compare_test compare.NotEqual = NotEqual
compare_test compare.Less = Less
compare_test compare.LessEqual = LessEqual
compare_test compare.Greater = Greater
compare_test compare.GreaterEqual = GreaterEqual

abbrev pub function_as : Func → Function
function_as func.Count = Count
function_as func.Sum = Sum
function_as func.Min = Min
function_as func.Max = Max
function_as func.Lower = Lower
function_as func.Upper = Upper
function_as func.Length = Length
function_as func.Coalesce = Coalesce

abbrev pub arith_tree : ArithOp → Sql → Sql → Sql
arith_tree Add a b = sum Plus a b
arith_tree Sub a b = sum Minus a b
arith_tree Mul a b = product a b

-- `||` is a function in MySQL
abbrev pub concat_tree : Dialect → Sql → Sql → Sql
concat_tree Sqlite a b = sum Beside a b
concat_tree Postgresql a b = sum Beside a b
concat_tree Mysql a b = call Concat (more a (more b none))

-- `like` of two lowered texts, but in PostgreSQL
abbrev pub lower_like : Bool → Sql → Sql → Sql
lower_like negated a b = test (Like negated) (call Lower (more a none)) (call Lower (more b none))

abbrev pub ilike_tree : Dialect → Bool → Sql → Sql → Sql
ilike_tree Sqlite negated a b = lower_like negated a b
ilike_tree Postgresql negated a b = test (Ilike negated) a b
ilike_tree Mysql negated a b = lower_like negated a b

-- MySQL has the negated form alone
abbrev pub distinct_tree : Dialect → Bool → Sql → Sql → Sql
distinct_tree Sqlite negated a b = test (Distinct negated) a b
distinct_tree Postgresql negated a b = test (Distinct negated) a b
distinct_tree Mysql false a b = opposite (test (Distinct true) a b)
distinct_tree Mysql true a b = test (Distinct true) a b

abbrev pub exists_tree : Bool → Sql → Sql
exists_tree false a = a
exists_tree true a = opposite a

abbrev pub source_tree : Catalog → Origin → Source
source_tree schema origin = record { table = (spec_of schema origin.table).name; alias = origin.alias }

-- one level, whose operands are trees under the sources in scope
abbrev pub tree_at : Dialect → Catalog → Expr-F (List Origin → Sql) → List Origin → Sql
tree_at q schema (Expr-F.Column source c) scope = column (source_shown schema (slice_get scope source)) (column_shown schema (slice_get scope source) c)
tree_at q schema (Expr-F.Lit v) scope = mark v
tree_at q schema (Expr-F.Compare op a b) scope = test (compare_test op) (a scope) (b scope)
tree_at q schema (Expr-F.IsNull negated a) scope = null_test negated (a scope)
tree_at q schema (Expr-F.And operands) scope = all_of (trees (map (λ a. a scope) operands))
tree_at q schema (Expr-F.Or operands) scope = any_of (trees (map (λ a. a scope) operands))
tree_at q schema (Expr-F.Not a) scope = opposite (a scope)
tree_at q schema (Expr-F.Arith op a b) scope = arith_tree op (a scope) (b scope)
tree_at q schema (Expr-F.Neg a) scope = negative (a scope)
tree_at q schema (Expr-F.Concat a b) scope = concat_tree q (a scope) (b scope)
tree_at q schema (Expr-F.Like negated a b) scope = test (Like negated) (a scope) (b scope)
tree_at q schema (Expr-F.Ilike negated a b) scope = ilike_tree q negated (a scope) (b scope)
tree_at q schema (Expr-F.InList negated a values) scope = in_list negated (a scope) values
tree_at q schema (Expr-F.Between negated a low high) scope = between negated (a scope) (low scope) (high scope)
tree_at q schema (Expr-F.Distinct negated a b) scope = distinct_tree q negated (a scope) (b scope)
tree_at q schema (Expr-F.Call function operands) scope = call (function_as function) (trees (map (λ a. a scope) operands))
tree_at q schema Expr-F.CountAll scope = count_all
tree_at q schema (Expr-F.Exists negated origin condition) scope = exists_tree negated (exists (source_tree schema origin) (condition (scope ++ origin ∷ [])))

-- an expression's tree under the sources in scope
unfoldable pub tree : Dialect → Catalog → Expr → List Origin → Sql
tree q schema = fold-Expr (List Origin → Sql) (tree_at q schema)
