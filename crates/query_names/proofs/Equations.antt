-- What the levels that have lists of operands say.
use Rattle.std.proofs.Common.{◌≡◌, Bool, List, map, Ok, ap}
use Rattle.base_core.specs.declared.value.Value.{Value}
use Rattle.base_core.specs.declared.value.ArithOp.{ArithOp}
use Rattle.expr_types.specs.declared.expr.CompareOp.{CompareOp}
use Rattle.expr_types.specs.declared.expr.Expr.TheVariants as expr
use Rattle.expr_types.specs.declared.expr.Func.{Func}
use Rattle.sql_semantics.specs.Checked.{◌>>=◌}
use Rattle.class_mapping.specs.Mapped.{Mapped}
use Rattle.script_types.specs.declared.expression.Syn.{Syn}
use Rattle.script_types.specs.declared.expression.Syn.TheVariants as syn
use Rattle.script_types.specs.declared.expression.SynSource.{SynSource}
use Rattle.script_names.proofs.Folds.{fold-And, fold-Arith, fold-Between, fold-Call, fold-Compare, fold-Concat, fold-Distinct, fold-Exists, fold-Ilike, fold-InList, fold-IsNull, fold-Like, fold-Neg, fold-Not, fold-Or}
use Rattle.query_names.specs.declared.scope.QueryScope.{QueryScope}
use Rattle.query_names.specs.Expressions.{Said, all_of, called, exists_said, expression_said, said_level, three, two}

pub said_and : (mapped : Mapped) (es : List Syn) (scope : QueryScope) → expression_said mapped (syn.And es) scope ≡ (all_of (map (expression_said mapped) es) scope >>= λ es. Ok (expr.And es))
unfolding expression_said
said_and mapped es scope = ap (λ (f : Said). f scope) (fold-And Said (said_level mapped) es)

pub said_or : (mapped : Mapped) (es : List Syn) (scope : QueryScope) → expression_said mapped (syn.Or es) scope ≡ (all_of (map (expression_said mapped) es) scope >>= λ es. Ok (expr.Or es))
unfolding expression_said
said_or mapped es scope = ap (λ (f : Said). f scope) (fold-Or Said (said_level mapped) es)

pub said_call : (mapped : Mapped) (f : Func) (es : List Syn) (scope : QueryScope) → expression_said mapped (syn.Call f es) scope ≡ (all_of (map (expression_said mapped) es) scope >>= called f)
unfolding expression_said
said_call mapped f es scope = ap (λ (g : Said). g scope) (fold-Call Said (said_level mapped) f es)

pub ruleset of_lists = (said_and, said_or, said_call)

-- ---- the other levels

pub said_compare : (mapped : Mapped) (op : CompareOp) (a b : Syn) (scope : QueryScope) → expression_said mapped (syn.Compare op a b) scope ≡ (two (expression_said mapped a) (expression_said mapped b) scope >>= λ it. Ok (expr.Compare op it.0 it.1))
unfolding expression_said
said_compare mapped op a b scope = ap (λ (f : Said). f scope) (fold-Compare Said (said_level mapped) op a b)

pub said_like : (mapped : Mapped) (negated : Bool) (a b : Syn) (scope : QueryScope) → expression_said mapped (syn.Like negated a b) scope ≡ (two (expression_said mapped a) (expression_said mapped b) scope >>= λ it. Ok (expr.Like negated it.0 it.1))
unfolding expression_said
said_like mapped negated a b scope = ap (λ (f : Said). f scope) (fold-Like Said (said_level mapped) negated a b)

pub said_ilike : (mapped : Mapped) (negated : Bool) (a b : Syn) (scope : QueryScope) → expression_said mapped (syn.Ilike negated a b) scope ≡ (two (expression_said mapped a) (expression_said mapped b) scope >>= λ it. Ok (expr.Ilike negated it.0 it.1))
unfolding expression_said
said_ilike mapped negated a b scope = ap (λ (f : Said). f scope) (fold-Ilike Said (said_level mapped) negated a b)

pub said_distinct : (mapped : Mapped) (negated : Bool) (a b : Syn) (scope : QueryScope) → expression_said mapped (syn.Distinct negated a b) scope ≡ (two (expression_said mapped a) (expression_said mapped b) scope >>= λ it. Ok (expr.Distinct negated it.0 it.1))
unfolding expression_said
said_distinct mapped negated a b scope = ap (λ (f : Said). f scope) (fold-Distinct Said (said_level mapped) negated a b)

pub said_arith : (mapped : Mapped) (op : ArithOp) (a b : Syn) (scope : QueryScope) → expression_said mapped (syn.Arith op a b) scope ≡ (two (expression_said mapped a) (expression_said mapped b) scope >>= λ it. Ok (expr.Arith op it.0 it.1))
unfolding expression_said
said_arith mapped op a b scope = ap (λ (f : Said). f scope) (fold-Arith Said (said_level mapped) op a b)

pub said_concat : (mapped : Mapped) (a b : Syn) (scope : QueryScope) → expression_said mapped (syn.Concat a b) scope ≡ (two (expression_said mapped a) (expression_said mapped b) scope >>= λ it. Ok (expr.Concat it.0 it.1))
unfolding expression_said
said_concat mapped a b scope = ap (λ (f : Said). f scope) (fold-Concat Said (said_level mapped) a b)

pub said_between : (mapped : Mapped) (negated : Bool) (a low high : Syn) (scope : QueryScope) → expression_said mapped (syn.Between negated a low high) scope ≡ (three (expression_said mapped a) (expression_said mapped low) (expression_said mapped high) scope >>= λ it. Ok (expr.Between negated it.0 it.1.0 it.1.1))
unfolding expression_said
said_between mapped negated a low high scope = ap (λ (f : Said). f scope) (fold-Between Said (said_level mapped) negated a low high)

pub said_is_null : (mapped : Mapped) (negated : Bool) (a : Syn) (scope : QueryScope) → expression_said mapped (syn.IsNull negated a) scope ≡ (expression_said mapped a scope >>= λ e. Ok (expr.IsNull negated e))
unfolding expression_said
said_is_null mapped negated a scope = ap (λ (f : Said). f scope) (fold-IsNull Said (said_level mapped) negated a)

pub said_in_list : (mapped : Mapped) (negated : Bool) (a : Syn) (values : List Value) (scope : QueryScope) → expression_said mapped (syn.InList negated a values) scope ≡ (expression_said mapped a scope >>= λ e. Ok (expr.InList negated e values))
unfolding expression_said
said_in_list mapped negated a values scope = ap (λ (f : Said). f scope) (fold-InList Said (said_level mapped) negated a values)

pub said_not : (mapped : Mapped) (a : Syn) (scope : QueryScope) → expression_said mapped (syn.Not a) scope ≡ (expression_said mapped a scope >>= λ e. Ok (expr.Not e))
unfolding expression_said
said_not mapped a scope = ap (λ (f : Said). f scope) (fold-Not Said (said_level mapped) a)

pub said_neg : (mapped : Mapped) (a : Syn) (scope : QueryScope) → expression_said mapped (syn.Neg a) scope ≡ (expression_said mapped a scope >>= λ e. Ok (expr.Neg e))
unfolding expression_said
said_neg mapped a scope = ap (λ (f : Said). f scope) (fold-Neg Said (said_level mapped) a)

pub said_exists : (mapped : Mapped) (source : SynSource) (condition : Syn) (scope : QueryScope) → expression_said mapped (syn.Exists source condition) scope ≡ exists_said mapped.schema source (expression_said mapped condition) scope
unfolding expression_said
said_exists mapped source condition scope = ap (λ (f : Said). f scope) (fold-Exists Said (said_level mapped) source condition)
