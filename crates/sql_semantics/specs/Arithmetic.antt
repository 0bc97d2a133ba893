-- Which expressions calculate.
use Rattle.std.specs.Prelude.{Bool, true, false, ◌||◌}
use Rattle.std.specs.List.{list_any}
use Rattle.expr_types.specs.declared.expr.Expr.{Expr}
use Rattle.expr_types.specs.declared.expr.Expr.TheOpen.{Expr-F}
use Rattle.expr_types.specs.declared.expr.Expr.TheFolds.{fold-Expr}
use Rattle.expr_types.specs.declared.expr.Func.{Func}
use Rattle.expr_types.specs.declared.expr.Func.TheVariants.{Count, Sum, Min, Max, Lower, Upper, Length, Coalesce}
use Rattle.expr_types.specs.Level.{operands}

abbrev pub is_sum : Func → Bool
is_sum Count = false
is_sum Sum = true
is_sum Min = false
is_sum Max = false
is_sum Lower = false
is_sum Upper = false
is_sum Length = false
is_sum Coalesce = false

-- an operator, a minus, or a sum
abbrev pub is_arithmetic : {A : Type 0} → Expr-F A → Bool
is_arithmetic (Expr-F.Arith op a b) = true
is_arithmetic (Expr-F.Neg a) = true
is_arithmetic (Expr-F.Call function arguments) = is_sum function
is_arithmetic level = false

-- one level, by what was found of its operands
abbrev pub arithmetic_level : Expr-F Bool → Bool
arithmetic_level level = is_arithmetic level || list_any (λ has. has) (operands level)

-- an operator, a minus or a sum stands in the expression
unfoldable pub has_arithmetic : Expr → Bool
has_arithmetic = fold-Expr Bool arithmetic_level
