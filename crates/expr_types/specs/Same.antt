-- A test whether two expressions are one.
use Rattle.std.specs.Prelude.{ℕ, Bool, true, false, not, ◌&&◌, ◌==◌, if◌then◌else◌, List, [], ◌∷◌, Option, Some, None}
use Rattle.std.specs.Cmp.Lexicographic.{pointwise}
use Rattle.base_core.specs.declared.value.Value.{Value}
use Rattle.base_core.specs.declared.value.ArithOp.{ArithOp}
use Rattle.base_core.specs.declared.value.ArithOp.TheVariants.{Add, Sub, Mul}
use Rattle.base_core.specs.Order.{same_value}
use Rattle.schema_core.specs.Catalog.{same_name}
use Rattle.expr_types.specs.declared.expr.Expr.{Expr, out-Expr}
use Rattle.expr_types.specs.declared.expr.Expr.TheOpen.{Expr-F}
use Rattle.expr_types.specs.declared.expr.Expr.TheFolds.{fold-Expr}
use Rattle.expr_types.specs.declared.expr.CompareOp.{CompareOp}
use Rattle.expr_types.specs.declared.expr.CompareOp.TheVariants.{Equal, NotEqual, Less, LessEqual, Greater, GreaterEqual}
use Rattle.expr_types.specs.declared.expr.Func.{Func}
use Rattle.expr_types.specs.declared.expr.Func.TheVariants.{Count, Sum, Min, Max, Lower, Upper, Length, Coalesce}
use Rattle.expr_types.specs.declared.expr.Origin.{Origin}

abbrev pub compare_place : CompareOp → ℕ
compare_place Equal = 0
compare_place NotEqual = 1
compare_place Less = 2
compare_place LessEqual = 3
compare_place Greater = 4
compare_place GreaterEqual = 5

abbrev pub function_place : Func → ℕ
function_place Count = 0
function_place Sum = 1
function_place Min = 2
function_place Max = 3
function_place Lower = 4
function_place Upper = 5
function_place Length = 6
function_place Coalesce = 7

abbrev pub arith_place : ArithOp → ℕ
arith_place Add = 0
arith_place Sub = 1
arith_place Mul = 2

abbrev pub same_bool : Bool → Bool → Bool
same_bool a b = if a then b else not b

abbrev pub same_alias : Option (List ℕ) → Option (List ℕ) → Bool
same_alias None None = true
same_alias (Some a) (Some b) = same_name a b
same_alias a b = false

abbrev pub same_origin : Origin → Origin → Bool
same_origin a b = (a.table.0 == b.table.0) && same_alias a.alias b.alias

-- each test on the left takes the expression at its place on the right
abbrev pub same_all : List (Expr → Bool) → List Expr → Bool
same_all [] [] = true
same_all (test ∷ tests) (e ∷ es) = test e && same_all tests es
same_all tests es = false

-- levels with the same operator, and each operand the same
abbrev pub same_level : Expr-F (Expr → Bool) → Expr-F Expr → Bool
same_level (Expr-F.Column s c) (Expr-F.Column t d) = (s == t) && (c.0 == d.0)
same_level (Expr-F.Lit v) (Expr-F.Lit w) = same_value v w
same_level (Expr-F.Compare o a b) (Expr-F.Compare p c d) = (compare_place o == compare_place p) && a c && b d
same_level (Expr-F.IsNull m a) (Expr-F.IsNull n c) = same_bool m n && a c
same_level (Expr-F.And xs) (Expr-F.And ys) = same_all xs ys
same_level (Expr-F.Or xs) (Expr-F.Or ys) = same_all xs ys
same_level (Expr-F.Not a) (Expr-F.Not c) = a c
same_level (Expr-F.Arith o a b) (Expr-F.Arith p c d) = (arith_place o == arith_place p) && a c && b d
same_level (Expr-F.Neg a) (Expr-F.Neg c) = a c
same_level (Expr-F.Concat a b) (Expr-F.Concat c d) = a c && b d
same_level (Expr-F.Like m a b) (Expr-F.Like n c d) = same_bool m n && a c && b d
same_level (Expr-F.Ilike m a b) (Expr-F.Ilike n c d) = same_bool m n && a c && b d
same_level (Expr-F.InList m a vs) (Expr-F.InList n c ws) = same_bool m n && a c && pointwise same_value vs ws
same_level (Expr-F.Between m a b x) (Expr-F.Between n c d y) = same_bool m n && a c && b d && x y
same_level (Expr-F.Distinct m a b) (Expr-F.Distinct n c d) = same_bool m n && a c && b d
same_level (Expr-F.Call f xs) (Expr-F.Call g ys) = (function_place f == function_place g) && same_all xs ys
same_level Expr-F.CountAll Expr-F.CountAll = true
same_level (Expr-F.Exists m o a) (Expr-F.Exists n p c) = same_bool m n && same_origin o p && a c
same_level one other = false

unfoldable pub same : Expr → Expr → Bool
same = fold-Expr (Expr → Bool) (λ level other. same_level level (out-Expr other))
