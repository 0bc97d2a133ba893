-- The normal form of an expression: no `not` over what has an opposite, lists of `and` and `or` without lists of their own kind in them,
-- and `ilike` for `like` of two lowered texts.
use Rattle.std.specs.Prelude.{Bool, not, List, [], ◌∷◌, ◌++◌, Option, Some, None}
use Rattle.expr_types.specs.declared.expr.Expr.{Expr, out-Expr, roll-Expr}
use Rattle.expr_types.specs.declared.expr.Expr.TheOpen.{Expr-F}
use Rattle.expr_types.specs.declared.expr.Expr.TheFolds.{fold-Expr}
use Rattle.expr_types.specs.declared.expr.Expr.TheVariants as expr
use Rattle.expr_types.specs.declared.expr.CompareOp.{CompareOp}
use Rattle.expr_types.specs.declared.expr.CompareOp.TheVariants.{Equal, NotEqual, Less, LessEqual, Greater, GreaterEqual}
use Rattle.expr_types.specs.declared.expr.Func.{Func}
use Rattle.expr_types.specs.declared.expr.Func.TheVariants.{Lower}

abbrev pub opposite : CompareOp → CompareOp
opposite Equal = NotEqual
opposite NotEqual = Equal
opposite Less = GreaterEqual
opposite LessEqual = Greater
opposite Greater = LessEqual
opposite GreaterEqual = Less

abbrev pub negation_of_level : Expr → Expr-F Expr → Expr
negation_of_level e (Expr-F.Compare op a b) = expr.Compare (opposite op) a b
negation_of_level e (Expr-F.IsNull negated a) = expr.IsNull (not negated) a
negation_of_level e (Expr-F.Not a) = a
negation_of_level e (Expr-F.Like negated a b) = expr.Like (not negated) a b
negation_of_level e (Expr-F.Ilike negated a b) = expr.Ilike (not negated) a b
negation_of_level e (Expr-F.InList negated a values) = expr.InList (not negated) a values
negation_of_level e (Expr-F.Between negated a low high) = expr.Between (not negated) a low high
negation_of_level e (Expr-F.Distinct negated a b) = expr.Distinct (not negated) a b
negation_of_level e (Expr-F.Exists negated origin condition) = expr.Exists (not negated) origin condition
negation_of_level e level = expr.Not e

-- the opposite of an expression in normal form
unfoldable pub negation_of : Expr → Expr
negation_of e = negation_of_level e (out-Expr e)

abbrev pub and_parts_at : Expr → Expr-F Expr → List Expr
and_parts_at e (Expr-F.And parts) = parts
and_parts_at e level = e ∷ []

-- the parts that an operand of `and` gives
unfoldable pub and_parts : Expr → List Expr
and_parts e = and_parts_at e (out-Expr e)

abbrev pub or_parts_at : Expr → Expr-F Expr → List Expr
or_parts_at e (Expr-F.Or parts) = parts
or_parts_at e level = e ∷ []

-- the parts that an operand of `or` gives
unfoldable pub or_parts : Expr → List Expr
or_parts e = or_parts_at e (out-Expr e)

-- the parts of all operands, in order
abbrev pub joined_parts : (Expr → List Expr) → List Expr → List Expr
joined_parts parts [] = []
joined_parts parts (e ∷ es) = parts e ++ joined_parts parts es

abbrev pub lower_argument_by : Func → List Expr → Option Expr
lower_argument_by Lower (text ∷ []) = Some text
lower_argument_by function arguments = None

abbrev pub lower_argument_at : Expr-F Expr → Option Expr
lower_argument_at (Expr-F.Call function arguments) = lower_argument_by function arguments
lower_argument_at level = None

-- the text that the expression lowers
unfoldable pub lower_argument : Expr → Option Expr
lower_argument e = lower_argument_at (out-Expr e)

abbrev pub like_by : Bool → Expr → Expr → Option Expr → Option Expr → Expr
like_by negated a b (Some x) (Some y) = expr.Ilike negated x y
like_by negated a b x y = expr.Like negated a b

-- `a like b`, of operands in normal form
unfoldable pub normal_like : Bool → Expr → Expr → Expr
normal_like negated a b = like_by negated a b (lower_argument a) (lower_argument b)

-- a level whose operands are in normal form
abbrev pub normal_level : Expr-F Expr → Expr
normal_level (Expr-F.And parts) = expr.And (joined_parts and_parts parts)
normal_level (Expr-F.Or parts) = expr.Or (joined_parts or_parts parts)
normal_level (Expr-F.Not a) = negation_of a
normal_level (Expr-F.Like negated a b) = normal_like negated a b
normal_level level = roll-Expr level

-- the normal form
unfoldable pub normal : Expr → Expr
normal = fold-Expr Expr normal_level
