-- One level of an expression: its operands, and tests that hold at every level.
use Rattle.std.specs.Prelude.{Bool, true, false, ◌&&◌, ◌||◌, List, [], ◌∷◌}
use Rattle.std.specs.List.{list_all, list_any}
use Rattle.expr_types.specs.declared.expr.Expr.{Expr}
use Rattle.expr_types.specs.declared.expr.Expr.TheOpen.{Expr-F}
use Rattle.expr_types.specs.declared.expr.Expr.TheFolds.{fold-Expr}
use Rattle.expr_types.specs.declared.expr.Func.{Func}
use Rattle.expr_types.specs.declared.expr.Func.TheVariants.{Count, Sum, Min, Max, Lower, Upper, Length, Coalesce}
use Rattle.expr_types.specs.declared.expr.Origin.{Origin}

-- the operands, from left to right
abbrev pub operands : {A : Type 0} → Expr-F A → List A
operands (Expr-F.Column source column) = []
operands (Expr-F.Lit value) = []
operands (Expr-F.Compare op a b) = a ∷ b ∷ []
operands (Expr-F.IsNull negated a) = a ∷ []
operands (Expr-F.And parts) = parts
operands (Expr-F.Or parts) = parts
operands (Expr-F.Not a) = a ∷ []
operands (Expr-F.Arith op a b) = a ∷ b ∷ []
operands (Expr-F.Neg a) = a ∷ []
operands (Expr-F.Concat a b) = a ∷ b ∷ []
operands (Expr-F.Like negated a b) = a ∷ b ∷ []
operands (Expr-F.Ilike negated a b) = a ∷ b ∷ []
operands (Expr-F.InList negated a values) = a ∷ []
operands (Expr-F.Between negated a low high) = a ∷ low ∷ high ∷ []
operands (Expr-F.Distinct negated a b) = a ∷ b ∷ []
operands (Expr-F.Call function arguments) = arguments
operands Expr-F.CountAll = []
operands (Expr-F.Exists negated origin condition) = condition ∷ []

-- what stands for the scope of the operands: an `exists` adds its source
abbrev pub scope_below : {A S : Type 0} → (S → Origin → S) → S → Expr-F A → S
scope_below enter scope (Expr-F.Exists negated origin condition) = enter scope origin
scope_below enter scope level = scope

-- the test holds at every level, each in its scope
abbrev pub everywhere : {S : Type 0} → (S → Origin → S) → (S → Expr-F (S → Bool) → Bool) → Expr → S → Bool
everywhere {S} enter test = fold-Expr (S → Bool) (λ level scope. test scope level && list_all (λ holds. holds (scope_below enter scope level)) (operands level))

abbrev pub is_aggregate_function : Func → Bool
is_aggregate_function Count = true
is_aggregate_function Sum = true
is_aggregate_function Min = true
is_aggregate_function Max = true
is_aggregate_function Lower = false
is_aggregate_function Upper = false
is_aggregate_function Length = false
is_aggregate_function Coalesce = false

abbrev pub is_aggregate : {A : Type 0} → Expr-F A → Bool
is_aggregate Expr-F.CountAll = true
is_aggregate (Expr-F.Call function arguments) = is_aggregate_function function
is_aggregate level = false

-- one level, by what was found of its operands
abbrev pub aggregate_level : Expr-F Bool → Bool
aggregate_level level = is_aggregate level || list_any (λ has. has) (operands level)

-- an aggregate stands in the expression
unfoldable pub has_aggregate : Expr → Bool
has_aggregate = fold-Expr Bool aggregate_level
