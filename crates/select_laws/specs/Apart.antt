-- What stands inside an `exists`.
use Rattle.std.specs.Prelude.{ℕ, nat_lt, Bool, true, false, not, ◌&&◌, ◌||◌}
use Rattle.std.specs.List.{list_all}
use Rattle.expr_types.specs.declared.expr.Expr.{Expr}
use Rattle.expr_types.specs.declared.expr.Expr.TheOpen.{Expr-F}
use Rattle.expr_types.specs.declared.expr.Expr.TheFolds.{fold-Expr}
use Rattle.expr_types.specs.Level.{is_aggregate, operands, scope_below}

-- a column of the first so many sources
abbrev pub is_outer : {A : Type 0} → ℕ → Expr-F A → Bool
is_outer outer (Expr-F.Column source column) = nat_lt source outer
is_outer outer level = false

-- one level: where it is not free it is no aggregate and no column of these sources
abbrev pub may_be : {A : Type 0} → ℕ → Bool → Expr-F A → Bool
may_be outer free level = free || not (is_aggregate level || is_outer outer level)

-- one level and, but for the operands of an aggregate, those below it, of which those inside an `exists` are not free
abbrev pub apart_level : ℕ → Expr-F (Bool → Bool) → Bool → Bool
apart_level outer level free = may_be outer free level && (is_aggregate level || list_all (λ holds. holds (scope_below (λ _ origin. false) free level)) (operands level))

unfoldable pub stands_apart : ℕ → Expr → Bool → Bool
stands_apart outer = fold-Expr (Bool → Bool) (apart_level outer)

-- but in the operands of aggregates, no aggregate stands inside an `exists`
abbrev pub aggregates_apart : Expr → Bool
aggregates_apart e = stands_apart 0 e true

-- but in the operands of aggregates, no aggregate and no column of the first so many sources stands inside an `exists`
abbrev pub group_apart : ℕ → Expr → Bool
group_apart outer e = stands_apart outer e true
