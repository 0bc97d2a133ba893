-- Expressions under more sources.
use Rattle.std.specs.Prelude.{ℕ, ◌+◌, nat_lt, if◌then◌else◌}
use Rattle.expr_types.specs.declared.expr.Expr.{Expr, roll-Expr}
use Rattle.expr_types.specs.declared.expr.Expr.TheOpen.{Expr-F}
use Rattle.expr_types.specs.declared.expr.Expr.TheFolds.{fold-Expr}
use Rattle.expr_types.specs.declared.expr.Expr.TheVariants as expr

-- the place of a source: those of an `exists` stand behind all others
abbrev pub shifted_place : ℕ → ℕ → ℕ → ℕ
shifted_place own more source = if nat_lt source own then source else (source + more)

abbrev pub shift_level : ℕ → ℕ → Expr-F Expr → Expr
shift_level own more (Expr-F.Column source column) = expr.Column (shifted_place own more source) column
shift_level own more level = roll-Expr level

-- the expression of a select with so many sources of its own, under so many more
unfoldable pub shifted : ℕ → ℕ → Expr → Expr
shifted own more = fold-Expr Expr (shift_level own more)
