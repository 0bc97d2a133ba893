-- Expressions whose value may differ from row to row, or from group to group.
use Rattle.std.specs.Prelude.{Bool, true, ◌||◌}
use Rattle.std.specs.List.{list_any}
use Rattle.expr_types.specs.declared.expr.Expr.{Expr}
use Rattle.expr_types.specs.declared.expr.Expr.TheOpen.{Expr-F}
use Rattle.expr_types.specs.declared.expr.Expr.TheFolds.{fold-Expr}
use Rattle.expr_types.specs.Level.{is_aggregate, operands}

-- a level that reads rows itself: a column, an aggregate or an `exists`
abbrev pub is_reading : {A : Type 0} → Expr-F A → Bool
is_reading (Expr-F.Column source column) = true
is_reading (Expr-F.Exists negated origin condition) = true
is_reading level = is_aggregate level

-- one level, by what was found of its operands
abbrev pub reading_level : Expr-F Bool → Bool
reading_level level = is_reading level || list_any (λ reads. reads) (operands level)

-- some level reads rows; the value of every other expression is the same in all rows and groups
unfoldable pub reads_rows : Expr → Bool
reads_rows = fold-Expr Bool reading_level
