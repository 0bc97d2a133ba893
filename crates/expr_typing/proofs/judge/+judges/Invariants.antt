use Rattle.std.proofs.Common.{◌≡◌, ◌+◌, ◌*◌, max, map, drop}
use Rattle.expr_types.specs.declared.expr.Expr.{size-Expr}
use Rattle.sql_semantics.specs.Kinds.{expression_kind, in_scope, all_of}
use Rattle.expr_typing.proofs.judge.+judges.Given as goal

abbrev pub invariant-all-loop-operand : goal.invariant-all-loop-operand
invariant-all-loop-operand l =
    all_of l.wanted (in_scope l.scope (map (expression_kind l.schema) (drop l.operand-index l.operands))) ≡ all_of l.wanted (in_scope l.scope (map (expression_kind l.schema) l.operands))

abbrev pub decreases-judge : goal.decreases-judge
decreases-judge l = 4 * goal.size-judge l

abbrev pub decreases-one : goal.decreases-one
decreases-one l = 4 * goal.size-one l + 1

abbrev pub decreases-two : goal.decreases-two
decreases-two l = 4 * max (size-Expr l.a.now) (size-Expr l.b.now) + 2

abbrev pub decreases-alike : goal.decreases-alike
decreases-alike l = 4 * max (size-Expr l.a.now) (size-Expr l.b.now) + 2

abbrev pub decreases-all : goal.decreases-all
decreases-all l = 4 * goal.size-all l + 1

abbrev pub decreases-first_kind : goal.decreases-first_kind
decreases-first_kind l = 4 * goal.size-first_kind l + 2

abbrev pub decreases-called : goal.decreases-called
decreases-called l = 4 * goal.size-called l + 3
