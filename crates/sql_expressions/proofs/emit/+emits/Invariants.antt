use Rattle.std.proofs.Common.{◌≡◌, true, ◌+◌, ◌*◌, max, map, drop}
use Rattle.expr_types.specs.declared.expr.Expr.{size-Expr}
use Rattle.sql_expressions.specs.Laid.{laid, part}
use Rattle.sql_text.specs.Pages.{put_on}
use Rattle.sql_text.specs.Written.{with_leading_separators}
use Rattle.sql_expressions.proofs.emit.+emits.Given as goal

abbrev pub invariant-more_parts-loop-operand : goal.invariant-more_parts-loop-operand
invariant-more_parts-loop-operand l =
    l.page.is_whole ≡ true → (l.page.written.dialect ≡ l.initial.page.written.dialect)
    × (put_on l.page (with_leading_separators l.word (part l.least l.scope) (map (laid l.initial.page.written.dialect l.schema) (drop l.operand-index l.operands)))
    ≡ put_on l.initial.page (with_leading_separators l.word (part l.least l.scope) (map (laid l.initial.page.written.dialect l.schema) l.operands)))

abbrev pub decreases-expression : goal.decreases-expression
decreases-expression l = 8 * goal.size-expression l

abbrev pub decreases-under : goal.decreases-under
decreases-under l = 8 * goal.size-under l + 1

abbrev pub decreases-two : goal.decreases-two
decreases-two l = 8 * max (size-Expr l.a.now) (size-Expr l.b.now) + 2

abbrev pub decreases-enclosed : goal.decreases-enclosed
decreases-enclosed l = 8 * max (size-Expr l.a.now) (size-Expr l.b.now) + 3

abbrev pub decreases-arith : goal.decreases-arith
decreases-arith l = 8 * max (size-Expr l.a.now) (size-Expr l.b.now) + 4

abbrev pub decreases-concat : goal.decreases-concat
decreases-concat l = 8 * max (size-Expr l.a.now) (size-Expr l.b.now) + 4

abbrev pub decreases-ilike : goal.decreases-ilike
decreases-ilike l = 8 * max (size-Expr l.a.now) (size-Expr l.b.now) + 4

abbrev pub decreases-distinct : goal.decreases-distinct
decreases-distinct l = 8 * max (size-Expr l.a.now) (size-Expr l.b.now) + 4

abbrev pub decreases-in_list : goal.decreases-in_list
decreases-in_list l = 8 * size-Expr l.a.now + 4

abbrev pub decreases-no_list : goal.decreases-no_list
decreases-no_list l = 8 * size-Expr l.a.now + 3

abbrev pub decreases-full_list : goal.decreases-full_list
decreases-full_list l = 8 * size-Expr l.a.now + 3

abbrev pub decreases-behind : goal.decreases-behind
decreases-behind l = 8 * size-Expr l.a.now + 3

abbrev pub decreases-before : goal.decreases-before
decreases-before l = 8 * size-Expr l.a.now + 3

abbrev pub decreases-between : goal.decreases-between
decreases-between l = 8 * max (size-Expr l.a.now) (max (size-Expr l.low.now) (size-Expr l.high.now)) + 4

abbrev pub decreases-more_parts : goal.decreases-more_parts
decreases-more_parts l = 8 * goal.size-more_parts l + 3

abbrev pub decreases-parts : goal.decreases-parts
decreases-parts l = 8 * goal.size-parts l + 4

abbrev pub decreases-call : goal.decreases-call
decreases-call l = 8 * goal.size-call l + 5

abbrev pub decreases-exists : goal.decreases-exists
decreases-exists l = 8 * size-Expr l.condition.now + 4

abbrev pub decreases-part : goal.decreases-part
decreases-part l = 8 * goal.size-part l + 2
