use Rattle.std.proofs.Common.{◌≡◌, ◌+◌, ◌*◌, ◌++◌, max, map, drop, Ok}
use Rattle.script_types.specs.declared.expression.Syn.{size-Syn}
use Rattle.sql_semantics.specs.Checked.{◌>>=◌}
use Rattle.query_names.specs.Expressions.{all_of, expression_said}
use Rattle.query_names.proofs.expressions.+names.Given as goal

-- what was taken is said, and the rest behind it
abbrev pub invariant-all-loop-operand : goal.invariant-all-loop-operand
invariant-all-loop-operand l =
    (all_of (map (expression_said l.mapping) (drop l.operand-index l.operands)) l.scope >>= λ more. Ok (l.named ++ more))
    ≡ all_of (map (expression_said l.mapping) l.operands) l.scope

abbrev pub decreases-expression_named : goal.decreases-expression_named
decreases-expression_named l = 4 * goal.size-expression_named l

abbrev pub decreases-one : goal.decreases-one
decreases-one l = 4 * goal.size-one l + 1

abbrev pub decreases-two : goal.decreases-two
decreases-two l = 4 * max (size-Syn l.a.now) (size-Syn l.b.now) + 2

abbrev pub decreases-three : goal.decreases-three
decreases-three l = 4 * max (size-Syn l.a.now) (max (size-Syn l.b.now) (size-Syn l.c.now)) + 3

abbrev pub decreases-all : goal.decreases-all
decreases-all l = 4 * goal.size-all l + 1

abbrev pub decreases-exists : goal.decreases-exists
decreases-exists l = 4 * goal.size-exists l + 2
