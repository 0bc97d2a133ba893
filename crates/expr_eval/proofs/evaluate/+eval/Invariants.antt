use Rattle.std.proofs.Common.{◌≡◌, [], ◌∷◌, ◌++◌, false, length, map, drop, ◌+◌, ◌*◌, max}
use Rattle.expr_types.specs.declared.expr.Expr.{size-Expr}
use Rattle.sql_semantics.specs.Eval as spec
use Rattle.sql_semantics.specs.Eval.{meaning_of}
use Rattle.expr_eval.specs.Place.{place_of}
use Rattle.table_rows.specs.Walks.{rows_left}
use Rattle.expr_eval.proofs.evaluate.+eval.Given as goal

abbrev pub invariant-several-loop-part : goal.invariant-several-loop-part
invariant-several-loop-part l = spec.all_from (place_of l.scope) l.values.items (map meaning_of (drop l.part-index l.part-items)) ≡ spec.all_from (place_of l.scope) [] (map meaning_of l.parts)

abbrev pub invariant-along-loop-row : goal.invariant-along-loop-row
invariant-along-loop-row l = spec.along_from (spec.without_group (place_of l.scope)) (meaning_of l.operand) l.values.items (drop l.row-index l.rows) ≡ spec.along_from (spec.without_group (place_of l.scope)) (meaning_of l.operand) [] l.rows

abbrev pub invariant-some_row-loop-row : goal.invariant-some_row-loop-row
invariant-some_row-loop-row l = (spec.some_from (place_of l.scope) (meaning_of l.condition) l.found (rows_left l.left) ≡ spec.some_from (place_of l.scope) (meaning_of l.condition) false (rows_left l.fn.rows)) × (l.starts.items ≡ l.scope.starts.now ++ length l.scope.row.now ∷ [])

abbrev pub decreases-some_row-loop-row : goal.decreases-some_row-loop-row
decreases-some_row-loop-row l = length (rows_left l.left)

abbrev pub decreases-value_in : goal.decreases-value_in
decreases-value_in l = 5 * goal.size-value_in l

abbrev pub decreases-both : goal.decreases-both
decreases-both l = 5 * max (size-Expr l.a.now) (size-Expr l.b.now) + 1

abbrev pub decreases-several : goal.decreases-several
decreases-several l = 5 * goal.size-several l + 1

abbrev pub decreases-called : goal.decreases-called
decreases-called l = 5 * goal.size-called l + 4

abbrev pub decreases-gathered : goal.decreases-gathered
decreases-gathered l = 5 * goal.size-gathered l + 3

abbrev pub decreases-along : goal.decreases-along
decreases-along l = 5 * goal.size-along l + 1

abbrev pub decreases-some_row : goal.decreases-some_row
decreases-some_row l = 5 * goal.size-some_row l + 1

abbrev pub decreases-over : goal.decreases-over
decreases-over l = 5 * goal.size-over l + 2

abbrev pub decreases-comparison : goal.decreases-comparison
decreases-comparison l = 5 * max (size-Expr l.a.now) (size-Expr l.b.now) + 2

abbrev pub decreases-calculation : goal.decreases-calculation
decreases-calculation l = 5 * max (size-Expr l.a.now) (size-Expr l.b.now) + 2

abbrev pub decreases-concatenation : goal.decreases-concatenation
decreases-concatenation l = 5 * max (size-Expr l.a.now) (size-Expr l.b.now) + 2

abbrev pub decreases-likeness : goal.decreases-likeness
decreases-likeness l = 5 * max (size-Expr l.a.now) (size-Expr l.b.now) + 2

abbrev pub decreases-difference : goal.decreases-difference
decreases-difference l = 5 * max (size-Expr l.a.now) (size-Expr l.b.now) + 2

abbrev pub decreases-null_test : goal.decreases-null_test
decreases-null_test l = 5 * goal.size-null_test l + 2

abbrev pub decreases-opposite : goal.decreases-opposite
decreases-opposite l = 5 * goal.size-opposite l + 2

abbrev pub decreases-minus : goal.decreases-minus
decreases-minus l = 5 * goal.size-minus l + 2

abbrev pub decreases-membership : goal.decreases-membership
decreases-membership l = 5 * goal.size-membership l + 2

abbrev pub decreases-conjunction : goal.decreases-conjunction
decreases-conjunction l = 5 * goal.size-conjunction l + 2

abbrev pub decreases-disjunction : goal.decreases-disjunction
decreases-disjunction l = 5 * goal.size-disjunction l + 2

abbrev pub decreases-existence : goal.decreases-existence
decreases-existence l = 5 * goal.size-existence l + 2

abbrev pub decreases-range_test : goal.decreases-range_test
decreases-range_test l = 5 * max (size-Expr l.a.now) (max (size-Expr l.low.now) (size-Expr l.high.now)) + 2
