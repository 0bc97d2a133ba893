use Rattle.std.proofs.Common.{◌≡◌, ◌+◌, ◌*◌, max, map, drop}
use Rattle.std.specs.List.{list_all}
use Rattle.expr_types.specs.declared.expr.Expr.{size-Expr}
use Rattle.sql_semantics.specs.Plain.{fits}
use Rattle.expr_scopes.proofs.fitting.+fitting.Given as goal

abbrev pub invariant-all_fit-loop-e : goal.invariant-all_fit-loop-e
invariant-all_fit-loop-e l = list_all (λ holds. holds l.scope) (map (fits l.schema) (drop l.e-index l.es)) ≡ list_all (λ holds. holds l.scope) (map (fits l.schema) l.es)

abbrev pub decreases-fits : goal.decreases-fits
decreases-fits l = 2 * goal.size-fits l

abbrev pub decreases-both_fit : goal.decreases-both_fit
decreases-both_fit l = 2 * max (size-Expr l.a.now) (size-Expr l.b.now) + 1

abbrev pub decreases-all_fit : goal.decreases-all_fit
decreases-all_fit l = 2 * goal.size-all_fit l + 1
