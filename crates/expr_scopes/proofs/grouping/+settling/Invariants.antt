use Rattle.std.proofs.Common.{◌≡◌, ◌+◌, ◌*◌, drop}
use Rattle.std.specs.List.{list_all}
use Rattle.sql_semantics.specs.Plain.{is_well_grouped}
use Rattle.expr_scopes.proofs.grouping.+settling.Given as goal

abbrev pub invariant-all_settled-loop-e : goal.invariant-all_settled-loop-e
invariant-all_settled-loop-e l = list_all (is_well_grouped l.query.grouped l.query.groups.now l.query.own) (drop l.e-index l.es) ≡ list_all (is_well_grouped l.query.grouped l.query.groups.now l.query.own) l.es

abbrev pub decreases-settled : goal.decreases-settled
decreases-settled l = 3 * goal.size-settled l + 1

abbrev pub decreases-settled_inside : goal.decreases-settled_inside
decreases-settled_inside l = 3 * goal.size-settled_inside l

abbrev pub decreases-all_settled : goal.decreases-all_settled
decreases-all_settled l = 3 * goal.size-all_settled l + 2
