use Rattle.std.proofs.Common.{◌≡◌, ◌+◌, ◌*◌, max, map, drop}
use Rattle.std.specs.List.{list_all}
use Rattle.expr_types.specs.declared.expr.Expr.{size-Expr}
use Rattle.sql_semantics.specs.Plain.{names_apart}
use Rattle.expr_scopes.proofs.naming.+apart.Given as goal

abbrev pub invariant-all_apart-loop-e : goal.invariant-all_apart-loop-e
invariant-all_apart-loop-e l =
    list_all (λ holds. holds l.names) (map (names_apart l.schema) (drop l.e-index l.es)) ≡ list_all (λ holds. holds l.names) (map (names_apart l.schema) l.es)

abbrev pub decreases-names_apart : goal.decreases-names_apart
decreases-names_apart l = 2 * goal.size-names_apart l

abbrev pub decreases-both_apart : goal.decreases-both_apart
decreases-both_apart l = 2 * max (size-Expr l.a.now) (size-Expr l.b.now) + 1

abbrev pub decreases-all_apart : goal.decreases-all_apart
decreases-all_apart l = 2 * goal.size-all_apart l + 1
