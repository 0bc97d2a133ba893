use Rattle.std.proofs.Common.{◌≡◌, map, drop}
use Rattle.std.specs.List.{list_any}
use Rattle.expr_types.specs.Level.{has_aggregate}
use Rattle.expr_typing.proofs.aggregate.+aggregates.Given as goal

abbrev pub invariant-some_aggregate-loop-e : goal.invariant-some_aggregate-loop-e
invariant-some_aggregate-loop-e l = list_any (λ has. has) (map has_aggregate (drop l.e-index l.es)) ≡ list_any (λ has. has) (map has_aggregate l.es)
