use Rattle.std.proofs.Common.{◌≡◌, drop}
use Rattle.std.specs.List.{list_any}
use Rattle.expr_types.specs.Level.{has_aggregate}
use Rattle.plain_statements.proofs.select.some_gathers.Given as goal

abbrev pub invariant-loop-pair : goal.invariant-loop-pair
invariant-loop-pair g l = list_any (λ pair. has_aggregate pair.0) (drop l.pair-index l.pairs) ≡ list_any (λ pair. has_aggregate pair.0) l.pairs
