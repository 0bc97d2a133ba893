use Rattle.std.proofs.Common.{◌≡◌, map, drop}
use Rattle.sql_semantics.specs.Truth as spec
use Rattle.query_steps.proofs.truth.all3.Given as goal

abbrev pub invariant-loop-value : goal.invariant-loop-value
invariant-loop-value l = spec.and3 l.found (spec.all3 (map spec.truth_of (drop l.value-index l.values))) ≡ spec.all3 (map spec.truth_of l.values)
