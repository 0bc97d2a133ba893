use Rattle.std.proofs.Common.{◌≡◌, drop}
use Rattle.sql_semantics.specs.Eval as spec
use Rattle.query_steps.proofs.aggregate.total.Given as goal

abbrev pub invariant-loop-value : goal.invariant-loop-value
invariant-loop-value l = spec.sum_from l.sum (drop l.value-index l.values) ≡ spec.total l.values
