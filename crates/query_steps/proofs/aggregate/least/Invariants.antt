use Rattle.std.proofs.Common.{◌≡◌, drop}
use Rattle.sql_semantics.specs.Eval as spec
use Rattle.query_steps.proofs.aggregate.least.Given as goal

abbrev pub invariant-loop-value : goal.invariant-loop-value
invariant-loop-value l = spec.least_from l.best (drop l.value-index l.values) ≡ spec.least l.values
