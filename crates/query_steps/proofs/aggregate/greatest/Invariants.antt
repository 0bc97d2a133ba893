use Rattle.std.proofs.Common.{◌≡◌, drop}
use Rattle.sql_semantics.specs.Eval as spec
use Rattle.query_steps.proofs.aggregate.greatest.Given as goal

abbrev pub invariant-loop-value : goal.invariant-loop-value
invariant-loop-value l = spec.greatest_from l.best (drop l.value-index l.values) ≡ spec.greatest l.values
