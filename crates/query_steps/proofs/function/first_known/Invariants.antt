use Rattle.std.proofs.Common.{◌≡◌, drop}
use Rattle.sql_semantics.specs.Eval.{first_known}
use Rattle.query_steps.proofs.function.first_known.Given as goal

abbrev pub invariant-loop-value : goal.invariant-loop-value
invariant-loop-value l = first_known (drop l.value-index l.values) ≡ first_known l.values
