use Rattle.std.proofs.Common.{◌≡◌, map, drop}
use Rattle.expr_types.specs.declared.expr.CompareOp.TheVariants.{Equal}
use Rattle.sql_semantics.specs.Eval.{comparison_truth}
use Rattle.sql_semantics.specs.Truth as spec
use Rattle.query_steps.proofs.compare.among.Given as goal

abbrev pub invariant-loop-value : goal.invariant-loop-value
invariant-loop-value l = spec.or3 l.found (spec.any3 (map (comparison_truth Equal l.x) (drop l.value-index l.list))) ≡ spec.any3 (map (comparison_truth Equal l.x) l.list)
