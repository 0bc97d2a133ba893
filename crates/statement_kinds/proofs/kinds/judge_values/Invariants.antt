use Rattle.std.proofs.Common.{◌≡◌, drop}
use Rattle.statement_kinds.specs.Mismatches.{values_faults}
use Rattle.statement_kinds.proofs.kinds.judge_values.Given as goal

abbrev pub invariant-loop-place : goal.invariant-loop-place
invariant-loop-place l = values_faults l.schema l.table (drop l.place l.columns) (drop l.place l.values) ≡ values_faults l.schema l.table l.columns l.values
