use Rattle.std.proofs.Common.{◌≡◌, ◌==◌, drop}
use Rattle.schema_core.specs.Declaration.{some_two}
use Rattle.plain_statements.proofs.bulk.repeats.Given as goal

abbrev pub invariant-loop-place : goal.invariant-loop-place
invariant-loop-place l = some_two (λ other column. other.0 == column.0) (drop l.place l.columns) ≡ some_two (λ other column. other.0 == column.0) l.columns
