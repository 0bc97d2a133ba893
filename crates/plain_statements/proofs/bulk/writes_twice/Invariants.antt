use Rattle.std.proofs.Common.{◌≡◌, ◌==◌, drop}
use Rattle.schema_core.specs.Declaration.{some_two}
use Rattle.plain_statements.proofs.bulk.writes_twice.Given as goal

abbrev pub invariant-loop-place : goal.invariant-loop-place
invariant-loop-place l = some_two (λ other cell. other.0.0 == cell.0.0) (drop l.place l.cells) ≡ some_two (λ other cell. other.0.0 == cell.0.0) l.cells
