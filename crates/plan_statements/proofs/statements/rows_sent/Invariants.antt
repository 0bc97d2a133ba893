use Rattle.std.proofs.Common.{◌≡◌, map, take}
use Rattle.flush_plan.specs.Flushing.{row_sent}
use Rattle.plan_statements.specs.Known.{keys_at}
use Rattle.plan_statements.proofs.statements.rows_sent.Given as goal

abbrev pub invariant-loop-place : goal.invariant-loop-place
invariant-loop-place l = l.rows ≡ map (row_sent l.schema l.changes (keys_at l.known)) (take l.place-index l.places)
