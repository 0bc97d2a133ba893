use Rattle.std.proofs.Common.{◌≡◌, ◌<◌, ◌++◌, map, drop, length}
use Rattle.std.specs.List.{All}
use Rattle.flush_writes.specs.Writes.{insert_run}
use Rattle.flush_writes.specs.Runs.{runs_from, runs}
use Rattle.flush_writes.proofs.runs.inserts.Given as goal

abbrev pub invariant-loop-row : goal.invariant-loop-row
invariant-loop-row l = (l.statements.items ++ map (insert_run l.new.changes.now) (runs_from l.new.schema.now l.new.changes.now l.run.items (drop l.row-index l.order)) ≡ map (insert_run l.new.changes.now) (runs l.new.schema.now l.new.changes.now l.order)) × All (λ row. row < length l.new.rows.now) l.run.items
