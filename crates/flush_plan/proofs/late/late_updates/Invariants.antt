use Rattle.std.proofs.Common.{◌≡◌, take}
use Rattle.std.specs.List.{flat_map}
use Rattle.schema_core.specs.DependencyOrder.{table_ids}
use Rattle.flush_plan.specs.Planning.{late_in}
use Rattle.flush_plan.proofs.late.late_updates.Given as goal

abbrev pub invariant-loop-number : goal.invariant-loop-number
invariant-loop-number l = l.statements.items ≡ flat_map (late_in l.new.schema.now l.new.changes.now l.order) (take l.number (table_ids l.new.schema.now))
