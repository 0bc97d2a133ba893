use Rattle.std.proofs.Common.{◌≡◌, ◌++◌, take}
use Rattle.flush_plan.specs.Planning.{late_updates_of}
use Rattle.flush_plan.proofs.late.push_all_late_new.Given as goal

abbrev pub invariant-loop-row : goal.invariant-loop-row
invariant-loop-row l = l.out.items ≡ l.fn.out.items ++ late_updates_of l.new.schema.now l.new.changes.now l.table (take l.row-index l.order)
