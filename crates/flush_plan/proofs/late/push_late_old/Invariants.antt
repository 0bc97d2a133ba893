use Rattle.std.proofs.Common.{◌≡◌, ◌++◌, map, take}
use Rattle.std.specs.List.{filter}
use Rattle.flush_plan.specs.Planning.{is_of}
use Rattle.flush_writes.specs.Writes.{update_of}
use Rattle.flush_plan.proofs.late.push_late_old.Given as goal

abbrev pub invariant-loop-writing : goal.invariant-loop-writing
invariant-loop-writing l = l.out.items ≡ l.fn.out.items ++ map update_of (filter (λ row. is_of l.table row.0.0) (take l.writing-index l.writings))
