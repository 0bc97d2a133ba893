use Rattle.std.proofs.Common.{◌≡◌, map, take}
use Rattle.flush_order.specs.Cells.{new_at}
use Rattle.flush_writes.proofs.names.new_names.Given as goal

abbrev pub invariant-loop-row : goal.invariant-loop-row
invariant-loop-row l = l.names ≡ map (λ row. (new_at l.new.changes.now row).name) (take l.row-index l.rows)
