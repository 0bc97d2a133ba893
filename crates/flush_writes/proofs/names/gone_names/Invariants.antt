use Rattle.std.proofs.Common.{◌≡◌, map, take}
use Rattle.flush_order.specs.Orders.{gone_at, gone_rows}
use Rattle.flush_writes.proofs.names.gone_names.Given as goal

abbrev pub invariant-loop-row : goal.invariant-loop-row
invariant-loop-row l = l.names ≡ map (λ row. (gone_at (gone_rows l.gone.schema.now l.gone.changes.now) row).name) (take l.row-index l.rows)
