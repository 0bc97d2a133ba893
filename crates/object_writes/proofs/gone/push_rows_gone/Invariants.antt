use Rattle.std.proofs.Common.{◌≡◌, ◌++◌, map, take}
use Rattle.object_rows.specs.Rows.{gone_row}
use Rattle.object_writes.proofs.gone.push_rows_gone.Given as goal

abbrev pub invariant-loop-table : goal.invariant-loop-table
invariant-loop-table l = l.out ≡ l.fn.out ++ map (gone_row l.mapping l.arena l.object) (take l.table-index l.table-items)
