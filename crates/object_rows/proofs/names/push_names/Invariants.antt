use Rattle.std.proofs.Common.{◌≡◌, ◌++◌, map, take}
use Rattle.object_rows.specs.Rows.{row_name}
use Rattle.object_rows.proofs.names.push_names.Given as goal

abbrev pub invariant-loop-table : goal.invariant-loop-table
invariant-loop-table l = l.out.items ≡ l.fn.out.items ++ map (row_name l.object) (take l.table-index l.tables)
