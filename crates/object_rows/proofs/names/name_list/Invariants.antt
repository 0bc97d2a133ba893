use Rattle.std.proofs.Common.{◌≡◌, ◌++◌, drop}
use Rattle.std.specs.List.{flat_map}
use Rattle.object_rows.specs.Rows.{rows_of}
use Rattle.object_rows.proofs.names.name_list.Given as goal

abbrev pub invariant-loop-object : goal.invariant-loop-object
invariant-loop-object l = l.names.items ++ flat_map (rows_of l.mapping l.arena) (drop l.object-index l.object-items) ≡ flat_map (rows_of l.mapping l.arena) l.object-items
