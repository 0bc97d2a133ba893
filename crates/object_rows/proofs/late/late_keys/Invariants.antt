use Rattle.std.proofs.Common.{◌≡◌, ◌++◌, drop}
use Rattle.std.specs.List.{flat_map}
use Rattle.schema_core.specs.DependencyOrder.{table_ids}
use Rattle.object_rows.specs.Late.{late_in}
use Rattle.object_rows.proofs.late.late_keys.Given as goal

abbrev pub invariant-loop-table : goal.invariant-loop-table
invariant-loop-table l = l.keys ++ flat_map (late_in l.mapping) (drop l.table (table_ids l.mapping.schema)) ≡ flat_map (late_in l.mapping) (table_ids l.mapping.schema)
