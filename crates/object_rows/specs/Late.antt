-- The foreign keys that are written after all rows.
use Rattle.std.specs.Prelude.{ℕ, Bool, ◌&&◌, ◌==◌, List, map, length}
use Rattle.std.specs.List.{enumerate_from, filter, flat_map, list_any, range_with_len}
use Rattle.base_core.specs.declared.ids.TableId.{TableId}
use Rattle.schema_core.specs.DependencyOrder.{table_ids}
use Rattle.class_types.specs.declared.mapped.Relation.{Relation}
use Rattle.class_layouts.specs.Faults.{foreigns_in}
use Rattle.class_mapping.specs.Mapped.{Mapped, relations_of}

abbrev pub is_late_by : TableId → ℕ → Relation → Bool
is_late_by table number relation = relation.post_update && (relation.foreign.0.0 == table.0 && relation.foreign.1 == number)

-- a relationship of some class says so
abbrev pub is_late : Mapped → TableId → ℕ → Bool
is_late mapped table number = list_any (λ class. list_any (is_late_by table number) (relations_of mapped (record { 0 = class }))) (range_with_len 0 (length mapped.classes.specs))

abbrev pub late_in : Mapped → TableId → List (TableId × ℕ)
late_in mapped table = map (λ placed. (table, placed.0)) (filter (λ placed. is_late mapped table placed.0) (enumerate_from 0 (foreigns_in mapped.schema.tables table)))

-- by table and number
unfoldable pub late_keys : Mapped → List (TableId × ℕ)
late_keys mapped = flat_map (late_in mapped) (table_ids mapped.schema)
