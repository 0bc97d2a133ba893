-- All that the objects of a prepared graph change.
use Rattle.std.specs.Prelude.{List, ◌++◌}
use Rattle.schema_core.specs.declared.changes.GoneRow.{GoneRow}
use Rattle.schema_core.specs.declared.changes.NewRow.{NewRow}
use Rattle.schema_core.specs.declared.changes.RowChanges.{RowChanges}
use Rattle.class_mapping.specs.Mapped.{Mapped}
use Rattle.object_arena.specs.Graph.{Graph}
use Rattle.object_rows.specs.declared.prepared.Prepared.{Prepared}
use Rattle.object_rows.specs.Late.{late_keys}
use Rattle.object_rows.specs.Rows.{changed_rows, gone_rows, new_rows}
use Rattle.pair_rows.specs.Pairs.{lost_rows, made_rows}
use Rattle.row_project.specs.Warnings.{warnings}
use Rattle.row_switches.specs.Switch.{with_switches}

-- the new rows of objects in the order of adding, and then those of pairs
abbrev pub fresh_rows : Mapped → Graph → Prepared → List NewRow
fresh_rows mapped graph prepared = new_rows mapped graph prepared ++ made_rows mapped graph prepared

-- the deleted rows of objects, and then those of pairs
abbrev pub rows_lost : Mapped → Graph → Prepared → List GoneRow
rows_lost mapped graph prepared = gone_rows mapped graph prepared ++ lost_rows mapped graph prepared

-- what the objects and their links change, where each new row is among the new ones and each deleted row among the deleted
-- ones, also if both have one key
abbrev pub object_changes : Mapped → Graph → Prepared → RowChanges
object_changes mapped graph prepared = record {
  fresh = fresh_rows mapped graph prepared;
  changed = changed_rows mapped graph prepared;
  gone = rows_lost mapped graph prepared;
  post = late_keys mapped;
  warnings = warnings mapped graph prepared;
}

-- what a flush of a prepared graph changes
abbrev pub project : Mapped → Graph → Prepared → RowChanges
project mapped graph prepared = with_switches mapped graph (object_changes mapped graph prepared)
