-- Changes of which a plan can be made: their rows stay declared where some are switched.
use Rattle.std.proofs.Common.{◌≡◌, ℕ, ◌<◌, ◌≤◌, List, length, Option, sym, subst}
use Rattle.std.proofs.lemmas.List.Elements.{All-from_get_or, All-from_recursion, All-get_or, recursion_from_All}
use Rattle.std.specs.Prelude.{slice_index_or}
use Rattle.std.specs.List.{All, filter_map}
use Rattle.base_core.specs.declared.ids.ColumnNo.{ColumnNo}
use Rattle.base_core.specs.declared.value.Value.TheVariants.{Null}
use Rattle.schema_core.specs.declared.changes.ChangedRow.{ChangedRow}
use Rattle.schema_core.specs.declared.changes.GoneRow.{GoneRow}
use Rattle.schema_core.specs.declared.changes.NewRow.{NewRow}
use Rattle.schema_core.specs.declared.changes.RowCell.{RowCell}
use Rattle.schema_core.specs.declared.changes.RowCell.TheVariants.{Given}
use Rattle.schema_core.specs.declared.changes.RowChanges.{RowChanges}
use Rattle.schema_core.specs.declared.table.TableSpec.{TableSpec}
use Rattle.schema_core.specs.Catalog.{Catalog, IsTable, no_table, spec_of}
use Rattle.class_mapping.specs.Mapped.{Mapped}
use Rattle.class_mapping.specs.Related.{AreRelated}
use Rattle.object_arena.specs.Fit.{IsFit}
use Rattle.object_arena.specs.Graph.{Graph}
use Rattle.flush_order.specs.Cells.{no_row}
use Rattle.flush_order.specs.Ready.{AreInRange, IsInTable}
use Rattle.object_rows.specs.declared.prepared.Prepared.{Prepared}
use Rattle.object_rows.specs.Rows as rows
use Rattle.row_project.specs.Changes.{object_changes, project}
use Rattle.row_project.specs.Ready.{AreDeclared, AreFew}
use Rattle.row_partners.specs.Partners as switching
use Rattle.row_switches.specs.Switch as switch
use Rattle.row_project.proofs.Declared.{column_of, columns_below, objects_declared, same_column}
use Rattle.row_switches.proofs.Each.{all_append, all_filter_map}
use Rattle.row_switches.proofs.RowsAfter.{all_kept, all_left, all_staying, all_switched}

module _ (mapped : Mapped) (graph : Graph) (changes : RowChanges) (partners : List (Option ℕ)) where
  row_kept_in : (row : ChangedRow) → IsInTable mapped.schema row → IsInTable mapped.schema (switch.row_kept mapped graph changes partners row)
  row_kept_in row in_table = record {
    declared = in_table.declared;
    columns =
        let width = length (spec_of mapped.schema row.name.table).columns in
        let kept = filter_map (switch.cell_kept mapped graph changes partners row) row.cells in
        All-from_recursion (λ (cell : ColumnNo × RowCell). cell.0.0 < width) kept
        (all_filter_map (λ (cell : ColumnNo × RowCell). cell.0.0 < width) (λ (cell : ColumnNo × RowCell). cell.0.0 < width) (switch.cell_kept mapped graph changes partners row)
        (λ cell less other e. subst (λ n. n < width) (same_column cell.0 (rows.linked_change (switch.base_in mapped row.name.table cell.0.0 (switch.object_if graph row.name.object)) (switch.cell_after_switch mapped.schema changes partners cell.1)) other e) less)
        row.cells (recursion_from_All (λ (cell : ColumnNo × RowCell). cell.0.0 < width) row.cells in_table.columns));
  }

  row_switched_in : (placed : ℕ × NewRow) (gone : GoneRow) → IsTable mapped.schema placed.1.name.table → IsInTable mapped.schema (switch.row_switched mapped graph changes partners placed gone)
  row_switched_in placed gone declared = record {
    declared = declared;
    columns = columns_below (switch.cell_switched mapped graph changes partners placed.1 gone)
        (λ column cell f. (column_of column.1.key column.0
        (rows.linked_change (switch.value_gone mapped graph gone column.0) (switch.cell_after_switch mapped.schema changes partners (slice_index_or placed.1.cells column.0 (Given Null)))) cell f).0)
        (rows.columns_at mapped placed.1.name.table);
  }

  switch_declared : AreDeclared mapped.schema changes → AreDeclared mapped.schema (switch.changes_by mapped graph changes partners)
  switch_declared are = record {
    new = all_staying (λ (row : NewRow). IsTable mapped.schema row.name.table) (λ (row : NewRow). IsTable mapped.schema row.name.table) mapped.schema changes partners (λ row declared. declared) are.new;
    changed = all_append (IsInTable mapped.schema) (switch.rows_kept mapped graph changes partners) (switch.rows_switched mapped graph changes partners)
        (all_kept (IsInTable mapped.schema) mapped graph changes partners row_kept_in are.changed)
        (all_switched (λ (row : NewRow). IsTable mapped.schema row.name.table) (IsInTable mapped.schema) mapped graph changes partners row_switched_in are.new);
    gone = all_left (λ (row : GoneRow). IsTable mapped.schema row.name.table) changes partners are.gone;
  }

-- all rows of a flush are of declared tables
pub project_declared : (mapped : Mapped) (graph : Graph) (prepared : Prepared) → AreRelated mapped → IsFit mapped graph → AreDeclared mapped.schema (project mapped graph prepared)
project_declared mapped graph prepared related fit =
    let plain = object_changes mapped graph prepared in
    switch_declared mapped graph plain (switching.partners mapped.schema plain) (objects_declared mapped graph prepared related fit)

pub in_range : (schema : Catalog) (changes : RowChanges) → AreDeclared schema changes → AreFew changes → length schema.tables ≤ 4294967295 → All (λ (spec : TableSpec). length spec.columns ≤ 4294967295) schema.tables → AreInRange schema changes
in_range schema changes are few tables narrow = record {
  least = few.new;
  declared = λ place h. All-get_or (λ (row : NewRow). IsTable schema row.name.table) changes.fresh place no_row h (All-from_recursion (λ (row : NewRow). IsTable schema row.name.table) changes.fresh are.new);
  changed = All-from_recursion (IsInTable schema) changes.changed are.changed;
  gone = All-from_recursion (λ (row : GoneRow). IsTable schema row.name.table) changes.gone are.gone;
  fewer = few.old;
  tables = tables;
  narrow = narrow;
}

-- each table by its number
pub all_narrow : (schema : Catalog) → ((place : ℕ) → place < length schema.tables → length (spec_of schema (record { 0 = place })).columns ≤ 4294967295) → All (λ (spec : TableSpec). length spec.columns ≤ 4294967295) schema.tables
all_narrow schema each = All-from_get_or (λ (spec : TableSpec). length spec.columns ≤ 4294967295) schema.tables no_table each

-- what the objects change
pub plain_declared : (mapped : Mapped) (graph : Graph) (prepared : Prepared) (schema : Catalog) (changes : RowChanges) → schema ≡ mapped.schema → changes ≡ object_changes mapped graph prepared → AreRelated mapped → IsFit mapped graph → AreDeclared schema changes
plain_declared mapped graph prepared schema changes of is related fit =
    subst (λ (s : Catalog). AreDeclared s changes) (sym of) (subst (AreDeclared mapped.schema) (sym is) (objects_declared mapped graph prepared related fit))

-- and with the switches
pub all_declared : (mapped : Mapped) (graph : Graph) (prepared : Prepared) (schema : Catalog) (changes : RowChanges) → schema ≡ mapped.schema → changes ≡ project mapped graph prepared → AreRelated mapped → IsFit mapped graph → AreDeclared schema changes
all_declared mapped graph prepared schema changes of is related fit =
    subst (λ (s : Catalog). AreDeclared s changes) (sym of) (subst (AreDeclared mapped.schema) (sym is) (project_declared mapped graph prepared related fit))
