-- The rows that a flush makes, changes and takes away.
use Rattle.std.proofs.Common.{◌≡◌, ℕ, List, [], length, map, take, Option, true, ◌∙◌}
use Rattle.std.proofs.lemmas.List.{length-map}
use Rattle.std.proofs.lemmas.List.FromFn.{length-enumerate_from}
use Rattle.std.specs.Prelude.{slice_index_or}
use Rattle.std.specs.List.{AllByRecursion, enumerate_from, filter}
use Rattle.base_core.specs.declared.ids.TableId.{TableId}
use Rattle.base_core.specs.declared.value.Value.TheVariants.{Null}
use Rattle.schema_core.specs.declared.changes.ChangedRow.{ChangedRow}
use Rattle.schema_core.specs.declared.changes.GoneRow.{GoneRow}
use Rattle.schema_core.specs.declared.changes.NewRow.{NewRow}
use Rattle.schema_core.specs.declared.changes.RowCell.TheVariants.{Given}
use Rattle.schema_core.specs.declared.changes.RowChanges.{RowChanges}
use Rattle.schema_core.specs.declared.table.ColumnSpec.{ColumnSpec}
use Rattle.schema_core.specs.Catalog.{Catalog, IsTable, spec_of}
use Rattle.schema_core.specs.Declaration.{IsDeclared, has_key}
use Rattle.schema_core.specs.Tables.{given_value}
use Rattle.class_mapping.specs.Mapped.{Mapped, tables_of}
use Rattle.object_arena.specs.Graph.{Graph, object_at}
use Rattle.object_rows.specs.declared.prepared.Prepared.{Prepared}
use Rattle.object_rows.specs.Rows as rows
use Rattle.object_rows.specs.Seen.{keeps_rows, object_ids}
use Rattle.pair_rows.specs.Pairs as pairs
use Rattle.pair_rows.proofs.FirstLemmas.{firsts_all}
use Rattle.row_project.specs.Changes.{object_changes, project}
use Rattle.row_partners.specs.Partners as switching
use Rattle.row_switches.specs.Switch as switch
use Rattle.row_project.proofs.Declared.{column_of, same_column}
use Rattle.row_switches.proofs.Each.{all_append, all_filter, all_given, each_to, flat_map_given, map_given}
use Rattle.row_project.proofs.Range.{project_declared}
use Rattle.row_switches.proofs.RowsAfter.{all_kept, all_left, all_staying, all_switched}
use Rattle.session_laws.specs.Projects.{ChangedCellsAreInOrder, GoneRowsAreWhole, HasOrder, IsWhole, IsWholeBase, NewRowsAreWhole, NewRowsHaveKeys}
use Rattle.session_laws.proofs.Projects.Columns.{from_columns, still_in_order}
use Rattle.session_laws.proofs.Projects.LateKeys.{taken}

each_column : {A : Type 0} (mapped : Mapped) (table : TableId) (f : ℕ × ColumnSpec → A) → length (map f (enumerate_from 0 (rows.columns_at mapped table))) ≡ length (rows.columns_at mapped table)
each_column mapped table f = length-map (enumerate_from 0 (rows.columns_at mapped table)) f ∙ length-enumerate_from 0 (rows.columns_at mapped table)

-- ---- changed rows

changed_in_order : (mapped : Mapped) (graph : Graph) (prepared : Prepared) → AllByRecursion (HasOrder mapped.schema) (rows.changed_rows mapped graph prepared)
unfolding rows.changed_rows
changed_in_order mapped graph prepared =
    let names = rows.new_names mapped graph prepared in
    flat_map_given (HasOrder mapped.schema) (rows.rows_changed mapped graph prepared names)
    (λ object. all_filter (HasOrder mapped.schema) rows.has_cells (map (rows.changed_row mapped graph prepared names object) (tables_of mapped (object_at graph object).class))
    (map_given (HasOrder mapped.schema) (rows.changed_row mapped graph prepared names object)
    (λ table. from_columns (rows.changed_cell mapped graph prepared names object table)
    (λ placed cell e. column_of placed.1.key placed.0 (rows.change_at mapped graph prepared names object table placed) cell e)
    (rows.columns_at mapped table) 0)
    (tables_of mapped (object_at graph object).class)))
    (filter (keeps_rows graph prepared) (object_ids graph))

kept_in_order : (mapped : Mapped) (graph : Graph) (changes : RowChanges) (partners : List (Option ℕ)) (row : ChangedRow) → HasOrder mapped.schema row → HasOrder mapped.schema (switch.row_kept mapped graph changes partners row)
kept_in_order mapped graph changes partners row order =
    still_in_order (switch.cell_kept mapped graph changes partners row)
    (λ cell other e. same_column cell.0 (rows.linked_change (switch.base_in mapped row.name.table cell.0.0 (switch.object_if graph row.name.object)) (switch.cell_after_switch mapped.schema changes partners cell.1)) other e)
    (rows.columns_at mapped row.name.table) 0 row.cells order

switched_in_order : (mapped : Mapped) (graph : Graph) (changes : RowChanges) (partners : List (Option ℕ)) (placed : ℕ × NewRow) (gone : GoneRow) → HasOrder mapped.schema (switch.row_switched mapped graph changes partners placed gone)
switched_in_order mapped graph changes partners placed gone =
    from_columns (switch.cell_switched mapped graph changes partners placed.1 gone)
    (λ column cell f. column_of column.1.key column.0
    (rows.linked_change (switch.value_gone mapped graph gone column.0) (switch.cell_after_switch mapped.schema changes partners (slice_index_or placed.1.cells column.0 (Given Null)))) cell f)
    (rows.columns_at mapped placed.1.name.table) 0

pub cells_in_order : ChangedCellsAreInOrder
cells_in_order mapped graph prepared =
    let changes = object_changes mapped graph prepared in
    let partners = switching.partners mapped.schema changes in
    all_append (HasOrder mapped.schema) (switch.rows_kept mapped graph changes partners) (switch.rows_switched mapped graph changes partners)
    (all_kept (HasOrder mapped.schema) mapped graph changes partners (kept_in_order mapped graph changes partners) (changed_in_order mapped graph prepared))
    (all_switched (λ (row : NewRow). Unit {0}) (HasOrder mapped.schema) mapped graph changes partners
    (λ placed gone u. switched_in_order mapped graph changes partners placed gone) (all_given (λ (row : NewRow). Unit {0}) (λ row. tt) changes.fresh))

-- ---- new rows

new_whole : (mapped : Mapped) (graph : Graph) (prepared : Prepared) → AllByRecursion (IsWhole mapped.schema) (rows.new_rows mapped graph prepared)
unfolding rows.new_rows
new_whole mapped graph prepared =
    let names = rows.new_names mapped graph prepared in
    map_given (IsWhole mapped.schema) (rows.new_row mapped graph prepared names)
    (λ placed. each_column mapped placed.1.table (rows.new_cell mapped graph prepared names placed)) (enumerate_from 0 names)

made_whole : (mapped : Mapped) (graph : Graph) (prepared : Prepared) → AllByRecursion (IsWhole mapped.schema) (pairs.made_rows mapped graph prepared)
unfolding pairs.made_rows
made_whole mapped graph prepared =
    map_given (IsWhole mapped.schema) (pairs.made_row mapped graph (rows.new_names mapped graph prepared))
    (λ pair. length-map (rows.columns_at mapped pair.0) (pairs.pair_cell mapped graph (rows.new_names mapped graph prepared) pair))
    (pairs.made_pairs mapped graph prepared)

pub plain_whole : (mapped : Mapped) (graph : Graph) (prepared : Prepared) → AllByRecursion (IsWhole mapped.schema) (object_changes mapped graph prepared).fresh
plain_whole mapped graph prepared =
    all_append (IsWhole mapped.schema) (rows.new_rows mapped graph prepared) (pairs.made_rows mapped graph prepared) (new_whole mapped graph prepared) (made_whole mapped graph prepared)

pub rows_whole : NewRowsAreWhole
rows_whole mapped graph prepared =
    let changes = object_changes mapped graph prepared in
    let partners = switching.partners mapped.schema changes in
    all_staying (IsWhole mapped.schema) (IsWhole mapped.schema) mapped.schema changes partners
    (λ row whole. length-map row.cells (switch.cell_after_switch mapped.schema changes partners) ∙ whole) (plain_whole mapped graph prepared)

-- a declared table has a key
table_keyed : (schema : Catalog) (table : TableId) → IsDeclared schema.tables schema.resolved → IsTable schema table → has_key (spec_of schema table) ≡ true
table_keyed schema table declared inside = (taken (take table.0 schema.tables) (spec_of schema table) (declared.faultless table.0 inside)).keyed

pub rows_keyed : NewRowsHaveKeys
rows_keyed mapped graph prepared related fit declared =
    each_to (λ (row : NewRow). IsTable mapped.schema row.name.table) (λ (row : NewRow). has_key (spec_of mapped.schema row.name.table) ≡ true)
    (λ row inside. table_keyed mapped.schema row.name.table declared inside)
    (project mapped graph prepared).fresh (project_declared mapped graph prepared related fit).new

-- ---- deleted rows

gone_whole : (mapped : Mapped) (graph : Graph) (prepared : Prepared) → AllByRecursion (IsWholeBase mapped.schema) (rows.gone_rows mapped graph prepared)
unfolding rows.gone_rows
gone_whole mapped graph prepared =
    flat_map_given (IsWholeBase mapped.schema) (rows.rows_gone mapped graph)
    (λ object. map_given (IsWholeBase mapped.schema) (rows.gone_row mapped graph object)
    (λ table. each_column mapped table (rows.gone_cell mapped (object_at graph object) table)) (tables_of mapped (object_at graph object).class))
    prepared.deleted

lost_whole : (mapped : Mapped) (graph : Graph) (prepared : Prepared) → AllByRecursion (IsWholeBase mapped.schema) (pairs.lost_rows mapped graph prepared)
unfolding pairs.lost_rows
lost_whole mapped graph prepared =
    firsts_all (IsWholeBase mapped.schema) mapped.schema (map (pairs.lost_row mapped graph) (pairs.lost_pairs mapped graph prepared))
    (map_given (IsWholeBase mapped.schema) (pairs.lost_row mapped graph)
    (λ pair. length-map (rows.columns_at mapped pair.0) (λ column. given_value (pairs.pair_cell mapped graph [] pair column)))
    (pairs.lost_pairs mapped graph prepared))

pub bases_whole : GoneRowsAreWhole
bases_whole mapped graph prepared =
    let changes = object_changes mapped graph prepared in
    all_left (IsWholeBase mapped.schema) changes (switching.partners mapped.schema changes)
    (all_append (IsWholeBase mapped.schema) (rows.gone_rows mapped graph prepared) (pairs.lost_rows mapped graph prepared) (gone_whole mapped graph prepared) (lost_whole mapped graph prepared))
