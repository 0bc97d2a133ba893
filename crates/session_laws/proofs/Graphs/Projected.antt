-- What a plan needs of changes holds of what a flush changes.
use Rattle.std.proofs.Common.{◌≡◌, List, Some, take}
use Rattle.std.specs.List.{AllByRecursion}
use Rattle.base_core.specs.declared.value.Value.{Value}
use Rattle.schema_core.specs.declared.changes.GoneRow.{GoneRow}
use Rattle.schema_core.specs.Catalog.{IsTable, spec_of}
use Rattle.schema_core.specs.Tables.{Legal, Tables}
use Rattle.class_mapping.specs.Mapped.{Mapped}
use Rattle.class_mapping.proofs.Having.{all_from}
use Rattle.object_arena.specs.Graph.{Graph}
use Rattle.flush_order.specs.Cells.{is_late}
use Rattle.flush_order.specs.Orders.{place_of_gone}
use Rattle.flush_plan.specs.Stating.{blend, row_at}
use Rattle.object_rows.specs.declared.prepared.Prepared.{Prepared}
use Rattle.row_project.specs.Changes.{object_changes, project}
use Rattle.row_project.proofs.Range.{project_declared}
use Rattle.session_laws.specs.Projects.{IsWholeBase}
use Rattle.session_laws.proofs.Projects.Apart.{switches_keep_apart}
use Rattle.session_laws.proofs.Projects.LateKeys.{each_has, late_keys_fit, taken}
use Rattle.session_laws.proofs.Projects.Loose.{parts_are_foreign}
use Rattle.session_laws.proofs.Projects.Rows.{bases_whole, cells_in_order, rows_keyed, rows_whole}
use Rattle.session_laws.specs.Graphs.{ChangesAreProjected, DeletedAreAsRead, IsAsRead, IsTold, IsWellMapped}
use Rattle.session_laws.proofs.Graphs.AsRead.{late_as_read}
use Rattle.session_laws.proofs.Graphs.MappingFacts.{once_law}
use Rattle.session_laws.proofs.Graphs.NewKinds.{foreigns_of_one_kind}
use Rattle.session_laws.proofs.Graphs.ObjectsApart.{rows_apart}

-- what is written late of a deleted row is what stands
late_read : (mapped : Mapped) (graph : Graph) (prepared : Prepared) (old : Tables) → IsWellMapped mapped → IsTold mapped graph prepared old → Legal mapped.schema old → AllByRecursion (IsAsRead mapped.schema old) (project mapped graph prepared).gone
    → AllByRecursion (λ (row : GoneRow). (stands : List Value) → row_at old (place_of_gone mapped.schema row) ≡ Some stands
    → blend (is_late mapped.schema (project mapped graph prepared) row.name.table) (spec_of mapped.schema row.name.table).columns stands row.base ≡ stands) (project mapped graph prepared).gone
late_read mapped graph prepared old well told legal read =
    let changes = project mapped graph prepared in
    all_from (λ (row : GoneRow). (stands : List Value) → row_at old (place_of_gone mapped.schema row) ≡ Some stands → blend (is_late mapped.schema changes row.name.table) (spec_of mapped.schema row.name.table).columns stands row.base ≡ stands) changes.gone
    (λ row has.
    let inside : IsTable mapped.schema row.name.table = each_has (λ (r : GoneRow). IsTable mapped.schema r.name.table) changes.gone row (project_declared mapped graph prepared well.related told.fit).gone has in
    late_as_read mapped.schema old changes row legal (taken (take row.name.table.0 mapped.schema.tables) (spec_of mapped.schema row.name.table) (well.declared.faultless row.name.table.0 inside)).columns
    (each_has (IsWholeBase mapped.schema) changes.gone row (bases_whole mapped graph prepared) has) (each_has (IsAsRead mapped.schema old) changes.gone row read has))

pub all_projected : ChangesAreProjected
all_projected mapped graph prepared well own =
    let apart = switches_keep_apart mapped graph (object_changes mapped graph prepared) (rows_apart mapped graph prepared (once_law mapped well.lined well.lines) own.keyed) in
    record {
      fit = late_keys_fit mapped graph prepared well.lined well.lines well.valid well.declared well.posts;
      new_cells = rows_whole mapped graph prepared;
      new_loose = parts_are_foreign mapped graph prepared well.lined well.lines well.valid own.fit;
      new_keyed = rows_keyed mapped graph prepared well.related own.fit well.declared;
      new_foreigns = foreigns_of_one_kind mapped graph prepared well own.fit;
      changed_cells = cells_in_order mapped graph prepared;
      changed_once = apart.changed;
      gone_cells = bases_whole mapped graph prepared;
      gone_once = apart.gone;
      gone_apart = apart.both;
    }

pub all_read : DeletedAreAsRead
all_read mapped graph prepared old well told legal = record { base = told.read; late = late_read mapped graph prepared old well told legal told.read }
