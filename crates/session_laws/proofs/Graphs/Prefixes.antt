-- Every prefix of the plan of what a flush changes is accepted and leaves legal tables.
use Rattle.std.proofs.Common.{ℕ, List}
use Rattle.schema_core.specs.declared.changes.ChangedRow.{ChangedRow}
use Rattle.schema_core.specs.Catalog.{IsTable}
use Rattle.schema_core.specs.Tables.{Tables}
use Rattle.class_mapping.specs.Mapped.{Mapped}
use Rattle.object_arena.specs.Graph.{Graph}
use Rattle.flush_order.specs.Ready.{IsInTable}
use Rattle.flush_plan.specs.Flushing.{Sofar}
use Rattle.object_rows.specs.declared.prepared.Prepared.{Prepared}
use Rattle.row_project.specs.Changes.{project}
use Rattle.row_switches.proofs.Each.{each_to}
use Rattle.row_project.proofs.Range.{project_declared}
use Rattle.session_laws.specs.Plans.Laws.{IsComplete}
use Rattle.session_laws.proofs.Plans.FlushLaw.{accepted_stated as plan_stated}
use Rattle.session_laws.proofs.Plans.PlanLaw.{prefixes, whole}
use Rattle.session_laws.specs.Graphs.{AcceptedFlushIsStated, AreStated, FlushPrefixesAreLegal, IsTold, IsWellMapped, WholeFlushIsStated}
use Rattle.session_laws.proofs.Graphs.Projected.{all_projected, all_read}

complete_of : (mapped : Mapped) (graph : Graph) (prepared : Prepared) (old : Tables) (order : List ℕ) (placed : Sofar) (after : Tables) → IsWellMapped mapped → IsTold mapped graph prepared old
    → AreStated mapped.schema old (project mapped graph prepared) order placed after → IsComplete mapped.schema old (project mapped graph prepared) order placed after
complete_of mapped graph prepared old order placed after well told stated = record {
  projected = all_projected mapped graph prepared well (record { fit = told.fit; keyed = told.keyed });
  read = all_read mapped graph prepared old well told stated.legal;
  sorted = stated.sorted;
  legal = stated.legal;
  ordered = stated.ordered;
  keys = stated.keys;
  states = stated.states;
  legal_after = stated.legal_after;
  clear = stated.clear;
  no_guess = stated.no_guess;
}

pub prefixes_legal : FlushPrefixesAreLegal
prefixes_legal mapped graph prepared old order placed after sent well told stated e n =
    prefixes mapped.schema old (project mapped graph prepared) order placed after sent (complete_of mapped graph prepared old order placed after well told stated) e n

pub whole_stated : WholeFlushIsStated
whole_stated mapped graph prepared old order placed after sent well told stated e =
    whole mapped.schema old (project mapped graph prepared) order placed after sent (complete_of mapped graph prepared old order placed after well told stated) e

pub accepted_stated : AcceptedFlushIsStated
accepted_stated mapped graph prepared old order sent sofar well own sorted legal ordered e accepted =
    let changes = project mapped graph prepared in
    plan_stated mapped.schema old changes order sent sofar (all_projected mapped graph prepared well own) sorted legal
    (each_to (IsInTable mapped.schema) (λ (row : ChangedRow). IsTable mapped.schema row.name.table) (λ row in_table. in_table.declared) changes.changed (project_declared mapped graph prepared well.related own.fit).changed)
    ordered e accepted
