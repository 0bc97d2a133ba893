-- What is known of a flush of a mapping of any form that was accepted.
use Rattle.std.proofs.Common.{◌≡◌, ℕ, true, List}
use Rattle.base_core.specs.declared.ids.ObjId.{ObjId}
use Rattle.schema_core.specs.Tables.{Legal, Tables}
use Rattle.class_mapping.specs.Mapped.{Mapped}
use Rattle.mapping_laws.specs.Hierarchies.{HasHierarchies}
use Rattle.object_arena.specs.Graph as graphs
use Rattle.object_arena.specs.Graph.{Graph, IsObject, is_persistent, object_at}
use Rattle.flush_plan.specs.Flushing.{Sofar}
use Rattle.object_rows.specs.declared.prepared.Prepared.{Prepared}
use Rattle.row_project.specs.Changes.{project}
use Rattle.session_laws.proofs.Plans.Complete.{IsStated}
use Rattle.session_laws.specs.Graphs.{HaveOwnRows, IsWellMapped}
use Rattle.session_laws.specs.Held.{HoldsItsRows, IsWhollyKnown, KeepsItsKey}

-- objects held what the old tables had, and the changes were written
pub record IsDone (mapped : Mapped) (graph : Graph) (prepared : Prepared) (old : Tables) (order : List ℕ) (placed : Sofar) (after : Tables) : Type 0 where
  pub well : IsWellMapped mapped
  pub classes : HasHierarchies mapped
  pub legal : Legal mapped.schema old
  pub last : Legal mapped.schema after
  pub own : HaveOwnRows mapped graph prepared
  pub holds : (object : ObjId) → IsObject graph object → is_persistent (object_at graph object).state ≡ true → HoldsItsRows mapped old (object_at graph object)
  pub keyed : (object : ObjId) → IsObject graph object → is_persistent (object_at graph object).state ≡ true → KeepsItsKey mapped (object_at graph object)
  pub known : (object : ObjId) → IsObject graph object → graphs.is_among prepared.deleted object ≡ true → IsWhollyKnown (object_at graph object)
  pub stated : IsStated mapped.schema old (project mapped graph prepared) order placed after
