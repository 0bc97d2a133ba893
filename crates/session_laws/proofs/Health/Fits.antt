-- The objects of a session fit their classes once a flush was written.
use Rattle.std.proofs.Common.{◌≡◌, ℕ, ◌+◌, Bool, true, false, List, [], ◌∷◌, map, Option, None, Some, Ok, refl, sym, ap, ◌∙◌}
use Rattle.std.specs.Prelude.{if◌then◌else◌}
use Rattle.std.specs.List.{enumerate_from}
use Rattle.std.proofs.lemmas.Simd.{map-map}
use Rattle.base_core.specs.declared.ids.ClassId.{ClassId}
use Rattle.base_core.specs.declared.ids.ObjId.{ObjId}
use Rattle.base_core.specs.declared.value.Value.{Value}
use Rattle.schema_core.specs.declared.changes.RowChanges.{RowChanges}
use Rattle.class_mapping.specs.Mapped.{Mapped, root_of}
use Rattle.object_arena.specs.declared.object.Object.{Object}
use Rattle.object_arena.specs.declared.object.State.{State}
use Rattle.object_arena.specs.declared.object.State.TheVariants.{Transient, Pending, Persistent, Deleted, Detached}
use Rattle.object_arena.specs.Every.{classes_of}
use Rattle.object_arena.specs.Fit.{IsFit}
use Rattle.object_arena.specs.Graph.{Graph}
use Rattle.object_arena.specs.Graph as graphs
use Rattle.object_arena.specs.Identity.{id_of_place}
use Rattle.object_rows.specs.declared.prepared.Prepared.{Prepared}
use Rattle.graph_flushed.specs.Fitting.{AreClearable}
use Rattle.graph_flushed.specs.Flushed.{Written, deleted_object, graph_flushed, graph_written, key_of, new_object, object_flushed, object_in, staying_object, written_with}
use Rattle.graph_flushed.proofs.FitSteps.{flushed_fits}
use Rattle.graph_flushed.proofs.Flushes.Fitting.{flushes_fit}
use Rattle.session_laws.specs.Graphs.{IsWellMapped}
use Rattle.session_laws.proofs.OwnRows.Standing.{hierarchies}

-- ---- the objects keep their classes

module _ (written : Written) (object : ObjId) (it : Object) where
  new_class : (key : Option (List Value)) → (new_object written object key it).class ≡ it.class
  new_class None = refl
  new_class (Some key) = refl

  old_class : (gone : Bool) → (let now : Object = (if gone then deleted_object written object it else staying_object written object it) in now.class ≡ it.class)
  old_class true = refl
  old_class false = refl

  in_class : (state : State) → (object_in state written object it).class ≡ it.class
  in_class Transient = refl
  in_class Pending = new_class (key_of written object)
  in_class Persistent = old_class (graphs.is_among written.prepared.deleted object)
  in_class Deleted = refl
  in_class Detached = refl

pub classes_each : (change : ℕ × Object → Object) (objects : List Object) (n : ℕ) → ((placed : ℕ × Object) → (change placed).class ≡ placed.1.class) → map (λ (o : Object). o.class) (map change (enumerate_from n objects)) ≡ map (λ (o : Object). o.class) objects
classes_each change [] n same = refl
classes_each change (o ∷ objects) n same = λ i. same (n, o) i ∷ classes_each change objects (n + 1) same i

pub classes_written : (written : Written) → classes_of (graph_written written) ≡ classes_of written.graph
unfolding classes_of graph_written
classes_written written =
    let same = classes_each (λ placed. object_flushed written (id_of_place placed.0) placed.1) written.graph.objects 0 (λ placed. in_class written (id_of_place placed.0) placed.1 placed.1.state) in
    λ i. (same i, written.graph.roots)

pub same_classes : (mapped : Mapped) (old new : Graph) → classes_of new ≡ classes_of old → map (λ (o : Object). root_of mapped o.class) old.objects ≡ map (λ (o : Object). root_of mapped o.class) new.objects
unfolding classes_of
same_classes mapped old new same =
    sym (map-map (root_of mapped) (λ (o : Object). o.class) old.objects)
    ∙ ap (λ (all : List ClassId × List ClassId). map (root_of mapped) all.0) (sym same)
    ∙ map-map (root_of mapped) (λ (o : Object). o.class) new.objects

-- over a configured mapping, with links, classes of several tables and discriminators, where only links to one object are cleared
pub flushed_fit : (mapped : Mapped) (graph : Graph) (prepared : Prepared) (rows : RowChanges) (keys : List (List Value)) → IsWellMapped mapped → AreClearable mapped graph prepared → IsFit mapped graph → IsFit mapped (graph_flushed mapped prepared rows keys graph)
flushed_fit mapped graph prepared rows keys well clearable fit =
    flushed_fits mapped graph (graph_flushed mapped prepared rows keys graph) prepared rows keys (Ok tt) fit refl tt (classes_written (written_with mapped prepared rows keys graph))
    (flushes_fit mapped graph prepared rows keys (hierarchies mapped well) well.related fit clearable)
