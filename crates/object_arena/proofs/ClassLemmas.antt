-- A change of an object leaves every object's class.
use Rattle.std.proofs.Common.{◌≡◌, false, List, length, refl, ap, ◌∙◌, sym}
use Rattle.std.proofs.Math.Seq.{map-set_same}
use Rattle.std.proofs.lemmas.List.{length-map}
use Rattle.base_core.specs.declared.ids.ClassId.{ClassId}
use Rattle.base_core.specs.declared.ids.ObjId.{ObjId}
use Rattle.base_core.specs.declared.value.Value.{Value}
use Rattle.std.specs.Prelude.{Option}
use Rattle.object_arena.specs.declared.object.State.{State}
use Rattle.object_arena.specs.declared.object.State.TheVariants.{Transient, Pending, Persistent, Deleted, Detached}
use Rattle.object_arena.specs.declared.object.Object.{Object}
use Rattle.object_arena.specs.Graph.{Graph, no_object, object_at, place_of, put_back_object, settled_object, with_object}
use Rattle.object_arena.specs.Every.{classes_of}

-- another record of the same class
pub classes_set : (graph new_graph : Graph) (object : ObjId) (new : Object) → new.class ≡ (object_at graph object).class → new_graph ≡ with_object graph object new → classes_of new_graph ≡ classes_of graph
unfolding classes_of
classes_set graph new_graph object new class is =
    rw is (ap (λ (classes : List ClassId). (classes, graph.roots)) (map-set_same (λ (o : Object). o.class) graph.objects (place_of object) new no_object class))

pub settled_class : (state : State) (object : Object) → (settled_object state object).class ≡ object.class
settled_class Transient object = refl
settled_class Pending object = refl
settled_class Persistent object = refl
settled_class Deleted object = refl
settled_class Detached object = refl

-- an object that is put back is of its class
pub classes_back : (graph new_graph : Graph) (object : ObjId) (state : State) (identity : Option (List Value)) → new_graph ≡ with_object graph object (put_back_object (object_at graph object) state identity) → classes_of new_graph ≡ classes_of graph
classes_back graph new_graph object state identity is =
    classes_set graph new_graph object (put_back_object (object_at graph object) state identity) (settled_class state (record (object_at graph object) { state = state; identity = identity; marked = false })) is

-- of as many objects
pub classes_long : (old new : Graph) → classes_of new ≡ classes_of old → length new.objects ≡ length old.objects
unfolding classes_of
classes_long old new same =
    sym (length-map new.objects (λ (o : Object). o.class)) ∙ ap (λ (classes : List ClassId × List ClassId). length classes.0) same ∙ length-map old.objects (λ (o : Object). o.class)
