-- Why the reading of a flush's preparation is refused, whatever is told of the store.
use Rattle.std.specs.Prelude.{◌≡◌, Some}
use Rattle.base_core.specs.declared.ids.ObjId.{ObjId}
use Rattle.base_core.specs.declared.refusal.Refusal.{Refusal}
use Rattle.class_mapping.specs.Mapped.{Mapped}
use Rattle.object_arena.specs.Graph.{Graph}
use Rattle.load_filling.specs.Growing.{Grows}
use Rattle.load_calls.specs.Refreshing.{IsShownDeleted, Scene}
use Rattle.load_calls.specs.Refusals.{CanRefuseLoad}
use Rattle.prepared_objects.specs.Known.{next_unread}

-- what may refuse the reading of some object, by the objects that there are then
abbrev pub CanRefuseReading : Mapped → Graph → Refusal → Type 0
CanRefuseReading mapped graph e = (object : ObjId) × CanRefuseLoad mapped graph object e

-- at some scene since, over the same objects or more, what refuses the reading of the object is shown
pub record IsShownAfter (mapped : Mapped) (object : ObjId) (old new : Scene) (e : Refusal) : Type 0 where
  pub scene : Scene
  pub since : Grows old.0.graph scene.0.graph
  pub shown : IsShownDeleted mapped object scene new e

-- The object that was next was read, and that was refused for what may refuse it, and shows why.
pub record IsShownReading (mapped : Mapped) (old new : Scene) (e : Refusal) : Type 0 where
  pub object : ObjId
  pub turn : Scene
  pub since : Grows old.0.graph turn.0.graph
  pub next : next_unread mapped turn.0.graph ≡ Some object
  pub cause : CanRefuseLoad mapped new.0.graph object e
  pub shown : IsShownAfter mapped object turn new e
