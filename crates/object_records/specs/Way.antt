-- The way in which records are put in: objects that are to be persistent no more step aside, and then each record is put in.
use Rattle.std.specs.Prelude.{◌≡◌, ℕ, ◌<◌, Bool, true, false, not, ◌&&◌, List, length, cond, slice_index_or, Option}
use Rattle.base_core.specs.declared.ids.ClassId.{ClassId}
use Rattle.base_core.specs.declared.ids.ObjId.{ObjId}
use Rattle.base_core.specs.declared.value.Value.{Value}
use Rattle.object_arena.specs.declared.object.Object.{Object}
use Rattle.object_arena.specs.declared.object.State.{State}
use Rattle.object_arena.specs.declared.object.State.TheVariants.{Persistent, Detached}
use Rattle.object_arena.specs.Graph.{Graph, is_persistent, no_object, put_back_object}
use Rattle.object_arena.specs.Identity.{IsOne, holds_at}
use Rattle.savepoints.specs.Scopes.{Framed, touch}
use Rattle.object_records.specs.Records.{CanReplace, record_at}

-- the scopes when the object has been touched, where that is asked for
abbrev pub touched_if : Bool → Graph → ObjId → Framed → Framed
touched_if asked graph object frames = cond asked (touch graph object frames) frames

abbrev pub aside_if : Bool → Object → Object
aside_if true object = put_back_object object Detached object.identity
aside_if false object = object

-- an object that is to be persistent no more is detached
abbrev pub aside_for : Object → Object → Object
aside_for new object = aside_if (is_persistent object.state && not (is_persistent new.state)) object

-- the object at a place, which is to have the record there
abbrev pub aside : List (Option Object) → ℕ → Object → Object
aside records place object = aside_for (record_at records place object) object

-- the object in a state and under an identity
abbrev pub stood : State → Option (List Value) → Object → Object
stood Persistent identity object = record object { state = Persistent; identity = identity }
stood state identity object = put_back_object object state identity

-- the object with an add number and marks
abbrev pub with_own_marks : ℕ → Bool → Bool → Object → Object
with_own_marks added marked orphan object = record object { added = added; marked = marked; orphan = orphan }

-- what is held in the graph is held by the objects too
abbrev pub HoldNoMore : Graph → List Object → Type 0
HoldNoMore graph objects = (root : ClassId) (key : List Value) (place : ℕ) → holds_at graph.objects graph.roots root key place ≡ true → holds_at objects graph.roots root key place ≡ true

-- these objects can be put in, each in the place of its own, and nothing else is held than what they hold
pub record ArePuttable (graph : Graph) (objects : List Object) : Type 0 where
  pub long : length objects ≡ length graph.objects
  pub rooted : length graph.roots ≡ length graph.objects
  pub each : (place : ℕ) → place < length graph.objects → CanReplace (slice_index_or graph.objects place no_object) (slice_index_or objects place no_object)
  pub one : IsOne objects graph.roots
  pub held : HoldNoMore graph objects
