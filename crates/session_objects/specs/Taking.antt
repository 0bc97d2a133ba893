-- What becomes of objects that come into a session.
use Rattle.std.specs.Prelude.{◌≡◌, ◌≢◌, ℕ, ◌+◌, Bool, true, false, not, List, [], ◌∷◌, Option, None, Some, if◌then◌else◌}
use Rattle.std.specs.List.{filter}
use Rattle.base_core.specs.Counts.{one_more}
use Rattle.base_core.specs.Order.{same_value}
use Rattle.base_core.specs.declared.ids.AttrNo.{AttrNo}
use Rattle.base_core.specs.declared.ids.ObjId.{ObjId}
use Rattle.base_core.specs.declared.value.Value.{Value}
use Rattle.class_mapping.specs.Mapped.{Mapped}
use Rattle.object_arena.specs.declared.object.Cell.{Cell}
use Rattle.object_arena.specs.declared.object.Object.{Object}
use Rattle.object_arena.specs.declared.object.State.{State}
use Rattle.object_arena.specs.declared.object.State.TheVariants.{Transient, Pending, Persistent, Detached}
use Rattle.object_arena.specs.Graph.{Graph, IsObject, expired_object, object_at, place_of, root_at, with_object}
use Rattle.object_arena.specs.Identity.{IsFree, has_key, holds_at}
use Rattle.cascades.specs.declared.closures.Flag.TheVariants.{SaveUpdate}
use Rattle.cascades.specs.Closures.{closure_of, is_among}
use Rattle.object_parts.specs.Sides.{without}
use Rattle.session_parts.specs.Ends.{object_unmarked}
use Rattle.session_scopes.specs.Making.{object_with}
use Rattle.session_scopes.specs.SessionState.{SessionState, with_graph}

-- a value that is another than that of its row, or whose row's is not known
abbrev pub is_value_changed : Value → Option Value → Bool
is_value_changed value None = true
is_value_changed value (Some base) = not (same_value value base)

abbrev pub with_changed : ℕ → Option Value → Option Value → List (AttrNo × Value) → List (AttrNo × Value)
with_changed place None base others = others
with_changed place (Some value) base others = if is_value_changed value base then (record { 0 = place }, value) ∷ others else others

-- the values of cells from a place on that were changed since they were read or written
abbrev pub changed_values : ℕ → List Cell → List (AttrNo × Value)
changed_values place [] = []
changed_values place (cell ∷ cells) = with_changed place cell.value cell.base (changed_values (place + 1) cells)

-- an object that comes back: what was changed stays, to be written, and the rest is to be read
abbrev pub returned_object : Object → Object
returned_object object = object_with (expired_object (record object { state = Persistent; marked = false })) (changed_values 0 object.cells)

-- a transient object is pending then under an add number, and a detached one persistent; the others stay
abbrev pub object_taken : State → ℕ → Object → Object
object_taken Transient number object = record object { state = Pending; identity = None; added = number }
object_taken Detached number object = returned_object object
object_taken state number object = object

-- the same by its own state
abbrev pub taken_under : ℕ → Object → Object
taken_under number object = object_taken object.state number object

-- a detached object's identity is no other persistent object's
abbrev pub MayReturn : Graph → ObjId → Type 0
MayReturn graph object = (object_at graph object).state ≡ Detached → IsFree graph object (object_at graph object).identity

-- how many add numbers were given then
abbrev pub added_then : State → ℕ → ℕ
added_then Transient added = one_more added
added_then state added = added

-- an object comes in, under the next add number where it is transient
abbrev pub session_taken : ObjId → SessionState → SessionState
session_taken object session =
    with_graph (with_object session.graph object (taken_under (one_more session.added) (object_at session.graph object)))
    (record session { added = added_then (object_at session.graph object).state session.added })

-- objects come in, one after another
abbrev pub session_joined : List ObjId → SessionState → SessionState
session_joined [] session = session
session_joined (object ∷ objects) session = session_joined objects (session_taken object session)

-- the objects that come in with an object along save-update, it first and the others by number
abbrev pub coming_objects : Mapped → Graph → ObjId → List ObjId
coming_objects mapped graph object = object ∷ without (closure_of SaveUpdate mapped graph object) object

-- pending and persistent objects are in the session
abbrev pub is_inside : State → Bool
is_inside Pending = true
is_inside Persistent = true
is_inside state = false

-- those of the objects that are not in the session
abbrev pub outsiders : Graph → List ObjId → List ObjId
outsiders graph objects = filter (λ object. not (is_inside (object_at graph object).state)) objects

abbrev pub unmarked : Graph → ObjId → Graph
unmarked graph object = with_object graph object (object_unmarked (object_at graph object))

-- the object has no delete mark then
abbrev pub session_unmarked : ObjId → SessionState → SessionState
session_unmarked object session = with_graph (unmarked session.graph object) session

-- an object and those that come in with it are in the session, and the object's delete mark is taken away
abbrev pub session_added : ObjId → SessionState → SessionState
session_added object session = session_unmarked object (session_joined (coming_objects session.mapping session.graph object) session)

-- ---- when objects may come in

-- all objects have been made
abbrev pub AreMade : Graph → List ObjId → Type 0
AreMade graph [] = Unit {0}
AreMade graph (object ∷ objects) = IsObject graph object × AreMade graph objects

-- all objects have been made, and none is told twice
abbrev pub AreOnce : Graph → List ObjId → Type 0
AreOnce graph [] = Unit {0}
AreOnce graph (object ∷ objects) = IsObject graph object × (is_among objects object ≡ false) × AreOnce graph objects

-- no persistent object has the identity of the object, where that is detached
abbrev pub IsUnheld : Graph → ObjId → Type 0
IsUnheld graph object =
    (object_at graph object).state ≡ Detached
    → (key : List Value) → (object_at graph object).identity ≡ Some key → (place : ℕ) → holds_at graph.objects graph.roots (root_at graph object) key place ≡ false

-- the first object has the root and the key of none of the others that are detached, and is none of them
abbrev pub IsApart : Graph → ObjId → List ObjId → Type 0
IsApart graph object [] = Unit {0}
IsApart graph object (other ∷ others) =
    (place_of other ≢ place_of object)
    × ((object_at graph other).state ≡ Detached → (key : List Value) → (object_at graph other).identity ≡ Some key → (root_at graph object).0 ≡ (root_at graph other).0 → has_key key (object_at graph object).identity ≡ false)
    × IsApart graph object others

-- the objects may come in one after another: no identity that comes back with one is held, or comes back with two
abbrev pub MayComeIn : Graph → List ObjId → Type 0
MayComeIn graph [] = Unit {0}
MayComeIn graph (object ∷ objects) = IsObject graph object × IsUnheld graph object × IsApart graph object objects × MayComeIn graph objects

-- each of the objects may come in when it is its turn
abbrev pub MayJoin : SessionState → List ObjId → Type 0
MayJoin session [] = Unit {0}
MayJoin session (object ∷ objects) = IsObject session.graph object × MayReturn session.graph object × MayJoin (session_taken object session) objects
