-- Why objects do not come into a session.
use Rattle.std.specs.Prelude.{Bool, true, false, not, ◌&&◌, ◌||◌, ◌==◌, List, Option, None, Some, is_some}
use Rattle.std.specs.List.{list_any}
use Rattle.base_core.specs.declared.ids.ObjId.{ObjId}
use Rattle.base_core.specs.declared.value.Value.{Value}
use Rattle.base_core.specs.declared.refusal.RequestKind.TheVariants as requests
use Rattle.base_core.specs.declared.refusal.Refusal.{Refusal}
use Rattle.base_core.specs.declared.refusal.Refusal.TheVariants.{InvalidRequestError}
use Rattle.object_arena.specs.declared.object.State.{State}
use Rattle.object_arena.specs.declared.object.State.TheVariants.{Deleted, Detached}
use Rattle.object_arena.specs.Graph.{Graph, either_fault, object_at, root_at}
use Rattle.object_arena.specs.Identity.{find_identity, has_key}
use Rattle.session_scopes.specs.SessionState.{SessionState}
use Rattle.session_calls.specs.Parts.{fault_if}
use Rattle.session_objects.specs.Taking.{coming_objects}

-- another object has the root and the key
abbrev pub has_same_identity : Graph → ObjId → List Value → ObjId → Bool
has_same_identity graph object key other =
    not (other.0 == object.0) && ((root_at graph object).0 == (root_at graph other).0 && has_key key (object_at graph other).identity)

-- a persistent object has the identity
abbrev pub is_mapped : Graph → ObjId → Option (List Value) → Bool
is_mapped graph object None = false
is_mapped graph object (Some key) = is_some (find_identity graph (root_at graph object) key)

-- a persistent object, or another one of these, has the identity
abbrev pub conflicts_under : Graph → List ObjId → ObjId → Option (List Value) → Bool
conflicts_under graph objects object None = false
conflicts_under graph objects object (Some key) = is_mapped graph object (Some key) || list_any (has_same_identity graph object key) objects

-- the object is detached, and its identity is another one's
abbrev pub conflicts_in : State → Graph → List ObjId → ObjId → Bool
conflicts_in Detached graph objects object = conflicts_under graph objects object (object_at graph object).identity
conflicts_in state graph objects object = false

-- some of the objects is
abbrev pub has_conflict : Graph → List ObjId → Bool
has_conflict graph objects = list_any (λ object. conflicts_in (object_at graph object).state graph objects object) objects

abbrev pub conflict_fault : Graph → List ObjId → Option Refusal
conflict_fault graph objects = fault_if (has_conflict graph objects) (InvalidRequestError requests.IdentityConflict)

abbrev pub is_deleted : State → Bool
is_deleted Deleted = true
is_deleted state = false

-- the object is deleted, or one of those that come in with it has an identity that is another one's
abbrev pub add_fault_among : ObjId → List ObjId → SessionState → Option Refusal
add_fault_among object objects session =
    either_fault (fault_if (is_deleted (object_at session.graph object).state) (InvalidRequestError requests.Deleted)) (conflict_fault session.graph objects)

-- why an object does not come in with those that hang on it
abbrev pub add_fault : ObjId → SessionState → Option Refusal
add_fault object session = add_fault_among object (coming_objects session.mapping session.graph object) session
