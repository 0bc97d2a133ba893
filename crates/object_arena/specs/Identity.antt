-- The identity map: for each root class and key the one persistent object that has them.
use Rattle.std.specs.Prelude.{◌≡◌, ℕ, ◌+◌, ◌≤◌, Bool, true, false, not, ◌&&◌, List, length, slice_index_or, ◌==◌, Option, None, Some, is_some, Result, Ok, Err, if◌then◌else◌}
use Rattle.std.specs.Option.{option_map}
use Rattle.std.specs.List.{All, position, zip}
use Rattle.base_core.specs.declared.ids.ObjId.{ObjId}
use Rattle.base_core.specs.declared.ids.ClassId.{ClassId}
use Rattle.base_core.specs.declared.value.Value.{Value}
use Rattle.base_core.specs.declared.refusal.RequestKind.TheVariants.{IdentityConflict}
use Rattle.base_core.specs.declared.refusal.Refusal.{Refusal}
use Rattle.base_core.specs.declared.refusal.Refusal.TheVariants.{InvalidRequestError}
use Rattle.schema_core.specs.Tables.{same_values}
use Rattle.object_arena.specs.declared.object.State.TheVariants.{Persistent}
use Rattle.object_arena.specs.declared.object.Object.{Object}
use Rattle.object_arena.specs.Graph.{Graph, has_identity, is_persistent, no_class_id, no_object, object_at, object_limit, root_at, with_object}

abbrev pub has_key : List Value → Option (List Value) → Bool
has_key key None = false
has_key key (Some own) = same_values own key

-- the object, of a class under the root, is persistent under the root and key
abbrev pub holds : ClassId → List Value → Object × ClassId → Bool
holds root key rooted = is_persistent rooted.0.state && (rooted.1.0 == root.0 && has_key key rooted.0.identity)

-- the object at a place is persistent under the root and key
abbrev pub holds_at : List Object → List ClassId → ClassId → List Value → ℕ → Bool
holds_at objects roots root key place = holds root key (slice_index_or objects place no_object, slice_index_or roots place no_class_id)

abbrev pub id_of_place : ℕ → ObjId
id_of_place place = record { 0 = place + 1 }

-- the persistent object of an identity
abbrev pub find_identity : Graph → ClassId → List Value → Option ObjId
find_identity graph root key = option_map id_of_place (position (holds root key) (zip graph.objects graph.roots))

-- no two persistent objects have one root and one key
abbrev pub IsOne : List Object → List ClassId → Type 0
IsOne objects roots = (root : ClassId) (key : List Value) (i j : ℕ) → holds_at objects roots root key i ≡ true → holds_at objects roots root key j ≡ true → i ≡ j

-- exactly persistent, deleted and detached objects have an identity
abbrev pub is_identified : Object → Bool
is_identified object = if has_identity object.state then is_some object.identity else not (is_some object.identity)

-- what every graph of an arena keeps
pub record IsGraph (objects : List Object) (roots : List ClassId) : Type 0 where
  pub rooted : length roots ≡ length objects
  pub few : length objects ≤ object_limit
  pub identified : All (λ object. is_identified object ≡ true) objects
  pub one : IsOne objects roots

abbrev pub is_other : ObjId → Option ObjId → Bool
is_other object None = false
is_other object (Some found) = not (found.0 == object.0)

-- another persistent object has the key that the object is to have
abbrev pub is_taken : Graph → ObjId → List Value → Bool
is_taken graph object key = is_other object (find_identity graph (root_at graph object) key)

-- no other persistent object has the key, if there is one
abbrev pub IsFree : Graph → ObjId → Option (List Value) → Type 0
IsFree graph object None = Unit {0}
IsFree graph object (Some key) = is_taken graph object key ≡ false

-- the graph in which the object is persistent under the key
abbrev pub with_identity : Graph → ObjId → List Value → Graph
with_identity graph object key = with_object graph object (record (object_at graph object) { state = Persistent; identity = Some key })

-- the answer to a registration: the graph then, unless another persistent object has the identity
unfoldable pub register : Graph → ObjId → List Value → Result (Unit {0} × Graph) Refusal
register graph object key = if is_taken graph object key then Err (InvalidRequestError IdentityConflict) else Ok (tt, with_identity graph object key)
