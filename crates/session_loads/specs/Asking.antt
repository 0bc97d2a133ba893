-- What is asked of a session before an object's cells or links are read from its rows.
use Rattle.std.specs.Prelude.{Bool, not, ◌&&◌, Option, Some, is_none, Result, Ok, Err}
use Rattle.std.specs.List.{list_any}
use Rattle.base_core.specs.declared.ids.AttrNo.{AttrNo}
use Rattle.base_core.specs.declared.ids.ObjId.{ObjId}
use Rattle.base_core.specs.declared.ids.RelNo.{RelNo}
use Rattle.base_core.specs.declared.refusal.Refusal.{Refusal}
use Rattle.base_core.specs.declared.refusal.Refusal.TheVariants.{DetachedInstanceError, InvalidRequestError}
use Rattle.base_core.specs.declared.refusal.RequestKind.TheVariants.{NotPersistent}
use Rattle.class_mapping.specs.Mapped.{key_attributes}
use Rattle.object_arena.specs.Graph.{cell_at, either_fault, is_persistent, object_at}
use Rattle.relations.specs.declared.calls.LinkCall.{LinkCall}
use Rattle.relations.specs.declared.change.Change.{Change}
use Rattle.relations.specs.Calls.{link_change}
use Rattle.relations.specs.Mirror.{is_unloaded, link_at}
use Rattle.session_scopes.specs.SessionState.{SessionState}
use Rattle.session_calls.specs.Parts.{fault_if}
use Rattle.session_objects.specs.Conflicts.{conflict_fault}
use Rattle.session_links.specs.Linking.{coming_along}

-- ---- what is to be read

-- the cell is expired
abbrev pub is_expired_in : ObjId → AttrNo → SessionState → Bool
is_expired_in object attr session = is_none (cell_at session.graph object attr).value

-- a cell of the object's key is expired
abbrev pub is_key_expired_in : ObjId → SessionState → Bool
is_key_expired_in object session = list_any (λ attr. is_expired_in object attr session) (key_attributes session.mapping (object_at session.graph object).class)

-- the link is not loaded
abbrev pub is_unloaded_in : ObjId → RelNo → SessionState → Bool
is_unloaded_in object place session = is_unloaded (link_at session.graph object place)

-- ---- objects that have no row in the session

abbrev pub is_persistent_in : ObjId → SessionState → Bool
is_persistent_in object session = is_persistent (object_at session.graph object).state

-- something is to be read of an object that is not persistent
abbrev pub detached_if : Bool → ObjId → SessionState → Option Refusal
detached_if asked object session = fault_if (asked && not (is_persistent_in object session)) (DetachedInstanceError object)

abbrev pub cell_fault : ObjId → AttrNo → SessionState → Option Refusal
cell_fault object attr session = detached_if (is_expired_in object attr session) object session

abbrev pub link_fault : ObjId → RelNo → SessionState → Option Refusal
link_fault object place session = detached_if (is_unloaded_in object place session) object session

-- the object is not persistent
abbrev pub persistence_fault : ObjId → SessionState → Option Refusal
persistence_fault object session = fault_if (not (is_persistent_in object session)) (InvalidRequestError NotPersistent)

-- ---- a link that is to change

abbrev pub fault_along : SessionState → ObjId → RelNo → LinkCall → Result Change Refusal → Option Refusal
fault_along session owner place call (Err fault) = Some fault
fault_along session owner place call (Ok change) = conflict_fault session.graph (coming_along session owner place call change)

-- why a link of an object is not changed, as far as that is known without its members
unfoldable pub asked_fault : ObjId → RelNo → LinkCall → SessionState → Option Refusal
asked_fault owner place call session = fault_along session owner place call (link_change session.graph session.mapping owner place call)

-- the same, and then that its members are to be read of an owner that is not persistent
abbrev pub members_fault : ObjId → RelNo → LinkCall → SessionState → Option Refusal
members_fault owner place call session = either_fault (asked_fault owner place call session) (link_fault owner place session)
