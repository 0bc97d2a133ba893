-- What a session does to one object in the transaction, or why it does not.
use Rattle.std.specs.Prelude.{true, not, Option, None, Some, Ok, Err, if◌then◌else◌}
use Rattle.base_core.specs.declared.ids.AttrNo.{AttrNo}
use Rattle.base_core.specs.declared.ids.ObjId.{ObjId}
use Rattle.base_core.specs.declared.refusal.Refusal.{Refusal}
use Rattle.base_core.specs.declared.refusal.Refusal.TheVariants.{InvalidRequestError}
use Rattle.base_core.specs.declared.refusal.RequestKind.TheVariants.{NotPersistent}
use Rattle.base_core.specs.declared.value.Value.{Value}
use Rattle.object_arena.specs.declared.object.Object.{Object}
use Rattle.object_arena.specs.Graph.{Graph, is_persistent, key_fault, object_at, with_object, with_value}
pub use Rattle.object_parts.specs.Cells.{is_kept_cell}
use Rattle.keeper_core.specs.Programs.{Run, quiet}
use Rattle.session_scopes.specs.SessionState.{SessionState, with_graph}

-- the objects become these, unless there is a fault
abbrev pub changed_unless : Option Refusal → Graph → SessionState → Run SessionState (Unit {0})
changed_unless (Some fault) graph session = quiet (Err fault) session
changed_unless None graph session = quiet (Ok tt) (with_graph graph session)

-- a cell gets a value; an object with an identity keeps the cells of its key
unfoldable pub value_put : ObjId → AttrNo → Value → SessionState → Run SessionState (Unit {0})
value_put object attr value session = changed_unless (key_fault session.mapping (object_at session.graph object) attr) (with_value session.graph object attr value) session

-- only a persistent object is deleted
abbrev pub delete_fault : Object → Option Refusal
delete_fault object = if not (is_persistent object.state) then Some (InvalidRequestError NotPersistent) else None

-- the next flush deletes a persistent object
unfoldable pub deletion_marked : ObjId → SessionState → Run SessionState (Unit {0})
deletion_marked object session =
    changed_unless (delete_fault (object_at session.graph object)) (with_object session.graph object (record (object_at session.graph object) { marked = true })) session
