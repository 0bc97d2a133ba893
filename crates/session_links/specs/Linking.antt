-- What becomes of a session where one link of an object is changed, and why it is not.
use Rattle.std.specs.Prelude.{Bool, ◌&&◌, List, [], Option, None, Some, is_some, Result, Ok, Err, if◌then◌else◌}
use Rattle.base_core.specs.declared.ids.ObjId.{ObjId}
use Rattle.base_core.specs.declared.ids.RelNo.{RelNo}
use Rattle.base_core.specs.declared.refusal.Refusal.{Refusal}
use Rattle.object_arena.specs.Fit.{relation_of}
use Rattle.object_arena.specs.Graph.{object_at, with_link}
use Rattle.relations.specs.declared.calls.LinkCall.{LinkCall}
use Rattle.relations.specs.declared.change.Change.{Change}
use Rattle.relations.specs.declared.change.LinkPut.{LinkPut}
use Rattle.relations.specs.Calls.{child_of, end_of, link_change}
use Rattle.relations.specs.Mirror.{with_orphan}
use Rattle.session_scopes.specs.SessionState.{SessionState, with_graph}
use Rattle.session_objects.specs.Conflicts.{conflict_fault}
use Rattle.session_objects.specs.Taking.{coming_objects, is_inside, session_joined}

-- ---- the links

-- a link is put in, and its object touched where it comes to differ
abbrev pub session_put : Option LinkPut → SessionState → SessionState
session_put None session = session
session_put (Some put) session = with_graph (with_link session.graph put.object put.relation put.link) session

-- an object is an orphan then or is none, where that changes
abbrev pub session_orphaned : ObjId → Option Bool → SessionState → SessionState
session_orphaned object None session = session
session_orphaned object (Some orphan) session = with_graph (with_orphan session.graph object (Some orphan)) session

-- the links change one after another
abbrev pub session_linked : ObjId → Change → SessionState → SessionState
session_linked child change session = session_put change.own (session_put change.joined (session_put change.left (session_orphaned child change.orphan session)))

-- ---- the objects that come in

-- the owner is in the session, and what is linked to it comes in with it
abbrev pub brings_in : SessionState → ObjId → RelNo → Bool
brings_in session owner place =
    is_inside (object_at session.graph owner).state && (relation_of session.mapping (object_at session.graph owner).class place).cascade.save_update

abbrev pub all_with : SessionState → Option ObjId → List ObjId
all_with session None = []
all_with session (Some end) = coming_objects session.mapping session.graph end

-- the objects that come in along the side that is acted on, where a collection is joined: the named object and those that hang on it
abbrev pub coming_if : Bool → SessionState → ObjId → RelNo → LinkCall → List ObjId
coming_if joins session owner place call = if joins && brings_in session owner place then all_with session (end_of call) else []

abbrev pub coming_along : SessionState → ObjId → RelNo → LinkCall → Change → List ObjId
coming_along session owner place call change = coming_if (is_some change.joined) session owner place call

-- ---- the call

-- the links can not change, or an identity would come in twice
abbrev pub fault_by : SessionState → ObjId → RelNo → LinkCall → Result Change Refusal → Option Refusal
fault_by session owner place call (Err fault) = Some fault
fault_by session owner place call (Ok change) = conflict_fault session.graph (coming_along session owner place call change)

-- why a link of an object is not changed
unfoldable pub change_fault : ObjId → RelNo → LinkCall → SessionState → Option Refusal
change_fault owner place call session = fault_by session owner place call (link_change session.graph session.mapping owner place call)

abbrev pub session_by : ObjId → RelNo → LinkCall → SessionState → Result Change Refusal → SessionState
session_by owner place call session (Err fault) = session
session_by owner place call session (Ok change) = session_joined (coming_along session owner place call change) (session_linked (child_of owner call) change session)

-- a link of an object and its other side change, and then the objects come in that hang on what was put in
unfoldable pub session_changed : ObjId → RelNo → LinkCall → SessionState → SessionState
session_changed owner place call session = session_by owner place call session (link_change session.graph session.mapping owner place call)
