-- What becomes of objects that leave a session, and why one does not.
use Rattle.std.specs.Prelude.{not, List, [], ◌∷◌, Option, if◌then◌else◌}
use Rattle.base_core.specs.declared.ids.ObjId.{ObjId}
use Rattle.base_core.specs.declared.refusal.Refusal.{Refusal}
use Rattle.base_core.specs.declared.refusal.Refusal.TheVariants.{InvalidRequestError}
use Rattle.base_core.specs.declared.refusal.RequestKind.TheVariants.{NotInSession}
use Rattle.object_arena.specs.declared.object.Object.{Object}
use Rattle.object_arena.specs.Graph.{Graph, object_at, with_object}
use Rattle.cascades.specs.declared.closures.Flag.TheVariants.{Expunge}
use Rattle.cascades.specs.Closures.{closure_of}
use Rattle.session_parts.specs.Ends.{object_left}
use Rattle.session_scopes.specs.SessionState.{SessionState, with_graph}
use Rattle.session_calls.specs.Parts.{fault_if}
use Rattle.session_objects.specs.Taking.{is_inside}

-- one that is in the session leaves it, and keeps its cells, its links and an orphan mark; any other stays as it is
abbrev pub expunged_object : Object → Object
expunged_object object = if is_inside object.state then object_left object else object

abbrev pub expunged_at : Graph → ObjId → Graph
expunged_at graph object = with_object graph object (expunged_object (object_at graph object))

-- an object leaves, and is touched where it comes to differ
abbrev pub with_expunged : ObjId → SessionState → SessionState
with_expunged object session = with_graph (expunged_at session.graph object) session

-- objects leave, one after another
abbrev pub all_expunged : List ObjId → SessionState → SessionState
all_expunged [] session = session
all_expunged (object ∷ objects) session = all_expunged objects (with_expunged object session)

-- an object leaves the session with all to which expunge goes on from it
unfoldable pub session_expunged : ObjId → SessionState → SessionState
session_expunged object session = all_expunged (closure_of Expunge session.mapping session.graph object) session

-- the object is not in the session
abbrev pub expunge_fault : ObjId → SessionState → Option Refusal
expunge_fault object session = fault_if (not (is_inside (object_at session.graph object).state)) (InvalidRequestError NotInSession)
