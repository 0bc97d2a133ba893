-- The expiry of an object and of those that hang on it.
use Rattle.std.specs.Prelude.{List, [], ◌∷◌}
use Rattle.base_core.specs.declared.ids.ObjId.{ObjId}
use Rattle.object_arena.specs.Graph.{Graph, is_persistent, object_at, with_object}
use Rattle.cascades.specs.declared.closures.Flag.TheVariants.{RefreshExpire}
use Rattle.cascades.specs.Closures.{closure_of}
use Rattle.object_parts.specs.Expired.{expired_if}
use Rattle.session_scopes.specs.SessionState.{SessionState, with_graph}

-- nothing is known of the object's cells and links then, if it is persistent
abbrev pub expired_at : Graph → ObjId → Graph
expired_at graph object = with_object graph object (expired_if (is_persistent (object_at graph object).state) (object_at graph object))

-- an object is expired, and touched where it comes to differ
abbrev pub with_expired : ObjId → SessionState → SessionState
with_expired object session = with_graph (expired_at session.graph object) session

-- objects are expired, one after another
abbrev pub all_expired : List ObjId → SessionState → SessionState
all_expired [] session = session
all_expired (object ∷ objects) session = all_expired objects (with_expired object session)

-- an object is expired with all to which refresh-expire goes on from it
unfoldable pub session_expired : ObjId → SessionState → SessionState
session_expired object session = all_expired (closure_of RefreshExpire session.mapping session.graph object) session
