-- What becomes of each object at the end of a transaction that is not rolled back.
use Rattle.std.specs.Prelude.{false}
use Rattle.object_arena.specs.declared.object.Object.{Object}
use Rattle.object_arena.specs.declared.object.State.{State}
use Rattle.object_arena.specs.declared.object.State.TheVariants.{Transient, Pending, Persistent, Deleted, Detached}
use Rattle.object_arena.specs.Graph.{expired_object, kept_identity}

abbrev pub object_unmarked : Object → Object
object_unmarked object = record object { marked = false }

abbrev pub object_committed_in : State → Object → Object
object_committed_in Persistent object = expired_object object
object_committed_in Deleted object = record object { state = Detached }
object_committed_in state object = object

-- an object after a commit: a persistent one is expired, a deleted one detached
abbrev pub object_committed : Object → Object
object_committed object = object_committed_in object.state object

-- where an object stands once it has left the session
abbrev pub left_state : State → State
left_state Transient = Transient
left_state Pending = Transient
left_state state = Detached

-- an object after the session was closed: a pending one is transient, a persistent or deleted one detached, with its cells and links as they are
abbrev pub object_left : Object → Object
object_left object = record object { state = left_state object.state; identity = kept_identity (left_state object.state) object.identity; marked = false }
