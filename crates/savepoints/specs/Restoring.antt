-- The way in which objects go back: first none is persistent, and then one after another stands again where it stood.
use Rattle.std.specs.Prelude.{◌≡◌, Bool, false, List, Option, None, Some, is_some}
use Rattle.base_core.specs.declared.ids.ObjId.{ObjId}
use Rattle.base_core.specs.declared.value.Value.{Value}
use Rattle.object_arena.specs.declared.object.Object.{Object}
use Rattle.object_arena.specs.declared.object.State.TheVariants.{Pending, Detached}
use Rattle.object_arena.specs.Graph.{Graph, is_persistent, object_at, put_back_object, with_object}
use Rattle.object_arena.specs.Identity.{is_taken}
use Rattle.savepoints.specs.declared.scope.Standing.{Standing}
use Rattle.savepoints.specs.Scopes.{back_to}

abbrev pub freed_object : Option (List Value) → Object → Object
freed_object None object = put_back_object object Pending None
freed_object (Some key) object = put_back_object object Detached (Some key)

-- the object is not persistent, and keeps its identity
abbrev pub set_free : Object → Object
set_free object = freed_object object.identity object

abbrev pub IsFree : Object → Type 0
IsFree object = is_persistent object.state ≡ false

-- another object is persistent under the identity
abbrev pub is_held : Graph → ObjId → Option (List Value) → Bool
is_held graph object None = false
is_held graph object (Some key) = is_taken graph object key

-- the graph in which the object stands so, or is detached where another one is persistent under its identity
abbrev pub with_back : Graph → ObjId → Standing → Graph
with_back graph object standing = with_object graph object (back_to standing (is_held graph object standing.identity) (object_at graph object))
