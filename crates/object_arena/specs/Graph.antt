-- The graph of objects, and the changes of single objects in it.
use Rattle.std.specs.Prelude.{ℕ, ◌+◌, ◌-◌, ◌<◌, ◌≤◌, Bool, true, false, ◌&&◌, List, [], ◌∷◌, ◌++◌, length, map, slice_index_or, slice_set, nat_lt, Option, None, Some, is_some, Result, Ok, Err, if◌then◌else◌, ◌==◌}
use Rattle.std.specs.List.{list_any}
use Rattle.std.specs.Ordering.{nat_cmp, ordering_then}
use Rattle.std.specs.declared.cmp.Ordering.{Ordering}
use Rattle.base_core.specs.declared.ids.ObjId.{ObjId}
use Rattle.base_core.specs.declared.ids.ClassId.{ClassId}
use Rattle.base_core.specs.declared.ids.AttrNo.{AttrNo}
use Rattle.base_core.specs.declared.ids.RelNo.{RelNo}
use Rattle.base_core.specs.declared.value.Value.{Value}
use Rattle.base_core.specs.declared.value.Value.TheVariants.{Null}
use Rattle.base_core.specs.declared.refusal.LimitKind.TheVariants.{Objects}
use Rattle.base_core.specs.declared.refusal.RequestKind.TheVariants.{KeyChange}
use Rattle.base_core.specs.declared.refusal.Refusal.{Refusal}
use Rattle.base_core.specs.declared.refusal.Refusal.TheVariants.{InvalidRequestError, LimitReached}
use Rattle.schema_core.specs.Tables.{kind_of_value, value_or_null}
use Rattle.schema_core.specs.Refusals.{kind_fault}
use Rattle.class_mapping.specs.Mapped.{Mapped, attribute_of, attributes_of, is_key_attribute, relations_of, root_of}
use Rattle.object_arena.specs.declared.object.State.{State}
use Rattle.object_arena.specs.declared.object.State.TheVariants.{Transient, Pending, Persistent, Deleted, Detached}
use Rattle.object_arena.specs.declared.object.Cell.{Cell}
use Rattle.object_arena.specs.declared.object.CellRead.{CellRead}
use Rattle.object_arena.specs.declared.object.CellRead.TheVariants.{Held, Expired}
use Rattle.object_arena.specs.declared.object.Link.{Link}
use Rattle.object_arena.specs.declared.object.Link.TheVariants.{Unset, Unloaded, One, Many}
use Rattle.object_arena.specs.declared.object.Object.{Object}

-- the objects in order of number, and the root class of each one's class
pub record Graph : Type 0 where
  pub objects : List Object
  pub roots : List ClassId

abbrev pub empty_graph : Graph
empty_graph = record { objects = []; roots = [] }

-- an object that is none
abbrev pub no_object : Object
no_object = record { class = record { 0 = 0 }; state = Transient; identity = None; added = 0; marked = false; orphan = false; cells = []; links = [] }

abbrev pub no_class_id : ClassId
no_class_id = record { 0 = 0 }

-- an object's place: numbers begin at 1
abbrev pub place_of : ObjId → ℕ
place_of object = object.0 - 1

-- the object has been made
abbrev pub IsObject : Graph → ObjId → Type 0
IsObject graph object = (0 < object.0) × (object.0 ≤ length graph.objects)

-- the record of an object
abbrev pub object_at : Graph → ObjId → Object
object_at graph object = slice_index_or graph.objects (place_of object) no_object

-- the root class of an object's class
abbrev pub root_at : Graph → ObjId → ClassId
root_at graph object = slice_index_or graph.roots (place_of object) no_class_id

-- the graph with another record of an object
abbrev pub with_object : Graph → ObjId → Object → Graph
with_object graph object new = record { objects = slice_set graph.objects (place_of object) new; roots = graph.roots }

abbrev pub null_cell : Cell
null_cell = record { value = Some Null; base = None }

abbrev pub expired_cell : Cell
expired_cell = record { value = None; base = None }

-- the object has a cell of this number
abbrev pub IsCell : Graph → ObjId → AttrNo → Type 0
IsCell graph object attr = attr.0 < length (object_at graph object).cells

-- the object has a link of this number
abbrev pub IsLink : Graph → ObjId → RelNo → Type 0
IsLink graph object relation = relation.0 < length (object_at graph object).links

abbrev pub cell_in : Object → AttrNo → Cell
cell_in object attr = slice_index_or object.cells attr.0 expired_cell

-- a cell of an object
abbrev pub cell_at : Graph → ObjId → AttrNo → Cell
cell_at graph object attr = cell_in (object_at graph object) attr

-- what a read of a cell shows: its value, unless it is expired
abbrev pub value_read : CellRead → Option Value
value_read (Held value) = Some value.now
value_read Expired = None

-- the object with another cell
abbrev pub cell_put : Object → AttrNo → Cell → Object
cell_put object attr cell = record object { cells = slice_set object.cells attr.0 cell }

-- the graph with another cell of an object
abbrev pub with_cell : Graph → ObjId → AttrNo → Cell → Graph
with_cell graph object attr cell = with_object graph object (cell_put (object_at graph object) attr cell)

-- the graph with another link of an object
abbrev pub with_link : Graph → ObjId → RelNo → Link → Graph
with_link graph object relation link = with_object graph object (record (object_at graph object) { links = slice_set (object_at graph object).links relation.0 link })

-- the graph with another add number and other marks of an object
abbrev pub with_marks : Graph → ObjId → ℕ → Bool → Bool → Graph
with_marks graph object added marked orphan = with_object graph object (record (object_at graph object) { added = added; marked = marked; orphan = orphan })

-- a transient object of a class: null cells, unset links
abbrev pub fresh_object : Mapped → ClassId → Object
fresh_object mapped class = record {
  class = class;
  state = Transient;
  identity = None;
  added = 0;
  marked = false;
  orphan = false;
  cells = map (λ attribute. null_cell) (attributes_of mapped class);
  links = map (λ relation. Unset) (relations_of mapped class);
}

-- the graph with one more object
abbrev pub with_fresh : Graph → Mapped → ClassId → Graph
with_fresh graph mapped class = record { objects = graph.objects ++ fresh_object mapped class ∷ []; roots = graph.roots ++ root_of mapped class ∷ [] }

-- how many objects there are at most
abbrev pub object_limit : ℕ
object_limit = 1000000

-- the answer to the making of an object: the next number with the graph then
unfoldable pub make : Graph → Mapped → ClassId → Result (ObjId × Graph) Refusal
make graph mapped class =
    if nat_lt (length graph.objects) object_limit then Ok (record { 0 = length graph.objects + 1 }, with_fresh graph mapped class)
    else Err (LimitReached Objects)

-- why a value is not taken for an attribute of an object
abbrev pub value_fault : Mapped → Object → AttrNo → Value → Option Refusal
value_fault mapped object attr value = kind_fault (attribute_of mapped object.class attr).kind (kind_of_value value)

-- an object with an identity keeps the cells of its key
abbrev pub key_fault : Mapped → Object → AttrNo → Option Refusal
key_fault mapped object attr = if is_some object.identity && is_key_attribute mapped object.class attr then Some (InvalidRequestError KeyChange) else None

abbrev pub either_fault : Option Refusal → Option Refusal → Option Refusal
either_fault None second = second
either_fault (Some fault) second = Some fault

-- the graph with another value of a cell, whose base stays
abbrev pub with_value : Graph → ObjId → AttrNo → Value → Graph
with_value graph object attr value = with_cell graph object attr (record (cell_at graph object attr) { value = Some value })

abbrev pub changed_unless : Option Refusal → Graph → Result (Unit {0} × Graph) Refusal
changed_unless (Some fault) graph = Err fault
changed_unless None graph = Ok (tt, graph)

-- the answer to the setting of a cell: the graph then, or why the value is not taken
unfoldable pub set_cell : Graph → Mapped → ObjId → AttrNo → Value → Result (Unit {0} × Graph) Refusal
set_cell graph mapped object attr value =
    changed_unless (either_fault (value_fault mapped (object_at graph object) attr value) (key_fault mapped (object_at graph object) attr)) (with_value graph object attr value)

-- the object without its cells' values and bases and its links, and no orphan
abbrev pub expired_object : Object → Object
expired_object object = record object { orphan = false; cells = map (λ cell. expired_cell) object.cells; links = map (λ link. Unloaded [] []) object.links }

-- exactly persistent, deleted and detached objects have an identity
abbrev pub has_identity : State → Bool
has_identity Transient = false
has_identity Pending = false
has_identity Persistent = true
has_identity Deleted = true
has_identity Detached = true

abbrev pub is_persistent : State → Bool
is_persistent Persistent = true
is_persistent state = false

abbrev pub is_pending : State → Bool
is_pending Pending = true
is_pending state = false

-- an object is among others
abbrev pub is_among : List ObjId → ObjId → Bool
is_among objects object = list_any (λ other. other.0 == object.0) objects

-- where a pending object stands among the others: by its add number, and then by its own number
abbrev pub Rank : Type 0
Rank = ℕ × ℕ

abbrev pub rank_cmp : Rank → Rank → Ordering
rank_cmp one other = ordering_then (nat_cmp one.0 other.0) (nat_cmp one.1 other.1)

-- objects by their rank
abbrev pub Queue : Type 0
Queue = List (Rank × ObjId)

-- an identity stays where the state has one
abbrev pub kept_identity : State → Option (List Value) → Option (List Value)
kept_identity Transient identity = None
kept_identity Pending identity = None
kept_identity state identity = identity

-- the graph with another state of an object
abbrev pub with_state : Graph → ObjId → State → Graph
with_state graph object state = with_object graph object (record (object_at graph object) { state = state; identity = kept_identity state (object_at graph object).identity })

-- an expired cell becomes NULL
abbrev pub settled_value : Option Value → Cell → Cell
settled_value None cell = null_cell
settled_value (Some value) cell = cell

abbrev pub settled_cell : Cell → Cell
settled_cell cell = settled_value cell.value cell

-- kept adds become the members
abbrev pub settled_adds : List ObjId → Link
settled_adds [] = Unset
settled_adds (member ∷ members) = Many (member ∷ members) []

-- an unloaded link becomes unset or has its kept adds, a link to an object is changed, and a collection has no base
abbrev pub settled_link : Link → Link
settled_link Unset = Unset
settled_link (Unloaded added removed) = settled_adds added
settled_link (One None changed) = One None changed
settled_link (One (Some end) changed) = One (Some end) true
settled_link (Many members base) = Many members []

-- a transient object has no expired cell and no unloaded link
abbrev pub settled_object : State → Object → Object
settled_object Transient object = record object { cells = map settled_cell object.cells; links = map settled_link object.links }
settled_object state object = object

-- the object in a state that it had, without a delete mark
abbrev pub put_back_object : Object → State → Option (List Value) → Object
put_back_object object state identity = settled_object state (record object { state = state; identity = identity; marked = false })

-- the row of an object: the value of each cell, and NULL where it is not known
abbrev pub row_of : Object → List Value
row_of object = map (λ cell. value_or_null cell.value) object.cells
