-- What success of a flush makes of the objects: one map over their places.
use Rattle.std.specs.Prelude.{ℕ, Bool, true, false, ◌==◌, List, map, slice_index_or, Option, None, Some, if◌then◌else◌}
use Rattle.std.specs.List.{enumerate_from, position}
use Rattle.std.specs.Option.{option_map, unwrap_or}
use Rattle.base_core.specs.declared.ids.AttrNo.{AttrNo}
use Rattle.base_core.specs.declared.ids.ClassId.{ClassId}
use Rattle.base_core.specs.declared.ids.ObjId.{ObjId}
use Rattle.base_core.specs.declared.refusal.RowName.{RowName}
use Rattle.base_core.specs.declared.value.Value.{Value}
use Rattle.base_core.specs.declared.value.Value.TheVariants.{Null}
use Rattle.schema_core.specs.declared.changes.RowCell.{RowCell}
use Rattle.schema_core.specs.declared.changes.RowCell.TheVariants.{Given, KeyOf}
use Rattle.schema_core.specs.declared.changes.RowChanges.{RowChanges}
use Rattle.schema_core.specs.Tables.{value_or_null}
use Rattle.class_types.specs.declared.mapped.Attribute.{Attribute}
use Rattle.class_mapping.specs.Mapped.{Mapped, attribute_of, class_spec, is_key_attribute, key_attributes}
use Rattle.object_arena.specs.declared.object.Cell.{Cell}
use Rattle.object_arena.specs.declared.object.Link.{Link}
use Rattle.object_arena.specs.declared.object.Link.TheVariants.{One}
use Rattle.object_arena.specs.declared.object.Object.{Object}
use Rattle.object_arena.specs.declared.object.State.{State}
use Rattle.object_arena.specs.declared.object.State.TheVariants.{Transient, Pending, Persistent, Deleted, Detached}
use Rattle.object_arena.specs.Every.{each_placed}
use Rattle.object_arena.specs.Graph.{Graph, is_among, place_of, root_at}
use Rattle.object_arena.specs.Identity.{id_of_place, is_other}
pub use Rattle.object_parts.specs.Links.{kept_link}
use Rattle.object_rows.specs.declared.prepared.Prepared.{Prepared}
use Rattle.object_rows.specs.Cells.{key_value, linked_cell}
use Rattle.object_rows.specs.Rows.{is_discriminator, new_names}
use Rattle.object_rows.specs.Seen.{is_cleared}
use Rattle.graph_flushed.specs.Keys.{Keys, new_holder, new_keys}

-- a prepared graph whose changes were written: its mapping, the names of its new rows, and the keys of its new objects
pub record Written : Type 0 where
  pub mapping : Mapped
  pub graph : Graph
  pub prepared : Prepared
  pub names : List RowName
  pub keys : Keys

-- ---- values

abbrev pub no_row : RowName
no_row = record { table = record { 0 = 0 }; object = record { 0 = 0 } }

-- the key that a new object has
abbrev pub key_of : Written → ObjId → Option (List Value)
key_of written object = slice_index_or written.keys (place_of object) None

-- what a cell of a row holds: a part of the key of a new row is that of its object's
abbrev pub value_put : Written → RowCell → Value
value_put written (Given value) = value
value_put written (KeyOf place part) = key_value (key_of written (slice_index_or written.names place no_row).object) part

-- what came through a changed link of an object into an attribute
abbrev pub value_come : Written → ObjId → Attribute → Option Value
value_come written object attribute = option_map (value_put written) (linked_cell written.mapping written.graph written.prepared written.names object attribute.table attribute.name)

-- what a new row holds for an attribute outside the key: the class's identity, what came through a link, or the object's value
abbrev pub own_value : Written → ObjId → ClassId → Attribute → Cell → Value
own_value written object class attribute cell =
    if is_discriminator written.mapping class attribute.table attribute.name then value_or_null (class_spec written.mapping class).identity
    else unwrap_or (value_come written object attribute) (value_or_null cell.value)

abbrev pub part_or : List Value → Option ℕ → Value → Value
part_or key None value = value
part_or key (Some part) value = slice_index_or key part Null

-- what a new row holds for an attribute: a part of its key where it is one
abbrev pub new_value : Written → ObjId → ClassId → List Value → ℕ × Cell → Value
new_value written object class key placed =
    part_or key (position (λ attr. attr.0 == placed.0) (key_attributes written.mapping class))
    (own_value written object class (attribute_of written.mapping class (record { 0 = placed.0 })) placed.1)

-- ---- cells

-- a cell that holds what its row holds
abbrev pub held_cell : Value → Cell
held_cell value = let known : Option Value = Some value in record { value = known; base = known }

abbrev pub held_or : Option Value → Cell → Cell
held_or None cell = cell
held_or (Some value) cell = held_cell value

-- a cell whose row has its value; an expired one stays as it is
abbrev pub kept_cell : Cell → Cell
kept_cell cell = held_or cell.value cell

-- a cell of an object that keeps its rows: outside the key it holds what came through a link
abbrev pub staying_cell : Written → ObjId → ClassId → ℕ × Cell → Cell
staying_cell written object class placed =
    let attr : AttrNo = record { 0 = placed.0 } in
    if is_key_attribute written.mapping class attr then kept_cell placed.1
    else held_or (value_come written object (attribute_of written.mapping class attr)) (kept_cell placed.1)

abbrev pub new_cell : Written → ObjId → ClassId → List Value → ℕ × Cell → Cell
new_cell written object class key placed = held_cell (new_value written object class key placed)

-- ---- links

-- a link of a prepared graph
abbrev pub prepared_link : Bool → Link → Link
prepared_link true link = One None true
prepared_link false link = link

abbrev pub prepared_links : Prepared → ObjId → List Link → List Link
prepared_links prepared object links = map (λ placed. prepared_link (is_cleared prepared object (record { 0 = placed.0 })) placed.1) (enumerate_from 0 links)

abbrev pub kept_links : Prepared → ObjId → List Link → List Link
kept_links prepared object links = map kept_link (prepared_links prepared object links)

-- ---- objects

-- persistent, unless another new object has the key
abbrev pub state_unless : Bool → State
state_unless true = Detached
state_unless false = Persistent

abbrev pub state_under : Written → ObjId → Option (List Value) → State
state_under written object None = Persistent
state_under written object (Some key) = state_unless (is_other object (new_holder written.keys written.graph.roots (root_at written.graph object) key))

-- a new object is persistent under its key; one that is new no more is transient
abbrev pub new_object : Written → ObjId → Option (List Value) → Object → Object
new_object written object None it = record it { state = Transient; identity = None; links = prepared_links written.prepared object it.links }
new_object written object (Some key) it = record it {
  state = state_under written object (Some key);
  identity = Some key;
  cells = map (new_cell written object it.class key) (enumerate_from 0 it.cells);
  links = kept_links written.prepared object it.links;
}

-- an object that keeps its rows
abbrev pub staying_object : Written → ObjId → Object → Object
staying_object written object it = record it {
  state = state_under written object it.identity;
  cells = map (staying_cell written object it.class) (enumerate_from 0 it.cells);
  links = kept_links written.prepared object it.links;
}

abbrev pub deleted_object : Written → ObjId → Object → Object
deleted_object written object it = record it {
  state = Deleted;
  marked = false;
  cells = map kept_cell it.cells;
  links = kept_links written.prepared object it.links;
}

-- an object outside the session
abbrev pub other_object : Written → ObjId → Object → Object
other_object written object it = record it { links = prepared_links written.prepared object it.links }

abbrev pub object_in : State → Written → ObjId → Object → Object
object_in Pending written object it = new_object written object (key_of written object) it
object_in Persistent written object it = if is_among written.prepared.deleted object then deleted_object written object it else staying_object written object it
object_in state written object it = other_object written object it

-- an object after success
abbrev pub object_flushed : Written → ObjId → Object → Object
object_flushed written object it = object_in it.state written object it

-- the graph after success
unfoldable pub graph_written : Written → Graph
graph_written written = each_placed (λ place it. object_flushed written (id_of_place place) it) written.graph

-- a prepared graph whose changes were written, where its new rows have these keys in their order
abbrev pub written_with : Mapped → Prepared → RowChanges → List (List Value) → Graph → Written
written_with mapped prepared changes keys graph = record {
  mapping = mapped;
  graph = graph;
  prepared = prepared;
  names = new_names mapped graph prepared;
  keys = new_keys mapped graph prepared changes keys;
}

-- the graph after success of a flush whose new rows have these keys
abbrev pub graph_flushed : Mapped → Prepared → RowChanges → List (List Value) → Graph → Graph
graph_flushed mapped prepared changes keys graph = graph_written (written_with mapped prepared changes keys graph)
