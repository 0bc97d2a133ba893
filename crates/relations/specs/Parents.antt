-- The object to which a many-to-one link has led: its old parent.
use Rattle.std.specs.Prelude.{ℕ, Bool, true, false, ◌&&◌, List, map, slice_get, ◌==◌, Option, None, Some, is_none, if◌then◌else◌}
use Rattle.std.specs.List.{list_any, position}
use Rattle.base_core.specs.declared.ids.ClassId.{ClassId}
use Rattle.base_core.specs.declared.ids.ObjId.{ObjId}
use Rattle.base_core.specs.declared.ids.RelNo.{RelNo}
use Rattle.base_core.specs.declared.ids.TableId.{TableId}
use Rattle.base_core.specs.declared.value.Value.{Value}
use Rattle.schema_core.specs.Catalog.{same_name}
use Rattle.schema_core.specs.Tables.{has_null, value_or_null}
use Rattle.class_types.specs.declared.mapped.Attribute.{Attribute}
use Rattle.class_types.specs.declared.mapped.Relation.{Relation}
use Rattle.class_sides.specs.Keys.{names_of}
use Rattle.class_mapping.specs.Mapped.{Mapped, attributes_of, root_of}
use Rattle.object_arena.specs.declared.object.Cell.{Cell}
use Rattle.object_arena.specs.declared.object.Link.{Link}
use Rattle.object_arena.specs.declared.object.Link.TheVariants.{Unset, Unloaded, One, Many}
use Rattle.object_arena.specs.declared.object.Object.{Object}
use Rattle.object_arena.specs.Graph.{Graph, IsObject, object_at}
use Rattle.object_arena.specs.Identity.{find_identity}
use Rattle.relations.specs.declared.parents.OldParent.{OldParent}
use Rattle.relations.specs.declared.parents.OldParent.TheVariants.{Known, NotKnown}

-- ---- the cells of a foreign key

-- the attribute is the column of this name of a table
abbrev pub is_column : TableId → List ℕ → Attribute → Bool
is_column table name attribute = (attribute.table.0 == table.0) && same_name attribute.name name

abbrev pub value_in : Option Cell → Option Value
value_in None = None
value_in (Some cell) = cell.value

abbrev pub value_at : List Cell → Option ℕ → Option Value
value_at cells None = None
value_at cells (Some place) = value_in (slice_get cells place)

-- the value of the cell of a table's column: none where it is expired
abbrev pub column_value : List Attribute → List Cell → TableId → List ℕ → Option Value
column_value attributes cells table name = value_at cells (position (is_column table name) attributes)

-- the cell of one of these columns is expired
abbrev pub is_expired_in : List Attribute → List Cell → TableId → List (List ℕ) → Bool
is_expired_in attributes cells table names = list_any (λ name. is_none (column_value attributes cells table name)) names

-- the values of these columns
abbrev pub values_in : List Attribute → List Cell → TableId → List (List ℕ) → List Value
values_in attributes cells table names = map (λ name. value_or_null (column_value attributes cells table name)) names

-- ---- the old parent

abbrev pub known_or_not : Option ObjId → OldParent
known_or_not None = NotKnown
known_or_not (Some object) = Known (Some object)

-- the parent that the values of a foreign key name: none where one is NULL, else the object that the identity map has for them
abbrev pub parent_under : Graph → ClassId → List Value → OldParent
parent_under graph root key = if has_null key then Known None else known_or_not (find_identity graph root key)

-- the parent that the cells of an object's foreign key name; it is not known where one of them is expired
abbrev pub parent_by_cells : Graph → Mapped → Object → Relation → OldParent
parent_by_cells graph mapped object relation =
    let attributes = attributes_of mapped object.class in
    let table = relation.foreign.0 in
    let names = names_of mapped.schema.tables relation.foreign in
    if is_expired_in attributes object.cells table names then NotKnown
    else parent_under graph (root_of mapped relation.target) (values_in attributes object.cells table names)

abbrev pub parent_by_link : OldParent → Option Link → OldParent
parent_by_link by_cells (Some (Unloaded added removed)) = by_cells
parent_by_link by_cells (Some (One end changed)) = Known end
parent_by_link by_cells (Some Unset) = Known None
parent_by_link by_cells (Some (Many members base)) = Known None
parent_by_link by_cells None = Known None

-- the old parent of a link: where it is loaded the object to which it leads, where it is unloaded the one that the cells name
unfoldable pub old_parent : Graph → Mapped → ObjId → RelNo → Relation → OldParent
old_parent graph mapped child place relation =
    parent_by_link (parent_by_cells graph mapped (object_at graph child) relation) (slice_get (object_at graph child).links place.0)

-- ---- what is known

abbrev pub same_end : Option ObjId → Option ObjId → Bool
same_end None None = true
same_end (Some one) (Some other) = one.0 == other.0
same_end one other = false

-- the old parent is known to be this object, or known to be none
abbrev pub is_known_as : OldParent → Option ObjId → Bool
is_known_as (Known end) parent = same_end end parent
is_known_as NotKnown parent = false

-- an old parent that is known is an object of the graph
abbrev pub IsMade : Graph → OldParent → Type 0
IsMade graph (Known (Some object)) = IsObject graph object
IsMade graph (Known None) = Unit {0}
IsMade graph NotKnown = Unit {0}
