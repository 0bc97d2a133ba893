-- Whether a change of a link changes the key of its object.
use Rattle.std.specs.Prelude.{ℕ, Bool, true, false, not, ◌&&◌, List, filter, slice_get, Option, None, Some, is_some}
use Rattle.std.specs.List.{list_all, list_any, position, zip}
use Rattle.std.specs.Ordering.{is_eq}
use Rattle.base_core.specs.declared.ids.ObjId.{ObjId}
use Rattle.base_core.specs.declared.value.Value.{Value}
use Rattle.base_core.specs.Order.{value_cmp}
use Rattle.schema_core.specs.declared.table.ColumnSpec.{ColumnSpec}
use Rattle.schema_core.specs.Catalog.{same_name}
use Rattle.class_types.specs.declared.mapped.Relation.{Relation}
use Rattle.class_layouts.specs.Columns.{columns_in}
use Rattle.class_sides.specs.Keys.{names_of}
use Rattle.class_mapping.specs.Mapped.{Mapped}
use Rattle.object_arena.specs.Graph.{Graph, IsObject, is_persistent, object_at}
use Rattle.relations.specs.Parents.{is_known_as}
use Rattle.relations.specs.declared.parents.OldParent.{OldParent}

-- the place of a column in its table's key, if it is a column of the key
abbrev pub key_place : List ColumnSpec → List ℕ → Option ℕ
key_place columns name = position (λ column. same_name column.name name) (filter (λ column. column.key) columns)

-- one of the columns is a column of the key
abbrev pub is_over_key : List ColumnSpec → List (List ℕ) → Bool
is_over_key columns names = list_any (λ name. is_some (key_place columns name)) names

abbrev pub is_value : Option Value → Value → Bool
is_value None value = false
is_value (Some own) value = is_eq (value_cmp own value)

abbrev pub is_value_at : List Value → Option ℕ → Value → Bool
is_value_at own None value = true
is_value_at own (Some place) value = is_value (slice_get own place) value

-- the parent's key gives those of the columns that are columns of the key the values that the own key has
abbrev pub gives_key : List ColumnSpec → List (List ℕ) → List Value → List Value → Bool
gives_key columns names own parents = list_all (λ given. is_value_at own (key_place columns given.0) given.1) (zip names parents)

abbrev pub keeps_key : List ColumnSpec → List (List ℕ) → Option (List Value) → Option (List Value) → Bool
keeps_key columns names (Some own) (Some parents) = gives_key columns names own parents
keeps_key columns names own parents = false

-- the link is over key columns, and the parent's key does not give them the values that they have
abbrev pub loses_key : Graph → Mapped → ObjId → Relation → ObjId → Bool
loses_key graph mapped child relation parent =
    let columns = columns_in mapped.schema.tables relation.foreign.0 in
    let names = names_of mapped.schema.tables relation.foreign in
    is_over_key columns names && not (keeps_key columns names (object_at graph child).identity (object_at graph parent).identity)

-- a link over key columns of a persistent object is set to an object that is no known old parent, and that does not keep the key
abbrev pub changes_key : Graph → Mapped → ObjId → Relation → OldParent → Option ObjId → Bool
changes_key graph mapped child relation old None = false
changes_key graph mapped child relation old (Some parent) =
    is_persistent (object_at graph child).state && (not (is_known_as old (Some parent)) && loses_key graph mapped child relation parent)

-- the end of a link is an object of the graph
abbrev pub IsEnd : Graph → Option ObjId → Type 0
IsEnd graph None = Unit {0}
IsEnd graph (Some object) = IsObject graph object
