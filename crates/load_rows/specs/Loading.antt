-- What stands beside the store while objects are loaded: the objects, and the notes of what was done to them.
use Rattle.std.specs.Prelude.{ℕ, Bool, true, false, ◌&&◌, ◌==◌, List, [], ◌∷◌, ◌++◌, map, slice_get, Option, is_none, is_some, Result, Ok, Err}
use Rattle.std.specs.Option.{option_and_then}
use Rattle.std.specs.List.{enumerate_from, list_any, position}
use Rattle.base_core.specs.declared.ids.ClassId.{ClassId}
use Rattle.base_core.specs.declared.ids.ObjId.{ObjId}
use Rattle.base_core.specs.declared.value.Value.{Value}
use Rattle.base_core.specs.declared.refusal.Refusal.{Refusal}
use Rattle.class_types.specs.declared.mapped.Attribute.{Attribute}
use Rattle.class_mapping.specs.Mapped.{Mapped, attributes_of}
use Rattle.keeper_core.specs.Programs.{Run, quiet}
use Rattle.keeper_core.specs.declared.notes.Note.{Note}
use Rattle.keeper_core.specs.declared.notes.Note.TheVariants as note
use Rattle.object_arena.specs.declared.object.Cell.{Cell}
use Rattle.object_arena.specs.declared.object.Object.{Object}
use Rattle.object_arena.specs.Graph.{Graph, object_at}
use Rattle.load_filling.specs.Filled.{Found, value_found, with_filled}
use Rattle.load_filling.specs.Rows.{row_object}

-- the objects, and the notes so far
pub record Loading : Type 0 where
  pub graph : Graph
  pub notes : List Note

abbrev pub loading : Graph → List Note → Loading
loading graph notes = record { graph = graph; notes = notes }

-- ---- what is filled is noted

-- an expired cell of which a value was found
abbrev pub is_to_fill : Found → ℕ × Cell → Bool
is_to_fill found placed = is_none placed.1.value && is_some (value_found found placed.0)

abbrev pub fills_some : Found → Object → Bool
fills_some found object = list_any (is_to_fill found) (enumerate_from 0 object.cells)

abbrev pub noted_if : Bool → ObjId → List Note → List Note
noted_if true object notes = notes ++ note.Filled object ∷ []
noted_if false object notes = notes

-- the expired cells of an object hold what was found of them, and the object is noted where one of them was filled
unfoldable pub filled : ObjId → Found → Loading → Loading
filled object found own = record {
  graph = with_filled own.graph object found;
  notes = noted_if (fills_some found (object_at own.graph object)) object own.notes;
}

-- ---- the object of a row

-- both are one column
abbrev pub is_same_column : Attribute → Attribute → Bool
is_same_column one other = (other.table.0 == one.table.0) && (other.column.0 == one.column.0)

-- what a row of a class's attributes has for an attribute: none where the class lacks it
abbrev pub value_for : Mapped → ClassId → List Value → Attribute → Option Value
value_for mapped class values attribute = option_and_then (slice_get values) (position (is_same_column attribute) (attributes_of mapped class))

-- what it has for the cells of an object of another class of the hierarchy, one by one
abbrev pub found_in_row : Mapped → ClassId → List Value → ClassId → Found
found_in_row mapped class values own = map (value_for mapped class values) (attributes_of mapped own)

abbrev pub filled_by_row : Mapped → ClassId → List Value → ObjId → Loading → Loading
filled_by_row mapped class values object own = filled object (found_in_row mapped class values (object_at own.graph object).class) own

abbrev pub taken_as : Mapped → ClassId → List Value → Loading → Result (ObjId × Graph) Refusal → Run Loading ObjId
taken_as mapped class values own (Ok found) = quiet (Ok found.0) (filled_by_row mapped class values found.0 (loading found.1 own.notes))
taken_as mapped class values own (Err e) = quiet (Err e) own

-- the object of a row, found or made, whose expired cells hold what the row has for them
unfoldable pub take_row : Mapped → ClassId → List Value → Loading → Run Loading ObjId
take_row mapped class values own = taken_as mapped class values own (row_object mapped class values own.graph)
