-- What is known of the rows of objects.
use Rattle.std.specs.Prelude.{◌≡◌, List, slice_get, Option, Some}
use Rattle.std.specs.Option.{option_and_then}
use Rattle.base_core.specs.declared.ids.AttrNo.{AttrNo}
use Rattle.base_core.specs.declared.ids.ClassId.{ClassId}
use Rattle.base_core.specs.declared.ids.ObjId.{ObjId}
use Rattle.base_core.specs.declared.value.Value.{Value}
use Rattle.schema_core.specs.Tables as held
use Rattle.class_types.specs.declared.mapped.Attribute.{Attribute}
use Rattle.class_mapping.specs.Mapped.{Mapped, attribute_of}
use Rattle.object_arena.specs.declared.object.State.TheVariants.{Persistent}
use Rattle.object_arena.specs.Graph.{Graph, cell_at, object_at}
use Rattle.load_filling.specs.Rows.{row_key}
use Rattle.load_rows.specs.Loading.{value_for}
use Rattle.load_rows.specs.Reading.{identity_key}
use Rattle.load_calls.specs.Refreshing.{found_at}
use Rattle.loading_laws.specs.Loading.Loadable.{row_of_key}
use Rattle.load_steps.specs.Rows.{AreCellsThatFit, IsFullRow}

-- what the row under a key, of an attribute's table, has in the attribute's column
abbrev pub held_under : held.Tables → Attribute → List Value → Option Value
held_under tables attribute key = option_and_then (λ row. slice_get row attribute.column.0) (row_of_key tables attribute.table key)

-- what a row of a class has for an attribute stands in the attribute's table, under the row's key
abbrev pub IsOfTables : Mapped → held.Tables → ClassId → List Value → Type 0
IsOfTables mapped tables class row =
    (attribute : Attribute) (value : Value) → value_for mapped class row attribute ≡ Some value → held_under tables attribute (row_key mapped class row) ≡ Some value

-- and so what a row has for some attributes of a class, under a key
abbrev pub AreCellsOfTables : Mapped → held.Tables → ClassId → List AttrNo → List Value → List Value → Type 0
AreCellsOfTables mapped tables class attrs key row =
    (attr : AttrNo) (value : Value) → found_at attrs row attr.0 ≡ Some value → held_under tables (attribute_of mapped class attr) key ≡ Some value

-- a row of a class, with a value for each of its attributes, that the tables have
abbrev pub IsRowOfTables : Mapped → held.Tables → ClassId → List Value → Type 0
IsRowOfTables mapped tables class row = IsFullRow mapped class row × IsOfTables mapped tables class row

-- some attributes of one
abbrev pub AreReadOfTables : Mapped → held.Tables → ClassId → List AttrNo → List Value → List Value → Type 0
AreReadOfTables mapped tables class attrs key row = AreCellsThatFit mapped class attrs key row × AreCellsOfTables mapped tables class attrs key row

-- the base of each cell of a persistent object, where it is known, is what stands in the row under the object's key
abbrev pub AreBased : Mapped → held.Tables → Graph → Type 0
AreBased mapped tables graph =
    (object : ObjId) (attr : AttrNo) (base : Value) → (object_at graph object).state ≡ Persistent → (cell_at graph object attr).base ≡ Some base
    → held_under tables (attribute_of mapped (object_at graph object).class attr) (identity_key graph object) ≡ Some base
