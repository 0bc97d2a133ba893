-- What a row of a class's attributes tells: its key, its class, and the object that stands for it.
use Rattle.std.specs.Prelude.{◌≡◌, ℕ, Bool, true, List, map, find, slice_get, Option, None, Some, Result, Ok, Err}
use Rattle.std.specs.Option.{option_and_then}
use Rattle.std.specs.List.{position}
use Rattle.base_core.specs.declared.ids.AttrNo.{AttrNo}
use Rattle.base_core.specs.declared.ids.ClassId.{ClassId}
use Rattle.base_core.specs.declared.ids.ObjId.{ObjId}
use Rattle.base_core.specs.declared.value.Value.{Value}
use Rattle.base_core.specs.declared.refusal.Refusal.{Refusal}
use Rattle.base_core.specs.declared.refusal.Refusal.TheVariants.{InvalidRequestError}
use Rattle.base_core.specs.declared.refusal.RequestKind.TheVariants.{NoSuchIdentity}
use Rattle.schema_core.specs.Tables.{value_or_null}
use Rattle.class_layouts.specs.Faults.{is_identity}
use Rattle.class_mapping.specs.Mapped.{Mapped, attributes_of, class_spec, key_attributes, root_of, root_table}
use Rattle.object_arena.specs.Fit.{key_fits}
use Rattle.object_arena.specs.Graph.{Graph}
use Rattle.object_arena.specs.Identity.{find_identity}
use Rattle.relations.specs.Parents.{is_column}
use Rattle.load_selects.specs.Branches.{branch, discriminator_of}
use Rattle.load_filling.specs.Loaded.{load}

abbrev pub value_in : List Value → AttrNo → Value
value_in values attr = value_or_null (slice_get values attr.0)

-- the key in a row
abbrev pub row_key : Mapped → ClassId → List Value → List Value
row_key mapped class values = map (value_in values) (key_attributes mapped class)

-- what a row has for the column of a name of the root's table
abbrev pub value_named : Mapped → ClassId → List Value → List ℕ → Option Value
value_named mapped class values name = option_and_then (slice_get values) (position (is_column (root_table mapped class) name) (attributes_of mapped class))

-- the class has the identity
abbrev pub has_identity : Mapped → Option Value → ClassId → Bool
has_identity mapped found other = is_identity (class_spec mapped other).identity found

abbrev pub class_by : Mapped → ClassId → List Value → Option (List ℕ) → Option ClassId
class_by mapped class values None = Some class
class_by mapped class values (Some name) = find (has_identity mapped (value_named mapped class values name)) (branch mapped class)

-- the class of the branch that a row names, if it names one
unfoldable pub class_named : Mapped → ClassId → List Value → Option ClassId
class_named mapped class values = class_by mapped class values (discriminator_of mapped class)

-- ---- the object of a row

abbrev pub loaded_as : Mapped → List Value → Graph → Option ClassId → Result (ObjId × Graph) Refusal
loaded_as mapped key graph None = Err (InvalidRequestError NoSuchIdentity)
loaded_as mapped key graph (Some class) = load mapped class key graph

abbrev pub found_or_loaded : Mapped → ClassId → List Value → Graph → Option ObjId → Result (ObjId × Graph) Refusal
found_or_loaded mapped class values graph (Some object) = Ok (object, graph)
found_or_loaded mapped class values graph None = loaded_as mapped (row_key mapped class values) graph (class_named mapped class values)

-- The object that the identity map has for the key of a row; else one that is made, of the class that the row names. It is refused
-- where the row names none of the branch, and where there are too many objects.
unfoldable pub row_object : Mapped → ClassId → List Value → Graph → Result (ObjId × Graph) Refusal
row_object mapped class values graph = found_or_loaded mapped class values graph (find_identity graph (root_of mapped class) (row_key mapped class values))

abbrev pub FitsAs : Mapped → List Value → Option ClassId → Type 0
FitsAs mapped key None = Unit {0}
FitsAs mapped key (Some class) = key_fits mapped class key ≡ true

-- the key in a row fits the class that the row names
abbrev pub HasKeyOf : Mapped → ClassId → List Value → Type 0
HasKeyOf mapped class values = FitsAs mapped (row_key mapped class values) (class_named mapped class values)
