-- A mapping: the tables, the classes over them, and what each class has.
use Rattle.std.specs.Prelude.{ℕ, ◌-◌, ◌<◌, Bool, List, [], length, nat_lt, slice_get, slice_index_or, ◌==◌, Option, None, Some, if◌then◌else◌}
use Rattle.std.specs.Option.{option_map}
use Rattle.std.specs.List.{list_any, position}
use Rattle.base_core.specs.declared.ids.AttrNo.{AttrNo}
use Rattle.base_core.specs.declared.ids.ClassId.{ClassId}
use Rattle.base_core.specs.declared.ids.TableId.{TableId}
use Rattle.base_core.specs.declared.value.Kind.TheVariants.{Integer}
use Rattle.base_core.specs.declared.refusal.ArgumentKind.{ArgumentKind}
use Rattle.schema_core.specs.declared.table.TableSpec.{TableSpec}
use Rattle.schema_core.specs.Catalog.{Catalog, same_name, spec_of}
use Rattle.class_types.specs.declared.declared.ClassSpec.{ClassSpec}
use Rattle.class_types.specs.declared.mapped.Attribute.{Attribute}
use Rattle.class_types.specs.declared.mapped.Relation.{Relation}
use Rattle.class_blocks.specs.Validators as blocks
use Rattle.class_layouts.specs.declared.classes.Classes.{Classes}
use Rattle.class_layouts.specs.declared.layout.Layout.{Layout}
use Rattle.class_layouts.specs.Hierarchy as hierarchy
use Rattle.class_layouts.specs.Columns as columns
use Rattle.class_faults.specs.Faults.{mapping_fault}
use Rattle.class_sides.specs.Sides.{sides_of}
use Rattle.class_sides.specs.Linking as linking
use Rattle.class_mapping.specs.Valid.{IsValid}

-- the tables, and the declared classes in order of number with their lines from the root down
pub record Mapped : Type 0 where
  pub schema : Catalog
  pub classes : Classes

-- a class of this number is declared
abbrev pub IsClass : Mapped → ClassId → Type 0
IsClass mapped class = class.0 < length mapped.classes.specs

-- the declaration of a class
abbrev pub class_spec : Mapped → ClassId → ClassSpec
class_spec mapped class = slice_index_or mapped.classes.specs class.0 hierarchy.no_class

-- the class of a name
abbrev pub find_class : Mapped → List ℕ → Option ClassId
find_class mapped name = option_map (λ place. record { 0 = place }) (hierarchy.place_of mapped.classes.specs name)

-- the attribute of a name
abbrev pub find_attribute : List Attribute → List ℕ → Option AttrNo
find_attribute attributes name = option_map (λ place. record { 0 = place }) (position (λ attribute. same_name attribute.name name) attributes)

-- the root of a class, and so on down to the class itself
abbrev pub line_of : Mapped → ClassId → List ClassId
line_of mapped class = hierarchy.line_of mapped.classes class.0

abbrev pub class_or : Option ClassId → ClassId → ClassId
class_or None class = class
class_or (Some found) class = found

-- the class without a base at the head of the class's hierarchy
abbrev pub root_of : Mapped → ClassId → ClassId
root_of mapped class = class_or (hierarchy.root_in (line_of mapped class)) class

abbrev pub before_last : List ClassId → Option ClassId
before_last line = if nat_lt (length line) 2 then None else slice_get line (length line - 2)

-- the class that the class extends
abbrev pub parent_of : Mapped → ClassId → Option ClassId
parent_of mapped class = before_last (line_of mapped class)

-- a place that stands for no table
abbrev pub no_table_id : TableId
no_table_id = record { 0 = 0 }

abbrev pub table_or_none : Option TableId → TableId
table_or_none None = no_table_id
table_or_none (Some table) = table

-- the table of the class's root
abbrev pub root_table : Mapped → ClassId → TableId
root_table mapped class = table_or_none (columns.own_table mapped.schema.tables mapped.classes (root_of mapped class).0)

-- the declaration of the table of the class's root
abbrev pub root_spec : Mapped → ClassId → TableSpec
root_spec mapped class = spec_of mapped.schema (root_table mapped class)

-- what a class has: its tables, its attributes, and which of them are those of the key
abbrev pub layout_of : Mapped → ClassId → Layout
layout_of mapped class = columns.layout_of mapped.schema.tables mapped.classes (line_of mapped class)

-- the tables of a class, its root's first
abbrev pub tables_of : Mapped → ClassId → List TableId
tables_of mapped class = columns.tables_on mapped.schema.tables mapped.classes (line_of mapped class)

-- the attributes of a class: the columns of its tables in order
abbrev pub attributes_of : Mapped → ClassId → List Attribute
attributes_of mapped class = columns.attributes_on mapped.schema.tables mapped.classes (line_of mapped class)

-- which attributes of a class are those of the key, in order
abbrev pub key_attributes : Mapped → ClassId → List AttrNo
key_attributes mapped class = columns.keys_among mapped.schema.tables (attributes_of mapped class)

-- the attribute is a column of the key
abbrev pub is_key_attribute : Mapped → ClassId → AttrNo → Bool
is_key_attribute mapped class attr = list_any (λ key. key.0 == attr.0) (key_attributes mapped class)

-- an attribute of no name
abbrev pub no_attribute : Attribute
no_attribute = record { name = []; table = no_table_id; column = record { 0 = 0 }; kind = Integer }

-- the attribute at a place of a class
abbrev pub attribute_of : Mapped → ClassId → AttrNo → Attribute
attribute_of mapped class attr = slice_index_or (attributes_of mapped class) attr.0 no_attribute

-- the class has an attribute of this number
abbrev pub IsAttribute : Mapped → ClassId → AttrNo → Type 0
IsAttribute mapped class attr = attr.0 < length (attributes_of mapped class)

abbrev pub list_or_none : Option (List Relation) → List Relation
list_or_none None = []
list_or_none (Some list) = list

-- the relationships of a class: of each class from its root down its own, and then its backrefs
abbrev pub relations_of : Mapped → ClassId → List Relation
relations_of mapped class = list_or_none (slice_get (linking.relations_of mapped.schema.tables mapped.classes) class.0)

-- the partner of a relationship: the one that stands at its partner's place in the list of its target
abbrev pub partner_of : Mapped → Relation → Option Relation
partner_of mapped relation = slice_get (relations_of mapped relation.target) relation.partner.0

abbrev pub all_validators : Classes → List (List (List ℕ × List ℕ))
all_validators classes = blocks.all_validators classes.specs classes.lines

abbrev pub validators_or_none : Option (List (List ℕ × List ℕ)) → List (List ℕ × List ℕ)
validators_or_none None = []
validators_or_none (Some list) = list

-- the validators of a class and of those that it extends, from its root's on
abbrev pub validators_of : Mapped → ClassId → List (List ℕ × List ℕ)
validators_of mapped class = validators_or_none (slice_get (all_validators mapped.classes) class.0)

-- the first kind of fault of all declarations
abbrev pub fault_of : Mapped → Option ArgumentKind
fault_of mapped = mapping_fault mapped.schema.tables mapped.classes

-- the mapping is valid: all that is asked of declarations holds
abbrev pub IsValidMapping : Mapped → Type 0
IsValidMapping mapped =
    let layouts = columns.layouts_of mapped.schema.tables mapped.classes in
    IsValid mapped.schema.tables mapped.classes layouts (sides_of mapped.schema.tables mapped.classes layouts)
