-- Why a block of a class is refused.
use Rattle.std.specs.Prelude.{ℕ, Bool, true, false, not, ◌&&◌, ◌||◌, List, [], ◌++◌, length, map, take, find, slice_get, ◌==◌, Option, None, Some, is_some, is_none, if◌then◌else◌}
use Rattle.std.specs.Option.{option_and_then}
use Rattle.std.specs.List.{enumerate_from, flat_map, list_any}
use Rattle.base_core.specs.declared.ids.ClassId.{ClassId}
use Rattle.base_core.specs.declared.ids.TableId.{TableId}
use Rattle.base_core.specs.declared.value.Kind.{Kind}
use Rattle.base_core.specs.declared.value.Kind.TheVariants as kinds
use Rattle.base_core.specs.declared.value.Value.{Value}
use Rattle.base_core.specs.declared.refusal.ArgumentKind.{ArgumentKind}
use Rattle.base_core.specs.declared.refusal.ArgumentKind.TheVariants.{DuplicateName, BadClass, NoDiscriminator, DuplicateIdentity, BadCascade, BadHook}
use Rattle.schema_core.specs.declared.table.ColumnSpec.{ColumnSpec}
use Rattle.schema_core.specs.declared.table.ForeignSpec.{ForeignSpec}
use Rattle.schema_core.specs.declared.table.TableSpec.{TableSpec}
use Rattle.schema_core.specs.Catalog.{has_name, kind_of, same_kind, same_name}
use Rattle.schema_core.specs.Declaration.{some_two}
use Rattle.schema_core.specs.Tables.{kind_of_value}
use Rattle.class_types.specs.Rules as hooks
use Rattle.class_types.specs.declared.declared.ClassSpec.{ClassSpec}
use Rattle.class_types.specs.declared.declared.RelationSpec.{RelationSpec}
use Rattle.class_types.specs.declared.mapped.Attribute.{Attribute}
pub use Rattle.class_blocks.specs.Blocks.{cascade_or_default, default_cascade, is_declared, is_identity, is_named, maps_name}
use Rattle.class_layouts.specs.declared.classes.Classes.{Classes}
use Rattle.class_layouts.specs.Hierarchy.{line_of, new_line, relations_at, root_in, same_root, with_class}
use Rattle.class_layouts.specs.Columns.{attributes_on, columns_in, named_table, own_table}

-- ---- DuplicateName

-- the names of what the class of a line has: its relationships and its attributes, inherited ones included
abbrev pub names_on : List TableSpec → Classes → List ClassId → List (List ℕ)
names_on tables classes line =
    flat_map (λ class. map (λ relation. relation.name) (relations_at classes class.0)) line
    ++ map (λ attribute. attribute.name) (attributes_on tables classes line)

-- ---- BadClass

-- what a class names is not declared: the class that it extends, or its table; or it names neither
abbrev pub misses_declaration : List TableSpec → ClassSpec → List ClassId → Bool
misses_declaration tables spec line =
    (is_some spec.base && length line == 1)
    || (is_none (named_table tables spec.table) && (is_some spec.table || is_none spec.base))

-- ---- NoDiscriminator

abbrev pub is_discriminating : Kind → Bool
is_discriminating kinds.Integer = true
is_discriminating kinds.Text = true
is_discriminating kind = false

abbrev pub has_kind : Option Kind → Kind → Bool
has_kind None kind = false
has_kind (Some found) kind = same_kind found kind

-- the column can tell classes apart, and the identity is of its kind
abbrev pub takes_identity : List ForeignSpec → Option Value → Option ColumnSpec → Bool
takes_identity foreigns identity None = false
takes_identity foreigns identity (Some column) =
    is_discriminating (kind_of column.kind) && not column.key
    && not (list_any (λ foreign. has_name foreign.columns column.name) foreigns)
    && has_kind (option_and_then kind_of_value identity) (kind_of column.kind)

abbrev pub foreigns_of : Option TableSpec → List ForeignSpec
foreigns_of None = []
foreigns_of (Some spec) = spec.foreigns

abbrev pub foreigns_in : List TableSpec → TableId → List ForeignSpec
foreigns_in tables table = foreigns_of (slice_get tables table.0)

-- the discriminator of a root is a column of its table that takes the identity
abbrev pub takes_in : List TableSpec → List ℕ → Option Value → Option TableId → Bool
takes_in tables name identity None = false
takes_in tables name identity (Some table) =
    takes_identity (foreigns_in tables table) identity (find (λ column. same_name column.name name) (columns_in tables table))

abbrev pub fails_discriminator : List TableSpec → Option TableId → Option (List ℕ) → Option Value → List ClassId → Bool
fails_discriminator tables table None identity line = not (length line == 1)
fails_discriminator tables table (Some name) identity line = not (takes_in tables name identity table)

abbrev pub discriminator_in : Option ClassSpec → Option (List ℕ)
discriminator_in None = None
discriminator_in (Some spec) = spec.discriminator

-- the name of the discriminator of a hierarchy
abbrev pub discriminator_on : Classes → Option ClassId → Option (List ℕ)
discriminator_on classes None = None
discriminator_on classes (Some root) = discriminator_in (slice_get classes.specs root.0)

abbrev pub root_table_on : List TableSpec → Classes → Option ClassId → Option TableId
root_table_on tables classes None = None
root_table_on tables classes (Some root) = own_table tables classes root.0

-- ---- DuplicateIdentity

-- another class of the hierarchy has the identity
abbrev pub repeats_identity : Classes → ClassSpec → Option ClassId → List ClassSpec → Bool
repeats_identity classes spec root others =
    list_any (λ other. is_identity other.1.identity spec.identity && same_root (root_in (line_of classes other.0)) root) (enumerate_from 0 others)

-- ---- BadCascade

-- delete-orphan without delete, or at another relationship than one-to-many
abbrev pub is_bad_cascade : RelationSpec → Bool
is_bad_cascade relation =
    let cascade = cascade_or_default relation.cascade in
    cascade.delete_orphan && (not cascade.delete || not relation.many || is_some relation.secondary)

-- ---- BadHook

abbrev pub takes_attribute : Option Attribute → Option Kind → Bool
takes_attribute None found = false
takes_attribute (Some attribute) found = has_kind found attribute.kind

-- no attribute, or no validator of the attribute's kind
abbrev pub is_bad_hook : hooks.Rules → List Attribute → List ℕ × List ℕ → Bool
is_bad_hook rules attributes validator =
    not (takes_attribute (find (λ attribute. same_name attribute.name validator.0) attributes) (hooks.kind_of rules validator.1))

-- ---- the first fault

-- the first fault of a class's lines
unfoldable pub fault_of_lines : hooks.Rules → List TableSpec → Classes → ClassSpec → List ClassId → Option ArgumentKind
fault_of_lines rules tables classes spec line =
    if list_any is_bad_cascade spec.relations then Some BadCascade
    else if list_any (is_bad_hook rules (attributes_on tables classes line)) spec.validators then Some BadHook
    else None

-- the first fault of a declaration beside the classes before it, where the classes with it and its line are known
unfoldable pub first_fault : hooks.Rules → List TableSpec → List ClassSpec → Classes → ClassSpec → List ClassId → Option ArgumentKind
first_fault rules tables others classes spec line =
    if is_declared others spec.name || some_two same_name (names_on tables classes line) then Some DuplicateName
    else if misses_declaration tables spec line || maps_name others spec.table then Some BadClass
    else if fails_discriminator tables (root_table_on tables classes (root_in line)) (discriminator_on classes (root_in line)) spec.identity line then Some NoDiscriminator
    else if repeats_identity classes spec (root_in line) others then Some DuplicateIdentity
    else fault_of_lines rules tables classes spec line

-- the first fault of a declaration beside the classes before it
abbrev pub class_fault : hooks.Rules → List TableSpec → Classes → ClassSpec → Option ArgumentKind
class_fault rules tables classes spec = first_fault rules tables classes.specs (with_class classes spec) spec (new_line classes spec)

abbrev pub fault_of : hooks.Rules → List TableSpec → Classes → ℕ → Option ClassSpec → Option ArgumentKind
fault_of rules tables classes class None = None
fault_of rules tables classes class (Some spec) = first_fault rules tables (take class classes.specs) classes spec (line_of classes class)

-- the first fault of the class at a place beside those before it
abbrev pub fault_at : hooks.Rules → List TableSpec → Classes → ℕ → Option ArgumentKind
fault_at rules tables classes class = fault_of rules tables classes class (slice_get classes.specs class)
