-- What the lines of declared classes have.
use Rattle.std.specs.Prelude.{◌≡◌, ◌<◌, ℕ, Bool, true, false, not, ◌&&◌, List, [], ◌∷◌, ◌++◌, length, map, slice_get, ◌==◌, Option, None, Some, is_none, is_some}
use Rattle.std.specs.List.{flat_map, list_all, list_any}
use Rattle.base_core.specs.declared.ids.ClassId.{ClassId}
use Rattle.base_core.specs.declared.value.Value.{Value}
use Rattle.schema_core.specs.declared.table.TableSpec.{TableSpec}
use Rattle.schema_core.specs.Catalog.{same_name}
use Rattle.schema_core.specs.Declaration.{some_two}
use Rattle.class_types.specs.declared.declared.ClassSpec.{ClassSpec}
use Rattle.class_layouts.specs.declared.classes.Classes.{Classes}
use Rattle.class_layouts.specs.Columns.{named_table}
use Rattle.class_layouts.specs.Faults.{discriminator_on, fails_discriminator, maps_name, root_table_on}
use Rattle.class_layouts.specs.Hierarchy.{has_class, line_of, relations_at, root_in}

-- the declaration is of a class that extends none, over a declared table
abbrev pub is_root_over : List TableSpec → Option ClassSpec → Bool
is_root_over tables None = false
is_root_over tables (Some spec) = is_none spec.base && is_some (named_table tables spec.table)

abbrev pub spec_at : List ClassSpec → Option ClassId → Option ClassSpec
spec_at specs None = None
spec_at specs (Some class) = slice_get specs class.0

-- the line begins with such a class
abbrev pub is_rooted : List TableSpec → List ClassSpec → List ClassId → Bool
is_rooted tables specs line = is_root_over tables (spec_at specs (root_in line))

-- each class of the line is declared
abbrev pub are_declared : List ClassSpec → List ClassId → Bool
are_declared specs line = list_all (λ class. is_some (slice_get specs class.0)) line

-- the names of the relationships of a class's own block
abbrev pub names_at : Classes → ClassId → List (List ℕ)
names_at classes class = map (λ relation. relation.name) (relations_at classes class.0)

-- those of the classes of a line
abbrev pub names_on : Classes → List ClassId → List (List ℕ)
names_on classes line = flat_map (names_at classes) line

abbrev pub is_same_class : ClassId → ClassId → Bool
is_same_class one other = one.0 == other.0

-- a line begins with another, or is that one
abbrev pub BeginsWith : List ClassId → List ClassId → Type 0
BeginsWith line first = (rest : List ClassId) × (line ≡ first ++ rest)

-- the table that a class names is that of another
abbrev pub maps_same : ClassSpec → ClassSpec → Bool
maps_same spec other = maps_name (other ∷ []) spec.table

-- The discriminator of the hierarchy of a line is a column of the root's table that takes the identity; without a discriminator the
-- line is of one class.
abbrev pub is_told : List TableSpec → Classes → List ClassId → Option Value → Bool
is_told tables classes line identity =
    not (fails_discriminator tables (root_table_on tables classes (root_in line)) (discriminator_on classes (root_in line)) identity line)

-- what every mapping's lines have
pub record AreLines (tables : List TableSpec) (classes : Classes) : Type 0 where
  -- each begins with a root over a declared table
  pub rooted : list_all (is_rooted tables classes.specs) classes.lines ≡ true
  pub declared : list_all (are_declared classes.specs) classes.lines ≡ true
  -- a class stands in its own line
  pub own : (class : ℕ) → class < length classes.lines → has_class (line_of classes class) class ≡ true
  -- no class stands in a line twice
  pub once : list_any (λ line. some_two is_same_class line) classes.lines ≡ false
  -- a line begins with the line of each class in it
  pub nested : (class : ℕ) (above : ClassId) → has_class (line_of classes class) above.0 ≡ true → BeginsWith (line_of classes class) (line_of classes above.0)
  -- no two relationships of the blocks of a line have one name
  pub named : list_any (λ line. some_two same_name (names_on classes line)) classes.lines ≡ false
  -- no two classes map one table
  pub apart : some_two maps_same classes.specs ≡ false
  -- a class of a hierarchy with a discriminator has an identity that the discriminator takes
  pub told : (class : ℕ) (spec : ClassSpec) → slice_get classes.specs class ≡ Some spec → is_told tables classes (line_of classes class) spec.identity ≡ true
