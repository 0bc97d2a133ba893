-- The declared classes, and the lines from their roots down to them.
use Rattle.std.specs.Prelude.{ℕ, Bool, false, List, [], ◌∷◌, ◌++◌, length, slice_get, ◌==◌, Option, None, Some}
use Rattle.std.specs.List.{position}
use Rattle.base_core.specs.declared.ids.ClassId.{ClassId}
use Rattle.schema_core.specs.Catalog.{same_name}
use Rattle.class_types.specs.declared.declared.ClassSpec.{ClassSpec}
use Rattle.class_types.specs.declared.declared.RelationSpec.{RelationSpec}
use Rattle.class_blocks.specs.Lines.{line_in}
pub use Rattle.class_blocks.specs.Lines.{has_class, line_or_none}
use Rattle.class_layouts.specs.declared.classes.Classes.{Classes}

-- a class that declares nothing
abbrev pub no_class : ClassSpec
no_class = record { name = []; base = None; table = None; discriminator = None; identity = None; owned = []; relations = []; validators = [] }

-- the place of the class of a name
abbrev pub place_of : List ClassSpec → List ℕ → Option ℕ
place_of specs name = position (λ spec. same_name spec.name name) specs

-- the place of the class that is named
abbrev pub place_named : List ClassSpec → Option (List ℕ) → Option ℕ
place_named specs None = None
place_named specs (Some name) = place_of specs name

-- the line of a class: its root, and so on down to the class itself
abbrev pub line_of : Classes → ℕ → List ClassId
line_of classes class = line_in classes.lines class

abbrev pub line_at : Classes → Option ℕ → List ClassId
line_at classes None = []
line_at classes (Some class) = line_of classes class

-- the line of a class that is declared behind the others: that of the class it extends, and itself
abbrev pub new_line : Classes → ClassSpec → List ClassId
new_line classes spec = line_at classes (place_named classes.specs spec.base) ++ record { 0 = length classes.specs } ∷ []

-- the classes with one more
abbrev pub with_class : Classes → ClassSpec → Classes
with_class classes spec = record { specs = classes.specs ++ spec ∷ []; lines = classes.lines ++ new_line classes spec ∷ [] }

-- the root of a line
abbrev pub root_in : List ClassId → Option ClassId
root_in line = slice_get line 0

abbrev pub same_root : Option ClassId → Option ClassId → Bool
same_root (Some one) (Some other) = one.0 == other.0
same_root one other = false

abbrev pub relations_in : Option ClassSpec → List RelationSpec
relations_in None = []
relations_in (Some spec) = spec.relations

-- the relationships of a class's own block
abbrev pub relations_at : Classes → ℕ → List RelationSpec
relations_at classes class = relations_in (slice_get classes.specs class)
