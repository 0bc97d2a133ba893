-- What all declarations have, and what a mapping has, of which all was checked.
use Rattle.std.specs.Prelude.{◌≡◌, ◌≤◌, true, false, List, length, ℕ}
use Rattle.std.specs.List.{list_all, list_any}
use Rattle.schema_core.specs.Catalog.{Catalog}
use Rattle.schema_core.specs.Declaration.{IsDeclared}
use Rattle.class_types.specs.declared.mapped.Relation.{Relation}
use Rattle.class_layouts.specs.declared.classes.Classes.{Classes}
use Rattle.class_layouts.specs.declared.layout.Layout.{Layout}
use Rattle.class_layouts.specs.Columns.{layouts_of}
use Rattle.class_layouts.specs.Faults.{is_bad_cascade}
use Rattle.class_sides.specs.Linking as linking
use Rattle.class_mapping.specs.Lines.{AreLines}
use Rattle.class_mapping.specs.Mapped.{IsValidMapping, Mapped, all_validators}
use Rattle.class_mapping.specs.Paired.{HasPairs}
use Rattle.class_mapping.specs.Plain.{is_over_table, is_plain_root, lines_alone}
use Rattle.class_mapping.specs.Related.{AreRelated}

-- each class has its line, no fault is found among all declarations, and none in those of tables
pub record HasHierarchies (mapped : Mapped) : Type 0 where
  pub lined : length mapped.classes.lines ≡ length mapped.classes.specs
  pub lines : AreLines mapped.schema.tables mapped.classes
  pub valid : IsValidMapping mapped
  pub paired : HasPairs mapped
  pub declared : IsDeclared mapped.schema.tables mapped.schema.resolved

-- all was checked: there is no fault, each foreign key has its target, and each relationship of each class has its partner and its keys
pub record IsConfigured (mapped : Mapped) : Type 0 where
  pub hierarchies : HasHierarchies mapped
  pub related : AreRelated mapped
  pub resolved : mapped.schema.resolved ≡ true

-- What all declarations keep: there is a line for each class, which begins with a root over a declared table, and which is the class
-- alone where all are plain roots, the tables that classes name are declared, and delete-orphan is at one-to-many alone.
pub record AreDeclared (schema : Catalog) (classes : Classes) : Type 0 where
  pub few : length classes.specs ≤ 4294967295
  pub lined : length classes.lines ≡ length classes.specs
  pub lines : AreLines schema.tables classes
  pub alone : list_all is_plain_root classes.specs ≡ true → classes.lines ≡ lines_alone classes.specs
  pub over : list_all (is_over_table schema.tables) classes.specs ≡ true
  pub orphans : list_any (λ spec. list_any is_bad_cascade spec.relations) classes.specs ≡ false

-- what every mapping keeps: all was checked, and what each class has is known
pub record IsLaid (schema : Catalog) (classes : Classes) (layouts : List Layout) (relations : List (List Relation)) (validators : List (List (List ℕ × List ℕ))) : Type 0 where
  pub declared : AreDeclared schema classes
  pub configured : IsConfigured (record { schema = schema; classes = classes })
  pub laid : layouts ≡ layouts_of schema.tables classes
  pub linked : relations ≡ linking.relations_of schema.tables classes
  pub validated : validators ≡ all_validators classes
