-- What a root class over a table has, where each class is one without a discriminator and without lines.
use Rattle.std.specs.Prelude.{◌≡◌, true, [], ◌∷◌, map, None}
use Rattle.std.specs.List.{enumerate_from, list_all}
use Rattle.base_core.specs.declared.ids.ClassId.{ClassId}
use Rattle.schema_core.specs.Catalog.{IsTable}
use Rattle.class_layouts.specs.Columns.{attribute_at}
use Rattle.class_mapping.specs.Plain.{is_plain_root, key_places}
use Rattle.class_mapping.specs.Mapped.{Mapped, attributes_of, key_attributes, parent_of, relations_of, root_of, root_spec, root_table, tables_of}

-- each class is a root class over a table, without a discriminator and without lines
abbrev pub ArePlain : Mapped → Type 0
ArePlain mapped = list_all is_plain_root mapped.classes.specs ≡ true

-- the class is its own root and has one table, whose columns in order are its attributes
pub record IsPlainClass (mapped : Mapped) (class : ClassId) : Type 0 where
  pub root : root_of mapped class ≡ class
  pub parent : parent_of mapped class ≡ None
  pub declared : IsTable mapped.schema (root_table mapped class)
  pub tables : tables_of mapped class ≡ root_table mapped class ∷ []
  pub attributes : attributes_of mapped class ≡ map (attribute_at (root_table mapped class)) (enumerate_from 0 (root_spec mapped class).columns)
  pub keys : key_attributes mapped class ≡ key_places (root_spec mapped class).columns
  pub relations : relations_of mapped class ≡ []
