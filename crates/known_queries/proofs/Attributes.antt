-- A class has an attribute.
use Rattle.std.proofs.Common.{◌≡◌, inl, List, [], ◌∷◌, map, refl, sym, ap, subst, ◌∙◌, arith}
use Rattle.std.specs.List.{All}
use Rattle.base_core.specs.declared.ids.ClassId.{ClassId}
use Rattle.base_core.specs.declared.ids.TableId.{TableId}
use Rattle.schema_core.specs.declared.table.ColumnSpec.{ColumnSpec}
use Rattle.schema_core.specs.Catalog.{IsTable, key_columns}
use Rattle.class_types.specs.declared.mapped.Attribute.{Attribute}
use Rattle.class_layouts.specs.Columns.{keys_among}
use Rattle.class_mapping.specs.Mapped.{IsClass, Mapped, attributes_of, key_attributes, root_spec, root_table}
use Rattle.class_mapping.proofs.Having.{Has, has_filter, some_of}
use Rattle.mapping_laws.specs.Hierarchies.{HasHierarchies, HasTables, kinds_of}
use Rattle.mapping_laws.proofs.KeyKinds.{key_kinds}
use Rattle.mapping_laws.proofs.Ties.{class_tables, table_faultless}

none_of_kinds : (columns : List ColumnSpec) (column : ColumnSpec) → kinds_of columns ≡ [] → Has columns column → ⊥
none_of_kinds [] column e there = absurd there
none_of_kinds (one ∷ columns) column e there = absurd cc

none_mapped : {A B : Type 0} (f : A → B) (xs : List A) → xs ≡ [] → map f xs ≡ []
none_mapped f xs e = ap (map f) e

module _ (mapped : Mapped) (class : ClassId) (has : HasHierarchies mapped) (declared : IsClass mapped class) where
  known : HasTables mapped class
  known = class_tables mapped class has declared

  root_is : IsTable mapped.schema (root_table mapped class)
  root_is = subst (λ (tables : List TableId). All (IsTable mapped.schema) tables) known.first known.declared 0 (root_table mapped class) (omega arith)

  has_some : (attributes : List Attribute) → attributes_of mapped class ≡ attributes → (attribute : Attribute) × Has (attributes_of mapped class) attribute
  has_some [] is =
      let keyed = some_of (λ (column : ColumnSpec). column.key) (root_spec mapped class).columns (table_faultless mapped (root_table mapped class) has root_is).keyed in
      let none : kinds_of (key_columns (root_spec mapped class)) ≡ [] =
      sym (key_kinds mapped class has known) ∙ none_mapped _ (key_attributes mapped class) (ap (keys_among mapped.schema.tables) is) in
      absurd (none_of_kinds (key_columns (root_spec mapped class)) keyed.0 none (has_filter (λ (column : ColumnSpec). column.key) (root_spec mapped class).columns keyed.0 keyed.1 keyed.2))
  has_some (attribute ∷ attributes) is = (attribute, subst (λ (all : List Attribute). Has all attribute) (sym is) (inl refl))

  pub some_attribute : (attribute : Attribute) × Has (attributes_of mapped class) attribute
  some_attribute = has_some (attributes_of mapped class) refl
