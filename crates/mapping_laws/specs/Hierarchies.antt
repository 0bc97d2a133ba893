-- What the classes of a mapping have: their lines, their tables, and what tells the classes of a hierarchy apart.
use Rattle.std.specs.Prelude.{◌≡◌, ℕ, suc, true, List, ◌∷◌, map, slice_get, unwrap_or, Some}
use Rattle.std.specs.Option.{option_and_then}
use Rattle.std.specs.List.{All, position}
use Rattle.base_core.specs.declared.ids.ClassId.{ClassId}
use Rattle.base_core.specs.declared.ids.TableId.{TableId}
use Rattle.base_core.specs.declared.value.Kind.{Kind}
use Rattle.schema_core.specs.declared.table.ColumnSpec.{ColumnSpec}
use Rattle.schema_core.specs.Catalog.{IsTable, key_columns, kind_of, same_name, spec_of}
use Rattle.schema_core.specs.Tables.{kind_of_value}
use Rattle.sql_semantics.specs.Plain.{are_distinct}
use Rattle.class_layouts.specs.Faults.{has_kind}
pub use Rattle.class_mapping.specs.Configured.{HasHierarchies}
use Rattle.class_mapping.specs.Mapped.{IsClass, Mapped, class_spec, root_of, root_spec, root_table, tables_of}
use Rattle.class_mapping.specs.Paired.{is_at_or_under}

-- the kinds of the values of columns
abbrev pub kinds_of : List ColumnSpec → List Kind
kinds_of columns = map (λ column. kind_of column.kind) columns

abbrev pub name_in : Mapped → TableId → List ℕ
name_in mapped table = (spec_of mapped.schema table).name

-- The tables of a class: the root's is the first, all are declared, no two have one name, and the keys of each and of the one
-- behind it are of the same kinds.
pub record HasTables (mapped : Mapped) (class : ClassId) : Type 0 where
  pub rest : List TableId
  pub first : tables_of mapped class ≡ root_table mapped class ∷ rest
  pub declared : All (IsTable mapped.schema) (tables_of mapped class)
  pub apart : are_distinct (map (name_in mapped) (tables_of mapped class)) ≡ true
  pub alike : (rank : ℕ) (parent table : TableId) → slice_get (tables_of mapped class) rank ≡ Some parent → slice_get (tables_of mapped class) (suc rank) ≡ Some table
      → kinds_of (key_columns (spec_of mapped.schema parent)) ≡ kinds_of (key_columns (spec_of mapped.schema table))

-- the place of the column of a name
abbrev pub place_named : List ColumnSpec → List ℕ → ℕ
place_named columns name = unwrap_or (position (λ column. same_name column.name name) columns) 0

-- the discriminator of a class's hierarchy has this name and is a column of the root's table, which takes the identity of the class and
-- of each class under it
pub record TellsApart (mapped : Mapped) (class : ClassId) (name : List ℕ) : Type 0 where
  pub is : (class_spec mapped (root_of mapped class)).discriminator ≡ Some name
  pub column : ColumnSpec
  pub there : slice_get (root_spec mapped class).columns (place_named (root_spec mapped class).columns name) ≡ Some column
  pub takes : (other : ClassId) → IsClass mapped other → is_at_or_under mapped other class ≡ true → has_kind (option_and_then kind_of_value (class_spec mapped other).identity) (kind_of column.kind) ≡ true
