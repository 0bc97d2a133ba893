-- The tables of a class, and which of their columns are its attributes.
use Rattle.std.specs.Prelude.{ℕ, Bool, false, not, ◌&&◌, ◌||◌, List, map, filter, fold, slice_get, ◌==◌, Option, None, Some}
use Rattle.std.specs.List.{enumerate_from, filter_map, flat_map, position}
use Rattle.base_core.specs.declared.ids.AttrNo.{AttrNo}
use Rattle.base_core.specs.declared.ids.ClassId.{ClassId}
use Rattle.base_core.specs.declared.ids.TableId.{TableId}
use Rattle.schema_core.specs.declared.table.ColumnSpec.{ColumnSpec}
use Rattle.schema_core.specs.declared.table.TableSpec.{TableSpec}
use Rattle.schema_core.specs.Catalog.{has_name, kind_of}
use Rattle.class_types.specs.declared.declared.ClassSpec.{ClassSpec}
use Rattle.class_types.specs.declared.mapped.Attribute.{Attribute}
pub use Rattle.class_blocks.specs.Lines.{is_above}
pub use Rattle.class_blocks.specs.Tables.{columns_in, named_table}
use Rattle.class_layouts.specs.declared.classes.Classes.{Classes}
use Rattle.class_layouts.specs.declared.layout.Layout.{Layout}
use Rattle.class_layouts.specs.Hierarchy.{line_of, root_in, same_root}

abbrev pub table_in : List TableSpec → Option ClassSpec → Option TableId
table_in tables None = None
table_in tables (Some spec) = named_table tables spec.table

-- the table that a class's own block names
abbrev pub own_table : List TableSpec → Classes → ℕ → Option TableId
own_table tables classes class = table_in tables (slice_get classes.specs class)

-- the tables of the class of a line, its root's first
abbrev pub tables_on : List TableSpec → Classes → List ClassId → List TableId
tables_on tables classes line = filter_map (λ class. own_table tables classes class.0) line

abbrev pub later_of : Option TableId → Option TableId → Option TableId
later_of found None = found
later_of found (Some table) = Some table

-- the table in which the class of a line lives: the last of its tables
abbrev pub lives_in : List TableSpec → Classes → List ClassId → Option TableId
lives_in tables classes line = fold (λ found class. later_of found (own_table tables classes class.0)) None line

abbrev pub is_table : Option TableId → TableId → Bool
is_table None table = false
is_table (Some found) table = found.0 == table.0

-- the class is of the hierarchy of this root, lives in the table and owns the column of this name
abbrev pub is_owner : List TableSpec → Classes → Option ClassId → TableId → List ℕ → ℕ × ClassSpec → Bool
is_owner tables classes root table name other =
    has_name other.1.owned name && same_root root (root_in (line_of classes other.0)) && is_table (lives_in tables classes (line_of classes other.0)) table

-- the class that owns a column of a hierarchy's table
abbrev pub owner_of : List TableSpec → Classes → Option ClassId → TableId → List ℕ → Option ℕ
owner_of tables classes root table name = position (is_owner tables classes root table name) (enumerate_from 0 classes.specs)

-- no class owns the column, or one does that stands in the line
abbrev pub is_shown : List TableSpec → Classes → List ClassId → TableId → List ℕ → Bool
is_shown tables classes line table name = is_above (owner_of tables classes (root_in line) table name) line

-- the column is an attribute; the key of a table behind the root's is none
abbrev pub is_attribute : List TableSpec → Classes → List ClassId → ℕ → TableId → ColumnSpec → Bool
is_attribute tables classes line rank table column = (rank == 0 || not column.key) && is_shown tables classes line table column.name

-- the column at a place of a table, as an attribute
abbrev pub attribute_at : TableId → ℕ × ColumnSpec → Attribute
attribute_at table placed = record { name = placed.1.name; table = table; column = record { 0 = placed.0 }; kind = kind_of placed.1.kind }

-- the attributes that a table gives, which has this rank among the tables of the class of a line
abbrev pub table_attributes : List TableSpec → Classes → List ClassId → ℕ × TableId → List Attribute
table_attributes tables classes line ranked =
    map (attribute_at ranked.1) (filter (λ placed. is_attribute tables classes line ranked.0 ranked.1 placed.1) (enumerate_from 0 (columns_in tables ranked.1)))

-- the attributes of the class of a line: the columns of its tables in order
abbrev pub attributes_on : List TableSpec → Classes → List ClassId → List Attribute
attributes_on tables classes line = flat_map (table_attributes tables classes line) (enumerate_from 0 (tables_on tables classes line))

abbrev pub is_key_column : Option ColumnSpec → Bool
is_key_column None = false
is_key_column (Some column) = column.key

-- the attribute is a column of a key
abbrev pub is_key : List TableSpec → Attribute → Bool
is_key tables attribute = is_key_column (slice_get (columns_in tables attribute.table) attribute.column.0)

abbrev pub attr_at : ℕ × Attribute → AttrNo
attr_at placed = record { 0 = placed.0 }

-- which attributes are those of the key, in order
abbrev pub keys_among : List TableSpec → List Attribute → List AttrNo
keys_among tables attributes = map attr_at (filter (λ placed. is_key tables placed.1) (enumerate_from 0 attributes))

-- what the class of a line has
abbrev pub layout_of : List TableSpec → Classes → List ClassId → Layout
layout_of tables classes line =
    let attributes = attributes_on tables classes line in
    record { tables = tables_on tables classes line; attributes = attributes; keys = keys_among tables attributes }

-- what each class has
abbrev pub layouts_of : List TableSpec → Classes → List Layout
layouts_of tables classes = map (layout_of tables classes) classes.lines
