-- The foreign keys of tables, and which of them tie the tables of one hierarchy.
use Rattle.std.specs.Prelude.{ℕ, zero, suc, Bool, true, false, ◌&&◌, ◌||◌, List, [], ◌∷◌, filter, slice_get, ◌==◌, Option, None, Some}
use Rattle.std.specs.List.{list_any}
use Rattle.std.specs.Cmp.Lexicographic.{pointwise}
use Rattle.base_core.specs.declared.ids.TableId.{TableId}
use Rattle.schema_core.specs.declared.table.ColumnSpec.{ColumnSpec}
use Rattle.schema_core.specs.declared.table.ForeignSpec.{ForeignSpec}
use Rattle.schema_core.specs.declared.table.TableSpec.{TableSpec}
use Rattle.schema_core.specs.Catalog.{find_table, same_name}
pub use Rattle.class_blocks.specs.Names.{allows, same_names}
use Rattle.class_layouts.specs.Columns.{columns_in, is_table}
use Rattle.class_layouts.specs.Faults.{foreigns_in}

-- a foreign key: its table, and its number there
abbrev pub TableKey : Type 0
TableKey = TableId × ℕ

abbrev pub same_key : TableKey → TableKey → Bool
same_key one other = (one.0.0 == other.0.0) && (one.1 == other.1)

-- the foreign key of a number
abbrev pub foreign_at : List TableSpec → TableKey → Option ForeignSpec
foreign_at tables key = slice_get (foreigns_in tables key.0) key.1

abbrev pub columns_at : Option ForeignSpec → List (List ℕ)
columns_at None = []
columns_at (Some foreign) = foreign.columns

-- the names of the columns of a foreign key
abbrev pub names_of : List TableSpec → TableKey → List (List ℕ)
names_of tables key = columns_at (foreign_at tables key)

-- a foreign key refers to the table
abbrev pub refers_to : List TableSpec → ForeignSpec → TableId → Bool
refers_to tables foreign table = is_table (find_table tables foreign.target) table

-- it refers to one of the tables
abbrev pub refers_into : List TableSpec → ForeignSpec → List TableId → Bool
refers_into tables foreign found = list_any (refers_to tables foreign) found

-- the columns of these names are the primary key, in its order
abbrev pub is_whole_key : List ColumnSpec → List (List ℕ) → Bool
is_whole_key columns names = pointwise (λ name column. same_name name column.name) names (filter (λ column. column.key) columns)

-- a foreign key of this table ties it to the parent's: its columns are the table's key
abbrev pub ties : List TableSpec → TableId → TableId → ForeignSpec → Bool
ties tables parent table foreign = is_whole_key (columns_in tables table) foreign.columns && refers_to tables foreign parent

-- the table before a rank
abbrev pub before_rank : List TableId → ℕ → Option TableId
before_rank found zero = None
before_rank found (suc rank) = slice_get found rank

abbrev pub ties_to : List TableSpec → TableId → Option TableId → ForeignSpec → Bool
ties_to tables table None foreign = false
ties_to tables table (Some parent) foreign = ties tables parent table foreign

-- a foreign key of the table at a rank among a class's tables is the one that ties it to the table before
abbrev pub is_inherited : List TableSpec → List TableId → ℕ → TableId → ForeignSpec → Bool
is_inherited tables found rank table foreign = ties_to tables table (before_rank found rank) foreign

-- the table at a rank among a class's tables is the root's, or has a foreign key that ties it to the one before
abbrev pub is_tied : List TableSpec → List TableId → ℕ × TableId → Bool
is_tied tables found ranked = (ranked.0 == 0) || list_any (is_inherited tables found ranked.0 ranked.1) (foreigns_in tables ranked.1)
