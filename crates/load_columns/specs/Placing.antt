-- Where the tables of a class stand among the sources of a select, and the columns of sources.
use Rattle.std.specs.Prelude.{ℕ, ◌+◌, nat_lt, ◌==◌, List, map, slice_get, unwrap_or, Option, None, Some, if◌then◌else◌}
use Rattle.std.specs.List.{enumerate_from, filter, position}
use Rattle.base_core.specs.declared.ids.ClassId.{ClassId}
use Rattle.base_core.specs.declared.ids.ColumnNo.{ColumnNo}
use Rattle.base_core.specs.declared.ids.TableId.{TableId}
use Rattle.schema_core.specs.declared.table.ColumnSpec.{ColumnSpec}
use Rattle.schema_core.specs.declared.table.ForeignSpec.{ForeignSpec}
use Rattle.schema_core.specs.declared.table.TableSpec.{TableSpec}
use Rattle.schema_core.specs.Catalog.{find_table, same_name}
use Rattle.class_types.specs.declared.mapped.Attribute.{Attribute}
use Rattle.class_layouts.specs.Columns.{columns_in}
use Rattle.class_sides.specs.Keys.{TableKey, foreign_at, names_of}
use Rattle.class_mapping.specs.Mapped.{Mapped, attributes_of, no_table_id, root_table, table_or_none, tables_of}
use Rattle.load_columns.specs.declared.placing.Placement.{Placement}
use Rattle.load_columns.specs.declared.placing.SourceColumn.{SourceColumn}

-- ---- the tables of a class

-- all from the root's on
abbrev pub from_root : ℕ → Placement
from_root first = record { leading = 0; first = first }

-- the place of the table of a rank
abbrev pub place_at_rank : Placement → ℕ → ℕ
place_at_rank placement rank =
    if rank == placement.leading then placement.first
    else if nat_lt rank placement.leading then placement.first + 1 + rank
    else placement.first + rank

-- the rank of a table among those of a class; the root's is 0
abbrev pub rank_of : Mapped → ClassId → TableId → ℕ
rank_of mapped class table = unwrap_or (position (λ other. other.0 == table.0) (tables_of mapped class)) 0

abbrev pub table_at_rank : Mapped → ClassId → ℕ → TableId
table_at_rank mapped class rank = table_or_none (slice_get (tables_of mapped class) rank)

abbrev pub place_of_table : Mapped → ClassId → Placement → TableId → ℕ
place_of_table mapped class placement table = place_at_rank placement (rank_of mapped class table)

-- ---- columns of tables

abbrev pub number_at : ℕ × ColumnSpec → ColumnNo
number_at placed = record { 0 = placed.0 }

-- the columns of the primary key of a table
abbrev pub key_numbers : Mapped → TableId → List ColumnNo
key_numbers mapped table = map number_at (filter (λ placed. placed.1.key) (enumerate_from 0 (columns_in mapped.schema.tables table)))

-- the column of a name
abbrev pub column_named : Mapped → TableId → List ℕ → ColumnNo
column_named mapped table name = record { 0 = unwrap_or (position (λ column. same_name column.name name) (columns_in mapped.schema.tables table)) 0 }

-- the columns of a foreign key
abbrev pub foreign_numbers : Mapped → TableKey → List ColumnNo
foreign_numbers mapped key = map (column_named mapped key.0) (names_of mapped.schema.tables key)

abbrev pub target_in : List TableSpec → Option ForeignSpec → TableId
target_in tables None = no_table_id
target_in tables (Some foreign) = table_or_none (find_table tables foreign.target)

-- the table to which a foreign key refers
abbrev pub referred_table : Mapped → TableKey → TableId
referred_table mapped key = target_in mapped.schema.tables (foreign_at mapped.schema.tables key)

-- ---- columns of sources

abbrev pub column_at : ℕ → ColumnNo → SourceColumn
column_at source column = record { source = source; column = column }

abbrev pub columns_at : ℕ → List ColumnNo → List SourceColumn
columns_at source columns = map (column_at source) columns

abbrev pub attribute_column : Mapped → ClassId → Placement → Attribute → SourceColumn
attribute_column mapped class placement attribute = column_at (place_of_table mapped class placement attribute.table) attribute.column

-- the columns of the attributes of a class
abbrev pub attribute_columns : Mapped → ClassId → Placement → List SourceColumn
attribute_columns mapped class placement = map (attribute_column mapped class placement) (attributes_of mapped class)

-- the key of the class's table of a rank
abbrev pub key_at_rank : Mapped → ClassId → Placement → ℕ → List SourceColumn
key_at_rank mapped class placement rank = columns_at (place_at_rank placement rank) (key_numbers mapped (table_at_rank mapped class rank))

-- the key of the class's root
abbrev pub root_key : Mapped → ClassId → Placement → List SourceColumn
root_key mapped class placement = columns_at (place_at_rank placement 0) (key_numbers mapped (root_table mapped class))
