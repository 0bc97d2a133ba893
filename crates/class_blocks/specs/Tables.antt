-- The tables that blocks of classes name.
use Rattle.std.specs.Prelude.{ℕ, List, slice_index_or, Option, None, Some}
use Rattle.base_core.specs.declared.ids.TableId.{TableId}
use Rattle.schema_core.specs.declared.table.ColumnSpec.{ColumnSpec}
use Rattle.schema_core.specs.declared.table.TableSpec.{TableSpec}
use Rattle.schema_core.specs.Catalog.{find_table, no_table}

-- the number of the table that is named
abbrev pub named_table : List TableSpec → Option (List ℕ) → Option TableId
named_table tables None = None
named_table tables (Some name) = find_table tables name

abbrev pub columns_in : List TableSpec → TableId → List ColumnSpec
columns_in tables table = (slice_index_or tables table.0 no_table).columns
