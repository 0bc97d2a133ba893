-- Which new rows wait for which, and which deleted ones.
use Rattle.std.specs.Prelude.{ℕ, Bool, false, not, ◌&&◌, ◌||◌, List, nat_eq, Option, None, Some}
use Rattle.std.specs.List.{list_any}
use Rattle.base_core.specs.declared.ids.TableId.{TableId}
use Rattle.base_core.specs.declared.value.Value.{Value}
use Rattle.base_core.specs.declared.value.Value.TheVariants.{Null}
use Rattle.schema_core.specs.declared.changes.GoneRow.{GoneRow}
use Rattle.schema_core.specs.declared.changes.RowCell.{RowCell}
use Rattle.schema_core.specs.declared.changes.RowCell.TheVariants.{Given, KeyOf}
use Rattle.schema_core.specs.declared.changes.RowChanges.{RowChanges}
use Rattle.schema_core.specs.declared.table.ForeignSpec.{ForeignSpec}
use Rattle.schema_core.specs.Catalog.{Catalog, spec_of, target_of}
use Rattle.schema_core.specs.Tables.{cells_of, has_null, key_of, same_values}
use Rattle.flush_order.specs.Cells.{cells_cleared, first_cells, is_late, known_row, table_at}

abbrev pub is_table : TableId → Option TableId → Bool
is_table table None = false
is_table table (Some other) = nat_eq other.0 table.0

-- a foreign key of the row has no NULL and names this key of this table
abbrev pub names : Catalog → List Value → TableId → TableId → List Value → ForeignSpec → Bool
names schema row table target key foreign =
    is_table target (target_of schema foreign)
    && not (has_null (cells_of (spec_of schema table) row foreign.columns))
    && same_values (cells_of (spec_of schema table) row foreign.columns) key

-- some foreign key of the row does
abbrev pub refers_to : Catalog → List Value → TableId → TableId → List Value → Bool
refers_to schema row table target key = list_any (names schema row table target key) (spec_of schema table).foreigns

abbrev pub comes_from : ℕ → RowCell → Bool
comes_from place (Given value) = false
comes_from place (KeyOf other part) = nat_eq other place

-- a new row refers to another, or itself: by a cell that is a part of its key, or by values that equal its key
abbrev pub new_refers : Catalog → RowChanges → ℕ → ℕ → Bool
new_refers schema changes place other =
    list_any (comes_from other) (first_cells schema changes place)
    || refers_to schema (known_row schema changes place) (table_at changes place) (table_at changes other) (key_of (spec_of schema (table_at changes other)) (known_row schema changes other))

-- the key of a deleted row
abbrev pub gone_key : Catalog → GoneRow → List Value
gone_key schema row = key_of (spec_of schema row.name.table) row.base

-- a deleted row's base without what is cleared before it is deleted
abbrev pub last_base : Catalog → RowChanges → GoneRow → List Value
last_base schema changes row = cells_cleared (is_late schema changes row.name.table) Null (spec_of schema row.name.table).columns row.base

-- a deleted row waits for those that refer to it
abbrev pub gone_refers : Catalog → RowChanges → GoneRow → GoneRow → Bool
gone_refers schema changes row other = refers_to schema (last_base schema changes other) other.name.table row.name.table (gone_key schema row)
