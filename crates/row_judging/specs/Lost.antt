-- Rows that refer to rows that were taken out.
use Rattle.std.specs.Prelude.{ℕ, Bool, false, not, ◌&&◌, List, Option, None, Some, is_some}
use Rattle.std.specs.List.{list_any}
use Rattle.std.specs.Ordering.{is_eq}
use Rattle.base_core.specs.declared.ids.TableId.{TableId}
use Rattle.base_core.specs.declared.value.Value.{Value}
use Rattle.schema_core.specs.declared.table.ForeignSpec.{ForeignSpec}
use Rattle.schema_core.specs.declared.table.TableSpec.{TableSpec}
use Rattle.schema_core.specs.Catalog.{Catalog, spec_of, target_of}
use Rattle.schema_core.specs.Tables.{Rows, Tables, cells_of, dangles, has_null, names_row, row_under, same_values, table_cmp}
use Rattle.table_rows.specs.Rows.{rows_present}
use Rattle.row_judging.specs.declared.losing.Before.{Before}
use Rattle.row_judging.specs.declared.losing.Before.TheVariants as before

abbrev pub is_table : TableId → Option TableId → Bool
is_table table None = false
is_table table (Some target) = is_eq (table_cmp target table)

-- a foreign key refers to the table
abbrev pub refers_to : Catalog → ForeignSpec → TableId → Bool
refers_to schema foreign table = is_table table (target_of schema foreign)

-- a key named a row that was taken out of the table to which a foreign key refers
abbrev pub was_named : Catalog → Before → ForeignSpec → List Value → Bool
was_named schema (before.Row table key) foreign cells = refers_to schema foreign table && same_values cells key.now
was_named schema (before.Rows table rows) foreign cells = refers_to schema foreign table && is_some (row_under (rows_present rows.now) cells)

-- a row's foreign key named a row before, and names none of the tables that are left
abbrev pub is_lost : Catalog → Before → Tables → TableSpec → List Value → ForeignSpec → Bool
is_lost schema was left spec row foreign = was_named schema was foreign (cells_of spec row foreign.columns) && dangles schema left spec row foreign

abbrev pub some_lost : Catalog → Before → Tables → Bool
some_lost schema was left = list_any (λ created. list_any (λ row. list_any (is_lost schema was left (spec_of schema created.0) row.1) (spec_of schema created.0).foreigns) created.1) left

-- ---- the same, by the keys of the rows that were taken out

-- a key has no NULL and names no row of the table to which a foreign key refers
abbrev pub is_gone : Catalog → Tables → ForeignSpec → List Value → Bool
is_gone schema left foreign key = not (has_null key) && not (names_row schema left foreign key)

-- a row has these values in columns of these names
abbrev pub some_row_has : TableSpec → List (List ℕ) → Rows → List Value → Bool
some_row_has spec names rows value = list_any (λ row. same_values (cells_of spec row.1 names) value) rows

-- the row that stands there has them, if one does
abbrev pub has_there : TableSpec → List (List ℕ) → List Value → Option (List Value) → Bool
has_there spec names value None = false
has_there spec names value (Some row) = same_values (cells_of spec row names) value

-- a row's foreign key is one that is gone
abbrev pub key_lost : Catalog → Tables → TableSpec → Rows → ForeignSpec → List Value → Bool
key_lost schema left spec rows foreign key = is_gone schema left foreign key && some_row_has spec foreign.columns rows key
