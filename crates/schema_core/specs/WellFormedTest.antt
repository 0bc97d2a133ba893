-- Whether a statement on rows is well formed, as a test.
use Rattle.std.specs.Prelude.{ℕ, Bool, not, ◌&&◌, ◌||◌, ◌==◌, List, length, nat_lt}
use Rattle.std.specs.List.{list_all, list_any}
use Rattle.base_core.specs.declared.ids.ColumnNo.{ColumnNo}
use Rattle.base_core.specs.declared.value.Value.{Value}
use Rattle.schema_core.specs.declared.statement.RowStmt.{RowStmt}
use Rattle.schema_core.specs.declared.statement.RowStmt.TheVariants.{Insert, Update, Delete}
use Rattle.schema_core.specs.declared.table.TableSpec.{TableSpec}
use Rattle.schema_core.specs.Apply.{wants_key}
use Rattle.schema_core.specs.Catalog.{Catalog, spec_of}
use Rattle.schema_core.specs.WellFormed.{are_cells, is_key, is_row}

-- 1 to 1000 rows
abbrev pub are_some : ℕ → Bool
are_some count = nat_lt 0 count && not (nat_lt 1000 count)

-- all rows leave their key open for a generated one, or none does
abbrev pub are_alike : TableSpec → List (List Value) → Bool
are_alike spec rows = list_all (wants_key spec) rows || not (list_any (wants_key spec) rows)

-- there is one row where a generated key is all that it has
abbrev pub are_wide_enough : TableSpec → List (List Value) → Bool
are_wide_enough spec rows = not (length spec.columns == 1) || (not (list_any (wants_key spec) rows) || (length rows == 1))

-- rows that one INSERT can write
abbrev pub are_new_rows : TableSpec → List (List Value) → Bool
are_new_rows spec rows = are_some (length rows) && (list_all (is_row spec) rows && (are_alike spec rows && are_wide_enough spec rows))

-- the key is one of the table, and the cells are of its columns: some, in order, each once and none of the key
abbrev pub is_update_of : TableSpec → List Value → List (ColumnNo × Value) → Bool
is_update_of spec key cells = is_key spec key && (nat_lt 0 (length cells) && are_cells 0 spec.columns cells)

-- the statement names a declared table, and its cells fit the table's columns
abbrev pub is_well_formed : Catalog → RowStmt → Bool
is_well_formed schema (Insert table rows) = nat_lt table.0 (length schema.tables) && are_new_rows (spec_of schema table) rows
is_well_formed schema (Update table key cells) = nat_lt table.0 (length schema.tables) && is_update_of (spec_of schema table) key cells
is_well_formed schema (Delete table key) = nat_lt table.0 (length schema.tables) && is_key (spec_of schema table) key
