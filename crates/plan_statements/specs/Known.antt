-- The keys of new rows by place, and the statements that can be made by them.
use Rattle.std.specs.Prelude.{◌≡◌, ◌<◌, ℕ, Bool, true, false, ◌&&◌, List, [], length, nat_eq, nat_lt, slice_index_or, Option, None, Some}
use Rattle.std.specs.List.{All, enumerate_from, list_all}
use Rattle.base_core.specs.declared.ids.TableId.{TableId}
use Rattle.base_core.specs.declared.value.Value.{Value}
use Rattle.schema_core.specs.declared.changes.Planned.{Planned}
use Rattle.schema_core.specs.declared.changes.Planned.TheVariants.{Insert}
use Rattle.schema_core.specs.declared.changes.RowChanges.{RowChanges}
use Rattle.schema_core.specs.declared.statement.RowStmt.{RowStmt}
use Rattle.schema_core.specs.Catalog.{Catalog, IsTable}
use Rattle.schema_core.specs.WellFormedTest.{is_well_formed}
use Rattle.flush_order.specs.Cells.{table_at}
use Rattle.flush_plan.specs.Flushing.{Keys, key_of_new, statement_sent}

-- a list of keys by place as keys of new rows; a key that is not known yet is empty
abbrev pub keys_at : List (List Value) → Keys
keys_at known = enumerate_from 0 known

-- at each place the list has the key that is known of the new row there, and is empty where none is
abbrev pub AreKeysAt : Keys → List (List Value) → Type 0
AreKeysAt keys known = (place : ℕ) → key_of_new keys place ≡ slice_index_or known place []

-- the place is of a new row of this table
abbrev pub is_place_of : RowChanges → TableId → ℕ → Bool
is_place_of changes table place = nat_lt place (length changes.fresh) && nat_eq (table_at changes place).0 table.0

-- an INSERT of new rows is of a declared table, and of new rows of it
abbrev pub is_of_rows : Catalog → RowChanges → Planned → Bool
is_of_rows schema changes (Insert table places) = nat_lt table.0 (length schema.tables) && list_all (is_place_of changes table) places
is_of_rows schema changes planned = true

-- the statement is of new rows, and well formed once the keys that are known are put in
abbrev pub is_sendable : Catalog → RowChanges → Keys → Planned → Bool
is_sendable schema changes keys planned = is_of_rows schema changes planned && is_well_formed schema (statement_sent schema changes keys planned)

abbrev pub statement_if : Bool → RowStmt → Option RowStmt
statement_if true statement = Some statement
statement_if false statement = None

-- the same as facts
abbrev pub IsPlaceOf : RowChanges → TableId → ℕ → Type 0
IsPlaceOf changes table place = (place < length changes.fresh) × (table_at changes place ≡ table)

abbrev pub IsOfRows : Catalog → RowChanges → Planned → Type 0
IsOfRows schema changes (Insert table places) = IsTable schema table × All (IsPlaceOf changes table) places
IsOfRows schema changes planned = Unit {0}

-- the places of an INSERT are below a number
abbrev pub IsWithin : ℕ → Planned → Type 0
IsWithin count (Insert table places) = All (λ place. place < count) places
IsWithin count planned = Unit {0}
