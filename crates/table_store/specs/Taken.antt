-- What a bulk statement did to tables that are held.
use Rattle.std.specs.Prelude.{◌≡◌, ◌||◌, Bool, true, false, is_some, List, [], ◌∷◌, Result, Ok, Err}
use Rattle.base_core.specs.declared.ids.TableId.{TableId}
use Rattle.base_core.specs.declared.value.Value.{Value}
use Rattle.schema_core.specs.declared.statement.Unwritten.{Unwritten}
use Rattle.schema_core.specs.Judged.{Judged}
use Rattle.schema_core.specs.Tables.{Rows, Tables, row_under, with_rows, without_row}
use Rattle.schema_core.specs.Told.{Told}
use Rattle.keeper_core.specs.Store.{Store}
use Rattle.table_rows.specs.Rows.{Places, rows_at, rows_present}

-- the tables without the row of a key in one of them
abbrev pub without_key : Tables → TableId → List Value → Tables
without_key tables table key = with_rows tables table (without_row (rows_at tables table) key)

-- rows taken out one after another
abbrev pub take_all : Tables → TableId → List (List Value) → Tables
take_all tables table [] = tables
take_all tables table (key ∷ keys) = take_all (without_key tables table key) table keys

-- each row that was there is left, or is one of those that were set aside
abbrev pub IsDivided : Rows → Rows → Places → Type 0
IsDivided rows left aside = (key : List Value) → is_some (row_under rows key) ≡ (is_some (row_under left key) || is_some (row_under (rows_present aside) key))

-- What a statement that answers nothing did to tables with scopes, beside what its definition tells: one that is refused, or finds
-- no memory, may leave any tables, in the same scopes.
abbrev pub Made : Judged Tables → Store → Result (Unit {0}) Unwritten → Store → Type 0
Made told old (Ok done) new = (told ≡ Ok new.tables) × (new.scopes ≡ old.scopes)
Made told old (Err e) new = Told told (Err e) × (new.scopes ≡ old.scopes)

-- the keys of the rows that are chosen
abbrev pub keys_chosen : List Bool → Rows → List (List Value)
keys_chosen (true ∷ choice) (row ∷ rows) = row.0 ∷ keys_chosen choice rows
keys_chosen (false ∷ choice) (row ∷ rows) = keys_chosen choice rows
keys_chosen choice rows = []

-- the keys of some of these rows, in their order
pub record AreKeysOf (rows : Rows) (keys : List (List Value)) : Type 0 where
  pub choice : List Bool
  pub keys_are : keys ≡ keys_chosen choice rows
