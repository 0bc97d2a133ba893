-- The rows of a table that is held, and what stood under a key before.
use Rattle.std.specs.Prelude.{◌≡◌, Bool, true, false, not, List, [], ◌∷◌, Option, None, Some, is_some}
use Rattle.std.specs.Option.{option_map, unwrap_or}
use Rattle.std.specs.List.{list_all}
use Rattle.std.specs.Ordering.{is_lt}
use Rattle.std.specs.Map.{keys_of, lookup}
use Rattle.std.specs.BTreeMap.{is_at}
use Rattle.std.specs.List.Sorted.{IsStrictlySortedBy}
use Rattle.base_core.specs.declared.ids.TableId.{TableId}
use Rattle.base_core.specs.declared.value.Value.{Value}
use Rattle.base_core.specs.Order.{values_cmp}
use Rattle.schema_core.specs.Tables.{Rows, Tables, rows_in, table_cmp, with_row, without_row}

-- one place more before these rows, where a row stands in it
abbrev pub with_place : {K X : Type 0} → K → Option X → List (K × X) → List (K × X)
with_place key None rows = rows
with_place key (Some row) rows = (key, row) ∷ rows

-- the rows that stand in places
abbrev pub rows_present : {K X : Type 0} → List (K × Option X) → List (K × X)
rows_present [] = []
rows_present (place ∷ places) = with_place place.0 place.1 (rows_present places)

-- The places of a table, each under its key: a row stands there, or none since it was taken out.
abbrev pub Places : Type 0
Places = List (List Value × Option (List Value))

-- there is a place for the key
abbrev pub is_placed : Places → List Value → Bool
is_placed places key = is_some (lookup (is_at (values_cmp key)) places)

-- no place was given up
abbrev pub KeepsPlaces : Places → Places → Type 0
KeepsPlaces old new = (key : List Value) → is_placed old key ≡ true → is_placed new key ≡ true

-- The created tables, ascending by number, each with its places.
abbrev pub Held : Type 0
Held = List (TableId × Places)

-- each created table with the rows that stand in it
abbrev pub tables_present : Held → Tables
tables_present [] = []
tables_present (table ∷ tables) = (table.0, rows_present table.1) ∷ tables_present tables

abbrev pub has_place : Option Places → List Value → Bool
has_place None key = false
has_place (Some places) key = is_placed places key

-- a table has a place for the key
abbrev pub IsPlaced : Held → TableId → List Value → Type 0
IsPlaced tables table key = has_place (lookup (is_at (table_cmp table)) tables) key ≡ true

-- no place of any table was given up
abbrev pub KeepsAllPlaces : Held → Held → Type 0
KeepsAllPlaces old new = (table : TableId) (key : List Value) → IsPlaced old table key → IsPlaced new table key

-- the rows of a table, none where it is not created
abbrev pub rows_at : Tables → TableId → Rows
rows_at tables table = unwrap_or (rows_in tables table) []

-- the rows with what stood under a key before
abbrev pub with_former_row : Rows → List Value → Option (List Value) → Rows
with_former_row rows key before = unwrap_or (option_map (with_row rows key) before) (without_row rows key)

-- tables are ascending by number, and the rows of one of them by key
abbrev pub AreSorted : Tables → TableId → Type 0
AreSorted tables table = IsStrictlySortedBy table_cmp (keys_of tables) × IsStrictlySortedBy values_cmp (keys_of (rows_at tables table))

-- ---- the greatest key

-- the key of the last row, which is the greatest
abbrev pub last_key : {K X : Type 0} → List (K × X) → Option K
last_key [] = None
last_key (row ∷ []) = Some row.0
last_key (row ∷ next ∷ rows) = last_key (next ∷ rows)

-- a key is not above the bound, where there is one
abbrev pub is_within : Option (List Value) → List Value → Bool
is_within None key = true
is_within (Some bound) key = not (is_lt (values_cmp bound key))

-- no row's key is above the bound
abbrev pub is_bound : Option (List Value) → Rows → Bool
is_bound bound rows = list_all (λ row. is_within bound row.0) rows
