-- A plan sent statement by statement: cells that name a key are put in as keys become known.
use Rattle.std.specs.Prelude.{ℕ, Bool, false, ◌&&◌, ◌||◌, List, [], ◌∷◌, map, slice_index_or, nat_eq, Result, Ok, Err, if◌then◌else◌}
use Rattle.std.specs.List.{list_any}
use Rattle.std.specs.Map.{lookup}
use Rattle.std.specs.Option.{unwrap_or}
use Rattle.base_core.specs.declared.ids.TableId.{TableId}
use Rattle.base_core.specs.declared.value.Value.{Value}
use Rattle.base_core.specs.declared.value.Value.TheVariants.{Null}
use Rattle.schema_core.specs.declared.changes.Planned.{Planned}
use Rattle.schema_core.specs.declared.changes.Planned.TheVariants.{Insert, Update, Remove}
use Rattle.schema_core.specs.declared.changes.RowCell.{RowCell}
use Rattle.schema_core.specs.declared.changes.RowCell.TheVariants.{Given, KeyOf}
use Rattle.schema_core.specs.declared.changes.RowChanges.{RowChanges}
use Rattle.schema_core.specs.declared.statement.Violation.{Violation}
use Rattle.schema_core.specs.declared.statement.Violation.TheVariants.{Missing}
use Rattle.schema_core.specs.declared.statement.RowStmt.{RowStmt}
use Rattle.schema_core.specs.declared.statement.RowStmt.TheVariants as statement
use Rattle.schema_core.specs.Apply.{Outcome, apply}
use Rattle.schema_core.specs.Catalog.{Catalog}
use Rattle.schema_core.specs.Tables.{Tables}
use Rattle.flush_order.specs.Cells.{first_cells}
use Rattle.flush_order.specs.Orders.{place_of_gone}
use Rattle.flush_writes.specs.Writes.{place_of_changed, writes_some}
use Rattle.flush_order.specs.Sorted.{same_place}

-- the keys of new rows that are known, each with the row's place
abbrev pub Keys : Type 0
Keys = List (ℕ × List Value)

abbrev pub key_of_new : Keys → ℕ → List Value
key_of_new keys place = unwrap_or (lookup (nat_eq place) keys) []

-- the cell with the key put in
abbrev pub value_of_cell : Keys → RowCell → Value
value_of_cell keys (Given value) = value
value_of_cell keys (KeyOf place part) = slice_index_or (key_of_new keys place) part Null

-- the row of an INSERT with the keys put in
abbrev pub row_sent : Catalog → RowChanges → Keys → ℕ → List Value
row_sent schema changes keys place = map (value_of_cell keys) (first_cells schema changes place)

-- the statement with the keys put in
abbrev pub statement_sent : Catalog → RowChanges → Keys → Planned → RowStmt
statement_sent schema changes keys (Insert table places) = statement.Insert table (map (row_sent schema changes keys) places)
statement_sent schema changes keys (Update table key cells) = statement.Update table (map (value_of_cell keys) key) (map (λ cell. (cell.0, value_of_cell keys cell.1)) cells)
statement_sent schema changes keys (Remove table key) = statement.Delete table key

-- the keys with those that new rows got
abbrev pub with_keys : Keys → List ℕ → List (List Value) → Keys
with_keys keys [] answered = keys
with_keys keys (place ∷ places) [] = keys
with_keys keys (place ∷ places) (key ∷ answered) = with_keys ((place, key) ∷ keys) places answered

-- the keys that are known after a statement that answered these
abbrev pub keys_then : Keys → Planned → List (List Value) → Keys
keys_then keys (Insert table places) answered = with_keys keys places answered
keys_then keys planned answered = keys

-- a row that was changed or deleted in the graph stands under this key, though an INSERT was given it
abbrev pub is_stale : Catalog → RowChanges → TableId → List Value → Bool
is_stale schema changes table key =
    list_any (λ row. same_place (place_of_changed row) (table, key) && writes_some row.cells) changes.changed
    || list_any (λ row. same_place (place_of_gone schema row) (table, key)) changes.gone

-- an INSERT was given the key of such a row
abbrev pub was_missing : Catalog → RowChanges → Planned → List (List Value) → Bool
was_missing schema changes (Insert table places) answered = list_any (is_stale schema changes table) answered
was_missing schema changes planned answered = false

abbrev pub table_of : Planned → TableId
table_of (Insert table places) = table
table_of (Update table key cells) = table
table_of (Remove table key) = table

-- the tables so far and the keys that are known
pub record Sofar : Type 0 where
  pub tables : Tables
  pub keys : Keys

-- the first refusal, with the table of its statement; a row that was missing is told as that of an UPDATE is
abbrev pub Flushed : Type 0
Flushed = Result Sofar (TableId × Violation)

abbrev pub after_outcome : Catalog → RowChanges → Sofar → Planned → Outcome → Flushed
after_outcome schema changes sofar planned (Err violation) = Err (table_of planned, violation)
after_outcome schema changes sofar planned (Ok answer) =
    if was_missing schema changes planned answer.0 then Err (table_of planned, Missing)
    else Ok (record { tables = answer.1; keys = keys_then sofar.keys planned answer.0 })

unfoldable pub send : Catalog → RowChanges → Sofar → Planned → Flushed
send schema changes sofar planned = after_outcome schema changes sofar planned (apply schema sofar.tables (statement_sent schema changes sofar.keys planned))

abbrev pub send_on : Catalog → RowChanges → Flushed → Planned → Flushed
send_on schema changes (Err stop) planned = Err stop
send_on schema changes (Ok sofar) planned = send schema changes sofar planned

-- a plan, statement by statement, up to the first refusal
abbrev pub send_all : Catalog → RowChanges → Flushed → List Planned → Flushed
send_all schema changes sofar [] = sofar
send_all schema changes sofar (planned ∷ plan) = send_all schema changes (send_on schema changes sofar planned) plan
