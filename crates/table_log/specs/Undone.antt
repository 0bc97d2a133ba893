-- Tables with what their changes replaced, and the way back.
use Rattle.std.specs.Prelude.{◌≡◌, ◌≤◌, ℕ, List, [], ◌∷◌, ◌++◌, map, drop, length, reverse}
use Rattle.std.specs.List.{AllByRecursion}
use Rattle.schema_core.specs.Tables.{Tables, with_rows}
use Rattle.keeper_core.specs.Store.{Store}
use Rattle.table_rows.specs.Rows.{Held, IsPlaced, with_former_row, rows_at}
use Rattle.table_log.specs.Marks.{Marked, Marks}
use Rattle.table_log.specs.declared.undoing.LogEntry.{LogEntry}

-- the tables before a change
abbrev pub before_change : Tables → LogEntry → Tables
before_change tables entry = with_rows tables entry.table (with_former_row (rows_at tables entry.table) entry.key entry.before)

-- the tables before these changes, of which the last is undone first
abbrev pub before_changes : Tables → List LogEntry → Tables
before_changes tables [] = tables
before_changes tables (entry ∷ entries) = before_change (before_changes tables entries) entry

-- the tables before the changes behind a place in the log
abbrev pub tables_at : Tables → List LogEntry → ℕ → Tables
tables_at tables log place = before_changes tables (drop place log)

-- the tables at the start of the scopes that have these places in the log, the innermost scope first, whose place is the last
abbrev pub scopes_at : Tables → List LogEntry → List ℕ → List Tables
scopes_at tables log places = map (tables_at tables log) (reverse places)

-- tables with the scopes that these marks tell
abbrev pub marked_at : Tables → List LogEntry → List ℕ → Marked
marked_at tables log places = record { seen = record { tables = tables; scopes = scopes_at tables log places }; marks = record { log = log; places = places } }

-- Tables came of others by changes that were noted: the log has more entries, by which they go back.
pub record Follows (old : Tables) (old_log : List LogEntry) (new : Tables) (new_log : List LogEntry) : Type 0 where
  pub entries : List LogEntry
  pub noted : new_log ≡ old_log ++ entries
  pub back : before_changes new entries ≡ old

-- each key of the log has its place, so what stood there is brought back without memory
abbrev pub ArePlaced : Held → List LogEntry → Type 0
ArePlaced tables log = AllByRecursion (λ entry. IsPlaced tables entry.table entry.key) log

-- Places in a log of so many entries, the innermost scope's first: each is at or before the one inside it, and the outermost scope's is the
-- log's start. Where there is no scope, the log is empty.
abbrev pub AreAround : ℕ → List ℕ → Type 0
AreAround count [] = count ≡ 0
AreAround count (place ∷ around) = (place ≤ count) × AreAround place around

-- the same of places of which the outermost scope's is first
abbrev pub AreWithin : ℕ → List ℕ → Type 0
AreWithin count places = AreAround count (reverse places)

-- Each scope has a first place in the log, and undoing the entries behind it, the last one first, leads to the tables at the
-- scope's start. Where there is no scope, both lists are empty.
pub record AreMarks (store : Store) (marks : Marks) : Type 0 where
  pub scopes : store.scopes ≡ scopes_at store.tables marks.log marks.places
  pub within : AreWithin (length marks.log) marks.places
