-- What a statement on rows did to tables that are held.
use Rattle.std.specs.Prelude.{◌≡◌, ℕ, if◌then◌else◌, length, List, [], ◌∷◌, ◌++◌, Result, Ok, Err}
use Rattle.base_core.specs.declared.ids.TableId.{TableId}
use Rattle.base_core.specs.declared.value.Value.{Value}
use Rattle.schema_core.specs.declared.statement.RowStmt.{RowStmt}
use Rattle.schema_core.specs.declared.statement.RowStmt.TheVariants.{Insert, Update, Delete}
use Rattle.schema_core.specs.declared.statement.Unwritten.{Unwritten}
use Rattle.schema_core.specs.declared.statement.Violation.TheVariants.{Unique, Foreign}
use Rattle.schema_core.specs.Apply.{Outcome, entry_of, keys_of_entries, with_own_key}
use Rattle.schema_core.specs.Catalog.{Catalog, spec_of}
use Rattle.schema_core.specs.Judged.{Judged, and_then, some_repeats, some_written_dangles}
use Rattle.schema_core.specs.Tables.{Rows, Tables, row_under, with_row, with_rows}
use Rattle.schema_core.specs.Told.{Told}
use Rattle.keeper_core.specs.Store.{Store}
use Rattle.table_log.specs.Marks.{IsNoted, Marked, rows_there}
use Rattle.table_rows.specs.Rows.{rows_at}

-- written rows may stand: none repeats a unique value of another row or refers to no row
unfoldable pub stand : Catalog → Tables → TableId → Rows → Judged (Unit {0})
stand schema tables table entries =
    if some_repeats (spec_of schema table) (rows_at tables table) entries then Err Unique
    else if some_written_dangles schema tables (spec_of schema table) entries then Err Foreign
    else Ok tt

-- the tables with a row put in one of them
abbrev pub with_entry : Tables → TableId → List Value × List Value → Tables
with_entry tables table entry = with_rows tables table (with_row (rows_at tables table) entry.0 entry.1)

-- new rows put in behind those of the statement that are in, and all of them judged once the last is in
unfoldable pub put_from : Catalog → Tables → TableId → Rows → List (List Value) → Outcome
put_from schema tables table done [] = and_then (stand schema tables table done) (λ _. Ok (keys_of_entries done, tables))
put_from schema tables table done (row ∷ more) =
    and_then (entry_of (spec_of schema table) (rows_at tables table) (with_own_key (spec_of schema table) (rows_at tables table) row))
    (λ entry. put_from schema (with_entry tables table entry) table (done ++ entry ∷ []) more)

-- rows put in one after another
abbrev pub put_all : Tables → TableId → Rows → Tables
put_all tables table [] = tables
put_all tables table (entry ∷ entries) = put_all (with_entry tables table entry) table entries

-- What a statement did to tables with scopes, beside what its definition tells: one that is refused, or finds no memory, may leave
-- any tables, in the same scopes.
abbrev pub Wrote : {A : Type 0} → Judged (A × Tables) → Store → Result A Unwritten → Store → Type 0
Wrote told old (Ok answer) new = (told ≡ Ok (answer, new.tables)) × (new.scopes ≡ old.scopes)
Wrote told old (Err e) new = Told told (Err e) × (new.scopes ≡ old.scopes)

-- how many rows a statement on rows inserts, updates or deletes
abbrev pub rows_changed : Tables → RowStmt → ℕ
rows_changed tables (Insert table rows) = length rows
rows_changed tables (Update table key cells) = 1
rows_changed tables (Delete table key) = rows_there (row_under (rows_at tables table) key)

-- The same of one that noted so many changes where it is done, and leaves everything as it was where it is refused, or finds no memory.
abbrev pub DidOrLeft : {A : Type 0} → Judged (A × Tables) → ℕ → Marked → Result A Unwritten → Marked → Type 0
DidOrLeft told count old (Ok answer) new = (told ≡ Ok (answer, new.seen.tables)) × (new.seen.scopes ≡ old.seen.scopes) × IsNoted count old new
DidOrLeft told count old (Err e) new = Told told (Err e) × (new ≡ old)
