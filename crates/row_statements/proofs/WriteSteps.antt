-- Steps of a statement on rows, done on tables that are held.
use Rattle.std.proofs.Common.{◌≡◌, ℕ, ◌<◌, Bool, true, false, List, [], ◌∷◌, ◌++◌, length, drop, slice_index_or, Option, None, Some, is_some, Result, Ok, Err, OnOk, OnErr, if◌then◌else◌, refl, sym, ap, subst, ◌∙◌, append-nil, append_assoc, arith}
use Rattle.std.specs.Borrow.{Bor}
use Rattle.std.specs.List.{list_any}
use Rattle.std.specs.Option.{unwrap_or}
use Rattle.schema_core.proofs.TableOrder.{tables_total}
use Rattle.base_core.proofs.Tests.{or_false}
use Rattle.base_core.specs.declared.ids.ColumnNo.{ColumnNo}
use Rattle.base_core.specs.declared.ids.TableId.{TableId}
use Rattle.base_core.specs.declared.value.Value.{Value}
use Rattle.schema_core.specs.declared.statement.RowStmt.{RowStmt}
use Rattle.schema_core.specs.declared.statement.RowStmt.TheVariants.{Insert, Update, Delete}
use Rattle.schema_core.specs.declared.statement.Unwritten.{Unwritten}
use Rattle.schema_core.specs.declared.statement.Unwritten.TheVariants.{Violates, Memory}
use Rattle.schema_core.specs.declared.statement.Violation.TheVariants.{Unique, Foreign, NoTable, NotNull}
use Rattle.schema_core.specs.Apply.{Outcome, answer_keys, apply, delete_row, entries_of, entry_of, insert_rows, is_demanded, keys_of_entries, table_of, update_row, with_cells, with_own_key}
use Rattle.schema_core.specs.Catalog.{Catalog, is_required, spec_of}
use Rattle.schema_core.specs.Judged.{Judged, and_then, lacks_value, some_loses_row, some_repeats, some_written_dangles, with_all, write_all}
use Rattle.schema_core.specs.Tables.{Rows, Tables, is_created, row_under, rows_in, with_row, with_rows, without_row}
use Rattle.schema_core.specs.Told.{Told}
use Rattle.schema_core.proofs.ApplySteps as steps
use Rattle.table_log.specs.Marks.{Marked, Notes, NotesSome, last_cut, place_added, place_dropped}
use Rattle.table_log.specs.Scopes.{scope_ended, scope_started, scope_undone, with_tables}
use Rattle.table_rows.specs.Rows.{rows_at}
use Rattle.keeper_core.specs.Store.{Store}
use Rattle.row_statements.specs.Held.{DidOrLeft, Wrote, put_all, put_from, rows_changed, stand, with_entry}
use Rattle.row_statements.proofs.Noting.{absent_counted, kept_notes, left_marks, nothing_noted, none_counted, notes_behind, same_marked, some_more, some_noted}
use Rattle.table_rows.proofs.Entries.{found_put, put_again}
use Rattle.table_rows.proofs.Laws.{rows_found}
use Rattle.row_judging.specs.Lost.{some_lost}
use Rattle.row_judging.specs.declared.losing.Before.TheVariants as before
use Rattle.row_judging.proofs.Gone.{lost_alone}

-- a table whose rows were changed is still created
pub still_created : (tables new : Tables) (table : TableId) (rows : Rows) → new ≡ with_rows tables table rows → is_some (rows_in new table) ≡ true
still_created tables new table rows is = ap (λ ts. is_some (rows_in ts table)) is ∙ ap is_some (found_put tables_total table rows tables)

created_rows : (found : Option Rows) → is_some found ≡ true → found ≡ Some (unwrap_or found [])
created_rows None is = cc
created_rows (Some rows) is = refl

-- ---- changed tables

-- other tables in the same scopes
pub changed_tables : (old new : Store) (tables : Tables) → new ≡ with_tables old tables → new.tables ≡ tables
changed_tables old new tables is = ap (λ (store : Store). store.tables) is

pub kept_scopes : (old new : Store) (tables : Tables) → new ≡ with_tables old tables → new.scopes ≡ old.scopes
kept_scopes old new tables is = ap (λ (store : Store). store.scopes) is

pub same_scopes : (old new : Marked) → new ≡ old → new.seen.scopes ≡ old.seen.scopes
same_scopes old new is = ap (λ (store : Marked). store.seen.scopes) is

pub changed_created : (old new : Store) (table : TableId) (rows : Rows) → new ≡ with_tables old (with_rows old.tables table rows) → is_some (rows_in new.tables table) ≡ true
changed_created old new table rows is = still_created old.tables new.tables table rows (changed_tables old new (with_rows old.tables table rows) is)

pub ruleset changing = (changed_tables, kept_scopes, same_scopes, some_noted, nothing_noted)

-- ---- written rows stand

abbrev bound : Catalog → Tables → TableId → Rows → Bool → Judged (Unit {0})
bound schema tables table entries b = if b then Err Foreign else Ok tt

abbrev once : Catalog → Tables → TableId → Rows → Bool → Judged (Unit {0})
once schema tables table entries b = if b then Err Unique else bound schema tables table entries (some_written_dangles schema tables (spec_of schema table) entries)

pub stand_repeats : (schema : Catalog) (tables : Tables) (table : TableId) (entries : Rows) → some_repeats (spec_of schema table) (rows_at tables table) entries ≡ true → stand schema tables table entries ≡ Err Unique
unfolding stand
stand_repeats schema tables table entries twice = ap (once schema tables table entries) twice

pub stand_dangles : (schema : Catalog) (tables : Tables) (table : TableId) (entries : Rows) → some_repeats (spec_of schema table) (rows_at tables table) entries ≡ false
    → some_written_dangles schema tables (spec_of schema table) entries ≡ true → stand schema tables table entries ≡ Err Foreign
unfolding stand
stand_dangles schema tables table entries alone dangles = ap (once schema tables table entries) alone ∙ ap (bound schema tables table entries) dangles

pub stand_fine : (schema : Catalog) (tables : Tables) (table : TableId) (entries : Rows) → some_repeats (spec_of schema table) (rows_at tables table) entries ≡ false
    → some_written_dangles schema tables (spec_of schema table) entries ≡ false → stand schema tables table entries ≡ Ok tt
unfolding stand
stand_fine schema tables table entries alone fine = ap (once schema tables table entries) alone ∙ ap (bound schema tables table entries) fine

pub ruleset stand_steps = (stand_repeats, stand_dangles, stand_fine)

abbrev standing : Bool → Bool → Judged (Unit {0})
standing b c = if b then Err Unique else if c then Err Foreign else Ok tt

abbrev leaving : Bool → Bool → Tables → Judged Tables
leaving b c tables = if b then Err Unique else if c then Err Foreign else Ok tables

then_left : {A : Type 0} (b c : Bool) (left : Tables) (next : Tables → Judged A) → and_then (standing b c) (λ _. next left) ≡ and_then (leaving b c left) next
then_left true c left next = refl
then_left false true left next = refl
then_left false false left next = refl

-- written rows are judged on the tables that they leave
pub stand_written : {A : Type 0} (schema : Catalog) (tables : Tables) (table : TableId) (rows entries : Rows) (next : Tables → Judged A)
    → and_then (stand schema (with_rows tables table (with_all rows entries)) table entries) (λ _. next (with_rows tables table (with_all rows entries))) ≡ and_then (write_all schema tables table rows entries) next
unfolding stand write_all
stand_written schema tables table rows entries next =
    let after : Tables = with_rows tables table (with_all rows entries) in
    ap (λ left. and_then (standing (some_repeats (spec_of schema table) left entries) (some_written_dangles schema after (spec_of schema table) entries)) (λ _. next after)) (rows_found tables table (with_all rows entries))
    ∙ then_left (some_repeats (spec_of schema table) (with_all rows entries) entries) (some_written_dangles schema after (spec_of schema table) entries) after next

-- ---- new rows are put in

pub put_all_in : (schema : Catalog) (tables : Tables) (table : TableId) (done : Rows) (new : List (List Value)) → length new ≡ 0 → stand schema tables table done ≡ Ok tt
    → put_from schema tables table done new ≡ Ok (keys_of_entries done, tables)
unfolding put_from
put_all_in schema tables table done [] none is = ap (λ r. and_then r (λ _. Ok (keys_of_entries done, tables))) is
put_all_in schema tables table done (row ∷ more) none is = absurd (omega (arith, none))

pub put_refused : (schema : Catalog) (old : Store) (table : TableId) (done : Rows) (new : List (List Value)) (e : Unwritten) → length new ≡ 0 → Told (stand schema old.tables table done) (Err e)
    → Wrote (put_from schema old.tables table done new) old (Err e) old
unfolding put_from
put_refused schema old table done [] e none told = (steps.told_first (stand schema old.tables table done) (λ _. Ok (keys_of_entries done, old.tables)) e told, refl)
put_refused schema old table done (row ∷ more) e none told = absurd (omega (arith, none))

abbrev new_entry : Catalog → Tables → TableId → List Value → Judged (List Value × List Value)
new_entry schema tables table row = entry_of (spec_of schema table) (rows_at tables table) (with_own_key (spec_of schema table) (rows_at tables table) row)

abbrev put_on : Catalog → Tables → TableId → Rows → List (List Value) → List Value × List Value → Outcome
put_on schema tables table done more entry = put_from schema (with_entry tables table entry) table (done ++ entry ∷ []) more

pub put_nowhere : (schema : Catalog) (old : Store) (table : TableId) (done : Rows) (row : List Value) (more : List (List Value)) (e : Unwritten) → Told (new_entry schema old.tables table row) (Err e)
    → Wrote (put_from schema old.tables table done (row ∷ more)) old (Err e) old
unfolding put_from
put_nowhere schema old table done row more e told = (steps.told_first (new_entry schema old.tables table row) (put_on schema old.tables table done more) e told, refl)

put_step : (schema : Catalog) (tables : Tables) (table : TableId) (done : Rows) (row : List Value) (more : List (List Value)) (entry : List Value × List Value) → new_entry schema tables table row ≡ Ok entry
    → put_from schema tables table done (row ∷ more) ≡ put_on schema tables table done more entry
unfolding put_from
put_step schema tables table done row more entry is = ap (λ r. and_then r (put_on schema tables table done more)) is

-- one row is in, and the rest is done behind it
pub put_one : (schema : Catalog) (old mid new : Store) (table : TableId) (done both : Rows) (rows : List (List Value)) (row : List Value) (more : List (List Value)) (entry : List Value × List Value) (answer : Result (List (List Value)) Unwritten)
    → rows ≡ row ∷ more → new_entry schema old.tables table row ≡ Ok entry → mid.tables ≡ with_entry old.tables table entry → mid.scopes ≡ old.scopes → both ≡ done ++ entry ∷ []
    → Wrote (put_from schema mid.tables table both more) mid answer new → Wrote (put_from schema old.tables table done rows) old answer new
put_one schema old mid new table done both rows row more entry answer is_rows is is_mid same is_both wrote =
    by answer (subst (λ (outcome : Outcome). Wrote outcome mid answer new) told wrote)
  where
    told : put_from schema mid.tables table both more ≡ put_from schema old.tables table done rows
    told =
        ap (λ ts. put_from schema ts table both more) is_mid ∙ ap (λ es. put_from schema (with_entry old.tables table entry) table es more) is_both ∙ sym (put_step schema old.tables table done row more entry is)
        ∙ ap (put_from schema old.tables table done) (sym is_rows)

    by : (answer : Result (List (List Value)) Unwritten) → Wrote (put_from schema old.tables table done rows) mid answer new → Wrote (put_from schema old.tables table done rows) old answer new
    by (Ok keys) w = (w.0, w.1 ∙ same)
    by (Err e) w = (w.0, w.1 ∙ same)

pub ruleset put_steps = (put_all_in, put_refused, put_nowhere, put_one, still_created, same_scopes, none_counted, notes_behind, some_noted, nothing_noted, some_more)

-- ---- an INSERT

abbrev stands : Catalog → Tables → TableId → Rows → Rows → Outcome
stands schema tables table done entries = and_then (stand schema (put_all tables table entries) table (done ++ entries)) (λ _. Ok (keys_of_entries (done ++ entries), put_all tables table entries))

more_entries : {B : Type 0} (entry : List Value × List Value) (rest : Judged Rows) (next : Rows → Judged B) → and_then rest (λ es. next (entry ∷ es)) ≡ and_then (and_then rest (λ es. Ok (entry ∷ es))) next
more_entries entry (Ok es) next = refl
more_entries entry (Err violation) next = refl

put_as_entries : (schema : Catalog) (tables : Tables) (table : TableId) (done : Rows) (new : List (List Value))
    → put_from schema tables table done new ≡ and_then (entries_of (spec_of schema table) (rows_at tables table) new) (stands schema tables table done)
unfolding put_from
put_as_entries schema tables table done [] = ap (λ es. and_then (stand schema tables table es) (λ _. Ok (keys_of_entries es, tables))) (sym (append-nil done))
put_as_entries schema tables table done (row ∷ more) = by (new_entry schema tables table row) (λ entry. put_as_entries schema (with_entry tables table entry) table (done ++ entry ∷ []) more)
  where
    by : (r : Judged (List Value × List Value))
        → ((entry : List Value × List Value) → put_on schema tables table done more entry
        ≡ and_then (entries_of (spec_of schema table) (rows_at (with_entry tables table entry) table) more) (stands schema (with_entry tables table entry) table (done ++ entry ∷ [])))
        → and_then r (put_on schema tables table done more)
        ≡ and_then (and_then r (λ entry. and_then (entries_of (spec_of schema table) (with_row (rows_at tables table) entry.0 entry.1) more) (λ entries. Ok (entry ∷ entries)))) (stands schema tables table done)
    by (Ok entry) again =
        again entry
        ∙ ap (λ rows. and_then (entries_of (spec_of schema table) rows more) (stands schema (with_entry tables table entry) table (done ++ entry ∷ []))) (rows_found tables table (with_row (rows_at tables table) entry.0 entry.1))
        ∙ (λ i. and_then (entries_of (spec_of schema table) (with_row (rows_at tables table) entry.0 entry.1) more)
        (λ es. and_then (stand schema (put_all (with_entry tables table entry) table es) table (append_assoc done (entry ∷ []) es i)) (λ _. Ok (keys_of_entries (append_assoc done (entry ∷ []) es i), put_all (with_entry tables table entry) table es))))
        ∙ more_entries entry (entries_of (spec_of schema table) (with_row (rows_at tables table) entry.0 entry.1) more) (stands schema tables table done)
    by (Err violation) again = refl

pub put_together : (tables : Tables) (table : TableId) (entry : List Value × List Value) (entries : Rows) → put_all tables table (entry ∷ entries) ≡ with_rows tables table (with_all (rows_at tables table) (entry ∷ entries))
put_together tables table entry [] = refl
put_together tables table entry (next ∷ entries) =
    let rows : Rows = with_row (rows_at tables table) entry.0 entry.1 in
    put_together (with_entry tables table entry) table next entries
    ∙ ap (λ there. with_rows (with_entry tables table entry) table (with_all there (next ∷ entries))) (rows_found tables table rows)
    ∙ put_again tables_total table rows (with_all rows (next ∷ entries)) tables

abbrev written : Catalog → Tables → TableId → Rows → Outcome
written schema tables table entries = answer_keys (keys_of_entries entries) (write_all schema tables table (rows_at tables table) entries)

stands_written : (schema : Catalog) (tables : Tables) (table : TableId) (entry : List Value × List Value) (entries : Rows) → stands schema tables table [] (entry ∷ entries) ≡ written schema tables table (entry ∷ entries)
stands_written schema tables table entry entries =
    ap (λ ts. and_then (stand schema ts table (entry ∷ entries)) (λ _. Ok (keys_of_entries (entry ∷ entries), ts))) (put_together tables table entry entries)
    ∙ stand_written schema tables table (rows_at tables table) (entry ∷ entries) (λ ts. Ok (keys_of_entries (entry ∷ entries), ts))

put_whole : (schema : Catalog) (tables : Tables) (table : TableId) (new : List (List Value)) → 0 < length new
    → put_from schema tables table [] new ≡ and_then (entries_of (spec_of schema table) (rows_at tables table) new) (written schema tables table)
put_whole schema tables table [] some = absurd (omega arith)
put_whole schema tables table (row ∷ more) some = put_as_entries schema tables table [] (row ∷ more) ∙ by (new_entry schema tables table row)
  where
    rest : (entry : List Value × List Value) (r : Judged Rows) → and_then (and_then r (λ es. Ok (entry ∷ es))) (stands schema tables table []) ≡ and_then (and_then r (λ es. Ok (entry ∷ es))) (written schema tables table)
    rest entry (Ok es) = stands_written schema tables table entry es
    rest entry (Err violation) = refl

    by : (r : Judged (List Value × List Value))
        → and_then (and_then r (λ entry. and_then (entries_of (spec_of schema table) (with_row (rows_at tables table) entry.0 entry.1) more) (λ entries. Ok (entry ∷ entries)))) (stands schema tables table [])
        ≡ and_then (and_then r (λ entry. and_then (entries_of (spec_of schema table) (with_row (rows_at tables table) entry.0 entry.1) more) (λ entries. Ok (entry ∷ entries)))) (written schema tables table)
    by (Ok entry) = rest entry (entries_of (spec_of schema table) (with_row (rows_at tables table) entry.0 entry.1) more)
    by (Err violation) = refl

pub insert_put : (schema : Catalog) (tables : Tables) (table : TableId) (new : List (List Value)) → list_any (lacks_value (is_demanded (spec_of schema table)) (spec_of schema table).columns) new ≡ false → 0 < length new
    → put_from schema tables table [] new ≡ insert_rows schema tables table (rows_at tables table) new
insert_put schema tables table new full some = put_whole schema tables table new some ∙ sym (steps.insert_full schema tables table (rows_at tables table) new full)

pub ruleset insert_steps = (insert_put, steps.insert_lacks, nothing_noted)

-- ---- an UPDATE

abbrev updated : List Value → List Value → List (ColumnNo × Value) → Rows
updated key row cells = (key, with_cells row cells) ∷ []

pub update_lacks : (schema : Catalog) (tables : Tables) (table : TableId) (rows : Rows) (key row : List Value) (cells : List (ColumnNo × Value)) → row_under rows key ≡ Some row
    → lacks_value is_required (spec_of schema table).columns (with_cells row cells) ≡ true → update_row schema tables table rows key cells ≡ Err NotNull
update_lacks schema tables table rows key row cells found lacks =
    steps.update_there schema tables table rows key row cells found
    ∙ ap (answer_keys (key ∷ [])) (steps.change_lacks schema tables table rows (updated key row cells) (or_false (lacks_value is_required (spec_of schema table).columns (with_cells row cells)) ∙ lacks))

update_full : (schema : Catalog) (tables : Tables) (table : TableId) (rows : Rows) (key row : List Value) (cells : List (ColumnNo × Value)) → row_under rows key ≡ Some row
    → lacks_value is_required (spec_of schema table).columns (with_cells row cells) ≡ false
    → update_row schema tables table rows key cells ≡ and_then (stand schema (with_rows tables table (with_row rows key (with_cells row cells))) table (updated key row cells)) (λ _. Ok (key ∷ [], with_rows tables table (with_row rows key (with_cells row cells))))
update_full schema tables table rows key row cells found full =
    steps.update_there schema tables table rows key row cells found
    ∙ ap (answer_keys (key ∷ [])) (sym (steps.change_full schema tables table rows (updated key row cells) (or_false (lacks_value is_required (spec_of schema table).columns (with_cells row cells)) ∙ full)))
    ∙ sym (stand_written schema tables table rows (updated key row cells) (λ ts. Ok (key ∷ [], ts)))

pub update_stands : (schema : Catalog) (old new : Store) (table : TableId) (key row : List Value) (cells : List (ColumnNo × Value)) → row_under (rows_at old.tables table) key ≡ Some row
    → lacks_value is_required (spec_of schema table).columns (with_cells row cells) ≡ false → new ≡ with_tables old (with_rows old.tables table (with_row (rows_at old.tables table) key (with_cells row cells)))
    → stand schema new.tables table (updated key row cells) ≡ Ok tt → update_row schema old.tables table (rows_at old.tables table) key cells ≡ Ok (key ∷ [], new.tables)
update_stands schema old new table key row cells found full is fine =
    update_full schema old.tables table (rows_at old.tables table) key row cells found full
    ∙ ap (λ ts. and_then (stand schema ts table (updated key row cells)) (λ _. Ok (key ∷ [], ts))) (sym (ap (λ (store : Store). store.tables) is))
    ∙ ap (λ r. and_then r (λ _. Ok (key ∷ [], new.tables))) fine

pub update_refused : (schema : Catalog) (old new : Store) (table : TableId) (key row : List Value) (cells : List (ColumnNo × Value)) (e : Unwritten) → row_under (rows_at old.tables table) key ≡ Some row
    → lacks_value is_required (spec_of schema table).columns (with_cells row cells) ≡ false → new ≡ with_tables old (with_rows old.tables table (with_row (rows_at old.tables table) key (with_cells row cells)))
    → Told (stand schema new.tables table (updated key row cells)) (Err e) → Told (update_row schema old.tables table (rows_at old.tables table) key cells) (Err e)
update_refused schema old new table key row cells (Violates violation) found full is told =
    update_full schema old.tables table (rows_at old.tables table) key row cells found full
    ∙ ap (λ ts. and_then (stand schema ts table (updated key row cells)) (λ _. Ok (key ∷ [], ts))) (sym (ap (λ (store : Store). store.tables) is))
    ∙ ap (λ r. and_then r (λ _. Ok (key ∷ [], new.tables))) told
update_refused schema old new table key row cells Memory found full is told = tt

pub ruleset update_steps = (steps.update_missing, update_lacks, update_stands, update_refused, changed_created, changing)

-- ---- a DELETE

pub delete_none : (schema : Catalog) (tables : Tables) (table : TableId) (rows : Rows) (key : List Value) → row_under rows key ≡ None → delete_row schema tables table rows key ≡ Ok (key ∷ [], tables)
delete_none schema tables table rows key none = steps.delete_nothing schema tables table rows key (ap is_some none)

-- the row that is taken out, told by its key
row_lost : (schema : Catalog) (old new : Store) (table : TableId) (key : Bor (List Value)) (row : List Value) → is_some (rows_in old.tables table) ≡ true → row_under (rows_at old.tables table) key.now ≡ Some row
    → new ≡ with_tables old (with_rows old.tables table (without_row (rows_at old.tables table) key.now))
    → some_lost schema (before.Row table key) new.tables ≡ some_loses_row schema old.tables (with_rows old.tables table (without_row (rows_at old.tables table) key.now))
row_lost schema old new table key row created found is =
    let after : new.tables ≡ with_rows old.tables table (without_row (rows_at old.tables table) key.now) = ap (λ (store : Store). store.tables) is in
    lost_alone schema old.tables new.tables table key row created found after ∙ ap (some_loses_row schema old.tables) after

pub delete_lost : (schema : Catalog) (old new : Store) (table : TableId) (key : Bor (List Value)) (row : List Value) → is_some (rows_in old.tables table) ≡ true → row_under (rows_at old.tables table) key.now ≡ Some row
    → new ≡ with_tables old (with_rows old.tables table (without_row (rows_at old.tables table) key.now)) → some_lost schema (before.Row table key) new.tables ≡ true
    → delete_row schema old.tables table (rows_at old.tables table) key.now ≡ Err Foreign
delete_lost schema old new table key row created found is lost =
    steps.delete_there schema old.tables table (rows_at old.tables table) key.now row found
    ∙ ap (answer_keys (key.now ∷ [])) (steps.remove_loses schema old.tables table (rows_at old.tables table) (key.now ∷ []) (sym (row_lost schema old new table key row created found is) ∙ lost))

pub delete_done : (schema : Catalog) (old new : Store) (table : TableId) (key : Bor (List Value)) (row : List Value) → is_some (rows_in old.tables table) ≡ true → row_under (rows_at old.tables table) key.now ≡ Some row
    → new ≡ with_tables old (with_rows old.tables table (without_row (rows_at old.tables table) key.now)) → some_lost schema (before.Row table key) new.tables ≡ false
    → delete_row schema old.tables table (rows_at old.tables table) key.now ≡ Ok (key.now ∷ [], new.tables)
delete_done schema old new table key row created found is bound =
    steps.delete_there schema old.tables table (rows_at old.tables table) key.now row found
    ∙ ap (answer_keys (key.now ∷ [])) (steps.remove_done schema old.tables table (rows_at old.tables table) (key.now ∷ []) (sym (row_lost schema old new table key row created found is) ∙ bound))
    ∙ ap (λ ts. Ok (key.now ∷ [], ts)) (sym (ap (λ (store : Store). store.tables) is))

pub ruleset delete_steps = (absent_counted, delete_none, delete_lost, delete_done, changing)

-- ---- a statement

pub apply_insert : (schema : Catalog) (tables : Tables) (table : TableId) (new : List (List Value)) → is_some (rows_in tables table) ≡ true
    → insert_rows schema tables table (rows_at tables table) new ≡ apply schema tables (Insert table new)
apply_insert schema tables table new created = steps.apply_insert schema tables table (rows_at tables table) new (created_rows (rows_in tables table) created)

pub apply_update : (schema : Catalog) (tables : Tables) (table : TableId) (key : List Value) (cells : List (ColumnNo × Value)) → is_some (rows_in tables table) ≡ true
    → update_row schema tables table (rows_at tables table) key cells ≡ apply schema tables (Update table key cells)
apply_update schema tables table key cells created = steps.apply_update schema tables table (rows_at tables table) key cells (created_rows (rows_in tables table) created)

pub apply_delete : (schema : Catalog) (tables : Tables) (table : TableId) (key : List Value) → is_some (rows_in tables table) ≡ true
    → delete_row schema tables table (rows_at tables table) key ≡ apply schema tables (Delete table key)
apply_delete schema tables table key created = steps.apply_delete schema tables table (rows_at tables table) key (created_rows (rows_in tables table) created)

pub apply_absent : (schema : Catalog) (tables : Tables) (statement : RowStmt) → is_created tables (table_of statement) ≡ false → apply schema tables statement ≡ Err (NoTable (table_of statement))
apply_absent schema tables statement absent = steps.apply_nowhere schema tables statement (steps.is_absent (rows_in tables (table_of statement)) absent)

pub ruleset apply_steps = (nothing_noted, apply_absent, apply_insert, apply_update, apply_delete)

-- ---- the scope of a statement

pub kept_store : (old inner mid new : Store) → inner ≡ scope_started old → mid.scopes ≡ inner.scopes → new ≡ scope_ended mid → (new.tables ≡ mid.tables) × (new.scopes ≡ old.scopes)
kept_store old inner mid new started same is =
    (ap (λ (store : Store). store.tables) is, ap (λ (store : Store). store.scopes) is ∙ ap (drop 1) (same ∙ ap (λ (store : Store). store.scopes) started))

pub left_store : (old inner mid new : Store) → inner ≡ scope_started old → mid.scopes ≡ inner.scopes → new ≡ scope_undone mid → new ≡ old
left_store old inner mid new started same is =
    is ∙ ap (λ scopes. record { tables = slice_index_or scopes 0 mid.tables; scopes = drop 1 scopes }) (same ∙ ap (λ (store : Store). store.scopes) started)

-- where the statement was not done, everything is as it was
pub left_whole : (old inner mid new : Marked) → inner.seen ≡ scope_started old.seen → inner.marks ≡ place_added old.marks → mid.seen.scopes ≡ inner.seen.scopes → NotesSome inner mid
    → new.seen ≡ scope_undone mid.seen → new.marks ≡ last_cut mid.marks → new ≡ old
left_whole old inner mid new started added same some undone cut = same_marked old new (left_store old.seen inner.seen mid.seen new.seen started same undone) (left_marks old inner mid new started added some cut)

-- whatever the statement left, its scope was ended by what it answered
settled : {A : Type 0} (told inside : Judged (A × Tables)) (count : ℕ) (old inner mid new : Marked) (answer : Result A Unwritten) → inside ≡ told → inner.seen ≡ scope_started old.seen → inner.marks ≡ place_added old.marks
    → Wrote inside inner.seen answer mid.seen → Notes (λ _. count) answer inner mid → OnOk answer (new.seen ≡ scope_ended mid.seen) → OnOk answer (1 < length mid.seen.scopes → new.marks ≡ place_dropped mid.marks)
    → OnErr answer (new.seen ≡ scope_undone mid.seen) → OnErr answer (new.marks ≡ last_cut mid.marks) → DidOrLeft told count old answer new
settled told inside count old inner mid new (Ok a) same started added wrote noted ok dropped err undone =
    let kept = kept_store old.seen inner.seen mid.seen new.seen started wrote.1 ok in
    (sym same ∙ wrote.0 ∙ ap (λ ts. Ok (a, ts)) (sym kept.0), kept.1, kept_notes count old inner mid new started added wrote.1 noted dropped)
settled {A = A} told inside count old inner mid new (Err e) same started added wrote noted ok dropped err undone =
    (subst (λ (j : Judged (A × Tables)). Told j (Err e)) same wrote.0, left_whole old inner mid new started added wrote.1 noted err undone)

pub settled_row : (schema : Catalog) (s : RowStmt) (old inner mid new : Marked) (answer result : Result (List (List Value)) Unwritten) → result ≡ answer → inner.seen ≡ scope_started old.seen → inner.marks ≡ place_added old.marks
    → Wrote (apply schema inner.seen.tables s) inner.seen answer mid.seen → Notes (λ _. rows_changed inner.seen.tables s) answer inner mid → OnOk answer (new.seen ≡ scope_ended mid.seen)
    → OnOk answer (1 < length mid.seen.scopes → new.marks ≡ place_dropped mid.marks) → OnErr answer (new.seen ≡ scope_undone mid.seen) → OnErr answer (new.marks ≡ last_cut mid.marks)
    → DidOrLeft (apply schema old.seen.tables s) (rows_changed old.seen.tables s) old result new
settled_row schema s old inner mid new answer result same started added wrote noted ok dropped err undone =
    subst (λ (r : Result (List (List Value)) Unwritten). DidOrLeft (apply schema old.seen.tables s) (rows_changed old.seen.tables s) old r new) (sym same)
    (settled (apply schema old.seen.tables s) (apply schema inner.seen.tables s) (rows_changed old.seen.tables s) old inner mid new answer (ap (λ (store : Store). apply schema store.tables s) started) started added wrote
    (subst (λ n. Notes (λ _. n) answer inner mid) (ap (λ (store : Store). rows_changed store.tables s) started) noted) ok dropped err undone)

-- the scope of the statement is there to be ended
pub one_inside : (old inner mid : Store) → inner ≡ scope_started old → mid.scopes ≡ inner.scopes → 0 < length mid.scopes
one_inside old inner mid started same = let is : length mid.scopes ≡ length (old.tables ∷ old.scopes) = ap length (same ∙ ap (λ (store : Store). store.scopes) started) in omega (arith, is)

pub inside_row : (schema : Catalog) (s : RowStmt) (old inner mid : Store) (answer : Result (List (List Value)) Unwritten) → inner ≡ scope_started old → Wrote (apply schema inner.tables s) inner answer mid → 0 < length mid.scopes
inside_row schema s old inner mid (Ok keys) started wrote = one_inside old inner mid started wrote.1
inside_row schema s old inner mid (Err e) started wrote = one_inside old inner mid started wrote.1

pub ruleset settled_steps = (settled_row, inside_row)
