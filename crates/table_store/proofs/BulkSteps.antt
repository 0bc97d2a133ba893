-- Steps of a bulk statement.
use Rattle.std.specs.Borrow.{Bor}
use Rattle.std.specs.Option.{unwrap_or}
use Rattle.std.proofs.Common.{◌≡◌, ◌≢◌, ℕ, suc, ◌+◌, ◌<◌, Bool, true, false, ◌||◌, List, [], ◌∷◌, length, drop, slice_index_or, Option, None, Some, is_some, IsTrue, Result, Ok, Err, OnOk, OnErr, refl, sym, ap, subst, ◌∙◌, add-one, arith}
use Rattle.std.proofs.Math.Seq.{drop-cons}
use Rattle.base_core.proofs.Tests.{and_then as both_true}
use Rattle.base_core.specs.declared.ids.ColumnNo.{ColumnNo}
use Rattle.base_core.specs.declared.ids.TableId.{TableId}
use Rattle.base_core.specs.declared.value.Value.{Value}
use Rattle.base_core.specs.declared.refusal.Refusal.{Refusal}
use Rattle.base_core.specs.declared.refusal.Refusal.TheVariants as refusals
use Rattle.schema_core.specs.declared.statement.Unwritten.{Unwritten}
use Rattle.schema_core.specs.declared.statement.Unwritten.TheVariants.{Violates, Memory}
use Rattle.schema_core.specs.declared.statement.Violation.TheVariants as violations
use Rattle.schema_core.specs.Apply as row
use Rattle.schema_core.specs.Catalog.{Catalog, IsTable, spec_of}
use Rattle.schema_core.specs.Judged.{Judged, and_then, change_all, remove_all, some_lacks, some_loses_row, with_all, without_all, write_all}
use Rattle.schema_core.specs.Told.{Told}
use Rattle.schema_core.proofs.ApplySteps.{change_full, change_lacks, is_absent, remove_done, remove_loses, told_first}
use Rattle.sql_semantics.specs.Checked.{Checked, ◌>>=◌, Refuses}
use Rattle.schema_core.specs.Tables.{Rows, Tables, is_created, row_under, rows_in, with_row, with_rows, without_row}
use Rattle.expr_types.specs.declared.expr.Expr.{Expr}
use Rattle.expr_types.specs.declared.select.Bulk.{Bulk}
use Rattle.expr_types.specs.declared.select.Bulk.TheVariants as bulk
use Rattle.sql_semantics.specs.Kinds.{column_in}
use Rattle.sql_semantics.specs.Plain.{IsPlainBulk, are_for, has_kind}
use Rattle.sql_semantics.specs.Applied as spec
use Rattle.sql_semantics.specs.Created.{bare}
use Rattle.sql_semantics.specs.Rows.{require_created}
use Rattle.sql_semantics.specs.Taken.{deleted_from, inserted_row, updated_from}
use Rattle.keeper_core.specs.declared.keeper.WriteRefusal.{WriteRefusal}
use Rattle.keeper_core.specs.Calls.{write_refusal}
use Rattle.table_log.specs.Marks.{IsNoted, Marked, Notes, last_cut, place_added, place_dropped, rows_there}
use Rattle.table_log.specs.Scopes.{scope_ended, scope_started, scope_undone, with_tables}
use Rattle.table_rows.specs.Rows.{AreSorted, Places, rows_at, rows_present}
use Rattle.table_rows.proofs.Entries.{put_again}
use Rattle.row_judging.proofs.Gone.{divided_more, lost_among}
use Rattle.table_rows.proofs.Laws.{absent_kept, rows_found}
use Rattle.keeper_core.specs.Store.{Store}
use Rattle.schema_core.proofs.TableOrder.{tables_total}
use Rattle.row_judging.specs.Lost.{some_lost}
use Rattle.row_judging.specs.declared.losing.Before.TheVariants as before
use Rattle.row_statements.specs.Held.{put_all, stand, with_entry}
use Rattle.table_store.specs.Taken.{AreKeysOf, IsDivided, Made, take_all, without_key}
use Rattle.table_store.specs.Written.{Leaves, WroteBulk, keys_to_remove, rows_to_write, unwritten_refusal}
use Rattle.table_store.proofs.Evaluated.{deletes_evaluated, updates_evaluated}
use Rattle.row_statements.proofs.Noting.{counted, kept_notes, none_counted, noted_more, notes_either, nothing_noted, some_more, some_noted}
use Rattle.table_store.proofs.TakenKeys.{first_key, keys_removed}
use Rattle.row_statements.proofs.WriteSteps.{changed_tables, kept_scopes, kept_store, left_whole, one_inside, put_together, same_scopes, stand_written, still_created}

-- ---- what is left

judged_refused : (table : TableId) (e : Unwritten) (answer : Judged (ℕ × Tables)) → Told answer (Err e) → Refuses (write_refusal table (unwritten_refusal e)) (spec.of_judged table answer)
judged_refused table (Violates (violations.NoTable absent)) answer told = ap (spec.of_judged table) told
judged_refused table (Violates violations.Missing) answer told = ap (spec.of_judged table) told
judged_refused table (Violates violations.NotNull) answer told = ap (spec.of_judged table) told
judged_refused table (Violates violations.KeysSpent) answer told = ap (spec.of_judged table) told
judged_refused table (Violates violations.PrimaryKey) answer told = ap (spec.of_judged table) told
judged_refused table (Violates violations.Unique) answer told = ap (spec.of_judged table) told
judged_refused table (Violates violations.Foreign) answer told = ap (spec.of_judged table) told
judged_refused table Memory answer told = tt

then_counted : {A : Type 0} (table : TableId) (answer : Judged A) (next : A → ℕ × Tables) → spec.of_judged table (and_then answer (λ a. Ok (next a))) ≡ (spec.of_judged table answer >>= λ a. Ok (next a))
then_counted table (Ok a) next = refl
then_counted table (Err violation) next = refl

pub left_refused : {A : Type 0} (table : TableId) (e : Unwritten) (r : WriteRefusal) (answer : Judged A) (next : A → ℕ × Tables) → Told answer (Err e) → r ≡ unwritten_refusal e
    → Refuses (write_refusal table r) (spec.of_judged table answer >>= λ a. Ok (next a))
left_refused table e r answer next told is =
    subst (λ (w : WriteRefusal). Refuses (write_refusal table w) (spec.of_judged table answer >>= λ a. Ok (next a))) (sym is)
    (subst (Refuses (write_refusal table (unwritten_refusal e))) (then_counted table answer next) (judged_refused table e (and_then answer (λ a. Ok (next a))) (told_first answer (λ a. Ok (next a)) e told)))

pub change_stands : (schema : Catalog) (tables after : Tables) (table : TableId) (rows entries : Rows) → some_lacks (spec_of schema table) entries ≡ false → after ≡ with_rows tables table (with_all rows entries)
    → stand schema after table entries ≡ Ok tt → change_all schema tables table rows entries ≡ Ok after
change_stands schema tables after table rows entries full is fine =
    sym (change_full schema tables table rows entries full)
    ∙ sym (same_after (write_all schema tables table rows entries))
    ∙ sym (stand_written schema tables table rows entries (λ ts. Ok ts))
    ∙ ap (λ ts. and_then (stand schema ts table entries) (λ _. Ok ts)) (sym is)
    ∙ ap (λ r. and_then r (λ _. Ok after)) fine
  where
    same_after : (r : Judged Tables) → and_then r (λ ts. Ok ts) ≡ r
    same_after (Ok ts) = refl
    same_after (Err violation) = refl

pub change_violates : (schema : Catalog) (tables after : Tables) (table : TableId) (rows entries : Rows) (e : Unwritten) → some_lacks (spec_of schema table) entries ≡ false → after ≡ with_rows tables table (with_all rows entries)
    → Told (stand schema after table entries) (Err e) → Told (change_all schema tables table rows entries) (Err e)
change_violates schema tables after table rows entries (Violates violation) full is told =
    sym (change_full schema tables table rows entries full)
    ∙ sym (same_after (write_all schema tables table rows entries))
    ∙ sym (stand_written schema tables table rows entries (λ ts. Ok ts))
    ∙ ap (λ ts. and_then (stand schema ts table entries) (λ _. Ok ts)) (sym is)
    ∙ ap (λ r. and_then r (λ _. Ok after)) told
  where
    same_after : (r : Judged Tables) → and_then r (λ ts. Ok ts) ≡ r
    same_after (Ok ts) = refl
    same_after (Err violation) = refl
change_violates schema tables after table rows entries Memory full is told = tt

-- rows were put in one after another
pub entries_written : (tables after : Tables) (table : TableId) (entries : Rows) → 0 < length entries → after ≡ put_all tables table entries → after ≡ with_rows tables table (with_all (rows_at tables table) entries)
entries_written tables after table [] some is = absurd (omega (arith, some))
entries_written tables after table (entry ∷ entries) some is = is ∙ put_together tables table entry entries

pub change_made : (schema : Catalog) (tables after : Tables) (table : TableId) (entries : Rows) → 0 < length entries → some_lacks (spec_of schema table) entries ≡ false → after ≡ put_all tables table entries
    → stand schema after table entries ≡ Ok tt → change_all schema tables table (rows_at tables table) entries ≡ Ok after
change_made schema tables after table entries some full is fine =
    change_stands schema tables after table (rows_at tables table) entries full (entries_written tables after table entries some is) fine

pub change_refused : (schema : Catalog) (tables after : Tables) (table : TableId) (entries : Rows) (e : Unwritten) → 0 < length entries → some_lacks (spec_of schema table) entries ≡ false → after ≡ put_all tables table entries
    → Told (stand schema after table entries) (Err e) → Told (change_all schema tables table (rows_at tables table) entries) (Err e)
change_refused schema tables after table entries e some full is told =
    change_violates schema tables after table (rows_at tables table) entries e full (entries_written tables after table entries some is) told

-- the table is still created
pub all_created : (tables after : Tables) (table : TableId) (entries : Rows) → is_some (rows_in tables table) ≡ true → after ≡ put_all tables table entries → is_some (rows_in after table) ≡ true
all_created tables after table entries created is = ap (λ ts. is_some (rows_in ts table)) is ∙ by entries tables created
  where
    by : (es : Rows) (ts : Tables) → is_some (rows_in ts table) ≡ true → is_some (rows_in (put_all ts table es) table) ≡ true
    by [] ts created = created
    by (e ∷ es) ts created = by es (with_entry ts table e) (still_created ts (with_entry ts table e) table (with_row (rows_at ts table) e.0 e.1) refl)

-- the answer of the rows that stand is the answer
pub made_by : (schema : Catalog) (old mid : Store) (table : TableId) (entries : Rows) (answer : Result (Unit {0}) Unwritten) → 0 < length entries → some_lacks (spec_of schema table) entries ≡ false → mid.tables ≡ put_all old.tables table entries
    → mid.scopes ≡ old.scopes → Told (stand schema mid.tables table entries) answer → Made (change_all schema old.tables table (rows_at old.tables table) entries) old answer mid
made_by schema old mid table entries (Ok done) some full is same told = (change_made schema old.tables mid.tables table entries some full is told, same)
made_by schema old mid table entries (Err e) some full is same told = (change_refused schema old.tables mid.tables table entries e some full is told, same)

pub ruleset change_steps = (change_lacks, made_by, all_created, nothing_noted, notes_either)

pub entry_created : (old new : Tables) (table : TableId) (entry : List Value × List Value) → new ≡ with_entry old table entry → is_some (rows_in new table) ≡ true
entry_created old new table entry is = still_created old new table (with_row (rows_at old table) entry.0 entry.1) is

-- one more row is in
pub entries_step : (old new whole : Tables) (table : TableId) (entries : Rows) (place : ℕ) (entry : List Value × List Value) → place < length entries → entry ≡ slice_index_or entries place entry → new ≡ with_entry old table entry
    → put_all old table (drop place entries) ≡ whole → put_all new table (drop (place + 1) entries) ≡ whole
entries_step old new whole table entries place entry inside is changed before =
    let cut : drop place entries ≡ entry ∷ drop (place + 1) entries =
    drop-cons entries place entry inside ∙ ap (λ e. e ∷ drop (suc place) entries) (sym is) ∙ ap (λ n. entry ∷ drop n entries) (sym (add-one place)) in
    ap (λ ts. put_all ts table (drop (place + 1) entries)) changed ∙ sym (ap (put_all old table) cut) ∙ before

pub ruleset putting = (entry_created, none_counted, counted, some_more)

-- ---- rows that are set aside

-- there is no row to set aside
pub none_aside : (rows left : Rows) (aside : Places) (key : List Value) → row_under left key ≡ None → IsDivided rows left aside → IsDivided rows (without_row left key) aside
none_aside rows left aside key none divided other = divided other ∙ ap (λ rs. is_some (row_under rs other) || is_some (row_under (rows_present aside) other)) (sym (absent_kept left key none))

-- a row is set aside
pub one_aside : (rows left : Rows) (aside more : Places) (key row : List Value) → row_under left key ≡ Some row → rows_present more ≡ with_row (rows_present aside) key row → IsDivided rows left aside → IsDivided rows (without_row left key) more
one_aside rows left aside more key row found is divided other =
    divided_more rows left (rows_present aside) key row other (divided other) (ap is_some found)
    ∙ ap (λ rs. is_some (row_under (without_row left key) other) || is_some (row_under rs other)) (sym is)

pub ruleset setting = (none_aside, one_aside)

pub rows_without : (old new : Store) (table : TableId) (key : List Value) → new ≡ with_tables old (without_key old.tables table key) → rows_at new.tables table ≡ without_row (rows_at old.tables table) key
rows_without old new table key is = ap (λ (store : Store). rows_at store.tables table) is ∙ rows_found old.tables table (without_row (rows_at old.tables table) key)

pub divided_at : (rows left other : Rows) (aside : Places) → other ≡ left → IsDivided rows left aside → IsDivided rows other aside
divided_at rows left other aside is divided = subst (λ (rs : Rows). IsDivided rows rs aside) (sym is) divided

pub none_yet : (rows : Rows) → IsDivided rows rows []
none_yet rows key = by (is_some (row_under rows key))
  where
    by : (b : Bool) → b ≡ (b || false)
    by true = refl
    by false = refl

pub key_created : (old new : Tables) (table : TableId) (key : List Value) → new ≡ without_key old table key → is_some (rows_in new table) ≡ true
key_created old new table key is = still_created old new table (without_row (rows_at old table) key) is

-- a key, and those behind it
behind_key : (keys : List (List Value)) (place : ℕ) (key : List Value) → place < length keys → key ≡ slice_index_or keys place key → drop place keys ≡ key ∷ drop (place + 1) keys
behind_key keys place key inside is = drop-cons keys place key inside ∙ ap (λ k. k ∷ drop (suc place) keys) (sym is) ∙ ap (λ n. key ∷ drop n keys) (sym (add-one place))

-- one more row is out
pub keys_step : (old new whole : Tables) (table : TableId) (keys : List (List Value)) (place : ℕ) (key : List Value) → place < length keys → key ≡ slice_index_or keys place key → new ≡ without_key old table key
    → take_all old table (drop place keys) ≡ whole → take_all new table (drop (place + 1) keys) ≡ whole
keys_step old new whole table keys place key inside is changed before =
    ap (λ ts. take_all ts table (drop (place + 1) keys)) changed ∙ sym (ap (take_all old table) (behind_key keys place key inside is)) ∙ before

pub ruleset taking = (rows_without, divided_at, changed_tables, kept_scopes, same_scopes)

one_there : (o : Option (List Value)) → is_some o ≡ true → rows_there o ≡ 1
one_there None is = cc
one_there (Some row) is = refl

-- one more key's row was noted, and the keys behind it are those of rows that are left
pub key_noted : (old mid new : Marked) (table : TableId) (keys : List (List Value)) (place : ℕ) (key : List Value) → place < length keys → key ≡ slice_index_or keys place key → AreSorted mid.seen.tables table → mid.seen.scopes ≡ old.seen.scopes
    → new.seen.tables ≡ without_key mid.seen.tables table key → AreKeysOf (rows_at mid.seen.tables table) (drop place keys) → IsNoted place old mid → IsNoted (rows_there (row_under (rows_at mid.seen.tables table) key)) mid new
    → IsNoted (place + 1) old new × AreKeysOf (rows_at new.seen.tables table) (drop (place + 1) keys)
key_noted old mid new table keys place key inside is sorted same changed are noted one =
    let rows : Rows = rows_at mid.seen.tables table in
    let found = first_key rows key (drop (place + 1) keys) sorted.1 (subst (AreKeysOf rows) (behind_key keys place key inside is) are) in
    let there : rows_at new.seen.tables table ≡ without_row rows key = ap (λ ts. rows_at ts table) changed ∙ rows_found mid.seen.tables table (without_row rows key) in (
      noted_more place 1 (place + 1) old mid new same refl noted (counted 1 (rows_there (row_under rows key)) mid new one (sym (one_there (row_under rows key) found.0))),
      subst (λ (rs : Rows). AreKeysOf rs (drop (place + 1) keys)) (sym there) found.1,
    )

pub ruleset taking_all = (none_yet, key_created, none_counted, counted, some_more)

take_together : (tables : Tables) (table : TableId) (key : List Value) (keys : List (List Value)) → take_all tables table (key ∷ keys) ≡ with_rows tables table (without_all (rows_at tables table) (key ∷ keys))
take_together tables table key [] = refl
take_together tables table key (next ∷ keys) =
    let rows : Rows = without_row (rows_at tables table) key in
    take_together (without_key tables table key) table next keys
    ∙ ap (λ there. with_rows (without_key tables table key) table (without_all there (next ∷ keys))) (rows_found tables table rows)
    ∙ put_again tables_total table rows (without_all rows (next ∷ keys)) tables

keys_taken : (tables after : Tables) (table : TableId) (keys : List (List Value)) → 0 < length keys → after ≡ take_all tables table keys → after ≡ with_rows tables table (without_all (rows_at tables table) keys)
keys_taken tables after table [] some is = absurd (omega (arith, some))
keys_taken tables after table (key ∷ keys) some is = is ∙ take_together tables table key keys

aside_lost : (schema : Catalog) (tables after : Tables) (table : TableId) (keys : List (List Value)) (aside : Bor Places) → 0 < length keys → is_some (rows_in tables table) ≡ true → after ≡ take_all tables table keys
    → IsDivided (rows_at tables table) (rows_at after table) aside.now → some_lost schema (before.Rows table aside) after ≡ some_loses_row schema tables (with_rows tables table (without_all (rows_at tables table) keys))
aside_lost schema tables after table keys aside some created is divided =
    let left : Rows = without_all (rows_at tables table) keys in
    let whole : after ≡ with_rows tables table left = keys_taken tables after table keys some is in
    let there : rows_at after table ≡ left = ap (λ ts. rows_at ts table) whole ∙ rows_found tables table left in
    lost_among schema tables after table aside left created (subst (λ (rs : Rows). IsDivided (rows_at tables table) rs aside.now) there divided) whole ∙ ap (some_loses_row schema tables) whole

-- rows that are left refer to rows that were taken out
pub all_lost : (schema : Catalog) (tables after : Tables) (table : TableId) (keys : List (List Value)) (aside : Bor Places) → 0 < length keys → is_some (rows_in tables table) ≡ true → after ≡ take_all tables table keys
    → IsDivided (rows_at tables table) (rows_at after table) aside.now → some_lost schema (before.Rows table aside) after ≡ true → remove_all schema tables table (rows_at tables table) keys ≡ Err violations.Foreign
all_lost schema tables after table keys aside some created is divided lost =
    remove_loses schema tables table (rows_at tables table) keys (sym (aside_lost schema tables after table keys aside some created is divided) ∙ lost)

pub none_lost : (schema : Catalog) (tables after : Tables) (table : TableId) (keys : List (List Value)) (aside : Bor Places) → 0 < length keys → is_some (rows_in tables table) ≡ true → after ≡ take_all tables table keys
    → IsDivided (rows_at tables table) (rows_at after table) aside.now → some_lost schema (before.Rows table aside) after ≡ false → remove_all schema tables table (rows_at tables table) keys ≡ Ok after
none_lost schema tables after table keys aside some created is divided bound =
    remove_done schema tables table (rows_at tables table) keys (sym (aside_lost schema tables after table keys aside some created is divided) ∙ bound) ∙ ap (λ ts. Ok ts) (sym (keys_taken tables after table keys some is))

pub ruleset remove_steps = (all_lost, none_lost, some_noted)

-- ---- where no row is taken

pub updates_none : (schema : Catalog) (tables : Tables) (table : TableId) (rows entries : Rows) → length entries ≡ 0 → spec.update_entries schema tables table rows entries ≡ Ok (0, tables)
updates_none schema tables table rows [] is = refl
updates_none schema tables table rows (e ∷ es) is = absurd (omega arith)

pub updates_some : (schema : Catalog) (tables after : Tables) (table : TableId) (rows entries : Rows) → length entries ≢ 0 → change_all schema tables table rows entries ≡ Ok after
    → spec.update_entries schema tables table rows entries ≡ Ok (length entries, after)
updates_some schema tables after table rows [] some is = absurd (some refl)
updates_some schema tables after table rows (e ∷ es) some is = ap (spec.count_rows table (length (e ∷ es))) is

pub updates_refused : (schema : Catalog) (tables : Tables) (table : TableId) (rows entries : Rows) (e : Unwritten) (r : WriteRefusal) → length entries ≢ 0 → Told (change_all schema tables table rows entries) (Err e)
    → r ≡ unwritten_refusal e → Refuses (write_refusal table r) (spec.update_entries schema tables table rows entries)
updates_refused schema tables table rows [] e r some told is = absurd (some refl)
updates_refused schema tables table rows (x ∷ xs) e r some told is = left_refused table e r (change_all schema tables table rows (x ∷ xs)) (λ ts. (length (x ∷ xs), ts)) told is

pub ruleset update_steps = (updates_none, updates_some, updates_refused, none_counted, counted)

pub deletes_none : (schema : Catalog) (tables : Tables) (table : TableId) (rows : Rows) (keys : List (List Value)) → length keys ≡ 0 → spec.delete_keys schema tables table rows keys ≡ Ok (0, tables)
deletes_none schema tables table rows [] is = refl
deletes_none schema tables table rows (k ∷ ks) is = absurd (omega arith)

pub deletes_some : (schema : Catalog) (tables after : Tables) (table : TableId) (rows : Rows) (keys : List (List Value)) → length keys ≢ 0 → remove_all schema tables table rows keys ≡ Ok after
    → spec.delete_keys schema tables table rows keys ≡ Ok (length keys, after)
deletes_some schema tables after table rows [] some is = absurd (some refl)
deletes_some schema tables after table rows (k ∷ ks) some is = ap (spec.count_rows table (length (k ∷ ks))) is

pub deletes_refused : (schema : Catalog) (tables : Tables) (table : TableId) (rows : Rows) (keys : List (List Value)) (e : Unwritten) (r : WriteRefusal) → length keys ≢ 0 → Told (remove_all schema tables table rows keys) (Err e)
    → r ≡ unwritten_refusal e → Refuses (write_refusal table r) (spec.delete_keys schema tables table rows keys)
deletes_refused schema tables table rows [] e r some told is = absurd (some refl)
deletes_refused schema tables table rows (k ∷ ks) e r some told is = left_refused table e r (remove_all schema tables table rows (k ∷ ks)) (λ ts. (length (k ∷ ks), ts)) told is

pub ruleset delete_steps = (deletes_none, deletes_some, deletes_refused, none_counted, counted)

-- ---- one row

pub row_put : (schema : Catalog) (tables after : Tables) (table : TableId) (r : List Value) (keys : List (List Value)) → row.insert_rows schema tables table (rows_at tables table) (r ∷ []) ≡ Ok (keys, after)
    → spec.of_row table (row.insert_rows schema tables table (rows_at tables table) (r ∷ [])) ≡ Ok (1, after)
row_put schema tables after table r keys is = ap (spec.of_row table) is

pub row_refused : (schema : Catalog) (tables : Tables) (table : TableId) (new : List Value) (e : Unwritten) (r : WriteRefusal) → Told (row.insert_rows schema tables table (rows_at tables table) (new ∷ [])) (Err e)
    → r ≡ unwritten_refusal e → Refuses (write_refusal table r) (spec.of_row table (row.insert_rows schema tables table (rows_at tables table) (new ∷ [])))
row_refused schema tables table new e r told is = left_refused table e r (row.insert_rows schema tables table (rows_at tables table) (new ∷ [])) (λ done. (1, done.1)) told is

pub ruleset row_steps = (row_put, row_refused)

-- ---- the rows that are taken

then_next : {A B C : Type 0} (first : Checked A) (rows : Checked B) (next : B → Checked C) → (first >>= λ _. rows >>= next) ≡ ((first >>= λ _. rows) >>= next)
then_next (Ok a) rows next = refl
then_next (Err e) rows next = refl

first_refused : {A B : Type 0} (first : Checked A) (next : A → Checked B) (e : Refusal) → Refuses e first → Refuses e (first >>= next)
first_refused first next refusals.Memory told = tt
first_refused first next e told = ap (λ r. r >>= next) told

pub updated_rows : (schema : Catalog) (tables : Tables) (table : TableId) (cells : List (ColumnNo × Option Expr)) (filter : Option Expr) (rows entries : Rows) → rows_to_write tables cells filter rows ≡ Ok entries
    → spec.update schema tables table cells filter rows ≡ spec.update_entries schema tables table rows entries
updated_rows schema tables table cells filter rows entries is =
    then_next (require_created (bare tables) (spec.named_in cells filter)) (updated_from (bare tables) cells filter [] rows) (spec.update_entries schema tables table rows)
    ∙ ap (λ r. r >>= spec.update_entries schema tables table rows) is

pub update_refused : (schema : Catalog) (tables : Tables) (table : TableId) (cells : List (ColumnNo × Option Expr)) (filter : Option Expr) (rows : Rows) (e : Refusal) (r : WriteRefusal) → Refuses e (rows_to_write tables cells filter rows)
    → write_refusal table r ≡ e → Refuses (write_refusal table r) (spec.update schema tables table cells filter rows)
update_refused schema tables table cells filter rows e r told is =
    subst (λ (d : Refusal). Refuses d (spec.update schema tables table cells filter rows)) (sym is)
    (subst (Refuses e) (sym (then_next (require_created (bare tables) (spec.named_in cells filter)) (updated_from (bare tables) cells filter [] rows) (spec.update_entries schema tables table rows)))
    (first_refused (rows_to_write tables cells filter rows) (spec.update_entries schema tables table rows) e told))

pub deleted_rows : (schema : Catalog) (tables : Tables) (table : TableId) (filter : Option Expr) (rows : Rows) (keys : List (List Value)) → keys_to_remove tables filter rows ≡ Ok keys
    → spec.delete schema tables table filter rows ≡ spec.delete_keys schema tables table rows keys
deleted_rows schema tables table filter rows keys is =
    then_next (require_created (bare tables) (spec.named_in [] filter)) (deleted_from (bare tables) filter [] rows) (spec.delete_keys schema tables table rows)
    ∙ ap (λ r. r >>= spec.delete_keys schema tables table rows) is

pub delete_refused : (schema : Catalog) (tables : Tables) (table : TableId) (filter : Option Expr) (rows : Rows) (e : Refusal) (r : WriteRefusal) → Refuses e (keys_to_remove tables filter rows)
    → write_refusal table r ≡ e → Refuses (write_refusal table r) (spec.delete schema tables table filter rows)
delete_refused schema tables table filter rows e r told is =
    subst (λ (d : Refusal). Refuses d (spec.delete schema tables table filter rows)) (sym is)
    (subst (Refuses e) (sym (then_next (require_created (bare tables) (spec.named_in [] filter)) (deleted_from (bare tables) filter [] rows) (spec.delete_keys schema tables table rows)))
    (first_refused (keys_to_remove tables filter rows) (spec.delete_keys schema tables table rows) e told))

pub ruleset taking_steps = (keys_removed, nothing_noted, updates_evaluated, updated_rows, update_refused, deletes_evaluated, deleted_rows, delete_refused)

-- ---- the statement

-- there are as many values as columns
as_many : (schema : Catalog) (table : TableId) (columns : List ColumnNo) (values : List Value) → IsTrue (are_for schema table columns values) → length columns ≡ length values
as_many schema table [] [] is = refl
as_many schema table [] (v ∷ values) is = cc
as_many schema table (c ∷ columns) [] is = cc
as_many schema table (c ∷ columns) (v ∷ values) is =
    ap suc (as_many schema table columns values (both_true (has_kind (column_in schema (table ∷ []) 0 c) v) (are_for schema table columns values) is))

pub one_each : (schema : Catalog) (table : TableId) (columns : List ColumnNo) (values : List Value) → IsPlainBulk schema (bulk.Insert table columns values) → length columns ≡ length values
one_each schema table columns values plain = as_many schema table columns values plain.2

-- its table is declared
pub of_table : (schema : Catalog) (statement : Bulk) → IsPlainBulk schema statement → IsTable schema (spec.table_of statement)
of_table schema (bulk.Insert table columns values) plain = plain.0
of_table schema (bulk.Update table cells filter) plain = plain.0
of_table schema (bulk.Delete table filter) plain = plain.0

nowhere : (schema : Catalog) (tables : Tables) (statement : Bulk) → rows_in tables (spec.table_of statement) ≡ None → spec.bulk_outcome schema tables statement ≡ Err (refusals.OperationalError (spec.table_of statement))
unfolding spec.bulk_outcome
nowhere schema tables (bulk.Insert table columns values) is = rw is refl
nowhere schema tables (bulk.Update table cells filter) is = rw is refl
nowhere schema tables (bulk.Delete table filter) is = rw is refl

pub absent : (schema : Catalog) (tables : Tables) (statement : Bulk) → is_created tables (spec.table_of statement) ≡ false → spec.bulk_outcome schema tables statement ≡ Err (refusals.OperationalError (spec.table_of statement))
absent schema tables statement none = nowhere schema tables statement (is_absent (rows_in tables (spec.table_of statement)) none)

there : (tables : Tables) (table : TableId) → is_some (rows_in tables table) ≡ true → rows_in tables table ≡ Some (rows_at tables table)
there tables table created = by (rows_in tables table) created
  where
    by : (found : Option Rows) → is_some found ≡ true → found ≡ Some (unwrap_or found [])
    by None created = cc
    by (Some rows) created = refl

pub inserts : (schema : Catalog) (tables : Tables) (table : TableId) (columns : List ColumnNo) (values : List Value) → is_some (rows_in tables table) ≡ true
    → spec.of_row table (row.insert_rows schema tables table (rows_at tables table) (inserted_row (length (spec_of schema table).columns) columns values ∷ []))
    ≡ spec.bulk_outcome schema tables (bulk.Insert table columns values)
unfolding spec.bulk_outcome
inserts schema tables table columns values created = rw (there tables table created) refl

pub updates : (schema : Catalog) (tables : Tables) (table : TableId) (cells : List (ColumnNo × Option Expr)) (filter : Option Expr) → is_some (rows_in tables table) ≡ true
    → spec.update schema tables table cells filter (rows_at tables table) ≡ spec.bulk_outcome schema tables (bulk.Update table cells filter)
unfolding spec.bulk_outcome
updates schema tables table cells filter created = rw (there tables table created) refl

pub deletes : (schema : Catalog) (tables : Tables) (table : TableId) (filter : Option Expr) → is_some (rows_in tables table) ≡ true
    → spec.delete schema tables table filter (rows_at tables table) ≡ spec.bulk_outcome schema tables (bulk.Delete table filter)
unfolding spec.bulk_outcome
deletes schema tables table filter created = rw (there tables table created) refl

pub ruleset applied_steps = (nothing_noted, one_each, of_table, absent, inserts, updates, deletes)

-- whatever the statement left, its scope was ended by what it answered
pub settled_bulk : (schema : Catalog) (s : Bulk) (old inner mid new : Marked) (answer result : Result ℕ WriteRefusal) → result ≡ answer → inner.seen ≡ scope_started old.seen → inner.marks ≡ place_added old.marks
    → WroteBulk (spec.table_of s) (spec.bulk_outcome schema inner.seen.tables s) inner.seen answer mid.seen → Notes (λ count. count) answer inner mid
    → OnOk answer (new.seen ≡ scope_ended mid.seen) → OnOk answer (1 < length mid.seen.scopes → new.marks ≡ place_dropped mid.marks) → OnErr answer (new.seen ≡ scope_undone mid.seen) → OnErr answer (new.marks ≡ last_cut mid.marks)
    → Leaves (spec.table_of s) (spec.bulk_outcome schema old.seen.tables s) old result new
settled_bulk schema s old inner mid new answer result same started added wrote noted ok dropped err undone =
    subst (λ (r : Result ℕ WriteRefusal). Leaves (spec.table_of s) (spec.bulk_outcome schema old.seen.tables s) old r new) (sym same) (by answer wrote noted ok dropped err undone)
  where
    by : (answer : Result ℕ WriteRefusal) → WroteBulk (spec.table_of s) (spec.bulk_outcome schema inner.seen.tables s) inner.seen answer mid.seen → Notes (λ count. count) answer inner mid
        → OnOk answer (new.seen ≡ scope_ended mid.seen) → OnOk answer (1 < length mid.seen.scopes → new.marks ≡ place_dropped mid.marks) → OnErr answer (new.seen ≡ scope_undone mid.seen) → OnErr answer (new.marks ≡ last_cut mid.marks)
        → Leaves (spec.table_of s) (spec.bulk_outcome schema old.seen.tables s) old answer new
    by (Ok count) wrote noted ok dropped err undone =
        let kept = kept_store old.seen inner.seen mid.seen new.seen started wrote.1 ok in
        (ap (λ (store : Store). spec.bulk_outcome schema store.tables s) (sym started) ∙ wrote.0 ∙ ap (λ ts. Ok (count, ts)) (sym kept.0), kept.1, kept_notes count old inner mid new started added wrote.1 noted dropped)
    by (Err r) wrote noted ok dropped err undone = (
      subst (λ (store : Store). Refuses (write_refusal (spec.table_of s) r) (spec.bulk_outcome schema store.tables s)) started wrote.0,
      left_whole old inner mid new started added wrote.1 noted err undone,
    )

-- the scope of the statement is there to be ended
pub inside_bulk : (schema : Catalog) (s : Bulk) (old inner mid : Store) (answer : Result ℕ WriteRefusal) → inner ≡ scope_started old
    → WroteBulk (spec.table_of s) (spec.bulk_outcome schema inner.tables s) inner answer mid → 0 < length mid.scopes
inside_bulk schema s old inner mid (Ok count) started wrote = one_inside old inner mid started wrote.1
inside_bulk schema s old inner mid (Err r) started wrote = one_inside old inner mid started wrote.1

pub ruleset settled_steps = (settled_bulk, inside_bulk)
