-- An accepted bulk statement leaves legal tables legal, and ascending tables ascending.
use Rattle.std.proofs.Common.{◌≡◌, ℕ, true, false, ◌&&◌, List, [], ◌∷◌, length, Option, None, Some, Ok, Err, refl, ap, ◌∙◌, subst}
use Rattle.std.specs.List.{AllByRecursion}
use Rattle.base_core.specs.declared.ids.ColumnNo.{ColumnNo}
use Rattle.base_core.specs.declared.ids.TableId.{TableId}
use Rattle.base_core.specs.declared.value.Value.{Value}
use Rattle.schema_core.specs.Apply as row
use Rattle.schema_core.specs.Catalog.{Catalog, is_required, spec_of}
use Rattle.schema_core.specs.Judged.{Judged, change_all, lacks_value, remove_all, some_lacks}
use Rattle.schema_core.specs.Tables.{AreAscending, Legal, Rows, Tables, is_legal_row, key_of, rows_in, table_cmp}
use Rattle.expr_types.specs.declared.expr.Expr.{Expr}
use Rattle.expr_types.specs.declared.select.Bulk.{Bulk}
use Rattle.expr_types.specs.declared.select.Bulk.TheVariants as bulk
use Rattle.sql_semantics.specs.Applied.{Outcome, bulk_outcome, count_rows, delete, delete_keys, rows_or_refusal, insert, named_in, of_judged, update, update_entries}
use Rattle.sql_semantics.specs.Checked.{Checked, ◌>>=◌}
use Rattle.sql_semantics.specs.Created.{bare}
use Rattle.sql_semantics.specs.Plain.{IsPlainBulk}
use Rattle.sql_semantics.specs.Rows.{require_created}
use Rattle.sql_semantics.specs.Taken.{deleted_from, inserted_row, updated_from}
use Rattle.keeper_core.specs.Store.{Store}
use Rattle.keeper_core.specs.Calls as call
use Rattle.select_sources.proofs.Sure.{Sure}
use Rattle.table_laws.proofs.Ascending.{change_ascends, insert_ascends, remove_ascends}
use Rattle.table_laws.proofs.Entries.{all_both, all_lookup, any_none}
use Rattle.table_laws.proofs.Legality.{IsEntry, change_legal, insert_legal, may_from_fits, plain_required, remove_legal}
use Rattle.table_laws.proofs.RowFits.{plain_fits}
use Rattle.table_laws.proofs.SameValues.{same_table}
use Rattle.table_laws.specs.Legality.{AreSound, Keeps, KeepsAscending, KeepsLegal, Throughout}
use Rattle.table_laws.proofs.Cells.{inserted_held}
use Rattle.table_laws.proofs.Evaluated.{IsHeld, updated_sure}

-- ---- accepted outcomes

bind_ok : {A B : Type 0} (r : Checked A) (next : A → Checked B) (y : B) → (r >>= next) ≡ Ok y → (a : A) × (r ≡ Ok a) × (next a ≡ Ok y)
bind_ok (Ok a) next y e = (a, refl, e)
bind_ok (Err x) next y e = absurd (cc)

judged_ok : {A : Type 0} (table : TableId) (j : Judged A) (a : A) → of_judged table j ≡ Ok a → j ≡ Ok a
judged_ok table (Ok b) a e = let same : b ≡ a = cc in ap Ok same
judged_ok table (Err v) a e = absurd (cc)

found_ok : (table : TableId) (o : Option Rows) (rows : Rows) → rows_or_refusal table o ≡ Ok rows → o ≡ Some rows
found_ok table (Some other) rows e = let same : other ≡ rows = cc in ap Some same
found_ok table None rows e = absurd (cc)

abbrev counted : ℕ → Tables → Outcome
counted n tables = Ok (n, tables)

same_left : (n m : ℕ) (one other : Tables) → counted n one ≡ counted m other → one ≡ other
same_left n m one other e = let same : (n, one) ≡ (m, other) = cc in ap (λ (p : ℕ × Tables). p.1) same

count_ok : (table : TableId) (count n : ℕ) (left : Judged Tables) (after : Tables) → count_rows table count left ≡ Ok (n, after) → left ≡ Ok after
count_ok table count n left after e =
    let one = bind_ok (of_judged table left) (λ tables. Ok (count, tables)) (n, after) e in
    judged_ok table left one.0 one.1 ∙ ap Ok (same_left count n one.0 after one.2)

-- ---- what each statement leaves

insert_leaves : (R : Tables → Type 0) (schema : Catalog) (tables after : Tables) (table : TableId) (columns : List ColumnNo) (values : List Value) (rows : Rows) (n : ℕ)
    → ((answer : List (List Value) × Tables) → row.insert_rows schema tables table rows (inserted_row (length (spec_of schema table).columns) columns values ∷ []) ≡ Ok answer → R answer.1)
    → insert schema tables table columns values rows ≡ Ok (n, after) → R after
insert_leaves R schema tables after table columns values rows n put e =
    let done : row.Outcome = row.insert_rows schema tables table rows (inserted_row (length (spec_of schema table).columns) columns values ∷ []) in
    let one = bind_ok (of_judged table done) (λ answer. Ok (1, answer.1)) (n, after) e in
    subst R (same_left 1 n one.0.1 after one.2) (put one.0 (judged_ok table done one.0 one.1))

entries_leave : (R : Tables → Type 0) (schema : Catalog) (tables after : Tables) (table : TableId) (rows entries : Rows) (n : ℕ) → R tables → (change_all schema tables table rows entries ≡ Ok after → R after)
    → update_entries schema tables table rows entries ≡ Ok (n, after) → R after
entries_leave R schema tables after table rows [] n same changed e = subst R (same_left 0 n tables after e) same
entries_leave R schema tables after table rows (entry ∷ entries) n same changed e =
    changed (count_ok table (length (entry ∷ entries)) n (change_all schema tables table rows (entry ∷ entries)) after e)

update_leaves : (R : Tables → Type 0) (schema : Catalog) (tables after : Tables) (table : TableId) (cells : List (ColumnNo × Option Expr)) (filter : Option Expr) (rows : Rows) (n : ℕ) → R tables
    → ((entries : Rows) → updated_from (bare tables) cells filter [] rows ≡ Ok entries → change_all schema tables table rows entries ≡ Ok after → R after)
    → update schema tables table cells filter rows ≡ Ok (n, after) → R after
update_leaves R schema tables after table cells filter rows n same changed e =
    let one = bind_ok (require_created (bare tables) (named_in cells filter)) (λ _. updated_from (bare tables) cells filter [] rows >>= λ entries. update_entries schema tables table rows entries) (n, after) e in
    let two = bind_ok (updated_from (bare tables) cells filter [] rows) (λ entries. update_entries schema tables table rows entries) (n, after) one.2 in
    entries_leave R schema tables after table rows two.0 n same (changed two.0 two.1) two.2

keys_leave : (R : Tables → Type 0) (schema : Catalog) (tables after : Tables) (table : TableId) (rows : Rows) (keys : List (List Value)) (n : ℕ) → R tables → (remove_all schema tables table rows keys ≡ Ok after → R after)
    → delete_keys schema tables table rows keys ≡ Ok (n, after) → R after
keys_leave R schema tables after table rows [] n same removed e = subst R (same_left 0 n tables after e) same
keys_leave R schema tables after table rows (key ∷ keys) n same removed e =
    removed (count_ok table (length (key ∷ keys)) n (remove_all schema tables table rows (key ∷ keys)) after e)

delete_leaves : (R : Tables → Type 0) (schema : Catalog) (tables after : Tables) (table : TableId) (filter : Option Expr) (rows : Rows) (n : ℕ) → R tables
    → ((keys : List (List Value)) → remove_all schema tables table rows keys ≡ Ok after → R after)
    → delete schema tables table filter rows ≡ Ok (n, after) → R after
delete_leaves R schema tables after table filter rows n same removed e =
    let one = bind_ok (require_created (bare tables) (named_in [] filter)) (λ _. deleted_from (bare tables) filter [] rows >>= λ keys. delete_keys schema tables table rows keys) (n, after) e in
    let two = bind_ok (deleted_from (bare tables) filter [] rows) (λ keys. delete_keys schema tables table rows keys) (n, after) one.2 in
    keys_leave R schema tables after table rows two.0 n same (removed two.0) two.2

-- ---- legal rows

held_rows : (schema : Catalog) (tables : Tables) (table : TableId) (rows : Rows) → Legal schema tables → rows_in tables table ≡ Some rows → AllByRecursion (IsHeld schema table) rows
held_rows schema tables table rows legal there =
    all_both (λ row. key_of (spec_of schema table) row.1 ≡ row.0) (λ row. is_legal_row (spec_of schema table) row.1 ≡ true) (IsHeld schema table)
    (λ row key fit. (key, may_from_fits (spec_of schema table).columns row.1 fit)) rows
    (all_lookup table_cmp same_table (λ c. AllByRecursion (λ row. key_of (spec_of schema c.0) row.1 ≡ row.0) c.1) tables table rows legal.keys there)
    (all_lookup table_cmp same_table (λ c. AllByRecursion (λ row. is_legal_row (spec_of schema c.0) row.1 ≡ true) c.1) tables table rows legal.cells there)

-- written rows of the columns' kinds fit where none lacks a value
held_entries : (schema : Catalog) (table : TableId) (entries : Rows) → AllByRecursion (IsHeld schema table) entries → some_lacks (spec_of schema table) entries ≡ false → AllByRecursion (IsEntry (spec_of schema table)) entries
held_entries schema table entries held full =
    all_both (IsHeld schema table) (λ entry. lacks_value is_required (spec_of schema table).columns entry.1 ≡ false) (IsEntry (spec_of schema table))
    (λ entry fit lacks.
    (fit.0, plain_fits false (spec_of schema table).columns entry.1 fit.1 (ap (λ R. lacks_value R (spec_of schema table).columns entry.1) (λ i c. plain_required c i) ∙ lacks) refl))
    entries held (any_none (λ entry. lacks_value is_required (spec_of schema table).columns entry.1) entries full)

-- ---- the laws

pub bulk_legal : (schema : Catalog) (tables : Tables) (statement : Bulk) (count : ℕ) (after : Tables) → IsPlainBulk schema statement → Legal schema tables → bulk_outcome schema tables statement ≡ Ok (count, after) → Legal schema after
unfolding bulk_outcome
bulk_legal schema tables (bulk.Insert table columns values) count after plain legal e =
    let one = bind_ok (rows_or_refusal table (rows_in tables table)) (insert schema tables table columns values) (count, after) e in
    let there = found_ok table (rows_in tables table) one.0 one.1 in
    insert_leaves (Legal schema) schema tables after table columns values one.0 count
    (λ answer is. insert_legal schema tables table one.0 (inserted_row (length (spec_of schema table).columns) columns values ∷ []) answer legal there
    (ap (λ b. b && true) (inserted_held schema table columns values plain.2)) is) one.2
bulk_legal schema tables (bulk.Update table cells filter) count after plain legal e =
    let one = bind_ok (rows_or_refusal table (rows_in tables table)) (update schema tables table cells filter) (count, after) e in
    let there = found_ok table (rows_in tables table) one.0 one.1 in
    update_leaves (Legal schema) schema tables after table cells filter one.0 count legal
    (λ entries is. change_legal schema tables after table one.0 entries legal there
    (held_entries schema table entries
    (subst (Sure (AllByRecursion (IsHeld schema table))) is (updated_sure schema table (bare tables) cells filter plain.2 plain.3 one.0 [] (held_rows schema tables table one.0 legal there) tt)))) one.2
bulk_legal schema tables (bulk.Delete table filter) count after plain legal e =
    let one = bind_ok (rows_or_refusal table (rows_in tables table)) (delete schema tables table filter) (count, after) e in
    let there = found_ok table (rows_in tables table) one.0 one.1 in
    delete_leaves (Legal schema) schema tables after table filter one.0 count legal (λ keys. remove_legal schema tables after table one.0 keys legal there) one.2

pub bulk_ascends : (schema : Catalog) (tables : Tables) (statement : Bulk) (count : ℕ) (after : Tables) → AreAscending tables → bulk_outcome schema tables statement ≡ Ok (count, after) → AreAscending after
unfolding bulk_outcome
bulk_ascends schema tables (bulk.Insert table columns values) count after up e =
    let one = bind_ok (rows_or_refusal table (rows_in tables table)) (insert schema tables table columns values) (count, after) e in
    let there = found_ok table (rows_in tables table) one.0 one.1 in
    insert_leaves AreAscending schema tables after table columns values one.0 count
    (λ answer is. insert_ascends schema tables table one.0 (inserted_row (length (spec_of schema table).columns) columns values ∷ []) answer up there is) one.2
bulk_ascends schema tables (bulk.Update table cells filter) count after up e =
    let one = bind_ok (rows_or_refusal table (rows_in tables table)) (update schema tables table cells filter) (count, after) e in
    let there = found_ok table (rows_in tables table) one.0 one.1 in
    update_leaves AreAscending schema tables after table cells filter one.0 count up (λ entries is. change_ascends schema tables after table one.0 entries up there) one.2
bulk_ascends schema tables (bulk.Delete table filter) count after up e =
    let one = bind_ok (rows_or_refusal table (rows_in tables table)) (delete schema tables table filter) (count, after) e in
    let there = found_ok table (rows_in tables table) one.0 one.1 in
    delete_leaves AreAscending schema tables after table filter one.0 count up (λ keys. remove_ascends schema tables after table one.0 keys up there) one.2

bulk_has : (P : Tables → Type 0) (schema : Catalog) (statement : Bulk) → ((tables after : Tables) (count : ℕ) → P tables → bulk_outcome schema tables statement ≡ Ok (count, after) → P after) → Keeps (Throughout P) (call.bulk schema statement)
unfolding call.bulk
bulk_has P schema statement stays = record { kept = λ w all. by w (bulk_outcome schema w.tables statement) refl all }
  where
    by : (w : Store) (outcome : Outcome) → bulk_outcome schema w.tables statement ≡ outcome → Throughout P w → Throughout P (call.run_of_bulk statement outcome w).after
    by w (Ok done) is all = record { tables = stays w.tables done.1 done.0 all.tables is; scopes = all.scopes }
    by w (Err refusal) is all = all

pub keeps_bulk_legal : (schema : Catalog) (statement : Bulk) → IsPlainBulk schema statement → KeepsLegal schema (call.bulk schema statement)
keeps_bulk_legal schema statement plain =
    bulk_has (AreSound schema) schema statement
    (λ tables after count sound is. record { legal = bulk_legal schema tables statement count after plain sound.legal is; ascending = bulk_ascends schema tables statement count after sound.ascending is })

pub keeps_bulk_ascending : (schema : Catalog) (statement : Bulk) → KeepsAscending (call.bulk schema statement)
keeps_bulk_ascending schema statement = bulk_has AreAscending schema statement (λ tables after count up is. bulk_ascends schema tables statement count after up is)
