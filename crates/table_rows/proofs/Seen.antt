-- Tables whose places are kept, and the rows that are seen in them.
use Rattle.std.proofs.Common.{◌≡◌, Bool, true, false, List, [], ◌∷◌, None, Some, is_some, refl, sym, ap, subst, ◌∙◌}
use Rattle.std.proofs.lemmas.Bool.{true≢false}
use Rattle.std.proofs.lemmas.Map.Steps.{set_value_same}
use Rattle.std.specs.declared.cmp.Ordering.{Ordering}
use Rattle.std.specs.declared.cmp.Ordering.TheVariants.{Less, Equal, Greater}
use Rattle.std.specs.Option.{option_map}
use Rattle.std.specs.BTreeMap.{insert_entry, is_at}
use Rattle.std.specs.Map.{keys_of, lookup, remove_entry, set_value}
use Rattle.std.specs.List.Sorted.{IsStrictlySortedBy}
use Rattle.base_core.specs.declared.ids.TableId.{TableId}
use Rattle.base_core.specs.declared.value.Value.{Value}
use Rattle.base_core.specs.Order.{values_cmp}
use Rattle.schema_core.specs.Tables.{Rows, rows_in, table_cmp, with_rows}
use Rattle.table_rows.specs.Rows.{AreSorted, Held, IsPlaced, KeepsPlaces, Places, has_place, is_placed, rows_present, rows_at, tables_present}
use Rattle.table_rows.proofs.Laws.{rows_kept, rows_there, rows_written}

by_test : (test : TableId → Bool) (tables : Held) → lookup test (tables_present tables) ≡ option_map rows_present (lookup test tables)
by_test test [] = refl
by_test test (e ∷ es) = at (test e.0) refl (by_test test es)
  where
    at : (b : Bool) → test e.0 ≡ b → lookup test (tables_present es) ≡ option_map rows_present (lookup test es) → lookup test (tables_present (e ∷ es)) ≡ option_map rows_present (lookup test (e ∷ es))
    at true is rest = rw is refl
    at false is rest = rw is rest

pub seen_found : (tables : Held) (table : TableId) → option_map rows_present (lookup (is_at (table_cmp table)) tables) ≡ rows_in (tables_present tables) table
seen_found tables table = sym (by_test (is_at (table_cmp table)) tables)

pub seen_put : (tables : Held) (table : TableId) (places : Places) → tables_present (insert_entry table_cmp tables table places) ≡ with_rows (tables_present tables) table (rows_present places)
seen_put [] table places = refl
seen_put (e ∷ es) table places = at (table_cmp table e.0) refl (seen_put es table places)
  where
    at : (r : Ordering) → table_cmp table e.0 ≡ r → tables_present (insert_entry table_cmp es table places) ≡ insert_entry table_cmp (tables_present es) table (rows_present places)
        → tables_present (insert_entry table_cmp (e ∷ es) table places) ≡ insert_entry table_cmp (tables_present (e ∷ es)) table (rows_present places)
    at Less is rest = rw is refl
    at Equal is rest = rw is refl
    at Greater is rest = rw is (ap (λ t. (e.0, rows_present e.1) ∷ t) rest)

pub seen_dropped : (test : TableId → Bool) (tables : Held) → tables_present (remove_entry test tables) ≡ remove_entry test (tables_present tables)
seen_dropped test [] = refl
seen_dropped test (e ∷ es) = at (test e.0) refl (seen_dropped test es)
  where
    at : (b : Bool) → test e.0 ≡ b → tables_present (remove_entry test es) ≡ remove_entry test (tables_present es) → tables_present (remove_entry test (e ∷ es)) ≡ remove_entry test (tables_present (e ∷ es))
    at true is rest = rw is refl
    at false is rest = rw is (ap (λ t. (e.0, rows_present e.1) ∷ t) rest)

seen_set : (test : TableId → Bool) (tables : Held) (places : Places) → tables_present (set_value test tables places) ≡ set_value test (tables_present tables) (rows_present places)
seen_set test [] places = refl
seen_set test (e ∷ es) places = at (test e.0) refl (seen_set test es places)
  where
    at : (b : Bool) → test e.0 ≡ b → tables_present (set_value test es places) ≡ set_value test (tables_present es) (rows_present places) → tables_present (set_value test (e ∷ es) places) ≡ set_value test (tables_present (e ∷ es)) (rows_present places)
    at true is rest = rw is refl
    at false is rest = rw is (ap (λ t. (e.0, rows_present e.1) ∷ t) rest)

pub seen_keys : (tables : Held) → keys_of (tables_present tables) ≡ keys_of tables
seen_keys [] = refl
seen_keys (e ∷ es) = ap (λ ks. e.0 ∷ ks) (seen_keys es)

-- a table that is created has places
pub places_there : (tables : Held) (table : TableId) → is_some (rows_in (tables_present tables) table) ≡ true → lookup (is_at (table_cmp table)) tables ≡ None → ⊥
places_there tables table created none = true≢false (sym created ∙ ap is_some (sym (seen_found tables table) ∙ ap (option_map rows_present) none))

pub sorted_there : (tables held : Held) (table : TableId) → tables ≡ held → is_some (rows_in (tables_present held) table) ≡ true → None ≡ lookup (is_at (table_cmp table)) tables → AreSorted (tables_present held) table
sorted_there tables held table same created none = absurd (places_there tables table (ap (λ (h : Held). is_some (rows_in (tables_present h) table)) same ∙ created) (sym none))

-- the rows of a table are those that stand in its places
pub seen_at : (tables : Held) (table : TableId) (places : Places) → lookup (is_at (table_cmp table)) tables ≡ Some places → rows_at (tables_present tables) table ≡ rows_present places
seen_at tables table places found = rows_there (tables_present tables) table (rows_present places) (sym (seen_found tables table) ∙ ap (option_map rows_present) found)

pub seen_in_order : (tables : Held) → IsStrictlySortedBy table_cmp (keys_of tables) → IsStrictlySortedBy table_cmp (keys_of (tables_present tables))
seen_in_order tables sorted = subst (λ (ks : List TableId). IsStrictlySortedBy table_cmp ks) (sym (seen_keys tables)) sorted

pub seen_sorted : (tables : Held) (table : TableId) (places : Places) → IsStrictlySortedBy table_cmp (keys_of tables) → lookup (is_at (table_cmp table)) tables ≡ Some places
    → IsStrictlySortedBy values_cmp (keys_of (rows_present places)) → AreSorted (tables_present tables) table
seen_sorted tables table places sorted found rising =
    (seen_in_order tables sorted, subst (λ (rows : Rows). IsStrictlySortedBy values_cmp (keys_of rows)) (sym (seen_at tables table places found)) rising)

-- the places of one table changed, and with them its rows
pub seen_changed : (tables : Held) (table : TableId) (old new : Places) (change : Rows → Rows) → IsStrictlySortedBy table_cmp (keys_of tables) → lookup (is_at (table_cmp table)) tables ≡ Some old
    → rows_present new ≡ change (rows_present old) → tables_present (set_value (is_at (table_cmp table)) tables new) ≡ with_rows (tables_present tables) table (change (rows_at (tables_present tables) table))
seen_changed tables table old new change sorted found is =
    seen_set (is_at (table_cmp table)) tables new
    ∙ rows_written (tables_present tables) table (rows_present old) (rows_present new) (seen_in_order tables sorted) (sym (seen_found tables table) ∙ ap (option_map rows_present) found)
    ∙ ap (with_rows (tables_present tables) table) (is ∙ ap change (sym (seen_at tables table old found)))

-- the places of one table changed, and its rows did not
pub seen_kept : (tables : Held) (table : TableId) (old new : Places) → lookup (is_at (table_cmp table)) tables ≡ Some old → rows_present new ≡ rows_present old → tables_present (set_value (is_at (table_cmp table)) tables new) ≡ tables_present tables
seen_kept tables table old new found is =
    seen_set (is_at (table_cmp table)) tables new
    ∙ rows_kept (tables_present tables) table (rows_present old) (rows_present new) (sym (seen_found tables table) ∙ ap (option_map rows_present) found) is

-- places that are as they were
pub set_same : (tables : Held) (table : TableId) (old new : Places) → lookup (is_at (table_cmp table)) tables ≡ Some old → new ≡ old → set_value (is_at (table_cmp table)) tables new ≡ tables
set_same tables table old new found same = ap (set_value (is_at (table_cmp table)) tables) same ∙ set_value_same (is_at (table_cmp table)) tables old found

-- ---- places

found_set : (test : TableId → Bool) (tables : Held) (old new : Places) → lookup test tables ≡ Some old → lookup test (set_value test tables new) ≡ Some new
found_set test [] old new found = cc
found_set test (e ∷ es) old new found = at (test e.0) refl (λ f. found_set test es old new f)
  where
    at : (b : Bool) → test e.0 ≡ b → (lookup test es ≡ Some old → lookup test (set_value test es new) ≡ Some new) → lookup test (set_value test (e ∷ es) new) ≡ Some new
    at true is rest = rw (is, is) refl
    at false is rest = rw (is, is) (rest (rw is at found))

pub placed_set : (tables : Held) (table : TableId) (old new : Places) (key : List Value) → lookup (is_at (table_cmp table)) tables ≡ Some old → is_placed new key ≡ true
    → IsPlaced (set_value (is_at (table_cmp table)) tables new) table key
placed_set tables table old new key found placed = ap (λ places. has_place places key) (found_set (is_at (table_cmp table)) tables old new found) ∙ placed

pub placed_there : (tables : Held) (table : TableId) (places : Places) (key : List Value) → lookup (is_at (table_cmp table)) tables ≡ Some places → IsPlaced tables table key → is_placed places key ≡ true
placed_there tables table places key found placed = sym (ap (λ there. has_place there key) found) ∙ placed

pub placed_nowhere : (tables : Held) (table : TableId) (key : List Value) → lookup (is_at (table_cmp table)) tables ≡ None → IsPlaced tables table key → ⊥
placed_nowhere tables table key none placed = true≢false (sym placed ∙ ap (λ there. has_place there key) none)

pub keeps_all_set : (at_table test : TableId → Bool) (old new : Places) (tables : Held) (key : List Value) → lookup at_table tables ≡ Some old → KeepsPlaces old new
    → has_place (lookup test tables) key ≡ true → has_place (lookup test (set_value at_table tables new)) key ≡ true
keeps_all_set at_table test old new [] key found keeps there = cc
keeps_all_set at_table test old new (e ∷ es) key found keeps there = at (at_table e.0) refl (test e.0) refl (λ f h. keeps_all_set at_table test old new es key f keeps h)
  where
    at : (b : Bool) → at_table e.0 ≡ b → (c : Bool) → test e.0 ≡ c → (lookup at_table es ≡ Some old → has_place (lookup test es) key ≡ true → has_place (lookup test (set_value at_table es new)) key ≡ true)
        → has_place (lookup test (set_value at_table (e ∷ es) new)) key ≡ true
    at true is true same rest = let here : Some e.1 ≡ Some old = rw is at found in let places : e.1 ≡ old = cc in rw (is, same) (keeps key (subst (λ (p : Places). is_placed p key ≡ true) places (rw same at there)))
    at true is false same rest = rw (is, same) (rw same at there)
    at false is true same rest = rw (is, same) (rw same at there)
    at false is false same rest = rw (is, same) (rest (rw is at found) (rw same at there))

pub ruleset seeing = (seen_found, seen_put, seen_dropped, places_there, placed_there, placed_nowhere)
