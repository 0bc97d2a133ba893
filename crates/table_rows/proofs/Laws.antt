-- Keys and tables are in total orders that tell all of them apart, and what of that rows and tables need.
use Rattle.std.proofs.lemmas.Bool.{true≢false}
use Rattle.std.proofs.lemmas.Map.Steps.{set_value_same}
use Rattle.std.specs.Option.{unwrap_or}
use Rattle.std.proofs.Common.{◌≡◌, Bool, true, false, is_some, Result, Ok, Err, OnErr, OnOk, IfOk, IfSome, List, [], ◌∷◌, Option, None, Some, refl, sym, ap, ◌∙◌}
use Rattle.std.specs.BTreeMap.{is_at}
use Rattle.std.specs.Map.{keys_of, set_value}
use Rattle.std.specs.List.Sorted.{IsStrictlySortedBy}
use Rattle.base_core.proofs.Exact.{exact_values, values_total}
use Rattle.schema_core.proofs.TableOrder.{tables_total}
use Rattle.base_core.specs.declared.ids.TableId.{TableId}
use Rattle.base_core.specs.declared.value.Value.{Value}
use Rattle.base_core.specs.Order.{values_cmp}
use Rattle.schema_core.specs.Tables.{Rows, Tables, table_cmp, row_under, rows_in, with_row, with_rows, without_row}
use Rattle.table_rows.specs.Rows.{AreSorted, with_former_row, rows_at}
use Rattle.table_rows.proofs.Entries.{put_in_place, put_again, put_old, take_new, put_taken, found_put}

-- rows written in the place of a table's are the tables with these rows
pub rows_written : (tables : Tables) (table : TableId) (old rows : Rows) → IsStrictlySortedBy table_cmp (keys_of tables) → rows_in tables table ≡ Some old
    → set_value (is_at (table_cmp table)) tables rows ≡ with_rows tables table rows
rows_written tables table old rows sorted found = put_in_place tables_total table old rows tables sorted found

pub rows_there : (tables : Tables) (table : TableId) (rows : Rows) → rows_in tables table ≡ Some rows → rows_at tables table ≡ rows
rows_there tables table rows found = ap (λ there. unwrap_or there []) found

-- rows that are as they were leave the tables as they were
pub rows_kept : (tables : Tables) (table : TableId) (old rows : Rows) → rows_in tables table ≡ Some old → rows ≡ old → set_value (is_at (table_cmp table)) tables rows ≡ tables
rows_kept tables table old rows found same = ap (set_value (is_at (table_cmp table)) tables) same ∙ set_value_same (is_at (table_cmp table)) tables old found

pub ruleset writing_rows = (rows_written, rows_there, rows_kept)

pub rows_found : (tables : Tables) (table : TableId) (rows : Rows) → rows_at (with_rows tables table rows) table ≡ rows
rows_found tables table rows = ap (λ found. unwrap_or found []) (found_put tables_total table rows tables)

-- a row written under a key, and what stood there brought back
pub row_restored : (rows : Rows) (key row : List Value) → IsStrictlySortedBy values_cmp (keys_of rows) → with_former_row (with_row rows key row) key (row_under rows key) ≡ rows
row_restored rows key row sorted = at (row_under rows key) refl
  where
    at : (before : Option (List Value)) → row_under rows key ≡ before → with_former_row (with_row rows key row) key before ≡ rows
    at None is = take_new values_total key row rows is
    at (Some old) is = put_again values_total key row old rows ∙ put_old values_total key old rows sorted is

-- a row that was taken out, put in again
pub row_returned : (rows : Rows) (key row : List Value) → IsStrictlySortedBy values_cmp (keys_of rows) → row_under rows key ≡ Some row → with_row (without_row rows key) key row ≡ rows
row_returned rows key row sorted found = put_taken values_total exact_values key row rows sorted found

-- a table's rows changed, and then changed to what they were
pub rows_restored : (tables : Tables) (table : TableId) (rows : Rows) → IsStrictlySortedBy table_cmp (keys_of tables) → is_some (rows_in tables table) ≡ true
    → with_rows (with_rows tables table rows) table (rows_at tables table) ≡ tables
rows_restored tables table rows sorted created = at (rows_in tables table) refl
  where
    at : (found : Option Rows) → rows_in tables table ≡ found → with_rows (with_rows tables table rows) table (rows_at tables table) ≡ tables
    at None is = absurd (true≢false (sym created ∙ ap is_some is))
    at (Some old) is =
        rw is (put_again tables_total table rows old tables ∙ put_old tables_total table old tables sorted is)

-- a row put in a table, and what stood under its key brought back
pub put_undone : (tables : Tables) (table : TableId) (key row : List Value) → AreSorted tables table → is_some (rows_in tables table) ≡ true
    → with_rows (with_rows tables table (with_row (rows_at tables table) key row)) table
    (with_former_row (rows_at (with_rows tables table (with_row (rows_at tables table) key row)) table) key (row_under (rows_at tables table) key)) ≡ tables
put_undone tables table key row sorted created =
    let rows : Rows = rows_at tables table in
    let after : Rows = with_row rows key row in
    ap (λ found. with_rows (with_rows tables table after) table (with_former_row found key (row_under rows key))) (rows_found tables table after)
    ∙ ap (λ back. with_rows (with_rows tables table after) table back) (row_restored rows key row sorted.1)
    ∙ rows_restored tables table after sorted.0 created

-- a row taken out of a table, and put in again
pub taking_undone : (tables : Tables) (table : TableId) (key row : List Value) → AreSorted tables table → is_some (rows_in tables table) ≡ true → row_under (rows_at tables table) key ≡ Some row
    → with_rows (with_rows tables table (without_row (rows_at tables table) key)) table
    (with_row (rows_at (with_rows tables table (without_row (rows_at tables table) key)) table) key row) ≡ tables
taking_undone tables table key row sorted created found =
    let rows : Rows = rows_at tables table in
    let after : Rows = without_row rows key in
    ap (λ there. with_rows (with_rows tables table after) table (with_row there key row)) (rows_found tables table after)
    ∙ ap (λ back. with_rows (with_rows tables table after) table back) (row_returned rows key row sorted.1 found)
    ∙ rows_restored tables table after sorted.0 created

-- there is no row to take out
pub absent_kept : (rows : Rows) (key : List Value) → row_under rows key ≡ None → without_row rows key ≡ rows
absent_kept [] key none = refl
absent_kept (row ∷ rows) key none = at (is_at (values_cmp key) row.0) refl (λ f. absent_kept rows key f)
  where
    at : (b : Bool) → is_at (values_cmp key) row.0 ≡ b → (row_under rows key ≡ None → without_row rows key ≡ rows) → without_row (row ∷ rows) key ≡ row ∷ rows
    at true is rest = let here : Some row.1 ≡ None = rw is at none in cc
    at false is rest = rw is (ap (λ t. row ∷ t) (rest (rw is at none)))

pub none_taken : (tables : Tables) (table : TableId) (key : List Value) → AreSorted tables table → is_some (rows_in tables table) ≡ true → row_under (rows_at tables table) key ≡ None
    → with_rows tables table (without_row (rows_at tables table) key) ≡ tables
none_taken tables table key sorted created none =
    ap (with_rows tables table) (absent_kept (rows_at tables table) key none)
    ∙ sym (put_again tables_total table (rows_at tables table) (rows_at tables table) tables)
    ∙ rows_restored tables table (rows_at tables table) sorted.0 created

pub on_err : {X E P Q : Type 0} (r : Result X E) → (P → Q) → OnErr r P → OnErr r Q
on_err (Ok x) f p = tt
on_err (Err e) f p = f p

pub on_ok : {X E P Q : Type 0} (r : Result X E) → (P → Q) → OnOk r P → OnOk r Q
on_ok (Ok x) f p = f p
on_ok (Err e) f p = tt

pub if_ok : {X E : Type 0} {P Q : X → Type 0} (r : Result X E) → ((x : X) → P x → Q x) → IfOk r P → IfOk r Q
if_ok (Ok x) f p = f x p
if_ok (Err e) f p = tt

pub if_some : {X P : Type 0} (o : Option X) → P → IfSome o (λ _. P)
if_some None p = tt
if_some (Some x) p = p

pub if_some_then : {X P Q : Type 0} (o : Option X) → (P → Q) → IfSome o (λ _. P) → IfSome o (λ _. Q)
if_some_then None f p = tt
if_some_then (Some x) f p = f p
