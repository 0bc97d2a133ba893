-- Tables that are ascending by number and by key stay so where entries are put in or taken out.
use Rattle.std.proofs.Common.{◌≡◌, Bool, true, false, cond, List, [], ◌∷◌, Option, None, Some, Ok, Err, Ordering, refl, ap, ◌∙◌, subst}
use Rattle.std.specs.declared.cmp.Ordering.TheVariants.{Less, Equal, Greater}
use Rattle.std.specs.Ordering.{match_ordering, ordering_reverse}
use Rattle.std.specs.Cmp.{IsTotalOrder}
use Rattle.std.specs.Cmp.Lexicographic.{lists_total}
use Rattle.std.specs.List.{AllByRecursion, list_any}
use Rattle.std.specs.List.Sorted.{IsStrictlySortedBy}
use Rattle.std.specs.Map.{keys_of, remove_entry}
use Rattle.std.specs.BTreeMap.{insert_entry, is_at}
use Rattle.schema_core.proofs.TableOrder.{tables_total}
use Rattle.base_core.specs.declared.ids.ColumnNo.{ColumnNo}
use Rattle.base_core.specs.declared.ids.TableId.{TableId}
use Rattle.base_core.specs.declared.value.Value.{Value}
use Rattle.base_core.specs.Order.{values_cmp}
use Rattle.base_core.specs.OrderLaws.{value_cmp_total}
use Rattle.schema_core.specs.declared.statement.RowStmt.{RowStmt}
use Rattle.schema_core.specs.declared.statement.RowStmt.TheVariants.{Insert, Update, Delete}
use Rattle.schema_core.specs.declared.statement.Violation.TheVariants.{Foreign, Missing, NoTable, NotNull, Unique}
use Rattle.schema_core.specs.Apply.{answer_keys, apply, apply_found, delete_found, delete_row, entries_of, insert_rows, is_demanded, keys_of_entries, table_of, update_found, update_row, with_cells}
use Rattle.schema_core.specs.Catalog.{Catalog, spec_of}
use Rattle.schema_core.specs.Judged.{and_then, change_all, lacks_value, remove_all, some_lacks, some_loses_row, some_repeats, some_written_dangles, with_all, without_all, write_all}
use Rattle.schema_core.specs.Tables.{AreAscending, Rows, Tables, row_under, rows_in, table_cmp, with_row, with_rows, without_row}
use Rattle.table_laws.proofs.Entries.{all_insert, all_lookup, all_map}
use Rattle.table_laws.proofs.Legality.{and_ok, guard_ok, keys_ok, no_ok, same_ok}
use Rattle.table_laws.proofs.SameValues.{same_table}

-- ---- entries

module _ {K X : Type 0} {R : K → K → Ordering} (o : IsTotalOrder R) where
  below_step : (l : K) (e : K × X) (es rest : List (K × X)) (k : K) (v : X) (r : Ordering) → R l k ≡ Less → AllByRecursion (λ y. R l y ≡ Less) (keys_of (e ∷ es)) → AllByRecursion (λ y. R l y ≡ Less) (keys_of rest)
      → AllByRecursion (λ y. R l y ≡ Less) (keys_of (match_ordering r ((k, v) ∷ e ∷ es) ((e.0, v) ∷ es) (e ∷ rest)))
  below_step l e es rest k v Less at all more = (at, all)
  below_step l e es rest k v Equal at all more = all
  below_step l e es rest k v Greater at all more = (all.0, more)

  below_insert : (l : K) (es : List (K × X)) (k : K) (v : X) → R l k ≡ Less → AllByRecursion (λ y. R l y ≡ Less) (keys_of es) → AllByRecursion (λ y. R l y ≡ Less) (keys_of (insert_entry R es k v))
  below_insert l [] k v at all = (at, tt)
  below_insert l (e ∷ es) k v at all = below_step l e es (insert_entry R es k v) k v (R k e.0) at all (below_insert l es k v at all.1)

  sorted_step : (e : K × X) (es : List (K × X)) (k : K) (v : X) (r : Ordering) → R k e.0 ≡ r → IsStrictlySortedBy R (keys_of (e ∷ es)) → IsStrictlySortedBy R (keys_of (insert_entry R es k v))
      → IsStrictlySortedBy R (keys_of (match_ordering r ((k, v) ∷ e ∷ es) ((e.0, v) ∷ es) (e ∷ insert_entry R es k v)))
  unfolding IsStrictlySortedBy
  sorted_step e es k v Less is s more = ((is, all_map (λ y. R e.0 y ≡ Less) (λ y. R k y ≡ Less) (λ y l. o.trans k e.0 y is l) (keys_of es) s.0), s)
  sorted_step e es k v Equal is s more = s
  sorted_step e es k v Greater is s more = (below_insert e.0 es k v (o.antisymm e.0 k ∙ ap ordering_reverse is) s.0, more)

  sorted_insert : (es : List (K × X)) (k : K) (v : X) → IsStrictlySortedBy R (keys_of es) → IsStrictlySortedBy R (keys_of (insert_entry R es k v))
  unfolding IsStrictlySortedBy
  sorted_insert [] k v s = (tt, tt)
  sorted_insert (e ∷ es) k v s = sorted_step e es k v (R k e.0) refl s (sorted_insert es k v s.1)

keys_step : {K X : Type 0} (P : K → Type 0) (e : K × X) (es rest : List (K × X)) (b : Bool) → AllByRecursion P (keys_of (e ∷ es)) → AllByRecursion P (keys_of rest) → AllByRecursion P (keys_of (cond b es (e ∷ rest)))
keys_step P e es rest true all more = all.1
keys_step P e es rest false all more = (all.0, more)

keys_left : {K X : Type 0} (test : K → Bool) (P : K → Type 0) (es : List (K × X)) → AllByRecursion P (keys_of es) → AllByRecursion P (keys_of (remove_entry test es))
keys_left test P [] all = tt
keys_left test P (e ∷ es) all = keys_step P e es (remove_entry test es) (test e.0) all (keys_left test P es all.1)

left_step : {K X : Type 0} (R : K → K → Ordering) (e : K × X) (es rest : List (K × X)) (b : Bool) → IsStrictlySortedBy R (keys_of (e ∷ es)) → AllByRecursion (λ y. R e.0 y ≡ Less) (keys_of rest) → IsStrictlySortedBy R (keys_of rest)
    → IsStrictlySortedBy R (keys_of (cond b es (e ∷ rest)))
unfolding IsStrictlySortedBy
left_step R e es rest true s below more = s.1
left_step R e es rest false s below more = (below, more)

pub sorted_remove : {K X : Type 0} (R : K → K → Ordering) (test : K → Bool) (es : List (K × X)) → IsStrictlySortedBy R (keys_of es) → IsStrictlySortedBy R (keys_of (remove_entry test es))
unfolding IsStrictlySortedBy
sorted_remove R test [] s = s
sorted_remove R test (e ∷ es) s = left_step R e es (remove_entry test es) (test e.0) s (keys_left test (λ y. R e.0 y ≡ Less) es s.0) (sorted_remove R test es s.1)

-- ---- rows and tables

abbrev Rise : Rows → Type 0
Rise rows = IsStrictlySortedBy values_cmp (keys_of rows)

rows_written : (rows entries : Rows) → Rise rows → Rise (with_all rows entries)
rows_written rows [] s = s
rows_written rows (e ∷ entries) s = rows_written (with_row rows e.0 e.1) entries (sorted_insert (lists_total value_cmp_total) rows e.0 e.1 s)

rows_left : (rows : Rows) (keys : List (List Value)) → Rise rows → Rise (without_all rows keys)
rows_left rows [] s = s
rows_left rows (key ∷ keys) s = rows_left (without_row rows key) keys (sorted_remove values_cmp (is_at (values_cmp key)) rows s)

-- tables with ascending rows in one of them
pub ascending_with : (tables : Tables) (table : TableId) (rows : Rows) → AreAscending tables → IsStrictlySortedBy values_cmp (keys_of rows) → AreAscending (with_rows tables table rows)
ascending_with tables table rows up s = record {
  numbers = sorted_insert tables_total tables table rows up.numbers;
  keys = all_insert table_cmp same_table (λ c. IsStrictlySortedBy values_cmp (keys_of c.1)) tables table rows up.keys s;
}

pub rows_ascend : (tables : Tables) (table : TableId) (rows : Rows) → AreAscending tables → rows_in tables table ≡ Some rows → IsStrictlySortedBy values_cmp (keys_of rows)
rows_ascend tables table rows up found = all_lookup table_cmp same_table (λ c. IsStrictlySortedBy values_cmp (keys_of c.1)) tables table rows up.keys found

-- ---- accepted outcomes

pub write_ascends : (schema : Catalog) (tables left : Tables) (table : TableId) (rows entries : Rows) → AreAscending tables → rows_in tables table ≡ Some rows → write_all schema tables table rows entries ≡ Ok left → AreAscending left
unfolding write_all
write_ascends schema tables left table rows entries up found e =
    let after : Tables = with_rows tables table (with_all rows entries) in
    let one = guard_ok (some_repeats (spec_of schema table) (with_all rows entries) entries) Unique (cond (some_written_dangles schema after (spec_of schema table) entries) (Err Foreign) (Ok after)) left e in
    let two = guard_ok (some_written_dangles schema after (spec_of schema table) entries) Foreign (Ok after) left one.1 in
    subst AreAscending (same_ok after left two.1) (ascending_with tables table (with_all rows entries) up (rows_written rows entries (rows_ascend tables table rows up found)))

pub change_ascends : (schema : Catalog) (tables left : Tables) (table : TableId) (rows entries : Rows) → AreAscending tables → rows_in tables table ≡ Some rows → change_all schema tables table rows entries ≡ Ok left → AreAscending left
unfolding change_all
change_ascends schema tables left table rows entries up found e =
    write_ascends schema tables left table rows entries up found (guard_ok (some_lacks (spec_of schema table) entries) NotNull (write_all schema tables table rows entries) left e).1

pub remove_ascends : (schema : Catalog) (tables left : Tables) (table : TableId) (rows : Rows) (keys : List (List Value)) → AreAscending tables → rows_in tables table ≡ Some rows → remove_all schema tables table rows keys ≡ Ok left → AreAscending left
unfolding remove_all
remove_ascends schema tables left table rows keys up found e =
    let after : Tables = with_rows tables table (without_all rows keys) in
    let one = guard_ok (some_loses_row schema tables after) Foreign (Ok after) left e in
    subst AreAscending (same_ok after left one.1) (ascending_with tables table (without_all rows keys) up (rows_left rows keys (rows_ascend tables table rows up found)))

pub insert_ascends : (schema : Catalog) (tables : Tables) (table : TableId) (rows : Rows) (new : List (List Value)) (answer : List (List Value) × Tables) → AreAscending tables → rows_in tables table ≡ Some rows
    → insert_rows schema tables table rows new ≡ Ok answer → AreAscending answer.1
unfolding insert_rows
insert_ascends schema tables table rows new answer up found e =
    let one = guard_ok (list_any (lacks_value (is_demanded (spec_of schema table)) (spec_of schema table).columns) new) NotNull (and_then (entries_of (spec_of schema table) rows new) (λ entries. answer_keys (keys_of_entries entries) (write_all schema tables table rows entries))) answer e in
    let two = and_ok (entries_of (spec_of schema table) rows new) (λ entries. answer_keys (keys_of_entries entries) (write_all schema tables table rows entries)) answer one.1 in
    write_ascends schema tables answer.1 table rows two.0 up found (keys_ok (keys_of_entries two.0) (write_all schema tables table rows two.0) answer two.2)

update_ascends : (schema : Catalog) (tables : Tables) (table : TableId) (rows : Rows) (key : List Value) (cells : List (ColumnNo × Value)) (under : Option (List Value)) (answer : List (List Value) × Tables) → AreAscending tables
    → rows_in tables table ≡ Some rows → update_found schema tables table rows key cells under ≡ Ok answer → AreAscending answer.1
update_ascends schema tables table rows key cells None answer up found e = absurd (no_ok Missing answer e)
update_ascends schema tables table rows key cells (Some row) answer up found e =
    change_ascends schema tables answer.1 table rows ((key, with_cells row cells) ∷ []) up found (keys_ok (key ∷ []) (change_all schema tables table rows ((key, with_cells row cells) ∷ [])) answer e)

delete_ascends : (schema : Catalog) (tables : Tables) (table : TableId) (rows : Rows) (key : List Value) (under : Option (List Value)) (answer : List (List Value) × Tables) → AreAscending tables
    → rows_in tables table ≡ Some rows → delete_found schema tables table rows key under ≡ Ok answer → AreAscending answer.1
delete_ascends schema tables table rows key None answer up found e = subst AreAscending (ap (λ p. p.1) (same_ok (key ∷ [], tables) answer e)) up
delete_ascends schema tables table rows key (Some row) answer up found e =
    remove_ascends schema tables answer.1 table rows (key ∷ []) up found (keys_ok (key ∷ []) (remove_all schema tables table rows (key ∷ [])) answer e)

found_ascends : (schema : Catalog) (tables : Tables) (sent : RowStmt) (found : Option Rows) (answer : List (List Value) × Tables) → rows_in tables (table_of sent) ≡ found → AreAscending tables
    → apply_found schema tables sent found ≡ Ok answer → AreAscending answer.1
unfolding update_row delete_row
found_ascends schema tables sent None answer f up e = absurd (no_ok (NoTable (table_of sent)) answer e)
found_ascends schema tables (Insert table new) (Some rows) answer f up e = insert_ascends schema tables table rows new answer up f e
found_ascends schema tables (Update table key cells) (Some rows) answer f up e = update_ascends schema tables table rows key cells (row_under rows key) answer up f e
found_ascends schema tables (Delete table key) (Some rows) answer f up e = delete_ascends schema tables table rows key (row_under rows key) answer up f e

-- an accepted statement leaves ascending tables ascending
pub accepted_ascends : (schema : Catalog) (tables : Tables) (sent : RowStmt) (keys : List (List Value)) (after : Tables) → AreAscending tables → apply schema tables sent ≡ Ok (keys, after) → AreAscending after
unfolding apply
accepted_ascends schema tables sent keys after up e = found_ascends schema tables sent (rows_in tables (table_of sent)) (keys, after) refl up e
