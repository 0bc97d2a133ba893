-- New rows that are put in one after the other, each under a key that was free, as accepted runs of INSERTs do.
use Rattle.std.proofs.Common.{◌≡◌, ℕ, Bool, true, false, cond, T, List, [], ◌∷◌, ◌++◌, map, Option, None, Some, Ok, refl, sym, ap, ◌∙◌, subst}
use Rattle.std.specs.Cmp.{tied_itself}
use Rattle.std.specs.FinMap.Entries.{is_sorted}
use Rattle.std.specs.List.{AllByRecursion, flat_map, list_any}
use Rattle.std.specs.Option.{is_some, option_and_then}
use Rattle.std.specs.Ordering.{is_eq}
use Rattle.base_core.specs.declared.ids.TableId.{TableId}
use Rattle.base_core.specs.declared.value.Value.{Value}
use Rattle.schema_core.specs.declared.changes.RowChanges.{RowChanges}
use Rattle.schema_core.specs.declared.statement.Violation.TheVariants.{PrimaryKey}
use Rattle.schema_core.specs.Apply.{entries_of, entry_of, keys_of_entries, with_own_key}
use Rattle.schema_core.specs.Catalog.{Catalog, spec_of}
use Rattle.schema_core.specs.Judged.{and_then, with_all}
use Rattle.schema_core.specs.Tables.{Rows, Tables, key_of, row_under, rows_in, table_cmp, with_row, with_rows}
use Rattle.table_laws.proofs.Entries.{all_both}
use Rattle.table_laws.proofs.Legality.{and_ok, entry_is, guard_ok, same_ok}
use Rattle.table_laws.proofs.SameValues.{is_equal, same_table}
use Rattle.flush_order.specs.Cells.{first_cells, table_at}
use Rattle.flush_order.specs.Refers.{comes_from}
use Rattle.flush_plan.specs.Flushing.{Keys, Sofar, is_stale, row_sent, with_keys}
use Rattle.flush_writes.specs.Writes.{insert_run}
use Rattle.flush_writes.specs.Runs.{runs_from, nonempty_run, joins, runs}
use Rattle.flush_plan.specs.Stating.{place_new, placed_in, placed_under, row_at}
use Rattle.session_laws.specs.Plans.Premises.{IsSorted}
use Rattle.session_laws.proofs.Plans.Accepted.{Accepts, sent_of}
use Rattle.session_laws.proofs.Plans.At.{edit_is}
use Rattle.session_laws.proofs.Plans.Lookups.{lookup_insert, same_lists, sorted_insert}
use Rattle.session_laws.proofs.Plans.Placing.{Step, step_sorted}
use Rattle.session_laws.proofs.Plans.ReadBack.{insert_read}
use Rattle.session_laws.proofs.Plans.Runs.{Apart, AreOf, IsRun, all_same, joins_run, row_kept}
use Rattle.session_laws.proofs.Plans.RunsWhole.{runs_whole}
use Rattle.session_laws.proofs.Plans.Facts.{or_false, true_false}
use Rattle.schema_core.proofs.TableOrder.{tables_total}

-- ---- the rows of a table, put in again

rows_found : (tables : Tables) (table : TableId) (rows : Rows) → rows_in (with_rows tables table rows) table ≡ Some rows
rows_found tables table rows = lookup_insert table_cmp tables_total tables table rows table ∙ ap (λ o. cond (is_eq o) (Some rows) (rows_in tables table)) (tied_itself tables_total table)

again_step : (b : Bool) (rows last : Rows) (o : Option Rows) → cond b (Some last) (cond b (Some rows) o) ≡ cond b (Some last) o
again_step true rows last o = refl
again_step false rows last o = refl

put_again : (tables : Tables) (table : TableId) (rows last : Rows) → T (is_sorted table_cmp tables) → with_rows (with_rows tables table rows) table last ≡ with_rows tables table last
put_again tables table rows last sorted =
    let once : T (is_sorted table_cmp (with_rows tables table rows)) = sorted_insert table_cmp tables_total tables table rows sorted in
    same_lists table_cmp tables_total same_table (with_rows (with_rows tables table rows) table last) (with_rows tables table last)
    (sorted_insert table_cmp tables_total (with_rows tables table rows) table last once) (sorted_insert table_cmp tables_total tables table last sorted)
    (λ q.
    lookup_insert table_cmp tables_total (with_rows tables table rows) table last q
    ∙ ap (cond (is_eq (table_cmp q table)) (Some last)) (lookup_insert table_cmp tables_total tables table rows q)
    ∙ again_step (is_eq (table_cmp q table)) rows last (rows_in tables q)
    ∙ sym (lookup_insert table_cmp tables_total tables table last q))

same_step : (b : Bool) (rows : Rows) (o : Option Rows) → (b ≡ true → o ≡ Some rows) → cond b (Some rows) o ≡ o
same_step true rows o same = sym (same refl)
same_step false rows o same = refl

put_same : (tables : Tables) (table : TableId) (rows : Rows) → T (is_sorted table_cmp tables) → rows_in tables table ≡ Some rows → with_rows tables table rows ≡ tables
put_same tables table rows sorted found =
    same_lists table_cmp tables_total same_table (with_rows tables table rows) tables (sorted_insert table_cmp tables_total tables table rows sorted) sorted
    (λ q.
    lookup_insert table_cmp tables_total tables table rows q
    ∙ same_step (is_eq (table_cmp q table)) rows (rows_in tables q) (λ e. ap (rows_in tables) (same_table q table (is_equal (table_cmp q table) e)) ∙ found))

none_under : (rows : Rows) (key : List Value) (o : Option (List Value)) → is_some o ≡ false → o ≡ None
none_under rows key None e = refl
none_under rows key (Some row) e = absurd (true_false e)

module _ (schema : Catalog) (changes : RowChanges) where
  -- one new row is put in under a key that was free, and that is of no changed or deleted row
  pub record Put (sofar : Sofar) (place : ℕ) (next : Sofar) : Type 0 where
    pub step : Step schema changes sofar place next
    pub leads : place_new schema changes sofar place ≡ Some next
    pub free : row_at sofar.tables (table_at changes place, key_of (spec_of schema (table_at changes place)) step.row) ≡ None
    pub fresh : is_stale schema changes (table_at changes place) (key_of (spec_of schema (table_at changes place)) step.row) ≡ false

  abbrev pub Puts : Sofar → List ℕ → Sofar → Type 0
  Puts sofar [] end = sofar ≡ end
  Puts sofar (place ∷ rest) end = (next : Sofar) × Put sofar place next × Puts next rest end

  pub puts_on : (sofar middle end : Sofar) (places more : List ℕ) → Puts sofar places middle → Puts middle more end → Puts sofar (places ++ more) end
  puts_on sofar middle end [] more one two = subst (λ s. Puts s more end) (sym one) two
  puts_on sofar middle end (place ∷ places) more one two = (one.0, one.1, puts_on one.0 middle end places more one.2 two)

  -- ---- one row of a run

  abbrev With : Tables → TableId → Rows → Keys → Sofar
  With base table rows keys = record { tables = with_rows base table rows; keys = keys }

  abbrev OnePut : Tables → Rows → Keys → ℕ → (List Value × List Value) → TableId → Type 0
  OnePut base rows keys place entry table =
      entry_of (spec_of schema table) rows (with_own_key (spec_of schema table) rows (row_sent schema changes keys place)) ≡ Ok entry → is_stale schema changes table entry.0 ≡ false → Put (With base table rows keys) place (With base table (with_row rows entry.0 entry.1) ((place, entry.0) ∷ keys))

  put_here : (base : Tables) (rows : Rows) (keys : Keys) (place : ℕ) (entry : List Value × List Value) → T (is_sorted table_cmp base) → OnePut base rows keys place entry (table_at changes place)
  unfolding place_new
  put_here base rows keys place entry sorted e fresh =
      let table : TableId = table_at changes place in
      let sofar : Sofar = With base table rows keys in
      let it = entry_is (spec_of schema table) rows (with_own_key (spec_of schema table) rows (row_sent schema changes keys place)) entry e in
      let key : List Value = key_of (spec_of schema table) it.0 in
      let found : rows_in sofar.tables table ≡ Some rows = rows_found base table rows in
      let again : with_rows sofar.tables table (with_row rows key it.0) ≡ with_rows base table (with_row rows key it.0) = put_again base table rows (with_row rows key it.0) sorted in
      let next : record { tables = with_rows base table (with_row rows key it.0); keys = (place, key) ∷ keys } ≡ With base table (with_row rows entry.0 entry.1) ((place, entry.0) ∷ keys) =
      ap (λ p. With base table (with_row rows p.0 p.1) ((place, p.0) ∷ keys)) it.2 in
      let new = guard_ok (is_some (row_under rows key)) PrimaryKey (Ok (key, it.0)) entry (ap (entry_of (spec_of schema table) rows) (sym it.1) ∙ e) in
      record {
        step = record {
          rows = rows;
          row = it.0;
          table = found;
          draws = it.1;
          is = sym next ∙ ap (λ t. record { tables = t; keys = (place, key) ∷ keys }) (sym again ∙ sym (edit_is sofar.tables ((table, key), Some it.0) rows found));
        };
        leads = ap (placed_in schema changes sofar place) found
            ∙ ap (placed_under (spec_of schema table) sofar place table rows) it.1
            ∙ ap (λ t. Some (record { tables = t; keys = (place, key) ∷ keys })) again
            ∙ ap Some next;
        free = ap (option_and_then (λ r. row_under r key)) found ∙ none_under rows key (row_under rows key) new.0;
        fresh = ap (λ p. is_stale schema changes table p.0) it.2 ∙ fresh;
      }

  put_of : (base : Tables) (rows : Rows) (keys : Keys) (place : ℕ) (entry : List Value × List Value) (table : TableId) → T (is_sorted table_cmp base) → table_at changes place ≡ table → OnePut base rows keys place entry table
  put_of base rows keys place entry table sorted of = subst (OnePut base rows keys place entry) of (put_here base rows keys place entry sorted)

  -- ---- a run

  run_puts : (start : Keys) (table : TableId) (base : Tables) (run : List ℕ) (rows : Rows) (keys : Keys) (entries : Rows) → T (is_sorted table_cmp base) → AreOf schema changes table run → Apart schema changes run → AllByRecursion (λ place. row_sent schema changes keys place ≡ row_sent schema changes start place) run → entries_of (spec_of schema table) rows (map (row_sent schema changes start) run) ≡ Ok entries → list_any (is_stale schema changes table) (keys_of_entries entries) ≡ false → Puts (With base table rows keys) run (With base table (with_all rows entries) (with_keys keys run (keys_of_entries entries)))
  run_puts start table base [] rows keys entries sorted of apart same e fresh = ap (λ es. With base table (with_all rows es) keys) (same_ok [] entries e)
  run_puts start table base (place ∷ rest) rows keys entries sorted of apart same e fresh =
      let spec = spec_of schema table in
      let one = and_ok (entry_of spec rows (with_own_key spec rows (row_sent schema changes start place))) (λ entry. and_then (entries_of spec (with_row rows entry.0 entry.1) (map (row_sent schema changes start) rest)) (λ es. Ok (entry ∷ es))) entries e in
      let two = and_ok (entries_of spec (with_row rows one.0.0 one.0.1) (map (row_sent schema changes start) rest)) (λ es. Ok (one.0 ∷ es)) entries one.2 in
      let is : one.0 ∷ two.0 ≡ entries = same_ok (one.0 ∷ two.0) entries two.2 in
      let stale = or_false (is_stale schema changes table one.0.0) (list_any (is_stale schema changes table) (keys_of_entries two.0)) (ap (λ es. list_any (is_stale schema changes table) (keys_of_entries es)) is ∙ fresh) in
      let put : Put (With base table rows keys) place (With base table (with_row rows one.0.0 one.0.1) ((place, one.0.0) ∷ keys)) =
      put_of base rows keys place one.0 table sorted of.0 (ap (λ r. entry_of spec rows (with_own_key spec rows r)) same.0 ∙ one.1) stale.0 in
      let more = run_puts start table base rest (with_row rows one.0.0 one.0.1) ((place, one.0.0) ∷ keys) two.0 sorted of.1 apart.1
      (all_both (λ other. list_any (comes_from place) (first_cells schema changes other) ≡ false) (λ other. row_sent schema changes keys other ≡ row_sent schema changes start other) (λ other. row_sent schema changes ((place, one.0.0) ∷ keys) other ≡ row_sent schema changes start other)
      (λ other none was. row_kept schema changes keys place one.0.0 (first_cells schema changes other) none ∙ was) rest apart.0 same.1)
      two.1 stale.1 in
      subst (λ es. Puts (With base table rows keys) (place ∷ rest) (With base table (with_all rows es) (with_keys keys (place ∷ rest) (keys_of_entries es)))) is
      (With base table (with_row rows one.0.0 one.0.1) ((place, one.0.0) ∷ keys), put, more)

  pub run_put : (place : ℕ) (places : List ℕ) (sofar next : Sofar) → IsSorted sofar.tables → IsRun schema changes (place ∷ places) → Accepts schema changes sofar (insert_run changes (place ∷ places) ∷ []) next → Puts sofar (place ∷ places) next
  run_put place places sofar next sorted is a =
      let table : TableId = table_at changes place in
      let run : List ℕ = place ∷ places in
      let of : AreOf schema changes table run = subst (λ t. AreOf schema changes t run) (sym is.1.1.0) is.1.1 in
      let one = sent_of schema changes sofar a.0 (insert_run changes run) a.1 in
      let read = insert_read schema sofar.tables table (map (row_sent schema changes sofar.keys) run) one.answer one.done in
      let start : With sofar.tables table read.rows sofar.keys ≡ sofar = ap (λ t. record { tables = t; keys = sofar.keys }) (put_same sofar.tables table read.rows sorted.outer read.table_rows) in
      let end : With sofar.tables table (with_all read.rows read.entries) (with_keys sofar.keys run (keys_of_entries read.entries)) ≡ next =
      (λ i. record { tables = sym read.left i; keys = with_keys sofar.keys run (sym read.keys i) }) ∙ sym one.is ∙ a.2 in
      let puts = run_puts sofar.keys table sofar.tables run read.rows sofar.keys read.entries sorted.outer of is.0 (all_same schema changes sofar.keys run) read.are (ap (list_any (is_stale schema changes table)) (sym read.keys) ∙ one.fresh) in
      subst (λ s. Puts s run next) start (subst (Puts (With sofar.tables table read.rows sofar.keys) run) end puts)

  pub puts_sorted : (sofar end : Sofar) (places : List ℕ) → Puts sofar places end → IsSorted sofar.tables → IsSorted end.tables
  puts_sorted sofar end [] puts sorted = subst (λ s. IsSorted s.tables) puts sorted
  puts_sorted sofar end (place ∷ places) puts sorted = puts_sorted puts.0 end places puts.2 (step_sorted schema changes sofar puts.0 place puts.1.step sorted)

  -- ---- all runs

  abbrev AreRows : List ℕ → Type 0
  AreRows [] = ⊥
  AreRows (place ∷ places) = IsRun schema changes (place ∷ places)

  parts_put : (parts : List (List ℕ)) (sofar next : Sofar) → IsSorted sofar.tables → AllByRecursion AreRows parts → Accepts schema changes sofar (map (insert_run changes) parts) next → Puts sofar (flat_map (λ run. run) parts) next
  parts_put [] sofar next sorted are a = a
  parts_put ([] ∷ parts) sofar next sorted are a = absurd are.0
  parts_put ((place ∷ places) ∷ parts) sofar next sorted are a =
      let one : Puts sofar (place ∷ places) a.0 = run_put place places sofar a.0 sorted are.0 (a.0, a.1, refl) in
      puts_on sofar a.0 next (place ∷ places) (flat_map (λ run. run) parts) one (parts_put parts a.0 next (puts_sorted sofar a.0 (place ∷ places) one sorted) are.1 a.2)

  ended_rows : (run : List ℕ) → IsRun schema changes run → (more : List (List ℕ)) → AllByRecursion AreRows more → AllByRecursion AreRows (nonempty_run run ++ more)
  ended_rows [] is more are = are
  ended_rows (place ∷ places) is more are = (is, are)

  cut_rows : (places run : List ℕ) → IsRun schema changes run → AllByRecursion AreRows (runs_from schema changes run places)
  cut_rows [] run is = at run is
    where
      at : (run : List ℕ) → IsRun schema changes run → AllByRecursion AreRows (nonempty_run run)
      at [] is = tt
      at (place ∷ places) is = (is, tt)
  cut_rows (place ∷ places) run is = by (joins schema changes run place) refl (λ joined. cut_rows places (run ++ place ∷ []) joined) (cut_rows places (place ∷ []) ((tt, tt), (table_at changes place, (refl, tt))))
    where
      by : (b : Bool) → joins schema changes run place ≡ b → (IsRun schema changes (run ++ place ∷ []) → AllByRecursion AreRows (runs_from schema changes (run ++ place ∷ []) places)) → AllByRecursion AreRows (runs_from schema changes (place ∷ []) places) → AllByRecursion AreRows (cond b (runs_from schema changes (run ++ place ∷ []) places) (nonempty_run run ++ runs_from schema changes (place ∷ []) places))
      by true e joined apart = joined (joins_run schema changes run place is e)
      by false e joined apart = ended_rows run is (runs_from schema changes (place ∷ []) places) apart

  -- accepted INSERTs put in the rows of the order
  pub order_put : (order : List ℕ) (sofar next : Sofar) → IsSorted sofar.tables → Accepts schema changes sofar (map (insert_run changes) (runs schema changes order)) next → Puts sofar order next
  order_put order sofar next sorted a =
      subst (λ places. Puts sofar places next) (runs_whole schema changes order)
      (parts_put (runs schema changes order) sofar next sorted (cut_rows order [] (tt, (record { 0 = 0 }, tt))) a)
