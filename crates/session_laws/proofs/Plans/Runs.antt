-- INSERTs of one row each, gathered into runs.
use Rattle.std.proofs.Common.{◌≡◌, ℕ, ◌<◌, Bool, true, false, cond, not, ◌&&◌, ◌||◌, List, [], ◌∷◌, ◌++◌, length, map, Option, None, Some, Result, Ok, Err, refl, sym, ap, ◌∙◌, subst, append_assoc, arith}
use Rattle.std.proofs.lemmas.Bool.{eqb-true}
use Rattle.std.proofs.lemmas.List.{map-append}
use Rattle.std.specs.Prelude.{nat_eq}
use Rattle.std.specs.List.{AllByRecursion, list_all, list_any}
use Rattle.std.specs.Map.{lookup}
use Rattle.std.specs.Option.{unwrap_or}
use Rattle.base_core.specs.declared.ids.TableId.{TableId}
use Rattle.base_core.specs.declared.value.Value.{Value}
use Rattle.schema_core.specs.declared.changes.Planned.{Planned}
use Rattle.schema_core.specs.declared.changes.RowCell.{RowCell}
use Rattle.schema_core.specs.declared.changes.RowCell.TheVariants.{Given, KeyOf}
use Rattle.schema_core.specs.declared.changes.RowChanges.{RowChanges}
use Rattle.schema_core.specs.declared.statement.Violation.{Violation}
use Rattle.schema_core.specs.declared.statement.Violation.TheVariants.{Missing, NotNull}
use Rattle.schema_core.specs.declared.statement.RowStmt.TheVariants.{Insert}
use Rattle.schema_core.specs.Apply.{Outcome, answer_keys, apply, apply_found, entries_of, entry_of, insert_rows, is_demanded, keys_of_entries, with_own_key}
use Rattle.schema_core.specs.Catalog.{Catalog, spec_of}
use Rattle.schema_core.specs.Judged.{Judged, and_then, lacks_value, write_all}
use Rattle.schema_core.specs.Tables.{Legal, Rows, Tables, rows_in}
use Rattle.table_laws.specs.OneByOne.{one_by_one}
use Rattle.table_laws.proofs.Entries.{all_both, all_map}
use Rattle.table_laws.proofs.OneByOne.{as_one}
use Rattle.table_laws.proofs.RowFits.{and_true}
use Rattle.flush_order.specs.Cells.{first_cells, table_at}
use Rattle.flush_order.specs.Refers.{comes_from, new_refers}
use Rattle.flush_plan.specs.Flushing.{Keys, Sofar, after_outcome, is_stale, value_of_cell, row_sent, send, with_keys}
use Rattle.flush_writes.specs.Writes.{insert_run}
use Rattle.flush_writes.specs.Runs.{runs_from, nonempty_run, goes_with, joins, leaves_key, runs}
use Rattle.session_laws.specs.Plans.Laws.{insert_of}
use Rattle.session_laws.proofs.Plans.Items.{append_none}
use Rattle.session_laws.proofs.Plans.Prefixes.{Goes, goes_on}
use Rattle.session_laws.proofs.Plans.Facts.{not_true, or_false}
use Rattle.session_laws.proofs.Plans.Stated.{all_from}

err_ok : {A B : Type 0} (e : B) (x : A) → Err e ≡ Ok x → ⊥
err_ok e x f = cc

abbrev done : (B : Type 0) {A : Type 0} → A → Result A B
done B x = Ok x

same_ok : (B : Type 0) {A : Type 0} (x y : A) → done B x ≡ done B y → x ≡ y
same_ok B x y f = cc

-- ---- an accepted INSERT of one row answers one key

module _ (schema : Catalog) (tables : Tables) (table : TableId) (row : List Value) (answer : List (List Value) × Tables) where
  abbrev OneKey : Type 0
  OneKey = (key : List Value) × (answer.0 ≡ key ∷ [])

  from_write : (key : List Value) (w : Judged Tables) → answer_keys (key ∷ []) w ≡ Ok answer → answer.0 ≡ key ∷ []
  from_write key (Ok left) e = ap (λ a. a.0) (sym (same_ok Violation (key ∷ [], left) answer e))
  from_write key (Err v) e = absurd (err_ok v answer e)

  from_entry : (rows : Rows) (j : Judged (List Value × List Value)) → and_then (and_then j (λ entry. Ok (entry ∷ []))) (λ entries. answer_keys (keys_of_entries entries) (write_all schema tables table rows entries)) ≡ Ok answer → OneKey
  from_entry rows (Ok entry) e = (entry.0, from_write entry.0 (write_all schema tables table rows (entry ∷ [])) e)
  from_entry rows (Err v) e = absurd (err_ok v answer e)

  from_full : (rows : Rows) (b : Bool) → cond b (Err NotNull) (and_then (entries_of (spec_of schema table) rows (row ∷ [])) (λ entries. answer_keys (keys_of_entries entries) (write_all schema tables table rows entries))) ≡ Ok answer → OneKey
  from_full rows true e = absurd (err_ok NotNull answer e)
  from_full rows false e = from_entry rows (entry_of (spec_of schema table) rows (with_own_key (spec_of schema table) rows row)) e

  from_rows : (o : Option Rows) → apply_found schema tables (Insert table (row ∷ [])) o ≡ Ok answer → OneKey
  unfolding insert_rows
  from_rows None e = absurd (err_ok _ answer e)
  from_rows (Some rows) e = from_full rows (list_any (lacks_value (is_demanded (spec_of schema table)) (spec_of schema table).columns) (row ∷ [])) e

  one_key : apply schema tables (Insert table (row ∷ [])) ≡ Ok answer → OneKey
  unfolding apply
  one_key e = from_rows (rows_in tables table) e

module _ (schema : Catalog) (changes : RowChanges) where
  -- ---- one row that is sent

  record OneSent (sofar next : Sofar) (place : ℕ) : Type 0 where
    pub key : List Value
    pub tables : Tables
    pub done : apply schema sofar.tables (Insert (table_at changes place) (row_sent schema changes sofar.keys place ∷ [])) ≡ Ok (key ∷ [], tables)
    pub fresh : is_stale schema changes (table_at changes place) key ≡ false
    pub is : next ≡ record { tables = tables; keys = (place, key) ∷ sofar.keys }

  fresh_by : (b : Bool) (e : TableId × Violation) (then next : Sofar) → cond (b || false) (Err e) (Ok then) ≡ Ok next → (b ≡ false) × (next ≡ then)
  fresh_by true e then next f = absurd (err_ok e next f)
  fresh_by false e then next f = (refl, sym (same_ok (TableId × Violation) then next f))

  sent_by : (sofar next : Sofar) (place : ℕ) (o : Outcome) → apply schema sofar.tables (Insert (table_at changes place) (row_sent schema changes sofar.keys place ∷ [])) ≡ o → after_outcome schema changes sofar (insert_of changes place) o ≡ Ok next → OneSent sofar next place
  sent_by sofar next place (Err v) e f = absurd (err_ok (table_at changes place, v) next f)
  sent_by sofar next place (Ok answer) e f =
      let k = one_key schema sofar.tables (table_at changes place) (row_sent schema changes sofar.keys place) answer e in
      let is : answer ≡ (k.0 ∷ [], answer.1) = λ i. (k.1 i, answer.1) in
      let last = fresh_by (is_stale schema changes (table_at changes place) k.0) (table_at changes place, Missing) (record { tables = answer.1; keys = (place, k.0) ∷ sofar.keys }) next (subst (λ a. after_outcome schema changes sofar (insert_of changes place) (Ok a) ≡ Ok next) is f) in
      record {
        key = k.0;
        tables = answer.1;
        done = e ∙ ap Ok is;
        fresh = last.0;
        is = last.1;
      }

  one_sent : (sofar next : Sofar) (place : ℕ) → send schema changes sofar (insert_of changes place) ≡ Ok next → OneSent sofar next place
  unfolding send
  one_sent sofar next place e = sent_by sofar next place (apply schema sofar.tables (Insert (table_at changes place) (row_sent schema changes sofar.keys place ∷ []))) refl e

  -- ---- the rows of a run

  -- no row has a part of the key of a row before it
  abbrev pub Apart : List ℕ → Type 0
  Apart [] = Unit {0}
  Apart (place ∷ rest) = AllByRecursion (λ other. list_any (comes_from place) (first_cells schema changes other) ≡ false) rest × Apart rest

  abbrev pub AreOf : TableId → List ℕ → Type 0
  AreOf table run = AllByRecursion (λ place. table_at changes place ≡ table) run

  abbrev pub IsRun : List ℕ → Type 0
  IsRun run = Apart run × ((table : TableId) × AreOf table run)

  cell_kept : (keys : Keys) (place : ℕ) (key : List Value) (cell : RowCell) → comes_from place cell ≡ false → value_of_cell ((place, key) ∷ keys) cell ≡ value_of_cell keys cell
  cell_kept keys place key (Given value) e = refl
  cell_kept keys place key (KeyOf other part) e = ap (λ b. put_under (unwrap_or (cond b (Some key) (lookup (nat_eq other) keys)) []) part) e
    where
      put_under : List Value → ℕ → Value
      put_under known part = value_of_cell ((0, known) ∷ []) (KeyOf 0 part)

  pub row_kept : (keys : Keys) (place : ℕ) (key : List Value) (cells : List RowCell) → list_any (comes_from place) cells ≡ false → map (value_of_cell ((place, key) ∷ keys)) cells ≡ map (value_of_cell keys) cells
  row_kept keys place key [] e = refl
  row_kept keys place key (cell ∷ cells) e =
      let both = or_false (comes_from place cell) (list_any (comes_from place) cells) e in
      λ i. cell_kept keys place key cell both.0 i ∷ row_kept keys place key cells both.1 i

  record Ran (start : Keys) (table : TableId) (run : List ℕ) (sofar end : Sofar) : Type 0 where
    pub answer : List (List Value) × Tables
    pub done : one_by_one schema sofar.tables table (map (row_sent schema changes start) run) ≡ Ok answer
    pub fresh : list_any (is_stale schema changes table) answer.0 ≡ false
    pub is : end ≡ record { tables = answer.1; keys = with_keys sofar.keys run answer.0 }

  ran : (start : Keys) (table : TableId) (run : List ℕ) (sofar end : Sofar) → AreOf table run → Apart run → AllByRecursion (λ place. row_sent schema changes sofar.keys place ≡ row_sent schema changes start place) run → Goes schema changes sofar (map (insert_of changes) run) end → Ran start table run sofar end
  ran start table [] sofar end of apart same goes = record { answer = ([], sofar.tables); done = refl; fresh = refl; is = sym goes.0 }
  ran start table (place ∷ rest) sofar end of apart same goes =
      let sent = one_sent sofar goes.1.0 place goes.1.1 in
      let then : Sofar = record { tables = sent.tables; keys = (place, sent.key) ∷ sofar.keys } in
      let more = ran start table rest then end of.1 apart.1
      (all_both (λ other. list_any (comes_from place) (first_cells schema changes other) ≡ false) (λ other. row_sent schema changes sofar.keys other ≡ row_sent schema changes start other) (λ other. row_sent schema changes then.keys other ≡ row_sent schema changes start other)
      (λ other apart was. row_kept sofar.keys place sent.key (first_cells schema changes other) apart ∙ was) rest apart.0 same.1)
      (subst (λ s. Goes schema changes s (map (insert_of changes) rest) end) sent.is goes.1.2) in
      let first : apply schema sofar.tables (Insert table (row_sent schema changes start place ∷ [])) ≡ Ok (sent.key ∷ [], sent.tables) =
      (λ i. apply schema sofar.tables (Insert (sym of.0 i) (sym same.0 i ∷ []))) ∙ sent.done in
      record {
        answer = (sent.key ∷ more.answer.0, more.answer.1);
        done =
            ap (λ o. and_then o (λ one. and_then (one_by_one schema one.1 table (map (row_sent schema changes start) rest)) (λ others. Ok (one.0 ++ others.0, others.1)))) first
            ∙ ap (λ o. and_then o (λ others. Ok (sent.key ∷ others.0, others.1))) more.done;
        fresh = ap (λ b. b || list_any (is_stale schema changes table) more.answer.0) (subst (λ t. is_stale schema changes t sent.key ≡ false) of.0 sent.fresh) ∙ more.fresh;
        is = more.is;
      }

  pub all_same : (keys : Keys) (run : List ℕ) → AllByRecursion (λ place. row_sent schema changes keys place ≡ row_sent schema changes keys place) run
  all_same keys [] = tt
  all_same keys (place ∷ run) = (refl, all_same keys run)

  some_row : {A : Type 0} (x : A) (xs : List A) → 0 < length (x ∷ xs)
  some_row x xs = omega arith

  run_sent : (place : ℕ) (places : List ℕ) (sofar end : Sofar) → IsRun (place ∷ places) → Goes schema changes sofar (map (insert_of changes) (place ∷ places)) end → send schema changes sofar (insert_run changes (place ∷ places)) ≡ Ok end
  unfolding send
  run_sent place places sofar end is goes =
      let table : TableId = table_at changes place in
      let of : AreOf table (place ∷ places) = subst (λ t. AreOf t (place ∷ places)) (sym is.1.1.0) is.1.1 in
      let all = ran sofar.keys table (place ∷ places) sofar end of is.0 (all_same sofar.keys (place ∷ places)) goes in
      ap (after_outcome schema changes sofar (insert_run changes (place ∷ places)))
      (as_one schema sofar.tables table (map (row_sent schema changes sofar.keys) (place ∷ places)) all.answer (some_row (row_sent schema changes sofar.keys place) (map (row_sent schema changes sofar.keys) places)) all.done)
      ∙ ap (λ b. cond b (Err (table, Missing)) (Ok (record { tables = all.answer.1; keys = with_keys sofar.keys (place ∷ places) all.answer.0 }))) all.fresh
      ∙ ap Ok (sym all.is)

  -- ---- plans in two parts

  goes_legal : (sofar end : Sofar) (plan : List Planned) → Goes schema changes sofar plan end → Legal schema sofar.tables
  goes_legal sofar end [] goes = goes.1
  goes_legal sofar end (planned ∷ plan) goes = goes.0

  goes_end : (sofar end : Sofar) (plan : List Planned) → Goes schema changes sofar plan end → Legal schema end.tables
  goes_end sofar end [] goes = subst (λ s. Legal schema s.tables) goes.0 goes.1
  goes_end sofar end (planned ∷ plan) goes = goes_end goes.1.0 end plan goes.1.2

  goes_split : (sofar end : Sofar) (plan more : List Planned) → Goes schema changes sofar (plan ++ more) end → (middle : Sofar) × Goes schema changes sofar plan middle × Goes schema changes middle more end
  goes_split sofar end [] more goes = (sofar, (refl, goes_legal sofar end more goes), goes)
  goes_split sofar end (planned ∷ plan) more goes =
      let rest = goes_split goes.1.0 end plan more goes.1.2 in
      (rest.0, (goes.0, (goes.1.0, goes.1.1, rest.1)), rest.2)

  run_goes : (run : List ℕ) (sofar end : Sofar) → IsRun run → Goes schema changes sofar (map (insert_of changes) run) end → Goes schema changes sofar (map (insert_run changes) (nonempty_run run)) end
  run_goes [] sofar end is goes = goes
  run_goes (place ∷ places) sofar end is goes = (goes.0, (end, run_sent place places sofar end is goes, (refl, goes_end sofar end (map (insert_of changes) (place ∷ places)) goes)))

  -- ---- a row that joins a run

  all_behind : (P : ℕ → Type 0) (xs : List ℕ) (x : ℕ) → AllByRecursion P xs → P x → AllByRecursion P (xs ++ x ∷ [])
  all_behind P [] x all here = (here, tt)
  all_behind P (y ∷ ys) x all here = (all.0, all_behind P ys x all.1 here)

  apart_behind : (run : List ℕ) (place : ℕ) → Apart run → AllByRecursion (λ other. list_any (comes_from other) (first_cells schema changes place) ≡ false) run → Apart (run ++ place ∷ [])
  apart_behind [] place apart none = (tt, tt)
  apart_behind (other ∷ rest) place apart none =
      (all_behind (λ later. list_any (comes_from other) (first_cells schema changes later) ≡ false) rest place apart.0 none.0, apart_behind rest place apart.1 none.1)

  abbrev GoesWith : ℕ → ℕ → Type 0
  GoesWith place other = (table_at changes other ≡ table_at changes place) × (list_any (comes_from other) (first_cells schema changes place) ≡ false)

  with_one : (place other : ℕ) → goes_with schema changes place other ≡ true → GoesWith place other
  with_one place other e =
      let two = and_true (nat_eq (table_at changes other).0 (table_at changes place).0 && cond (leaves_key schema changes other) (leaves_key schema changes place) (not (leaves_key schema changes place))) (not (new_refers schema changes place other)) e in
      let one = and_true (nat_eq (table_at changes other).0 (table_at changes place).0) (cond (leaves_key schema changes other) (leaves_key schema changes place) (not (leaves_key schema changes place))) two.0 in
      let number : (table_at changes other).0 ≡ (table_at changes place).0 = eqb-true (table_at changes other).0 (table_at changes place).0 one.0 in
      ((λ i. record { 0 = number i }), (or_false (list_any (comes_from other) (first_cells schema changes place)) _ (not_true (new_refers schema changes place other) two.1)).0)

  run_table : (run : List ℕ) (place : ℕ) → ((table : TableId) × AreOf table run) → AllByRecursion (GoesWith place) run → (table : TableId) × AreOf table (run ++ place ∷ [])
  run_table [] place of with = (table_at changes place, (refl, tt))
  run_table (other ∷ rest) place of with = (of.0, all_behind (λ p. table_at changes p ≡ of.0) (other ∷ rest) place of.1 (sym with.0.0 ∙ of.1.0))

  pub joins_run : (run : List ℕ) (place : ℕ) → IsRun run → joins schema changes run place ≡ true → IsRun (run ++ place ∷ [])
  joins_run run place is e =
      let all = all_map (λ other. goes_with schema changes place other ≡ true) (GoesWith place) (λ other goes. with_one place other goes) run
      (all_from (goes_with schema changes place) run (and_true _ (list_all (goes_with schema changes place) run) e).1) in (
        apart_behind run place is.0 (all_map (GoesWith place) (λ other. list_any (comes_from other) (first_cells schema changes place) ≡ false) (λ other both. both.1) run all),
        run_table run place is.1 all,
      )

  -- ---- all runs

  abbrev Cuts : List Planned → Sofar → List ℕ → Type 0
  Cuts more end places = (run : List ℕ) (sofar : Sofar) → IsRun run → Goes schema changes sofar (map (insert_of changes) (run ++ places) ++ more) end → Goes schema changes sofar (map (insert_run changes) (runs_from schema changes run places) ++ more) end

  cut_by : (more : List Planned) (end : Sofar) (place : ℕ) (places run : List ℕ) (sofar : Sofar) (b : Bool) → joins schema changes run place ≡ b → Cuts more end places → IsRun run → Goes schema changes sofar (map (insert_of changes) (run ++ place ∷ places) ++ more) end → Goes schema changes sofar (map (insert_run changes) (cond b (runs_from schema changes (run ++ place ∷ []) places) (nonempty_run run ++ runs_from schema changes (place ∷ []) places)) ++ more) end
  cut_by more end place places run sofar true e cuts is goes =
      cuts (run ++ place ∷ []) sofar (joins_run run place is e)
      (subst (λ ps. Goes schema changes sofar (map (insert_of changes) ps ++ more) end) (sym (append_assoc run (place ∷ []) places)) goes)
  cut_by more end place places run sofar false e cuts is goes =
      let apart : map (insert_of changes) (run ++ place ∷ places) ++ more ≡ map (insert_of changes) run ++ (map (insert_of changes) (place ∷ places) ++ more) =
      ap (λ ps. ps ++ more) (map-append (insert_of changes) run (place ∷ places)) ∙ append_assoc (map (insert_of changes) run) (map (insert_of changes) (place ∷ places)) more in
      let joined : map (insert_run changes) (nonempty_run run ++ runs_from schema changes (place ∷ []) places) ++ more ≡ map (insert_run changes) (nonempty_run run) ++ (map (insert_run changes) (runs_from schema changes (place ∷ []) places) ++ more) =
      ap (λ ps. ps ++ more) (map-append (insert_run changes) (nonempty_run run) (runs_from schema changes (place ∷ []) places)) ∙ append_assoc (map (insert_run changes) (nonempty_run run)) (map (insert_run changes) (runs_from schema changes (place ∷ []) places)) more in
      let split = goes_split sofar end (map (insert_of changes) run) (map (insert_of changes) (place ∷ places) ++ more) (subst (λ ps. Goes schema changes sofar ps end) apart goes) in
      subst (λ ps. Goes schema changes sofar ps end) (sym joined)
      (goes_on schema changes sofar split.0 end (map (insert_run changes) (nonempty_run run)) (map (insert_run changes) (runs_from schema changes (place ∷ []) places) ++ more)
      (run_goes run sofar split.0 is split.1)
      (cuts (place ∷ []) split.0 ((tt, tt), (table_at changes place, (refl, tt))) split.2))

  cut_goes : (more : List Planned) (end : Sofar) (places : List ℕ) → Cuts more end places
  cut_goes more end [] run sofar is goes =
      let split = goes_split sofar end (map (insert_of changes) run) more (subst (λ ps. Goes schema changes sofar (map (insert_of changes) ps ++ more) end) (append_none run) goes) in
      goes_on schema changes sofar split.0 end (map (insert_run changes) (nonempty_run run)) more (run_goes run sofar split.0 is split.1) split.2
  cut_goes more end (place ∷ places) run sofar is goes = cut_by more end place places run sofar (joins schema changes run place) refl (cut_goes more end places) is goes

  -- where the rows of an order are accepted one by one, so are they in runs
  pub runs_go : (sofar end : Sofar) (order : List ℕ) (more : List Planned) → Goes schema changes sofar (map (insert_of changes) order ++ more) end → Goes schema changes sofar (map (insert_run changes) (runs schema changes order) ++ more) end
  runs_go sofar end order more goes = cut_goes more end order [] sofar (tt, (record { 0 = 0 }, tt)) goes
