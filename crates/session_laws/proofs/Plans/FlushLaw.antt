-- Where a plan is accepted, it leaves the stated tables, and legal ones.
use Rattle.std.proofs.Common.{◌≡◌, ◌⊎◌, inl, inr, ℕ, zero, suc, ◌<◌, Bool, true, false, not, cond, ◌&&◌, ◌||◌, eqb, List, [], ◌∷◌, ◌++◌, map, length, get_or, Option, None, Some, Ok, refl, sym, ap, ◌∙◌, subst, arith}
use Rattle.std.specs.List.{AllByRecursion, IsDistinct, filter, fold, list_all, list_any}
use Rattle.std.specs.Option.{is_some, option_and_then}
use Rattle.base_core.specs.declared.ids.ColumnNo.{ColumnNo}
use Rattle.base_core.specs.declared.ids.TableId.{TableId}
use Rattle.base_core.proofs.Tests.{or_first, or_then}
use Rattle.schema_core.specs.declared.changes.ChangedRow.{ChangedRow}
use Rattle.schema_core.specs.declared.changes.GoneRow.{GoneRow}
use Rattle.schema_core.specs.declared.changes.NewRow.{NewRow}
use Rattle.schema_core.specs.declared.changes.RowCell.{RowCell}
use Rattle.schema_core.specs.declared.changes.RowChanges.{RowChanges}
use Rattle.schema_core.specs.Catalog.{Catalog, IsTable}
use Rattle.schema_core.specs.Tables.{Legal, Rows, Tables, is_created, row_under, rows_in}
use Rattle.flush_order.specs.Cells.{is_late, no_row}
use Rattle.flush_order.specs.Orders.{delete_order, gone_rows, insert_order, no_gone, place_of_gone}
use Rattle.row_order.specs.Places.{IsOrder, is_among}
use Rattle.flush_order.specs.Refers.{new_refers}
use Rattle.flush_order.specs.Sorted.{Place, same_place}
use Rattle.flush_plan.specs.Flushing.{Sofar, is_stale}
use Rattle.flush_writes.specs.Writes.{cells_when, column_of, is_written_when, late_gone, no_changed, place_of_changed, writes_some}
use Rattle.flush_writes.specs.Runs.{runs}
use Rattle.flush_writes.specs.Writes.{insert_run}
use Rattle.flush_plan.specs.Stating.{all_placed, with_edit, edits, is_present, place_of_new, row_at, stated_tables, stated_under, written_rows}
use Rattle.session_laws.specs.Plans.Laws.{AcceptedIsLegal, AcceptedIsStated, AreDeclared, IsProjected, before, changes_to_write}
use Rattle.session_laws.specs.Plans.Premises.{IsSorted}
use Rattle.session_laws.proofs.Plans.Accepted.{Accepts, accepts_legal, accepts_of, accepts_split}
use Rattle.session_laws.proofs.Plans.Between.{early_part, is_declared}
use Rattle.session_laws.proofs.Plans.Changing.{step_is, step_of}
use Rattle.session_laws.proofs.Plans.Complete.{IsStated, known_facts, news, told_long}
use Rattle.session_laws.proofs.Plans.Clearing.{none_then}
use Rattle.session_laws.proofs.Plans.Deleting.{remove_at}
use Rattle.session_laws.proofs.Plans.DeleteOrder.{gone_covered, gone_unstated, number_of, pl}
use Rattle.session_laws.proofs.Plans.DeleteOrder as deleting
use Rattle.session_laws.proofs.Plans.FlushSteps.{Arriving, IsRight, Leaving, deletes_created, deletes_end, left_stated, updates_created, updates_end, updates_sorted, updates_present}
use Rattle.session_laws.proofs.Plans.Inserting.{Stood}
use Rattle.session_laws.proofs.Plans.Items.{Member, all_at, all_filter, every_at, member_all, member_map, among_member}
use Rattle.session_laws.proofs.Plans.Newness.{Facts, place_same, same_is, to_write_placed, to_write_under}
use Rattle.session_laws.proofs.Plans.Orders.{order_distinct, order_is}
use Rattle.session_laws.proofs.Plans.PlanLaw.{in_phases, plan_made}
use Rattle.session_laws.proofs.Plans.Puts.{Puts, order_put, puts_sorted}
use Rattle.session_laws.proofs.Plans.PutRows.{none_among, puts_created, puts_fresh, puts_free, puts_leads, puts_rows, puts_stay, puts_table, puts_there, puts_twice}
use Rattle.session_laws.proofs.Plans.Stated.{stated_created, stated_sorted}
use Rattle.session_laws.proofs.Plans.Steps.{all_steps, clear_in, each_step, early_in, late_in_steps, placed_way, stated_way}
use Rattle.session_laws.proofs.Plans.Updating.{OnWay, Step, planned_of, step_place}
use Rattle.session_laws.proofs.Plans.Whole.{whole_row}
use Rattle.session_laws.proofs.Plans.Facts.{or_false, some_of, some_or_none, true_false}

-- ---- tests on lists

pub any_at : {A : Type 0} (test : A → Bool) (xs : List A) (n : ℕ) (d : A) → n < length xs → test (get_or xs n d) ≡ true → list_any test xs ≡ true
any_at test [] n d h e = absurd (omega arith)
any_at test (x ∷ xs) zero d h e = or_first (test x) (list_any test xs) e
any_at test (x ∷ xs) (suc n) d h e = or_then (test x) (list_any test xs) (any_at test xs n d (omega arith) e)

all_true : {A : Type 0} (test : A → Bool) (xs : List A) → AllByRecursion (λ x. test x ≡ true) xs → list_all test xs ≡ true
all_true test [] all = refl
all_true test (x ∷ xs) all = (λ i. all.0 i && all_true test xs all.1 i)

-- a row that is written is written early, or late
half_step : (b : Bool) (cell : ColumnNo × RowCell) (early late : List (ColumnNo × RowCell)) → (writes_some (cond (cond b false (not false)) (cell ∷ early) early) ≡ true) ⊎ (writes_some (cond (cond b true (not true)) (cell ∷ late) late) ≡ true)
half_step true cell early late = inr refl
half_step false cell early late = inl refl

or_there : (a b : Bool) → (a ≡ true → b ≡ true) → (not a || b) ≡ true
or_there true b e = e refl
or_there false b e = refl

module _ (schema : Catalog) (changes : RowChanges) where
  halves : (row : ChangedRow) → writes_some row.cells ≡ true → (writes_some (cells_when schema changes false row).1 ≡ true) ⊎ (writes_some (cells_when schema changes true row).1 ≡ true)
  halves row some = by row.cells some
    where
      by : (cells : List (ColumnNo × RowCell)) → writes_some cells ≡ true → (writes_some (filter (λ cell. is_written_when schema changes false row.name.table cell.0) cells) ≡ true) ⊎ (writes_some (filter (λ cell. is_written_when schema changes true row.name.table cell.0) cells) ≡ true)
      by [] e = absurd (true_false (sym e))
      by (cell ∷ cells) e = half_step (is_late schema changes row.name.table (column_of schema row.name.table cell.0)) cell (filter (λ c. is_written_when schema changes false row.name.table c.0) cells) (filter (λ c. is_written_when schema changes true row.name.table c.0) cells)

-- the phases of a plan that was accepted
pub record WasAccepted (schema : Catalog) (old : Tables) (changes : RowChanges) (order gone : List ℕ) (end : Sofar) : Type 0 where
  pub placed : Sofar
  pub middle : Sofar
  pub puts : Puts schema changes (before old) order placed
  pub updates : Accepts schema changes placed (map planned_of (all_steps schema changes order)) middle
  pub deletes : Accepts schema changes middle (map remove_at (map (λ n. place_of_gone schema (get_or (gone_rows schema changes) n no_gone)) gone)) end

module _ (schema : Catalog) (old : Tables) (changes : RowChanges) (order gone : List ℕ) (end : Sofar) (projected : IsProjected schema changes) (sorted : IsSorted old) (legal : Legal schema old) (declared : AreDeclared schema changes) (ordered : insert_order schema changes ≡ Ok order) (gone_order : delete_order schema changes (gone_rows schema changes) ≡ Ok gone) (was : WasAccepted schema old changes order gone end) where
  abbrev placed : Sofar
  placed = was.placed

  abbrev changed_at : ℕ → ChangedRow
  changed_at n = get_or changes.changed n no_changed

  abbrev gone_at : ℕ → GoneRow
  gone_at n = get_or changes.gone n no_gone

  abbrev new_at_end : ℕ → Place
  new_at_end p = place_of_new changes placed.keys p

  once : IsDistinct eqb order
  once = order_distinct (new_refers schema changes) (length changes.fresh) order ordered

  is_order : IsOrder (new_refers schema changes) (length changes.fresh) order
  is_order = order_is (new_refers schema changes) (length changes.fresh) order ordered

  sorted_placed : IsSorted placed.tables
  sorted_placed = puts_sorted schema changes (before old) placed order was.puts sorted

  created_placed : (table : TableId) → is_created placed.tables table ≡ is_created old table
  created_placed table = puts_created schema changes order (before old) placed table was.puts

  -- ---- what is changed or deleted was there

  -- a row that stands once all INSERTs are done, and is a changed or deleted one, is an old one
  old_there : (q : Place) → is_stale schema changes q.0 q.1 ≡ true → is_present placed.tables q ≡ true → is_present old q ≡ true
  old_there q stale there =
      let row = some_of (row_at placed.tables q) there in
      elim (puts_rows schema changes order (before old) placed q row.0 once sorted was.puts row.1) [
        | inl at ↦ ap is_some at
        | inr new ↦ absurd (true_false (sym stale ∙ ap (λ p. is_stale schema changes p.0 p.1) (sym new.2) ∙ puts_fresh schema changes order (before old) placed new.0 once was.puts new.1))
      ]

  step_there : (step : Step) → Member step (all_steps schema changes order) → is_present placed.tables (step_place placed.keys step) ≡ true
  step_there step is =
      member_all (λ s. is_present placed.tables (step_place placed.keys s) ≡ true) (all_steps schema changes order) step
      (updates_present schema changes (all_steps schema changes order) placed was.middle sorted_placed was.updates) is

  changed_stale : (n : ℕ) → n < length changes.changed → writes_some (changed_at n).cells ≡ true → is_stale schema changes (changed_at n).name.table (changed_at n).key ≡ true
  changed_stale n h some =
      or_first (list_any (λ row. same_place (place_of_changed row) (place_of_changed (changed_at n)) && writes_some row.cells) changes.changed) (list_any (λ row. same_place (place_of_gone schema row) (place_of_changed (changed_at n))) changes.gone)
      (any_at (λ row. same_place (place_of_changed row) (place_of_changed (changed_at n)) && writes_some row.cells) changes.changed n no_changed h
      (λ i. place_same (place_of_changed (changed_at n)) (place_of_changed (changed_at n)) refl i && some i))

  gone_stale : (n : ℕ) → n < length changes.gone → is_stale schema changes (place_of_gone schema (gone_at n)).0 (place_of_gone schema (gone_at n)).1 ≡ true
  gone_stale n h =
      or_then (list_any (λ row. same_place (place_of_changed row) (place_of_gone schema (gone_at n)) && writes_some row.cells) changes.changed) (list_any (λ row. same_place (place_of_gone schema row) (place_of_gone schema (gone_at n))) changes.gone)
      (any_at (λ row. same_place (place_of_gone schema row) (place_of_gone schema (gone_at n))) changes.gone n no_gone h
      (place_same (place_of_gone schema (gone_at n)) (place_of_gone schema (gone_at n)) refl))

  changed_there : (n : ℕ) → n < length changes.changed → writes_some (changed_at n).cells ≡ true → is_present old (place_of_changed (changed_at n)) ≡ true
  changed_there n h some =
      old_there (place_of_changed (changed_at n)) (changed_stale n h some)
      (elim (halves schema changes (changed_at n) some) [
        | inl early ↦ ap (is_present placed.tables) (sym (step_is placed.keys false (cells_when schema changes false (changed_at n)))) ∙ step_there (step_of false (cells_when schema changes false (changed_at n))) (early_in schema changes projected order n h early)
        | inr late ↦ ap (is_present placed.tables) (sym (step_is placed.keys true (cells_when schema changes true (changed_at n)))) ∙ step_there (step_of true (cells_when schema changes true (changed_at n))) (late_in_steps schema changes projected order n (all_at (λ (row : ChangedRow). IsTable schema row.name.table) changes.changed n no_changed declared h) h late)
      ])

  gone_created : (n : ℕ) → n < length changes.gone → is_created old (gone_at n).name.table ≡ true
  gone_created n h =
      let number = number_of schema changes projected.gone_once gone gone_order n h in
      let among : is_among gone number.0 ≡ true = (deleting.is_order schema changes projected.gone_once gone gone_order).each number.0 number.1 in
      let place : ℕ → Place = pl schema changes projected.gone_once gone gone_order in
      let sorted_middle : IsSorted was.middle.tables = updates_sorted schema changes (all_steps schema changes order) placed was.middle sorted_placed was.updates in
      sym (updates_created schema changes (all_steps schema changes order) placed was.middle (gone_at n).name.table was.updates ∙ created_placed (gone_at n).name.table)
      ∙ ap (λ (r : GoneRow). is_created was.middle.tables r.name.table) (sym number.2)
      ∙ member_all (λ q. is_created was.middle.tables q.0 ≡ true) (map place gone) (place number.0)
      (deletes_created schema changes (map place gone) was.middle end sorted_middle was.deletes)
      (member_map place number.0 gone (among_member gone number.0 among))

  gone_there : (n : ℕ) → n < length changes.gone → writes_some (late_gone schema changes (gone_at n)).1 ≡ true → is_present old (place_of_gone schema (gone_at n)) ≡ true
  gone_there n h some =
      old_there (place_of_gone schema (gone_at n)) (gone_stale n h)
      (ap (is_present placed.tables) (sym (step_is placed.keys true (late_gone schema changes (gone_at n))))
      ∙ step_there (step_of true (late_gone schema changes (gone_at n))) (clear_in schema changes projected order n (is_declared schema old legal (gone_at n).name.table (gone_created n h)) h some))

  written_created : AllByRecursion (λ (row : ChangedRow). is_created old row.name.table ≡ true) (written_rows changes)
  written_created =
      all_filter (λ (row : ChangedRow). is_created old row.name.table ≡ true) (λ row. writes_some row.cells) changes.changed
      (every_at (λ (row : ChangedRow). writes_some row.cells ≡ true → is_created old row.name.table ≡ true) changes.changed no_changed
      (λ n h some. there_created (place_of_changed (changed_at n)) (rows_in old (changed_at n).name.table) refl (changed_there n h some)))
    where
      there_created : (q : Place) (o : Option Rows) → rows_in old q.0 ≡ o → is_present old q ≡ true → is_some o ≡ true
      there_created q None e there = sym (ap (λ p. is_some (option_and_then (λ rows. row_under rows q.1) p)) e) ∙ there
      there_created q (Some rows) e there = refl

  -- ---- what is stated

  abbrev after : Tables
  after = fold with_edit old (edits schema old changes order placed)

  facts : Facts schema old changes order placed after
  facts = record {
    tables = λ i.
        all_true (λ row. is_created old row.name.table) changes.fresh (every_at (λ (row : NewRow). is_created old row.name.table ≡ true) changes.fresh no_row (λ n h. puts_table schema changes order (before old) placed n was.puts (is_order.each n h))) i
        && all_true (λ row. is_created old row.name.table) (written_rows changes) written_created i
        && all_true (λ row. is_created old row.name.table) changes.gone (every_at (λ (row : GoneRow). is_created old row.name.table ≡ true) changes.gone no_gone gone_created) i;
    rows = λ i.
        all_true (λ row. is_present old (row.name.table, row.key)) (written_rows changes)
        (all_filter (λ (row : ChangedRow). is_present old (row.name.table, row.key) ≡ true) (λ row. writes_some row.cells) changes.changed
        (every_at (λ (row : ChangedRow). writes_some row.cells ≡ true → is_present old (row.name.table, row.key) ≡ true) changes.changed no_changed changed_there)) i
        && all_true (λ row. not (writes_some (late_gone schema changes row).1) || is_present old (place_of_gone schema row)) changes.gone
        (every_at (λ (row : GoneRow). (not (writes_some (late_gone schema changes row).1) || is_present old (place_of_gone schema row)) ≡ true) changes.gone no_gone
        (λ n h. or_there (writes_some (late_gone schema changes (gone_at n)).1) (is_present old (place_of_gone schema (gone_at n))) (gone_there n h))) i;
    free = none_among (λ place. is_present old (new_at_end place)) order
        (λ p among there. true_false (sym there ∙ ap is_some (puts_free schema changes order (before old) placed p once sorted was.puts among)));
    gone = none_among (λ place. list_any (λ row. same_place (place_of_gone schema row) (new_at_end place)) changes.gone) order
        (λ p among same. true_false (sym same
        ∙ (or_false (list_any (λ row. same_place (place_of_changed row) (new_at_end p) && writes_some row.cells) changes.changed) (list_any (λ row. same_place (place_of_gone schema row) (new_at_end p)) changes.gone)
        (puts_fresh schema changes order (before old) placed p once was.puts among)).1));
    twice = puts_twice schema changes same_place same_is order (before old) placed once sorted was.puts;
    is = refl;
  }

  keys : all_placed schema changes old order ≡ Some placed
  unfolding all_placed
  keys = puts_leads schema changes (before old) placed order was.puts

  states : stated_tables schema old (changes_to_write changes) order ≡ Some after
  unfolding stated_tables
  states =
      ap (stated_under schema old (changes_to_write changes) order) (to_write_placed schema changes old order ∙ keys)
      ∙ to_write_under schema old changes order placed after
      ∙ (λ i. cond (facts.tables i && facts.rows i && (not (facts.free i) && not (facts.gone i) && not (facts.twice i))) (Some after) None)

  told : IsStated schema old changes order placed after
  told = record {
    projected = projected;
    sorted = sorted;
    legal = legal;
    ordered = ordered;
    keys = keys;
    states = states;
  }

  -- ---- what is left

  stood : Stood schema changes old after placed order [] placed
  stood = record {
    sorted = sorted_placed;
    created = created_placed;
    olds = λ q row at. puts_stay schema changes order (before old) placed q row sorted was.puts at;
    done = λ place among. inr (ap is_some (puts_there schema changes order (before old) placed place once sorted was.puts among).1);
    rows = λ q row at.
        elim (puts_rows schema changes order (before old) placed q row once sorted was.puts at) [
          | inl was_old ↦ inl was_old
          | inr new ↦
              let stands = (news schema old changes order placed after told).stands new.0 row new.1 (ap (row_at placed.tables) new.2 ∙ at) in
              inr (new.0, new.1, refl, new.2, (stands.0, sym (ap (row_at after) new.2) ∙ stands.1, stands.2 ∙ ap (λ p. early_part schema changes p stands.0) new.2))
        ];
  }

  coming : Arriving schema changes old after placed.keys (all_steps schema changes order) placed
  coming = record {
    known = refl;
    sorted = sorted_placed;
    created = created_placed;
    there = λ q stands.
        elim ((news schema old changes order placed after told).cover q stands) [
          | inl was_old ↦ let row = some_of (row_at old q) was_old in ap is_some (stood.olds q row.0 row.1)
          | inr new ↦ ap (is_present placed.tables) (sym new.2) ∙ ap is_some (puts_there schema changes order (before old) placed new.0 once sorted was.puts new.1).1
        ];
    ways = λ q row at stands.
        elim (stood.rows q row at) [
          | inl was_old ↦ stated_way schema old changes order placed after told q row was_old stands
          | inr new ↦ subst (λ r. OnWay schema changes old after placed.keys (all_steps schema changes order) q r) (sym new.4.2)
              (subst (λ p. OnWay schema changes old after placed.keys (all_steps schema changes order) p (early_part schema changes p new.4.0)) new.3
              (placed_way schema old changes order placed after told new.0 new.4.0 new.1 (ap (row_at after) new.3 ∙ new.4.1)))
        ];
    others = λ q row at.
        elim (stood.rows q row at) [
          | inl was_old ↦ inr (ap is_some was_old)
          | inr new ↦ inl (ap is_some new.4.1)
        ];
  }

  arrived : Arriving schema changes old after placed.keys [] was.middle
  arrived =
      updates_end schema changes old after placed.keys (all_steps schema changes order) placed was.middle
      (each_step schema old changes order placed after told (IsRight schema changes old after placed.keys) (λ step is. inr is)
      (λ n h some. inl (ap (row_at after) (step_is placed.keys true (late_gone schema changes (gone_at n))) ∙ none_then schema old changes order placed after told n h)))
      coming was.updates

  leaving : Leaving schema changes after (map (pl schema changes projected.gone_once gone gone_order) gone) was.middle
  leaving = record {
    sorted = arrived.sorted;
    created = λ t. arrived.created t ∙ sym (stated_created schema old changes order placed after sorted (known_facts schema old changes order placed after told) t);
    rows = λ q written at.
        let row = some_of (row_at was.middle.tables q) (arrived.there q (ap is_some at)) in
        row.1 ∙ ap Some (whole_row schema changes old after placed q row.0 written (told_long schema old changes order placed after told q written (inr at)) at (arrived.ways q row.0 row.1 (ap is_some at)));
    others = λ q there.
        let row = some_of (row_at was.middle.tables q) there in
        elim (arrived.others q row.0 row.1) [
          | inl stands ↦ inl stands
          | inr was_old ↦ elim (some_or_none (row_at after q)) [
            | inl written ↦ inl (ap is_some written.1)
            | inr none ↦ inr (gone_covered schema changes projected.gone_once gone gone_order old order placed after told q none was_old)
          ]
        ];
  }

  pub leaves_stated : stated_tables schema old (changes_to_write changes) order ≡ Some end.tables
  leaves_stated =
      let last =
      deletes_end schema changes after (map (pl schema changes projected.gone_once gone gone_order) gone) was.middle end
      (gone_unstated schema changes projected.gone_once gone gone_order old order placed after told) leaving was.deletes in
      states ∙ ap Some (sym (left_stated schema changes after end (stated_sorted schema old changes order placed after sorted (known_facts schema old changes order placed after told)) last))

pub accepted_stated : AcceptedIsStated
accepted_stated schema old changes order sent sofar projected sorted legal declared ordered e done =
    let m = plan_made schema changes order sent ordered e in
    let place : ℕ → Place = pl schema changes projected.gone_once m.gone m.ordered in
    let all = accepts_of schema changes (before old) sofar sent done in
    let inserts = map (insert_run changes) (runs schema changes order) in
    let updates = map planned_of (all_steps schema changes order) in
    let deletes = map remove_at (map place m.gone) in
    let one = accepts_split schema changes (before old) sofar inserts (updates ++ deletes) (subst (λ plan. Accepts schema changes (before old) plan sofar) (m.is ∙ in_phases schema changes order m.gone place refl) all) in
    let two = accepts_split schema changes one.0 sofar updates deletes one.2 in
    leaves_stated schema old changes order m.gone sofar projected sorted legal declared ordered m.ordered
    (record {
      placed = one.0;
      middle = two.0;
      puts = order_put schema changes order (before old) one.0 sorted one.1;
      updates = two.1;
      deletes = two.2;
    })

pub accepted_legal : AcceptedIsLegal
accepted_legal schema old changes sent sofar legal formed done = accepts_legal schema changes (before old) sofar sent formed legal (accepts_of schema changes (before old) sofar sent done)
