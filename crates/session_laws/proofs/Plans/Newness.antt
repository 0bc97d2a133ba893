-- What the conditions of the stated tables say, one by one.
use Rattle.std.proofs.Common.{◌≡◌, inl, inr, ℕ, Bool, true, false, not, cond, ◌&&◌, ◌||◌, eqb, List, [], ◌∷◌, ◌++◌, map, Option, None, Some, refl, sym, ap, ◌∙◌, subst}
use Rattle.std.proofs.lemmas.Bool.{eq-eqb, eqb-true}
use Rattle.std.specs.Ordering.{is_eq}
use Rattle.std.specs.Cmp.{tied_itself}
use Rattle.std.specs.List.{filter, fold, list_all, list_any}
use Rattle.std.specs.Option.{is_some}
use Rattle.base_core.specs.declared.value.Value.{Value}
use Rattle.base_core.specs.Order.{values_cmp}
use Rattle.schema_core.specs.declared.changes.ChangedRow.{ChangedRow}
use Rattle.schema_core.specs.declared.changes.RowChanges.{RowChanges}
use Rattle.schema_core.specs.Catalog.{Catalog}
use Rattle.schema_core.specs.Declaration.{some_two}
use Rattle.schema_core.specs.Tables.{Rows, Tables, is_created, rows_in, same_values}
use Rattle.table_laws.proofs.RowFits.{and_true}
use Rattle.table_laws.proofs.SameValues.{is_equal, same_key}
use Rattle.flush_order.specs.Cells.{table_at}
use Rattle.flush_order.specs.Orders.{place_of_gone}
use Rattle.row_order.specs.Places.{is_among}
use Rattle.flush_order.specs.Sorted.{Place, same_place}
use Rattle.flush_plan.specs.Flushing.{Sofar, is_stale, key_of_new}
use Rattle.flush_writes.specs.Writes.{late_gone, place_of_changed, writes_some}
use Rattle.flush_plan.specs.Stating.{all_placed, edit_changed, edit_gone, edit_new, edits, is_present, keys_are_new, place_new, place_of_new, place_on, placed_in, row_at, rows_stand, stated_tables, stated_under, tables_stand, with_edit, written_rows}
use Rattle.session_laws.specs.Plans.Laws.{RowsWithoutCellsStateNothing, before, changes_to_write}
use Rattle.session_laws.proofs.Plans.Facts.{none_some, not_true, or_false, true_false, or_cases}
use Rattle.base_core.proofs.Exact.{values_total}

pub or_none : (a b : Bool) → a ≡ false → b ≡ false → (a || b) ≡ false
or_none true b e f = e
or_none false b e f = f

none_there : (o : Option (List Value)) → is_some o ≡ false → o ≡ None
none_there None e = refl
none_there (Some row) e = absurd (true_false e)

same_tables_some : (x y : Tables) → Some x ≡ Some y → x ≡ y
same_tables_some x y e = cc

-- what passes a test passes it again
kept_again : {A : Type 0} (test : A → Bool) (xs : List A) → filter test (filter test xs) ≡ filter test xs
kept_again test [] = refl
kept_again test (x ∷ xs) = by (test x) refl (kept_again test xs)
  where
    by : (b : Bool) → test x ≡ b → filter test (filter test xs) ≡ filter test xs → filter test (cond b (x ∷ filter test xs) (filter test xs)) ≡ cond b (x ∷ filter test xs) (filter test xs)
    by true e more = ap (λ (c : Bool). cond c (x ∷ filter test (filter test xs)) (filter test (filter test xs))) e ∙ ap (λ (rest : List _). x ∷ rest) more
    by false e more = more

all_kept : {A : Type 0} (test kept : A → Bool) (xs : List A) → list_all test xs ≡ true → list_all test (filter kept xs) ≡ true
all_kept test kept [] all = refl
all_kept test kept (x ∷ xs) all =
    let both = and_true (test x) (list_all test xs) all in
    by (kept x) both.0 (all_kept test kept xs both.1)
  where
    by : (b : Bool) → test x ≡ true → list_all test (filter kept xs) ≡ true → list_all test (cond b (x ∷ filter kept xs) (filter kept xs)) ≡ true
    by true here more = (λ i. here i && more i)
    by false here more = more

-- ---- places

pub place_same : (one other : Place) → one ≡ other → same_place one other ≡ true
place_same one other e =
    ap (same_place one) (sym e) ∙ (λ i. eq-eqb one.0.0 one.0.0 refl i && is_eq (tied_itself values_total one.1 i))

pub same_is : (one other : Place) → same_place one other ≡ true → one ≡ other
same_is one other e =
    let both = and_true (eqb one.0.0 other.0.0) (same_values one.1 other.1) e in
    λ i. (record { 0 = eqb-true one.0.0 other.0.0 both.0 i }, same_key one.1 other.1 (is_equal (values_cmp one.1 other.1) both.1) i)

-- ---- members

pub any_among : (test : ℕ → Bool) (xs : List ℕ) (x : ℕ) → list_any test xs ≡ false → is_among xs x ≡ true → test x ≡ false
any_among test [] x none among = absurd (true_false (sym among))
any_among test (y ∷ ys) x none among =
    let both = or_false (test y) (list_any test ys) none in
    elim (or_cases (eqb x y) (is_among ys x) among) [
      | inl here ↦ subst (λ z. test z ≡ false) (sym (eqb-true x y here)) both.0
      | inr there ↦ any_among test ys x both.1 there
    ]

-- no two of the list pass the test
pub two_among : (test : ℕ → ℕ → Bool) (xs : List ℕ) (x y : ℕ) → ((a b : ℕ) → test a b ≡ test b a) → some_two test xs ≡ false → is_among xs x ≡ true → is_among xs y ≡ true → test x y ≡ true → x ≡ y
two_among test [] x y turned none p q e = absurd (true_false (sym p))
two_among test (z ∷ zs) x y turned none p q e =
    let both = or_false (list_any (λ later. test later z) zs) (some_two test zs) none in
    elim (or_cases (eqb x z) (is_among zs x) p) [
      | inl here ↦ elim (or_cases (eqb y z) (is_among zs y) q) [
        | inl also ↦ eqb-true x z here ∙ sym (eqb-true y z also)
        | inr later ↦ absurd (true_false (sym (turned y x ∙ e) ∙ ap (test y) (eqb-true x z here) ∙ any_among (λ w. test w z) zs y both.0 later))
      ]
      | inr later ↦ elim (or_cases (eqb y z) (is_among zs y) q) [
        | inl also ↦ absurd (true_false (sym e ∙ ap (test x) (eqb-true y z also) ∙ any_among (λ w. test w z) zs x both.0 later))
        | inr more ↦ two_among test zs x y turned both.1 later more e
      ]
    ]

same_turned : (one other : Place) → same_place one other ≡ same_place other one
same_turned one other = both_ways (same_place one other) (same_place other one) (λ e. place_same other one (sym (same_is one other e))) (λ e. place_same one other (sym (same_is other one e)))
  where
    both_ways : (a b : Bool) → (a ≡ true → b ≡ true) → (b ≡ true → a ≡ true) → a ≡ b
    both_ways true true f g = refl
    both_ways true false f g = absurd (true_false (sym (f refl)))
    both_ways false true f g = absurd (true_false (sym (g refl)))
    both_ways false false f g = refl

-- ---- the keys of new rows do not rest on the changed ones

module _ (schema : Catalog) (changes : RowChanges) where
  to_write_one : (sofar : Sofar) (place : ℕ) → place_new schema (changes_to_write changes) sofar place ≡ place_new schema changes sofar place
  unfolding place_new
  to_write_one sofar place = by (rows_in sofar.tables (table_at changes place))
    where
      by : (found : Option Rows) → placed_in schema (changes_to_write changes) sofar place found ≡ placed_in schema changes sofar place found
      by None = refl
      by (Some rows) = refl

  to_write_from : (places : List ℕ) (o : Option Sofar) → fold (place_on schema (changes_to_write changes)) o places ≡ fold (place_on schema changes) o places
  to_write_from [] o = refl
  to_write_from (place ∷ places) None = to_write_from places None
  to_write_from (place ∷ places) (Some sofar) =
      to_write_from places (place_new schema (changes_to_write changes) sofar place)
      ∙ ap (λ (o : Option Sofar). fold (place_on schema changes) o places) (to_write_one sofar place)

  pub to_write_placed : (old : Tables) (order : List ℕ) → all_placed schema (changes_to_write changes) old order ≡ all_placed schema changes old order
  unfolding all_placed
  to_write_placed old order = to_write_from order (Some (before old))

module _ (schema : Catalog) (old : Tables) (changes : RowChanges) (order : List ℕ) (placed : Sofar) (after : Tables) where
  -- the conditions under which tables are stated, and what they are
  pub record Facts : Type 0 where
    pub tables : tables_stand old (changes_to_write changes) ≡ true
    pub rows : rows_stand schema old changes ≡ true
    pub free : list_any (λ place. is_present old (place_of_new changes placed.keys place)) order ≡ false
    pub gone : list_any (λ place. list_any (λ row. same_place (place_of_gone schema row) (place_of_new changes placed.keys place)) changes.gone) order ≡ false
    pub twice : some_two (λ one other. same_place (place_of_new changes placed.keys one) (place_of_new changes placed.keys other)) order ≡ false
    pub is : after ≡ fold with_edit old (edits schema old changes order placed)

  abbrev pub is_stated : RowChanges → Bool
  is_stated named = tables_stand old named && rows_stand schema old changes && keys_are_new schema old changes order placed.keys

  facts_by : (b : Bool) → is_stated (changes_to_write changes) ≡ b → cond b (Some (fold with_edit old (edits schema old changes order placed))) None ≡ Some after → Facts
  facts_by true stands e =
      let a = and_true (tables_stand old (changes_to_write changes) && rows_stand schema old changes) (keys_are_new schema old changes order placed.keys) stands in
      let b = and_true (tables_stand old (changes_to_write changes)) (rows_stand schema old changes) a.0 in
      let free = list_any (λ place. is_present old (place_of_new changes placed.keys place)) order in
      let gone = list_any (λ place. list_any (λ row. same_place (place_of_gone schema row) (place_of_new changes placed.keys place)) changes.gone) order in
      let twice = some_two (λ one other. same_place (place_of_new changes placed.keys one) (place_of_new changes placed.keys other)) order in
      let c = and_true (not free && not gone) (not twice) a.1 in
      let d = and_true (not free) (not gone) c.0 in
      record {
        tables = b.0;
        rows = b.1;
        free = not_true free d.0;
        gone = not_true gone d.1;
        twice = not_true twice c.1;
        is = sym (same_tables_some (fold with_edit old (edits schema old changes order placed)) after e);
      }
  facts_by false stands e = absurd (none_some after e)

  -- the changed rows without cells give no edit
  pub to_write_under : stated_under schema old (changes_to_write changes) order (Some placed) ≡ cond (is_stated (changes_to_write changes)) (Some (fold with_edit old (edits schema old changes order placed))) None
  to_write_under =
      ap (λ (rows : List ChangedRow). cond (tables_stand old (changes_to_write changes)
      && (list_all (λ row. is_present old (row.name.table, row.key)) rows && list_all (λ row. not (writes_some (late_gone schema changes row).1) || is_present old (place_of_gone schema row)) changes.gone)
      && keys_are_new schema old changes order placed.keys)
      (Some (fold with_edit old (map (edit_gone schema) changes.gone ++ map (edit_changed old placed.keys) rows ++ map (edit_new schema changes placed) order))) None)
      (kept_again (λ (row : ChangedRow). writes_some row.cells) changes.changed)

  pub facts : all_placed schema changes old order ≡ Some placed → stated_tables schema old (changes_to_write changes) order ≡ Some after → Facts
  unfolding stated_tables
  facts keys e =
      facts_by (is_stated (changes_to_write changes)) refl
      (sym (ap (stated_under schema old (changes_to_write changes) order) (to_write_placed schema changes old order ∙ keys) ∙ to_write_under) ∙ e)

  pub new_free : Facts → (place : ℕ) → is_among order place ≡ true → row_at old (place_of_new changes placed.keys place) ≡ None
  new_free f place among = none_there (row_at old (place_of_new changes placed.keys place)) (any_among (λ p. is_present old (place_of_new changes placed.keys p)) order place f.free among)

  pub new_apart : Facts → (place other : ℕ) → is_among order place ≡ true → is_among order other ≡ true → place_of_new changes placed.keys place ≡ place_of_new changes placed.keys other → place ≡ other
  new_apart f place other p q same =
      two_among (λ one more. same_place (place_of_new changes placed.keys one) (place_of_new changes placed.keys more)) order place other
      (λ a b. same_turned (place_of_new changes placed.keys a) (place_of_new changes placed.keys b)) f.twice p q
      (place_same (place_of_new changes placed.keys place) (place_of_new changes placed.keys other) same)

  changed_step : (row : ChangedRow) (rows : List ChangedRow) (q : Place) (b s : Bool) → writes_some row.cells ≡ b → same_place (place_of_changed row) q ≡ s → row_at old q ≡ None → list_all (λ r. is_present old (place_of_changed r)) (cond b (row ∷ filter (λ r. writes_some r.cells) rows) (filter (λ r. writes_some r.cells) rows)) ≡ true → ((s && b) ≡ false) × (list_all (λ r. is_present old (place_of_changed r)) (filter (λ r. writes_some r.cells) rows) ≡ true)
  changed_step row rows q true true writes same free all =
      let both = and_true (is_present old (place_of_changed row)) (list_all (λ r. is_present old (place_of_changed r)) (filter (λ r. writes_some r.cells) rows)) all in
      absurd (true_false (sym both.0 ∙ ap (is_present old) (same_is (place_of_changed row) q same) ∙ ap is_some free))
  changed_step row rows q true false writes same free all = (refl, (and_true (is_present old (place_of_changed row)) (list_all (λ r. is_present old (place_of_changed r)) (filter (λ r. writes_some r.cells) rows)) all).1)
  changed_step row rows q false true writes same free all = (refl, all)
  changed_step row rows q false false writes same free all = (refl, all)

  changed_not : (rows : List ChangedRow) (q : Place) → row_at old q ≡ None → list_all (λ r. is_present old (place_of_changed r)) (filter (λ r. writes_some r.cells) rows) ≡ true → list_any (λ row. same_place (place_of_changed row) q && writes_some row.cells) rows ≡ false
  changed_not [] q free all = refl
  changed_not (row ∷ rows) q free all =
      let step = changed_step row rows q (writes_some row.cells) (same_place (place_of_changed row) q) refl refl free all in
      or_none (same_place (place_of_changed row) q && writes_some row.cells) (list_any (λ r. same_place (place_of_changed r) q && writes_some r.cells) rows) step.0 (changed_not rows q free step.1)

  pub new_fresh : Facts → (place : ℕ) → is_among order place ≡ true → is_stale schema changes (place_of_new changes placed.keys place).0 (key_of_new placed.keys place) ≡ false
  new_fresh f place among =
      let q = place_of_new changes placed.keys place in
      or_none (list_any (λ row. same_place (place_of_changed row) q && writes_some row.cells) changes.changed) (list_any (λ row. same_place (place_of_gone schema row) q) changes.gone)
      (changed_not changes.changed q (new_free f place among) (and_true (list_all (λ row. is_present old (row.name.table, row.key)) (written_rows changes)) (list_all (λ row. not (writes_some (late_gone schema changes row).1) || is_present old (place_of_gone schema row)) changes.gone) f.rows).0)
      (any_among (λ p. list_any (λ row. same_place (place_of_gone schema row) (place_of_new changes placed.keys p)) changes.gone) order place f.gone among)

-- ---- changed rows without cells state nothing

module _ (schema : Catalog) (old : Tables) (changes : RowChanges) (order : List ℕ) (after : Tables) where
  same_under : (placed : Sofar) (b : Bool) → is_stated schema old changes order placed after changes ≡ b → cond b (Some (fold with_edit old (edits schema old changes order placed))) None ≡ Some after
      → cond (is_stated schema old changes order placed after (changes_to_write changes)) (Some (fold with_edit old (edits schema old changes order placed))) None ≡ Some after
  same_under placed true stands e =
      let a = and_true (tables_stand old changes && rows_stand schema old changes) (keys_are_new schema old changes order placed.keys) stands in
      let b = and_true (tables_stand old changes) (rows_stand schema old changes) a.0 in
      let fresh = list_all (λ row. is_created old row.name.table) changes.fresh in
      let changed = list_all (λ row. is_created old row.name.table) changes.changed in
      let gone = list_all (λ row. is_created old row.name.table) changes.gone in
      let c = and_true (fresh && changed) gone b.0 in
      let d = and_true fresh changed c.0 in
      let written : list_all (λ row. is_created old row.name.table) (written_rows changes) ≡ true =
      all_kept (λ (row : ChangedRow). is_created old row.name.table) (λ row. writes_some row.cells) changes.changed d.1 in
      (λ i. cond (d.0 i && written i && c.1 i && b.1 i && a.1 i) (Some (fold with_edit old (edits schema old changes order placed))) None) ∙ e
  same_under placed false stands e = absurd (none_some after e)

  same_on : (o : Option Sofar) → stated_under schema old changes order o ≡ Some after → stated_under schema old (changes_to_write changes) order o ≡ Some after
  same_on None e = absurd (none_some after e)
  same_on (Some placed) e = to_write_under schema old changes order placed after ∙ same_under placed (is_stated schema old changes order placed after changes) refl e

pub states_same : RowsWithoutCellsStateNothing
unfolding stated_tables
states_same schema old changes order after e =
    ap (stated_under schema old (changes_to_write changes) order) (to_write_placed schema changes old order)
    ∙ same_on schema old changes order after (all_placed schema changes old order) e
