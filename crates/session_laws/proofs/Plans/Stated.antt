-- What the stated tables hold under the place of each row of the changes.
use Rattle.std.proofs.Common.{◌≡◌, ◌⊎◌, inl, inr, ℕ, Bool, true, false, not, cond, ◌||◌, eqb, List, [], ◌∷◌, ◌++◌, map, None, refl, sym, ap, ◌∙◌, subst}
use Rattle.std.proofs.lemmas.Bool.{eq-eqb, eqb-true}
use Rattle.std.specs.List.{AllByRecursion, filter, list_all, list_any}
use Rattle.std.specs.Option.{is_some}
use Rattle.base_core.specs.declared.ids.TableId.{TableId}
use Rattle.schema_core.specs.declared.changes.ChangedRow.{ChangedRow}
use Rattle.schema_core.specs.declared.changes.RowChanges.{RowChanges}
use Rattle.schema_core.specs.Catalog.{Catalog}
use Rattle.schema_core.specs.Declaration.{some_two}
use Rattle.schema_core.specs.Tables.{Tables, is_created}
use Rattle.base_core.proofs.Lists.{every_append}
use Rattle.table_laws.proofs.Entries.{all_map, all_swap, any_none}
use Rattle.table_laws.proofs.RowFits.{and_true}
use Rattle.flush_order.specs.Orders.{place_of_gone}
use Rattle.row_order.specs.Places.{is_among}
use Rattle.flush_order.specs.Sorted.{Place, same_place}
use Rattle.flush_plan.specs.Flushing.{Sofar}
use Rattle.flush_writes.specs.Writes.{late_gone, place_of_changed, writes_some}
use Rattle.flush_plan.specs.Stating.{Edit, edit_changed, edit_gone, edit_new, edits, is_present, place_of_new, row_at, written_rows}
use Rattle.session_laws.specs.Plans.Premises.{IsSorted}
use Rattle.session_laws.proofs.Plans.Editing.{AreApart, IsEdit, NoEdit, at_edits, edit_cases, fold_created, fold_sorted, not_edited}
use Rattle.session_laws.proofs.Plans.Items.{all_members, all_map_of, mapped_member, member_right, member_split}
use Rattle.session_laws.proofs.Plans.Newness.{Facts, new_free, or_none, place_same}
use Rattle.session_laws.proofs.Plans.Facts.{or_false, true_false}
use Rattle.base_core.proofs.Tests.{or_then}

-- ---- edits of lists, apart

no_edit_join : (q : Place) (xs ys : List Edit) → NoEdit q xs → NoEdit q ys → NoEdit q (xs ++ ys)
no_edit_join q [] ys a b = b
no_edit_join q (x ∷ xs) ys a b = (a.0, no_edit_join q xs ys a.1 b)

pub apart_join : (xs ys : List Edit) → AreApart xs → AreApart ys → AllByRecursion (λ e. NoEdit e.0 ys) xs → AreApart (xs ++ ys)
apart_join [] ys a b cross = b
apart_join (x ∷ xs) ys a b cross = (no_edit_join x.0 xs ys a.0 cross.0, apart_join xs ys a.1 b cross.1)

module _ {A : Type 0} (make : A → Edit) where
  no_edit_map : (q : Place) (xs : List A) → AllByRecursion (λ x. same_place (make x).0 q ≡ false) xs → NoEdit q (map make xs)
  no_edit_map q [] all = tt
  no_edit_map q (x ∷ xs) all = ((λ e. true_false (sym (place_same (make x).0 q e) ∙ all.0)), no_edit_map q xs all.1)

  pub apart_map : (xs : List A) → some_two (λ one other. same_place (make one).0 (make other).0) xs ≡ false → AreApart (map make xs)
  apart_map [] e = tt
  apart_map (x ∷ xs) e =
      let both = or_false (list_any (λ later. same_place (make later).0 (make x).0) xs) (some_two (λ one other. same_place (make one).0 (make other).0) xs) e in
      (no_edit_map (make x).0 xs (any_none (λ later. same_place (make later).0 (make x).0) xs both.0), apart_map xs both.1)

any_filter : {A : Type 0} (test p : A → Bool) (xs : List A) → list_any test xs ≡ false → list_any test (filter p xs) ≡ false
any_filter test p [] e = refl
any_filter test p (x ∷ xs) e =
    let both = or_false (test x) (list_any test xs) e in
    step (p x) both.0 (any_filter test p xs both.1)
  where
    step : (b : Bool) → test x ≡ false → list_any test (filter p xs) ≡ false → list_any test (cond b (x ∷ filter p xs) (filter p xs)) ≡ false
    step true here more = or_none (test x) (list_any test (filter p xs)) here more
    step false here more = more

pub two_filter : {A : Type 0} (test : A → A → Bool) (p : A → Bool) (xs : List A) → some_two test xs ≡ false → some_two test (filter p xs) ≡ false
two_filter test p [] e = refl
two_filter test p (x ∷ xs) e =
    let both = or_false (list_any (λ later. test later x) xs) (some_two test xs) e in
    step (p x) (any_filter (λ later. test later x) p xs both.0) (two_filter test p xs both.1)
  where
    step : (b : Bool) → list_any (λ later. test later x) (filter p xs) ≡ false → some_two test (filter p xs) ≡ false → some_two test (cond b (x ∷ filter p xs) (filter p xs)) ≡ false
    step true here more = or_none (list_any (λ later. test later x) (filter p xs)) (some_two test (filter p xs)) here more
    step false here more = more

pub all_from : {A : Type 0} (test : A → Bool) (xs : List A) → list_all test xs ≡ true → AllByRecursion (λ x. test x ≡ true) xs
all_from test [] e = tt
all_from test (x ∷ xs) e = let both = and_true (test x) (list_all test xs) e in (both.0, all_from test xs both.1)

module _ (schema : Catalog) (old : Tables) (changes : RowChanges) (order : List ℕ) (placed : Sofar) (after : Tables) (sorted : IsSorted old) (facts : Facts schema old changes order placed after) where
  abbrev all_edits : List Edit
  all_edits = edits schema old changes order placed

  gone_new : AllByRecursion (λ e. NoEdit e.0 (map (edit_new schema changes placed) order)) (map (edit_gone schema) changes.gone)
  gone_new =
      all_map_of (λ e. NoEdit e.0 (map (edit_new schema changes placed) order)) (edit_gone schema) changes.gone
      (all_map (λ row. AllByRecursion (λ place. same_place (place_of_gone schema row) (place_of_new changes placed.keys place) ≡ false) order) (λ row. NoEdit (place_of_gone schema row) (map (edit_new schema changes placed) order))
      (λ row all. new_not (place_of_gone schema row) order all) changes.gone
      (all_swap (λ place row. same_place (place_of_gone schema row) (place_of_new changes placed.keys place) ≡ false) order changes.gone
      (all_map (λ place. list_any (λ row. same_place (place_of_gone schema row) (place_of_new changes placed.keys place)) changes.gone ≡ false) (λ place. AllByRecursion (λ row. same_place (place_of_gone schema row) (place_of_new changes placed.keys place) ≡ false) changes.gone)
      (λ place e. any_none (λ row. same_place (place_of_gone schema row) (place_of_new changes placed.keys place)) changes.gone e) order
      (any_none (λ place. list_any (λ row. same_place (place_of_gone schema row) (place_of_new changes placed.keys place)) changes.gone) order facts.gone))))
    where
      new_not : (q : Place) (places : List ℕ) → AllByRecursion (λ place. same_place q (place_of_new changes placed.keys place) ≡ false) places → NoEdit q (map (edit_new schema changes placed) places)
      new_not q [] all = tt
      new_not q (p ∷ ps) all = ((λ e. true_false (sym (place_same q (place_of_new changes placed.keys p) (sym e)) ∙ all.0)), new_not q ps all.1)

  changed_new : AllByRecursion (λ e. NoEdit e.0 (map (edit_new schema changes placed) order)) (map (edit_changed old placed.keys) (written_rows changes))
  changed_new =
      all_map_of (λ e. NoEdit e.0 (map (edit_new schema changes placed) order)) (edit_changed old placed.keys) (written_rows changes)
      (all_map (λ row. is_present old (place_of_changed row) ≡ true) (λ row. NoEdit (place_of_changed row) (map (edit_new schema changes placed) order))
      (λ row there. all_map_of (λ e. e.0 ≡ place_of_changed row → ⊥) (edit_new schema changes placed) order
      (all_members (λ p. place_of_new changes placed.keys p ≡ place_of_changed row → ⊥) order
      (λ p among e. true_false (sym there ∙ ap (is_present old) (sym e) ∙ ap is_some (new_free schema old changes order placed after facts p among)))))
      (written_rows changes)
      (all_from (λ row. is_present old (row.name.table, row.key)) (written_rows changes)
      (and_true (list_all (λ row. is_present old (row.name.table, row.key)) (written_rows changes)) (list_all (λ row. not (writes_some (late_gone schema changes row).1) || is_present old (place_of_gone schema row)) changes.gone) facts.rows).0))

  gone_changed : list_any (λ row. list_any (λ other. same_place (place_of_gone schema row) (place_of_changed other)) changes.changed) changes.gone ≡ false → AllByRecursion (λ e. NoEdit e.0 (map (edit_changed old placed.keys) (written_rows changes))) (map (edit_gone schema) changes.gone)
  gone_changed apart =
      all_map_of (λ e. NoEdit e.0 (map (edit_changed old placed.keys) (written_rows changes))) (edit_gone schema) changes.gone
      (all_map (λ row. list_any (λ other. same_place (place_of_gone schema row) (place_of_changed other)) changes.changed ≡ false) (λ row. NoEdit (place_of_gone schema row) (map (edit_changed old placed.keys) (written_rows changes)))
      (λ row e. changed_not (place_of_gone schema row) (written_rows changes) (any_none (λ other. same_place (place_of_gone schema row) (place_of_changed other)) (written_rows changes) (any_filter (λ other. same_place (place_of_gone schema row) (place_of_changed other)) (λ r. writes_some r.cells) changes.changed e)))
      changes.gone (any_none (λ row. list_any (λ other. same_place (place_of_gone schema row) (place_of_changed other)) changes.changed) changes.gone apart))
    where
      changed_not : (q : Place) (rows : List ChangedRow) → AllByRecursion (λ row. same_place q (place_of_changed row) ≡ false) rows → NoEdit q (map (edit_changed old placed.keys) rows)
      changed_not q [] all = tt
      changed_not q (r ∷ rs) all = ((λ e. true_false (sym (place_same q (place_of_changed r) (sym e)) ∙ all.0)), changed_not q rs all.1)

  -- no place is edited twice
  pub edits_apart : some_two (λ one other. same_place (place_of_gone schema one) (place_of_gone schema other)) changes.gone ≡ false → some_two (λ one other. same_place (place_of_changed one) (place_of_changed other)) changes.changed ≡ false → list_any (λ row. list_any (λ other. same_place (place_of_gone schema row) (place_of_changed other)) changes.changed) changes.gone ≡ false → AreApart (edits schema old changes order placed)
  edits_apart gone_once changed_once apart =
      apart_join (map (edit_gone schema) changes.gone ++ map (edit_changed old placed.keys) (written_rows changes)) (map (edit_new schema changes placed) order)
      (apart_join (map (edit_gone schema) changes.gone) (map (edit_changed old placed.keys) (written_rows changes))
      (apart_map (edit_gone schema) changes.gone gone_once)
      (apart_map (edit_changed old placed.keys) (written_rows changes) (two_filter (λ one other. same_place (place_of_changed one) (place_of_changed other)) (λ r. writes_some r.cells) changes.changed changed_once))
      (gone_changed apart))
      (apart_map (edit_new schema changes placed) order facts.twice)
      (every_append (λ e. NoEdit e.0 (map (edit_new schema changes placed) order)) (map (edit_gone schema) changes.gone) (map (edit_changed old placed.keys) (written_rows changes)) gone_new changed_new)

  new_edit : (places : List ℕ) (place : ℕ) → is_among places place ≡ true → IsEdit (edit_new schema changes placed place) (map (edit_new schema changes placed) places)
  new_edit [] place among = absurd (true_false (sym among))
  new_edit (p ∷ ps) place among =
      elim (or_true (eqb place p) (is_among ps place) among) [
        | inl here ↦ inl (ap (edit_new schema changes placed) (sym (eqb-true place p here)))
        | inr more ↦ inr (new_edit ps place more)
      ]
    where
      or_true : (a b : Bool) → (a || b) ≡ true → (a ≡ true) ⊎ (b ≡ true)
      or_true true b e = inl refl
      or_true false b e = inr e

  -- under the place of a new row stands its edit
  pub stated_new : AreApart (edits schema old changes order placed) → (place : ℕ) → is_among order place ≡ true → is_created old (place_of_new changes placed.keys place).0 ≡ true → row_at after (place_of_new changes placed.keys place) ≡ (edit_new schema changes placed place).1
  stated_new apart place among created =
      ap (λ t. row_at t (place_of_new changes placed.keys place)) facts.is
      ∙ at_edits old all_edits (edit_new schema changes placed place) sorted created apart
      (member_right (edit_new schema changes placed place) (map (edit_gone schema) changes.gone ++ map (edit_changed old placed.keys) (written_rows changes)) (map (edit_new schema changes placed) order) (new_edit order place among))

  pub stated_other : (q : Place) → NoEdit q (edits schema old changes order placed) → row_at after q ≡ row_at old q
  stated_other q none = ap (λ t. row_at t q) facts.is ∙ not_edited old all_edits q sorted none

  pub stated_created : (table : TableId) → is_created after table ≡ is_created old table
  stated_created table = ap (λ t. is_created t table) facts.is ∙ fold_created old all_edits table

  pub stated_sorted : IsSorted after
  stated_sorted = subst IsSorted (sym facts.is) (fold_sorted old all_edits sorted)

  pub new_case : (places : List ℕ) (edit : Edit) → IsEdit edit (map (edit_new schema changes placed) places) → (p : ℕ) × (is_among places p ≡ true) × (edit_new schema changes placed p ≡ edit)
  new_case [] edit is = absurd is
  new_case (p ∷ ps) edit (inl here) = (p, ap (λ b. b || is_among ps p) (eq-eqb p p refl), here)
  new_case (p ∷ ps) edit (inr more) = let found = new_case ps edit more in (found.0, or_then (eqb found.0 p) (is_among ps found.0) found.1, found.2)

  member_present : (rows : List ChangedRow) (edit : Edit) → AllByRecursion (λ row. is_present old (place_of_changed row) ≡ true) rows → IsEdit edit (map (edit_changed old placed.keys) rows) → is_present old edit.0 ≡ true
  member_present [] edit all is = absurd is
  member_present (r ∷ rs) edit all (inl here) = ap (λ e. is_present old e.0) (sym here) ∙ all.0
  member_present (r ∷ rs) edit all (inr more) = member_present rs edit all.1 more

  -- a stated row is an old one, or stands under the place of a new row
  pub stated_cover : AreApart (edits schema old changes order placed) → ((edit : Edit) → IsEdit edit (edits schema old changes order placed) → is_created old edit.0.0 ≡ true) → (q : Place) → is_present after q ≡ true → (is_present old q ≡ true) ⊎ ((other : ℕ) × (is_among order other ≡ true) × (place_of_new changes placed.keys other ≡ q))
  stated_cover apart created q there =
      elim (edit_cases all_edits q) [
        | inr none ↦ inl (sym (ap is_some (stated_other q none)) ∙ there)
        | inl found ↦ elim (member_split found.0 (map (edit_gone schema) changes.gone ++ map (edit_changed old placed.keys) (written_rows changes)) (map (edit_new schema changes placed) order) found.1) [
          | inr new ↦ let p = new_case order found.0 new in inr (p.0, p.1, ap (λ e. e.0) p.2 ∙ found.2)
          | inl before ↦ elim (member_split found.0 (map (edit_gone schema) changes.gone) (map (edit_changed old placed.keys) (written_rows changes)) before) [
            | inr changed ↦ inl (ap (is_present old) (sym found.2) ∙ member_present (written_rows changes) found.0
                (all_from (λ row. is_present old (row.name.table, row.key)) (written_rows changes)
                (and_true (list_all (λ row. is_present old (row.name.table, row.key)) (written_rows changes)) (list_all (λ row. not (writes_some (late_gone schema changes row).1) || is_present old (place_of_gone schema row)) changes.gone) facts.rows).0) changed)
            | inl gone ↦
                let g = mapped_member (edit_gone schema) found.0 changes.gone gone in
                let none : row_at after q ≡ None =
                ap (row_at after) (sym found.2) ∙ ap (λ t. row_at t found.0.0) facts.is
                ∙ at_edits old all_edits found.0 sorted (created found.0 found.1) apart found.1 ∙ sym (ap (λ e. e.1) g.2) in
                absurd (true_false (sym there ∙ ap is_some none))
          ]
        ]
      ]
