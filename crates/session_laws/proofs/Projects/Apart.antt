-- Where rows stand apart before the switches, they do behind them.
use Rattle.std.proofs.Common.{◌≡◌, inl, inr, ℕ, ◌+◌, ◌<◌, Bool, true, false, cond, not, List, [], ◌∷◌, ◌++◌, length, map, Option, None, Some, refl, sym, subst, ap, ◌∙◌, zero-add, arith}
use Rattle.std.proofs.lemmas.Bool.{and_from, eq-eqb}
use Rattle.std.proofs.lemmas.List.{map-append}
use Rattle.std.proofs.lemmas.List.Folds.{list_any_at}
use Rattle.std.proofs.lemmas.List.FromFn.{get_or-range_with_len, length-range_with_len}
use Rattle.std.proofs.lemmas.List.Quantifiers.{position-Some}
use Rattle.std.proofs.lemmas.Option.{get_or_from_slice_get, same_Some, slice_get-get_or, slice_get_within}
use Rattle.std.specs.Prelude.{slice_get, slice_index_or}
use Rattle.std.specs.List.{AllByRecursion, cons_option, enumerate_from, filter_map, list_any, range_with_len}
use Rattle.std.specs.Option.{option_map}
use Rattle.schema_core.specs.declared.changes.ChangedRow.{ChangedRow}
use Rattle.schema_core.specs.declared.changes.GoneRow.{GoneRow}
use Rattle.schema_core.specs.declared.changes.NewRow.{NewRow}
use Rattle.schema_core.specs.declared.changes.RowChanges.{RowChanges}
use Rattle.schema_core.specs.Catalog.{Catalog}
use Rattle.schema_core.specs.Declaration.{some_two}
use Rattle.schema_core.specs.Tables.{has_null}
use Rattle.class_mapping.specs.Mapped.{Mapped}
use Rattle.class_mapping.proofs.Having.{Has, all_from, from_numbered, has_at, none_of}
use Rattle.class_mapping.proofs.Lists.{or_none}
use Rattle.object_arena.specs.Graph.{Graph}
use Rattle.flush_order.specs.Cells.{no_row, table_at}
use Rattle.flush_order.specs.Orders.{gone_at, no_gone, place_of_gone}
use Rattle.flush_order.specs.Sorted.{Place, same_place}
use Rattle.flush_writes.specs.Writes.{place_of_changed}
use Rattle.object_rows.specs.Rows.{has_cells}
use Rattle.row_partners.specs.Partners.{gone_under, gone_unless_taken, is_known_as, is_taken, known_key, partner_of, partners, place_of_new}
use Rattle.row_switches.specs.Switch.{is_number, row_kept, row_left, row_switched, rows_kept, rows_left, rows_switched, switch_of, with_switches}
use Rattle.row_switches.proofs.Each.{all_append, all_filter_map, all_map, each_to}
use Rattle.row_switches.proofs.RowsAfter.{all_kept}
use Rattle.row_partners.proofs.PartnerSteps.{partner_at}
use Rattle.row_switches.proofs.SwitchSteps.{none_or, some_within, switched_within}
use Rattle.session_laws.proofs.Plans.Differing.{Differ, IsNotIn, apart_both, apart_filter, apart_of}
use Rattle.session_laws.proofs.Plans.Newness.{place_same, same_is}
use Rattle.session_laws.proofs.Plans.Numbers.{two_at}
use Rattle.session_laws.specs.Projects.{AreRowsApart, SwitchesKeepRowsApart}
use Rattle.session_laws.proofs.Projects.Passing.{false_none, true_is_false}

-- ---- places that differ

pub differs : (one other : Place) → (one ≡ other → ⊥) → same_place one other ≡ false
differs one other out = by (same_place one other) refl
  where
    by : (b : Bool) → same_place one other ≡ b → b ≡ false
    by true e = absurd (out (same_is one other e))
    by false e = refl

pub once_of : {A : Type 0} (place : A → Place) (xs : List A) → Differ (map place xs) → some_two (λ one other. same_place (place one) (place other)) xs ≡ false
once_of place [] differ = refl
once_of {A = A} place (x ∷ xs) differ = or_none (list_any (λ later. same_place (place later) (place x)) xs) (some_two (λ one other. same_place (place one) (place other)) xs) (none_same xs differ.0) (once_of place xs differ.1)
  where
    none_same : (ys : List A) → IsNotIn (place x) (map place ys) → list_any (λ later. same_place (place later) (place x)) ys ≡ false
    none_same [] out = refl
    none_same (y ∷ ys) out = or_none (same_place (place y) (place x)) (list_any (λ later. same_place (place later) (place x)) ys) (differs (place y) (place x) out.0) (none_same ys out.1)

map_option : {B C : Type 0} (f : B → C) (found : Option B) (ys : List B) → map f (cons_option found ys) ≡ cons_option (option_map f found) (map f ys)
map_option f None ys = refl
map_option f (Some y) ys = refl

map_filter_map : {A B C : Type 0} (f : B → C) (h : A → Option B) (xs : List A) → map f (filter_map h xs) ≡ filter_map (λ x. option_map f (h x)) xs
map_filter_map f h [] = refl
map_filter_map f h (x ∷ xs) = map_option f (h x) (filter_map h xs) ∙ ap (cons_option (option_map f (h x))) (map_filter_map f h xs)

behind_numbers : {X : Type 0} (n : ℕ) (xs : List X) → AllByRecursion (λ (placed : ℕ × X). Has (enumerate_from (n + 1) xs) placed × (n < placed.0)) (enumerate_from (n + 1) xs)
behind_numbers {X = X} n xs =
    all_from (λ (placed : ℕ × X). Has (enumerate_from (n + 1) xs) placed × (n < placed.0)) (enumerate_from (n + 1) xs)
    (λ placed has. let at = from_numbered (n + 1) xs placed has in (has, omega (arith, at.1)))

differ_step : (found : Option Place) (places : List Place) → Differ places → ((p : Place) → found ≡ Some p → IsNotIn p places) → Differ (cons_option found places)
differ_step None places later out = later
differ_step (Some p) places later out = (out p refl, later)

-- numbered items that give places, no two the same
differ_numbered : {X : Type 0} (h : ℕ × X → Option Place) (n : ℕ) (xs : List X)
    → ((one other : ℕ × X) (p : Place) → one.0 < other.0 → Has (enumerate_from n xs) one → Has (enumerate_from n xs) other → h one ≡ Some p → h other ≡ Some p → ⊥)
    → Differ (filter_map h (enumerate_from n xs))
differ_numbered h n [] apart = tt
differ_numbered {X = X} h n (x ∷ xs) apart =
    differ_step (h (n, x)) (filter_map h (enumerate_from (n + 1) xs))
    (differ_numbered h (n + 1) xs (λ one other p less has inside e f. apart one other p less (inr has) (inr inside) e f))
    (λ p e. all_filter_map (λ (placed : ℕ × X). Has (enumerate_from (n + 1) xs) placed × (n < placed.0)) (λ (q : Place). q ≡ p → ⊥) h
    (λ placed is q gives same. apart (n, x) placed p is.1 (inl refl) (inr is.0) e (gives ∙ ap (λ (r : Place). Some r) same))
    (enumerate_from (n + 1) xs) (behind_numbers n xs))

pub none_given : {A B : Type 0} (f : A → B) (found : Option A) (y : B) → option_map f found ≡ Some y → (x : A) × (found ≡ Some x) × (f x ≡ y)
none_given f None y e = absurd (cc)
none_given f (Some x) y e = (x, refl, same_Some (f x) y e)

module _ (mapped : Mapped) (graph : Graph) (changes : RowChanges) (apart : AreRowsApart mapped.schema changes) where
  abbrev schema : Catalog
  schema = mapped.schema

  abbrev pub found : List (Option ℕ)
  found = partners mapped.schema changes

  -- the place of the deleted row of a number
  abbrev pub gone_place : ℕ → Place
  gone_place number = place_of_gone mapped.schema (gone_at changes.gone number)

  -- ---- partners

  partner_is : (place number : ℕ) → slice_index_or found place None ≡ Some number → partner_of schema changes place ≡ Some number
  partner_is place number e = sym (partner_at schema changes place None (switched_within schema changes found place number refl e)) ∙ e

  under_is : (place number : ℕ) → slice_index_or found place None ≡ Some number → gone_under schema changes (place_of_new schema changes place) ≡ Some number
  under_is place number e =
      let at = place_of_new schema changes place in
      none_or (is_taken schema changes at place) (gone_under schema changes at) number
      (none_or (has_null (known_key schema changes place)) (gone_unless_taken schema changes at place) number (partner_is place number e))

  -- it is the deleted row under the new row's key
  pub gone_is : (place number : ℕ) → slice_index_or found place None ≡ Some number → (number < length changes.gone) × (gone_place number ≡ place_of_new schema changes place)
  gone_is place number e =
      let at = position-Some (λ row. same_place (place_of_gone schema row) (place_of_new schema changes place)) changes.gone number no_gone (under_is place number e) in
      (at.0, same_is (gone_place number) (place_of_new schema changes place) at.1)

  -- the key of a row with a partner is known
  known_is : (place number : ℕ) → slice_index_or found place None ≡ Some number → has_null (known_key schema changes place) ≡ false
  known_is place number e = false_none (has_null (known_key schema changes place)) (gone_unless_taken schema changes (place_of_new schema changes place) place) number (partner_is place number e)

  -- a deleted row is the partner of one new row
  not_again : (place other number : ℕ) → place < other → slice_index_or found place None ≡ Some number → slice_index_or found other None ≡ Some number → ⊥
  not_again place other number less e f =
      let wanted = place_of_new schema changes other in
      let same : place_of_new schema changes place ≡ wanted = sym (gone_is place number e).1 ∙ (gone_is other number f).1 in
      let known : is_known_as schema changes wanted place ≡ true = and_from (not (has_null (known_key schema changes place))) (same_place (place_of_new schema changes place) wanted)
      (ap not (known_is place number e)) (place_same (place_of_new schema changes place) wanted same) in
      let taken : is_taken schema changes wanted other ≡ true =
      list_any_at (is_known_as schema changes wanted) (range_with_len 0 other) place 0 (omega (arith, less, length-range_with_len 0 other)) (ap (is_known_as schema changes wanted) (get_or-range_with_len 0 other place 0 less ∙ zero-add place) ∙ known) in
      let free : is_taken schema changes wanted other ≡ false = false_none (is_taken schema changes wanted other) (gone_under schema changes wanted) number
      (none_or (has_null (known_key schema changes other)) (gone_unless_taken schema changes wanted other) number (partner_is other number f)) in
      true_is_false (sym taken ∙ free)

  -- ---- the rows in place of switched ones

  abbrev pub switched_place : ℕ × NewRow → Option Place
  switched_place placed = option_map place_of_changed (switch_of mapped graph changes found placed)

  pub switched_is : (placed : ℕ × NewRow) (p : Place) → Has (enumerate_from 0 changes.fresh) placed → switched_place placed ≡ Some p → (number : ℕ) × (slice_index_or found placed.0 None ≡ Some number) × (gone_place number ≡ p) × (number < length changes.gone)
  switched_is placed p has e =
      let row = none_given place_of_changed (switch_of mapped graph changes found placed) p e in
      let number = none_given (λ number. row_switched mapped graph changes found placed (gone_at changes.gone number)) (slice_index_or found placed.0 None) row.0 row.1 in
      let at = from_numbered 0 changes.fresh placed has in
      let here : slice_get changes.fresh placed.0 ≡ Some placed.1 = ap (slice_get changes.fresh) (omega (arith, at.1)) ∙ at.2 in
      let table : table_at changes placed.0 ≡ placed.1.name.table = ap (λ (r : NewRow). r.name.table) (get_or_from_slice_get changes.fresh placed.0 placed.1 no_row here) in
      let gone = gone_is placed.0 number.0 number.1 in (
        number.0,
        number.1,
        gone.1 ∙ (λ i. (table i, known_key schema changes placed.0)) ∙ ap place_of_changed number.2 ∙ row.2,
        gone.0,
      )

  switched_differ : Differ (map place_of_changed (rows_switched mapped graph changes found))
  switched_differ =
      subst Differ (sym (map_filter_map place_of_changed (switch_of mapped graph changes found) (enumerate_from 0 changes.fresh)))
      (differ_numbered switched_place 0 changes.fresh (λ one other p less has inside e f.
      let first = switched_is one p has e in
      let second = switched_is other p inside f in
      let same : first.0 ≡ second.0 = two_at (place_of_gone schema) changes.gone no_gone first.0 second.0 apart.gone first.3 second.3 (first.2 ∙ sym second.2) in
      not_again one.0 other.0 second.0 less (first.1 ∙ ap (λ n. Some n) same) second.1))

  -- ---- the deleted rows that are left

  abbrev left_place : ℕ × GoneRow → Option Place
  left_place placed = option_map (place_of_gone schema) (row_left found placed)

  left_row : (b : Bool) (row left : GoneRow) → cond b None (Some row) ≡ Some left → (b ≡ false) × (row ≡ left)
  left_row true row left e = absurd (cc)
  left_row false row left e = (refl, same_Some row left e)

  left_is : (placed : ℕ × GoneRow) (p : Place) → Has (enumerate_from 0 changes.gone) placed → left_place placed ≡ Some p → (list_any (is_number placed.0) found ≡ false) × (gone_place placed.0 ≡ p) × (placed.0 < length changes.gone)
  left_is placed p has e =
      let row = none_given (place_of_gone schema) (row_left found placed) p e in
      let left = left_row (list_any (is_number placed.0) found) placed.1 row.0 row.1 in
      let at = from_numbered 0 changes.gone placed has in
      let here : slice_get changes.gone placed.0 ≡ Some placed.1 = ap (slice_get changes.gone) (omega (arith, at.1)) ∙ at.2 in
      (left.0, ap (place_of_gone schema) (get_or_from_slice_get changes.gone placed.0 placed.1 no_gone here ∙ left.1) ∙ row.2, slice_get_within changes.gone placed.0 placed.1 here)

  left_differ : Differ (map (place_of_gone schema) (rows_left changes found))
  left_differ =
      subst Differ (sym (map_filter_map (place_of_gone schema) (row_left found) (enumerate_from 0 changes.gone)))
      (differ_numbered left_place 0 changes.gone (λ one other p less has inside e f.
      let first = left_is one p has e in
      let second = left_is other p inside f in
      let same : one.0 ≡ other.0 = two_at (place_of_gone schema) changes.gone no_gone one.0 other.0 apart.gone first.2 second.2 (first.1 ∙ sym second.1) in
      omega (arith, less, same)))

  -- ---- the changed rows that are kept

  -- a changed row is no deleted one
  abbrev IsApartFromGone : ChangedRow → Type 0
  IsApartFromGone row = (number : ℕ) → number < length changes.gone → gone_place number ≡ place_of_changed row → ⊥

  changed_apart : AllByRecursion IsApartFromGone changes.changed
  changed_apart = all_from IsApartFromGone changes.changed (λ row has number less same.
      let gone = gone_at changes.gone number in
      let here = has_at changes.gone number gone (slice_get-get_or changes.gone number no_gone less) in
      true_is_false (sym (place_same (gone_place number) (place_of_changed row) same)
      ∙ none_of (λ (other : ChangedRow). same_place (place_of_gone schema gone) (place_of_changed other)) changes.changed row
      (none_of (λ (g : GoneRow). list_any (λ other. same_place (place_of_gone schema g) (place_of_changed other)) changes.changed) changes.gone gone apart.both here) has))

  kept_apart : AllByRecursion IsApartFromGone (rows_kept mapped graph changes found)
  kept_apart = all_kept IsApartFromGone mapped graph changes found (λ row is. is) changed_apart

  same_places : (rows : List ChangedRow) → map place_of_changed (map (row_kept mapped graph changes found) rows) ≡ map place_of_changed rows
  same_places [] = refl
  same_places (row ∷ rows) = ap (λ (ps : List Place). place_of_changed row ∷ ps) (same_places rows)

  kept_differ : Differ (map place_of_changed (rows_kept mapped graph changes found))
  kept_differ =
      apart_filter place_of_changed has_cells (map (row_kept mapped graph changes found) changes.changed)
      (subst Differ (sym (same_places changes.changed)) (apart_of place_of_changed changes.changed apart.changed))

  -- ---- all of them

  abbrev switched_list : List ChangedRow
  switched_list = rows_switched mapped graph changes found

  -- what is apart from all deleted rows is apart from the rows in their place, and from those that are left
  apart_from_switched : (row : ChangedRow) → IsApartFromGone row → IsNotIn (place_of_changed row) (map place_of_changed switched_list)
  apart_from_switched row is =
      subst (IsNotIn (place_of_changed row)) (sym (map_filter_map place_of_changed (switch_of mapped graph changes found) (enumerate_from 0 changes.fresh)))
      (all_filter_map (Has (enumerate_from 0 changes.fresh)) (λ (q : Place). q ≡ place_of_changed row → ⊥) switched_place
      (λ placed has q e same. let one = switched_is placed q has e in is one.0 one.3 (one.2 ∙ same))
      (enumerate_from 0 changes.fresh) (all_from (Has (enumerate_from 0 changes.fresh)) (enumerate_from 0 changes.fresh) (λ placed has. has)))

  apart_from_left : (p : Place) → ((number : ℕ) → number < length changes.gone → list_any (is_number number) found ≡ false → gone_place number ≡ p → ⊥) → IsNotIn p (map (place_of_gone schema) (rows_left changes found))
  apart_from_left p out =
      subst (IsNotIn p) (sym (map_filter_map (place_of_gone schema) (row_left found) (enumerate_from 0 changes.gone)))
      (all_filter_map (Has (enumerate_from 0 changes.gone)) (λ (q : Place). q ≡ p → ⊥) left_place
      (λ placed has q e same. let one = left_is placed q has e in out placed.0 one.2 one.0 (one.1 ∙ same))
      (enumerate_from 0 changes.gone) (all_from (Has (enumerate_from 0 changes.gone)) (enumerate_from 0 changes.gone) (λ placed has. has)))

  switched_not_left : AllByRecursion (λ (row : ChangedRow). IsNotIn (place_of_changed row) (map (place_of_gone schema) (rows_left changes found))) switched_list
  switched_not_left =
      all_filter_map (Has (enumerate_from 0 changes.fresh)) (λ (row : ChangedRow). IsNotIn (place_of_changed row) (map (place_of_gone schema) (rows_left changes found))) (switch_of mapped graph changes found)
      (λ placed has row e.
      let one = switched_is placed (place_of_changed row) has (ap (option_map place_of_changed) e) in
      apart_from_left (place_of_changed row) (λ number less left same.
      let alike : number ≡ one.0 = two_at (place_of_gone schema) changes.gone no_gone number one.0 apart.gone less one.3 (same ∙ sym one.2) in
      true_is_false (sym (list_any_at (is_number number) found placed.0 None (some_within found placed.0 one.0 one.1) (ap (is_number number) one.1 ∙ eq-eqb one.0 number (sym alike))) ∙ left)))
      (enumerate_from 0 changes.fresh) (all_from (Has (enumerate_from 0 changes.fresh)) (enumerate_from 0 changes.fresh) (λ placed has. has))

  none_both : (places : List ChangedRow) → AllByRecursion (λ (row : ChangedRow). IsNotIn (place_of_changed row) (map (place_of_gone schema) (rows_left changes found))) places
      → list_any (λ row. list_any (λ other. same_place (place_of_gone schema row) (place_of_changed other)) places) (rows_left changes found) ≡ false
  none_both places all = by (rows_left changes found) all
    where
      one_out : (gone : GoneRow) (rest : List GoneRow) (rows : List ChangedRow) → AllByRecursion (λ (row : ChangedRow). IsNotIn (place_of_changed row) (map (place_of_gone schema) (gone ∷ rest))) rows
          → (list_any (λ other. same_place (place_of_gone schema gone) (place_of_changed other)) rows ≡ false) × AllByRecursion (λ (row : ChangedRow). IsNotIn (place_of_changed row) (map (place_of_gone schema) rest)) rows
      one_out gone rest [] all = (refl, tt)
      one_out gone rest (row ∷ rows) all =
          let more = one_out gone rest rows all.1 in (
            or_none (same_place (place_of_gone schema gone) (place_of_changed row)) (list_any (λ other. same_place (place_of_gone schema gone) (place_of_changed other)) rows) (differs (place_of_gone schema gone) (place_of_changed row) all.0.0) more.0,
            (all.0.1, more.1),
          )

      by : (gone : List GoneRow) → AllByRecursion (λ (row : ChangedRow). IsNotIn (place_of_changed row) (map (place_of_gone schema) gone)) places → list_any (λ row. list_any (λ other. same_place (place_of_gone schema row) (place_of_changed other)) places) gone ≡ false
      by [] all = refl
      by (gone ∷ rest) all =
          let one = one_out gone rest places all in
          or_none (list_any (λ other. same_place (place_of_gone schema gone) (place_of_changed other)) places) (list_any (λ row. list_any (λ other. same_place (place_of_gone schema row) (place_of_changed other)) places) rest) one.0 (by rest one.1)

  switch_apart : AreRowsApart schema (with_switches mapped graph changes)
  switch_apart = record {
    changed = once_of place_of_changed (rows_kept mapped graph changes found ++ switched_list)
        (subst Differ (sym (map-append place_of_changed (rows_kept mapped graph changes found) switched_list))
        (apart_both (map place_of_changed (rows_kept mapped graph changes found)) (map place_of_changed switched_list) kept_differ switched_differ
        (all_map IsApartFromGone (λ p. IsNotIn p (map place_of_changed switched_list)) place_of_changed apart_from_switched (rows_kept mapped graph changes found) kept_apart)));
    gone = once_of (place_of_gone schema) (rows_left changes found) left_differ;
    both = none_both (rows_kept mapped graph changes found ++ switched_list)
        (all_append (λ (row : ChangedRow). IsNotIn (place_of_changed row) (map (place_of_gone schema) (rows_left changes found))) (rows_kept mapped graph changes found) switched_list
        (each_to IsApartFromGone (λ (row : ChangedRow). IsNotIn (place_of_changed row) (map (place_of_gone schema) (rows_left changes found)))
        (λ row is. apart_from_left (place_of_changed row) (λ number less left same. is number less same)) (rows_kept mapped graph changes found) kept_apart)
        switched_not_left);
  }

pub switches_keep_apart : SwitchesKeepRowsApart
switches_keep_apart mapped graph changes apart = switch_apart mapped graph changes apart
