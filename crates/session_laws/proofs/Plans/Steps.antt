-- All UPDATEs of a plan: each writes what it should, and what is still to be written of a row is to come.
use Rattle.std.proofs.Common.{◌≡◌, inl, inr, ℕ, ◌<◌, Bool, true, false, ◌&&◌, List, [], ◌∷◌, ◌++◌, map, length, get_or, Some, refl, sym, ap, ◌∙◌, subst, arith}
use Rattle.std.proofs.lemmas.Bool.{eq-eqb, eqb-true}
use Rattle.std.proofs.lemmas.List.{map-append}
use Rattle.std.specs.List.{AllByRecursion, filter, flat_map}
use Rattle.std.specs.Option.{is_some}
use Rattle.base_core.specs.declared.ids.TableId.{TableId}
use Rattle.base_core.specs.declared.value.Value.{Value}
use Rattle.base_core.proofs.Lists.{every_append}
use Rattle.schema_core.specs.declared.changes.ChangedRow.{ChangedRow}
use Rattle.schema_core.specs.declared.changes.GoneRow.{GoneRow}
use Rattle.schema_core.specs.declared.changes.Planned.{Planned}
use Rattle.schema_core.specs.declared.changes.RowChanges.{RowChanges}
use Rattle.schema_core.specs.Catalog.{Catalog, IsTable}
use Rattle.schema_core.specs.DependencyOrder.{table_ids}
use Rattle.schema_core.specs.Tables.{Tables, is_created}
use Rattle.table_laws.proofs.Entries.{all_map}
use Rattle.table_laws.proofs.RowFits.{and_true}
use Rattle.flush_order.specs.Cells.{late_name, table_at}
use Rattle.flush_order.specs.Orders.{no_gone, place_of_gone}
use Rattle.row_order.specs.Places.{is_among}
use Rattle.flush_order.specs.Sorted.{Place, sorted_numbers}
use Rattle.flush_plan.specs.Flushing.{Keys, Sofar}
use Rattle.flush_plan.specs.Planning.{is_of, late_in, late_new, late_old, late_updates, late_writings, no_writing}
use Rattle.flush_writes.specs.Writes.{Writing, cells_when, changed_rows, late_gone, is_written_when, no_changed, place_of_changed, updates, writes_some, writing_some}
use Rattle.flush_plan.specs.Stating.{edit_changed, edit_gone, edit_new, edits, is_present, place_of_new, row_at, written_rows}
use Rattle.session_laws.specs.Plans.Laws.{AreAsRead, IsProjected}
use Rattle.session_laws.proofs.Plans.Blend.{blend_self}
use Rattle.session_laws.proofs.Plans.Changing.{some_filter, changed_way, early_ok, is_written, late_ok, step_is, step_of}
use Rattle.session_laws.proofs.Plans.Clearing.{clear_ok, gone_way, none_then}
use Rattle.session_laws.proofs.Plans.Complete.{IsStated, created_parts, known_facts, new_created, news, told_long}
use Rattle.session_laws.proofs.Plans.Differing.{apart_of, apart_other, writings_differ}
use Rattle.session_laws.proofs.Plans.Editing.{edit_cases}
use Rattle.session_laws.proofs.Plans.Items.{Member, all_at, all_filter, all_flat, all_map_of, all_members, among_member, every_at, filtered_member, length_mapped, map_map, mapped_member, member_all, member_filter, member_flat, member_left, member_map, member_number, member_range, member_right, member_split, number_member}
use Rattle.session_laws.proofs.Plans.LateNew.{new_step, new_way, step_at, step_ok}
use Rattle.session_laws.proofs.Plans.Numbers.{AreOther, numbers_have, numbers_within}
use Rattle.session_laws.proofs.Plans.Stated.{all_from, new_case, stated_other}
use Rattle.session_laws.proofs.Plans.Updating.{IsStep, OnWay, Step, ToCome, planned_of, step_place}
use Rattle.session_laws.proofs.Plans.Whole.{Comes_up}
use Rattle.session_laws.proofs.Plans.Facts.{none_some, true_false}
use Rattle.session_laws.proofs.Plans.Between.{early_part, is_declared}

come_of : (keys : Keys) (late : Bool) (place : Place) (step : Step) (steps : List Step) → Member step steps → step.0 ≡ late → step_place keys step ≡ place → ToCome keys late place steps
come_of keys late place step [] is e f = absurd is
come_of keys late place step (first ∷ steps) (inl here) e f = inl (ap (λ s. s.0) here ∙ e, ap (step_place keys) here ∙ f)
come_of keys late place step (first ∷ steps) (inr more) e f = inr (come_of keys late place step steps more e f)

flat_planned : (one : TableId → List Planned) (steps : TableId → List Step) (ts : List TableId) → ((t : TableId) → one t ≡ map planned_of (steps t)) → flat_map one ts ≡ map planned_of (flat_map steps ts)
flat_planned one steps [] same = refl
flat_planned one steps (t ∷ ts) same = (λ i. same t i ++ flat_planned one steps ts same i) ∙ sym (map-append planned_of (steps t) (flat_map steps ts))

module _ (schema : Catalog) (changes : RowChanges) (order : List ℕ) where
  abbrev early_steps : List Step
  early_steps = map (step_of false) (filter writing_some (map (cells_when schema changes false) (changed_rows changes)))

  -- late ones of new rows, and of old ones, of one table
  abbrev new_steps : TableId → List Step
  new_steps table = map (new_step schema changes table) (filter (λ place. is_of table (table_at changes place) && writes_some (late_new schema changes place)) order)

  abbrev old_steps : TableId → List Step
  old_steps table = map (step_of true) (filter (λ row. is_of table row.0.0) (late_old schema changes))

  abbrev late_steps : TableId → List Step
  late_steps table = new_steps table ++ old_steps table

  abbrev pub all_steps : List Step
  all_steps = early_steps ++ flat_map late_steps (table_ids schema)

  late_planned : (table : TableId) → late_in schema changes order table ≡ map planned_of (late_steps table)
  late_planned table =
      (λ i. sym (map_map planned_of (new_step schema changes table) (filter (λ place. is_of table (table_at changes place) && writes_some (late_new schema changes place)) order)) i
      ++ sym (map_map planned_of (step_of true) (filter (λ row. is_of table row.0.0) (late_old schema changes))) i)
      ∙ sym (map-append planned_of (new_steps table) (old_steps table))

  pub steps_planned : updates schema changes ++ late_updates schema changes order ≡ map planned_of all_steps
  steps_planned =
      (λ i. sym (map_map planned_of (step_of false) (filter writing_some (map (cells_when schema changes false) (changed_rows changes)))) i
      ++ flat_planned (late_in schema changes order) late_steps (table_ids schema) late_planned i)
      ∙ sym (map-append planned_of early_steps (flat_map late_steps (table_ids schema)))

  table_listed : (table : TableId) → IsTable schema table → Member table (table_ids schema)
  table_listed table is = member_map (λ number. record { 0 = number }) table.0 _ (member_range 0 (length schema.tables) table.0 (omega arith) (omega arith))

  in_late : (table : TableId) (step : Step) → IsTable schema table → Member step (late_steps table) → Member step all_steps
  in_late table step is here = member_right step early_steps (flat_map late_steps (table_ids schema)) (member_flat late_steps table step (table_ids schema) (table_listed table is) here)

  pub new_in : (place : ℕ) → IsTable schema (table_at changes place) → is_among order place ≡ true → writes_some (late_new schema changes place) ≡ true → Member (new_step schema changes (table_at changes place) place) all_steps
  new_in place is among some =
      let table : TableId = table_at changes place in
      let step : Step = new_step schema changes table place in
      in_late table step is
      (member_left step (new_steps table) (old_steps table)
      (member_map (new_step schema changes table) place (filter (λ p. is_of table (table_at changes p) && writes_some (late_new schema changes p)) order)
      (member_filter (λ p. is_of table (table_at changes p) && writes_some (late_new schema changes p)) place order (λ i. eq-eqb table.0 table.0 refl i && some i) (among_member order place among))))

-- ---- each row that is written has its step

module _ (schema : Catalog) (changes : RowChanges) (projected : IsProjected schema changes) (order : List ℕ) where
  abbrev changed_row : ℕ → ChangedRow
  changed_row n = get_or changes.changed n no_changed

  abbrev gone_row : ℕ → GoneRow
  gone_row n = get_or changes.gone n no_gone

  abbrev place_numbers : List ℕ
  place_numbers = sorted_numbers (map place_of_changed changes.changed)

  abbrev all_writings : List Writing
  all_writings = late_writings schema changes

  abbrev writing_numbers : List ℕ
  writing_numbers = sorted_numbers (map (λ (row : Writing). row.0) all_writings)

  changed_others : AreOther (map place_of_changed changes.changed) (place_of_changed no_changed)
  changed_others = apart_other (map place_of_changed changes.changed) (place_of_changed no_changed) (apart_of place_of_changed changes.changed projected.changed_once)

  pub early_in : (n : ℕ) → n < length changes.changed → writing_some (cells_when schema changes false (changed_row n)) ≡ true → Member (step_of false (cells_when schema changes false (changed_row n))) (all_steps schema changes order)
  early_in n h some =
      let w : Writing = cells_when schema changes false (changed_row n) in
      let among = numbers_have (map place_of_changed changes.changed) (place_of_changed no_changed) n (subst (λ k. n < k) (sym (length_mapped place_of_changed changes.changed)) h) changed_others in
      member_left (step_of false w) (early_steps schema changes order) (flat_map (late_steps schema changes order) (table_ids schema))
      (member_map (step_of false) w (filter writing_some (map (cells_when schema changes false) (changed_rows changes)))
      (member_filter writing_some w (map (cells_when schema changes false) (changed_rows changes)) some
      (member_map (cells_when schema changes false) (changed_row n) (changed_rows changes)
      (member_map changed_row n place_numbers (among_member place_numbers n among)))))

  -- what is written late of an old row
  writing_in : (w : Writing) → IsTable schema w.0.0 → Member w all_writings → Member (step_of true w) (all_steps schema changes order)
  writing_in w is member =
      let k = member_number all_writings w no_writing member in
      let others = apart_other (map (λ (row : Writing). row.0) all_writings) no_writing.0 (writings_differ schema changes projected.changed_once projected.gone_once projected.gone_apart) in
      let among = numbers_have (map (λ (row : Writing). row.0) all_writings) no_writing.0 k.0 (subst (λ n. k.0 < n) (sym (length_mapped (λ (row : Writing). row.0) all_writings)) k.1) others in
      let here : Member w (late_old schema changes) = subst (λ v. Member v (late_old schema changes)) k.2 (member_map (λ number. get_or all_writings number no_writing) k.0 writing_numbers (among_member writing_numbers k.0 among)) in
      in_late schema changes order w.0.0 (step_of true w) is
      (member_right (step_of true w) (new_steps schema changes order w.0.0) (old_steps schema changes order w.0.0)
      (member_map (step_of true) w (filter (λ row. is_of w.0.0 row.0.0) (late_old schema changes))
      (member_filter (λ row. is_of w.0.0 row.0.0) w (late_old schema changes) (eq-eqb w.0.0.0 w.0.0.0 refl) here)))

  pub late_in_steps : (n : ℕ) → IsTable schema (changed_row n).name.table → n < length changes.changed → writing_some (cells_when schema changes true (changed_row n)) ≡ true → Member (step_of true (cells_when schema changes true (changed_row n))) (all_steps schema changes order)
  late_in_steps n is h some =
      let w : Writing = cells_when schema changes true (changed_row n) in
      writing_in w is
      (member_filter writing_some w (map (cells_when schema changes true) changes.changed ++ map (late_gone schema changes) changes.gone) some
      (member_left w (map (cells_when schema changes true) changes.changed) (map (late_gone schema changes) changes.gone)
      (member_map (cells_when schema changes true) (changed_row n) changes.changed (number_member changes.changed n no_changed h))))

  pub clear_in : (n : ℕ) → IsTable schema (gone_row n).name.table → n < length changes.gone → writing_some (late_gone schema changes (gone_row n)) ≡ true → Member (step_of true (late_gone schema changes (gone_row n))) (all_steps schema changes order)
  clear_in n is h some =
      let w : Writing = late_gone schema changes (gone_row n) in
      writing_in w is
      (member_filter writing_some w (map (cells_when schema changes true) changes.changed ++ map (late_gone schema changes) changes.gone) some
      (member_right w (map (cells_when schema changes true) changes.changed) (map (late_gone schema changes) changes.gone)
      (member_map (late_gone schema changes) (gone_row n) changes.gone (number_member changes.gone n no_gone h))))

-- ---- what each step writes, and what is to come of each row

module _ (schema : Catalog) (old : Tables) (changes : RowChanges) (order : List ℕ) (placed : Sofar) (after : Tables) (told : IsStated schema old changes order placed after) where
  abbrev Good : Step → Type 0
  Good step = IsStep schema changes old after placed.keys step

  abbrev steps : List Step
  steps = all_steps schema changes order

  abbrev numbers : List ℕ
  numbers = sorted_numbers (map place_of_changed changes.changed)

  abbrev writings : List Writing
  writings = late_writings schema changes

  abbrev its_numbers : List ℕ
  its_numbers = sorted_numbers (map (λ (row : Writing). row.0) writings)

  abbrev changed_at : ℕ → ChangedRow
  changed_at n = get_or changes.changed n no_changed

  abbrev gone_at : ℕ → GoneRow
  gone_at n = get_or changes.gone n no_gone

  -- ---- each step writes what it should

  changed_within : (n : ℕ) → is_among numbers n ≡ true → n < length changes.changed
  changed_within n among = subst (λ k. n < k) (length_mapped place_of_changed changes.changed) (numbers_within (map place_of_changed changes.changed) (place_of_changed no_changed) n among)

  -- what holds of each step that writes what it should holds of all, where it holds of those that clear what is deleted
  module _ (P : Step → Type 0) (good : (step : Step) → Good step → P step)
      (cleared : (n : ℕ) → n < length changes.gone → writing_some (late_gone schema changes (gone_at n)) ≡ true → P (step_of true (late_gone schema changes (gone_at n)))) where
    early_good : AllByRecursion P (early_steps schema changes order)
    early_good =
        all_map_of P (step_of false) (filter writing_some (map (cells_when schema changes false) (changed_rows changes)))
        (all_filter (λ w. P (step_of false w)) writing_some (map (cells_when schema changes false) (changed_rows changes))
        (all_map_of (λ w. writing_some w ≡ true → P (step_of false w)) (cells_when schema changes false) (changed_rows changes)
        (all_map_of (λ row. writing_some (cells_when schema changes false row) ≡ true → P (step_of false (cells_when schema changes false row))) changed_at numbers
        (all_members (λ n. writing_some (cells_when schema changes false (changed_at n)) ≡ true → P (step_of false (cells_when schema changes false (changed_at n)))) numbers
        (λ n among some. good (step_of false (cells_when schema changes false (changed_at n))) (early_ok schema old changes order placed after told n (is_written schema old changes order placed after told false n (changed_within n among) some)))))))

    writings_good : AllByRecursion (λ w. P (step_of true w)) writings
    writings_good =
        all_filter (λ w. P (step_of true w)) writing_some (map (cells_when schema changes true) changes.changed ++ map (late_gone schema changes) changes.gone)
        (every_append (λ w. writing_some w ≡ true → P (step_of true w)) (map (cells_when schema changes true) changes.changed) (map (late_gone schema changes) changes.gone)
        (all_map_of (λ w. writing_some w ≡ true → P (step_of true w)) (cells_when schema changes true) changes.changed
        (every_at (λ row. writing_some (cells_when schema changes true row) ≡ true → P (step_of true (cells_when schema changes true row))) changes.changed no_changed
        (λ n h some. good (step_of true (cells_when schema changes true (changed_at n))) (late_ok schema old changes order placed after told n (is_written schema old changes order placed after told true n h some)))))
        (all_map_of (λ w. writing_some w ≡ true → P (step_of true w)) (late_gone schema changes) changes.gone
        (every_at (λ row. writing_some (late_gone schema changes row) ≡ true → P (step_of true (late_gone schema changes row))) changes.gone no_gone
        cleared)))

    old_good : AllByRecursion (λ w. P (step_of true w)) (late_old schema changes)
    old_good =
        all_map_of (λ w. P (step_of true w)) (λ number. get_or writings number no_writing) its_numbers
        (all_members (λ k. P (step_of true (get_or writings k no_writing))) its_numbers
        (λ k among. all_at (λ w. P (step_of true w)) writings k no_writing writings_good
        (subst (λ n. k < n) (length_mapped (λ (row : Writing). row.0) writings) (numbers_within (map (λ (row : Writing). row.0) writings) no_writing.0 k among))))

    new_good : (table : TableId) → AllByRecursion P (new_steps schema changes order table)
    new_good table =
        all_map_of P (new_step schema changes table) (filter (λ place. is_of table (table_at changes place) && writes_some (late_new schema changes place)) order)
        (all_filter (λ place. P (new_step schema changes table place)) (λ place. is_of table (table_at changes place) && writes_some (late_new schema changes place)) order
        (all_members (λ place. (is_of table (table_at changes place) && writes_some (late_new schema changes place)) ≡ true → P (new_step schema changes table place)) order
        (λ place among passes.
        let same : table_at changes place ≡ table = ap (λ n. record { 0 = n }) (eqb-true (table_at changes place).0 table.0 (and_true (is_of table (table_at changes place)) (writes_some (late_new schema changes place)) passes).0) in
        subst (λ t. P (new_step schema changes t place)) same (good (new_step schema changes (table_at changes place) place) (step_ok schema old changes order placed after told place among)))))

    late_good : (table : TableId) → AllByRecursion P (late_steps schema changes order table)
    late_good table =
        every_append P (new_steps schema changes order table) (old_steps schema changes order table) (new_good table)
        (all_map_of P (step_of true) (filter (λ row. is_of table row.0.0) (late_old schema changes))
        (all_filter (λ w. P (step_of true w)) (λ row. is_of table row.0.0) (late_old schema changes)
        (all_map (λ w. P (step_of true w)) (λ w. is_of table w.0.0 ≡ true → P (step_of true w)) (λ w good passes. good) (late_old schema changes) old_good)))

    pub each_step : AllByRecursion P steps
    each_step =
        every_append P (early_steps schema changes order) (flat_map (late_steps schema changes order) (table_ids schema)) early_good
        (all_flat P (late_steps schema changes order) (table_ids schema) late_good)

  pub steps_ok : AreAsRead schema old changes → AllByRecursion Good steps
  steps_ok read = each_step Good (λ step is. is) (clear_ok schema old changes order placed after told read)

  -- ---- what is to come

  changed_declared : (n : ℕ) → n < length changes.changed → writes_some (changed_at n).cells ≡ true → IsTable schema (changed_at n).name.table
  changed_declared n h some =
      is_declared schema old told.legal (changed_at n).name.table
      (member_all (λ (row : ChangedRow). is_created old row.name.table ≡ true) (written_rows changes) (changed_at n) (all_from (λ row. is_created old row.name.table) (written_rows changes) (created_parts schema old changes order placed after told).1)
      (member_filter (λ (row : ChangedRow). writes_some row.cells) (changed_at n) changes.changed some (number_member changes.changed n no_changed h)))

  gone_declared : (n : ℕ) → n < length changes.gone → IsTable schema (gone_at n).name.table
  gone_declared n h =
      is_declared schema old told.legal (gone_at n).name.table
      (all_at (λ (row : GoneRow). is_created old row.name.table ≡ true) changes.gone n no_gone (all_from (λ row. is_created old row.name.table) changes.gone (created_parts schema old changes order placed after told).2) h)

  early_comes : (n : ℕ) → n < length changes.changed → writing_some (cells_when schema changes false (changed_at n)) ≡ true → ToCome placed.keys false (place_of_changed (changed_at n)) steps
  early_comes n h some =
      let w : Writing = cells_when schema changes false (changed_at n) in
      come_of placed.keys false (place_of_changed (changed_at n)) (step_of false w) steps (early_in schema changes told.projected order n h some) refl (step_is placed.keys false w)

  late_comes : (n : ℕ) → n < length changes.changed → writing_some (cells_when schema changes true (changed_at n)) ≡ true → ToCome placed.keys true (place_of_changed (changed_at n)) steps
  late_comes n h some =
      let w : Writing = cells_when schema changes true (changed_at n) in
      come_of placed.keys true (place_of_changed (changed_at n)) (step_of true w) steps (late_in_steps schema changes told.projected order n (changed_declared n h (some_filter (λ cell. is_written_when schema changes true (changed_at n).name.table cell.0) (changed_at n).cells some)) h some) refl (step_is placed.keys true w)

  clear_comes : (n : ℕ) → n < length changes.gone → writing_some (late_gone schema changes (gone_at n)) ≡ true → ToCome placed.keys true (place_of_gone schema (gone_at n)) steps
  clear_comes n h some =
      let w : Writing = late_gone schema changes (gone_at n) in
      come_of placed.keys true (place_of_gone schema (gone_at n)) (step_of true w) steps (clear_in schema changes told.projected order n (gone_declared n h) h some) refl (step_is placed.keys true w)

  new_comes : (place : ℕ) → is_among order place ≡ true → writes_some (late_new schema changes place) ≡ true → ToCome placed.keys true (place_of_new changes placed.keys place) steps
  new_comes place among some =
      let table : TableId = table_at changes place in
      come_of placed.keys true (place_of_new changes placed.keys place) (new_step schema changes table place) steps
      (new_in schema changes order place (is_declared schema old told.legal table (new_created schema old changes order placed after told place among)) among some)
      refl (step_at schema old changes order placed after told place)

  either_comes : (n : ℕ) → n < length changes.changed → (late : Bool) → writes_some (cells_when schema changes late (changed_at n)).1 ≡ true → ToCome placed.keys late (place_of_changed (changed_at n)) steps
  either_comes n h true some = late_comes n h some
  either_comes n h false some = early_comes n h some

  abbrev Way : Place → List Value → Type 0
  Way q row = OnWay schema changes old after placed.keys steps q row

  unchanged : (q : Place) (row : List Value) → row_at old q ≡ Some row → row_at after q ≡ Some row → Way q row
  unchanged q row was then = record {
    early = row;
    late = row;
    is = sym (blend_self (late_name schema changes q.0) _ row (told_long schema old changes order placed after told q row (inl was)));
    from = inl was;
    after = inl (inl was);
    early_done = inl (inl then);
    late_done = inl (inl then);
  }

  -- what holds of the rows on their way holds of each old row, where it holds of those that are deleted
  module _ (P : Place → List Value → Type 0) (way : (q : Place) (row : List Value) → Way q row → P q row)
      (gone : (n : ℕ) (row : List Value) → n < length changes.gone → row_at old (place_of_gone schema (gone_at n)) ≡ Some row → P (place_of_gone schema (gone_at n)) row) where
    old_way : (q : Place) (row : List Value) → row_at old q ≡ Some row → P q row
    old_way q row was =
        elim (edit_cases (edits schema old changes order placed) q) [
          | inr still ↦ way q row (unchanged q row was (stated_other schema old changes order placed after told.sorted (known_facts schema old changes order placed after told) q still ∙ was))
          | inl found ↦ elim (member_split found.0 (map (edit_gone schema) changes.gone ++ map (edit_changed old placed.keys) (written_rows changes)) (map (edit_new schema changes placed) order) found.1) [
            | inr new ↦
                let p = new_case schema old changes order placed after told.sorted (known_facts schema old changes order placed after told) order found.0 new in
                absurd (none_some row (sym ((news schema old changes order placed after told).free p.0 p.1) ∙ ap (row_at old) (ap (λ e. e.0) p.2 ∙ found.2) ∙ was))
            | inl before ↦ elim (member_split found.0 (map (edit_gone schema) changes.gone) (map (edit_changed old placed.keys) (written_rows changes)) before) [
              | inl out ↦
                  let made = mapped_member (edit_gone schema) found.0 changes.gone out in
                  let n = member_number changes.gone made.0 no_gone made.1 in
                  let is : place_of_gone schema (gone_at n.0) ≡ q = ap (place_of_gone schema) n.2 ∙ ap (λ e. e.0) made.2 ∙ found.2 in
                  subst (λ p. P p row) is (gone n.0 row n.1 (ap (row_at old) is ∙ was))
              | inr changed ↦
                  let made = mapped_member (edit_changed old placed.keys) found.0 (written_rows changes) changed in
                  let both = filtered_member (λ r. writes_some r.cells) made.0 changes.changed made.1 in
                  let n = member_number changes.changed made.0 no_changed both.0 in
                  let is : place_of_changed (changed_at n.0) ≡ q = ap place_of_changed n.2 ∙ ap (λ e. e.0) made.2 ∙ found.2 in
                  way q row (subst (λ p. Way p row) is
                  (changed_way schema old changes order placed after told steps n.0 row (n.1, ap (λ (r : ChangedRow). writes_some r.cells) n.2 ∙ both.1) (ap (row_at old) is ∙ was) (either_comes n.0 n.1)))
            ]
          ]
        ]

  -- an old row that is stated is on its way
  pub stated_way : (q : Place) (row : List Value) → row_at old q ≡ Some row → is_present after q ≡ true → Way q row
  stated_way =
      old_way (λ q row. is_present after q ≡ true → Way q row) (λ q row way there. way)
      (λ n row h at there. absurd (true_false (sym there ∙ ap is_some (none_then schema old changes order placed after told n h))))

  -- and so is a new one
  pub placed_way : (place : ℕ) (written : List Value) → is_among order place ≡ true → row_at after (place_of_new changes placed.keys place) ≡ Some written
      → Way (place_of_new changes placed.keys place) (early_part schema changes (place_of_new changes placed.keys place) written)
  placed_way place written among stated = new_way schema old changes order placed after told steps place written among (new_comes place among) stated

  pub comes_up : AreAsRead schema old changes → Comes_up schema changes old after placed order steps
  comes_up read = record {
    old_rows = old_way Way (λ q row way. way) (λ n row h at. gone_way schema old changes order placed after told read steps n row h at (clear_comes n h));
    new_rows = placed_way;
  }
