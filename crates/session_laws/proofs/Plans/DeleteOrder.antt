-- Each deleted row goes once no row left refers to it, under completeness's premises.
use Rattle.std.proofs.Common.{◌≡◌, ◌⊎◌, inl, inr, ℕ, zero, suc, ◌<◌, Bool, true, false, not, cond, ◌&&◌, ◌||◌, eqb, List, [], ◌∷◌, ◌++◌, map, length, take, get_or, None, Some, Ok, refl, sym, ap, ◌∙◌, subst, append_assoc, arith}
use Rattle.std.proofs.lemmas.Bool.{eq-eqb, eqb-true}
use Rattle.std.proofs.lemmas.List.Folds.{list_any-append}
use Rattle.std.specs.List.{AllByRecursion, IsDistinct, list_all, list_any, slice_get}
use Rattle.std.specs.Option.{is_some}
use Rattle.base_core.specs.declared.ids.TableId.{TableId}
use Rattle.base_core.specs.declared.value.Value.{Value}
use Rattle.base_core.specs.declared.value.Value.TheVariants.{Null}
use Rattle.schema_core.specs.declared.changes.GoneRow.{GoneRow}
use Rattle.schema_core.specs.declared.changes.RowChanges.{RowChanges}
use Rattle.schema_core.specs.declared.table.ColumnSpec.{ColumnSpec}
use Rattle.schema_core.specs.declared.table.ForeignSpec.{ForeignSpec}
use Rattle.schema_core.specs.Catalog.{Catalog, spec_of, target_of}
use Rattle.schema_core.specs.Declaration.{some_two}
use Rattle.schema_core.specs.Tables.{Tables, cells_of, has_null, same_values}
use Rattle.base_core.proofs.Tests.{or_then}
use Rattle.table_laws.proofs.Entries.{all_both, any_none}
use Rattle.flush_order.specs.Cells.{cells_cleared, is_late, late_name}
use Rattle.flush_order.specs.Orders.{delete_order, gone_at, gone_rows, no_gone, place_of_gone}
use Rattle.row_order.specs.Places.{IsOrder, is_among, next_place}
use Rattle.flush_order.specs.Refers.{gone_key, gone_refers, last_base, names}
use Rattle.flush_order.specs.Sorted.{Place, same_place, sorted_numbers}
use Rattle.flush_plan.specs.Flushing.{Sofar}
use Rattle.flush_plan.specs.Stating.{blend, edit_changed, edit_gone, edit_new, edits, is_present, row_at, written_rows}
use Rattle.session_laws.specs.Plans.Laws.{AreAsRead}
use Rattle.session_laws.proofs.Plans.Between.{all_forall, early_part, legal_cells}
use Rattle.session_laws.proofs.Plans.Blend.{Long, blend_early, blend_late, legal_is_long, nulls, nulls_are_long}
use Rattle.session_laws.proofs.Plans.Complete.{IsStated, all_created, apart, known_facts, stated_edit, whole_is_long}
use Rattle.session_laws.proofs.Plans.Deleting.{Closed, NamesAmong, Ordered}
use Rattle.session_laws.proofs.Plans.Differing.{apart_of, apart_other}
use Rattle.session_laws.proofs.Plans.Editing.{IsEdit, edit_cases}
use Rattle.session_laws.proofs.Plans.InsertOrder.{get_seam, length_seam, out_before, take_prefix}
use Rattle.session_laws.proofs.Plans.Items.{Member, all_at, all_map_of, all_members, among_member, get_mapped, length_mapped, mapped_member, member_among, member_left, member_map, member_number, member_split, number_member}
use Rattle.session_laws.proofs.Plans.Numbers.{AreOther, numbers_distinct, numbers_have, numbers_within, two_at}
use Rattle.session_laws.proofs.Plans.Ordering.{waits_not}
use Rattle.session_laws.proofs.Plans.Orders.{order_distinct, order_is, order_within}
use Rattle.session_laws.proofs.Plans.Placing.{distinct_out}
use Rattle.session_laws.proofs.Plans.Referring.{key_same, table_is}
use Rattle.session_laws.proofs.Plans.Stated.{stated_other}
use Rattle.session_laws.proofs.Plans.Facts.{or_cases, true_false}

-- ---- lists by number

get_among : (xs : List ℕ) (i d : ℕ) → i < length xs → is_among xs (get_or xs i d) ≡ true
get_among [] i d h = absurd (omega arith)
get_among (x ∷ xs) zero d h = ap (λ b. b || is_among xs x) (eq-eqb x x refl)
get_among (x ∷ xs) (suc i) d h = or_then (eqb (get_or xs i d) x) (is_among xs (get_or xs i d)) (get_among xs i d (omega arith))

among_at : (xs : List ℕ) (n d : ℕ) → is_among xs n ≡ true → (i : ℕ) × (i < length xs) × (get_or xs i d ≡ n)
among_at [] n d among = absurd (true_false (sym among))
among_at (x ∷ xs) n d among =
    elim (or_cases (eqb n x) (is_among xs n) among) [
      | inl here ↦ (0, omega arith, sym (eqb-true n x here))
      | inr more ↦ let found = among_at xs n d more in (suc found.0, omega (arith, found.1), found.2)
    ]

same_index : (xs : List ℕ) (i j d : ℕ) → IsDistinct eqb xs → i < length xs → j < length xs → get_or xs i d ≡ get_or xs j d → i ≡ j
unfolding IsDistinct
same_index [] i j d apart h k same = absurd (omega arith)
same_index (x ∷ xs) zero zero d apart h k same = refl
same_index (x ∷ xs) zero (suc j) d apart h k same =
    absurd (true_false (sym (eq-eqb x (get_or xs j d) same) ∙ all_at (λ y. eqb x y ≡ false) xs j d apart.0 (omega arith)))
same_index (x ∷ xs) (suc i) zero d apart h k same =
    absurd (true_false (sym (eq-eqb x (get_or xs i d) (sym same)) ∙ all_at (λ y. eqb x y ≡ false) xs i d apart.0 (omega arith)))
same_index (x ∷ xs) (suc i) (suc j) d apart h k same = ap suc (same_index xs i j d apart.1 (omega arith) (omega arith) same)

member_mapped : (pl : ℕ → Place) (xs : List ℕ) (i : ℕ) (q : Place) → is_among xs i ≡ true → pl i ≡ q → Member q (map pl xs)
member_mapped pl xs i q among same = subst (λ p. Member p (map pl xs)) same (member_map pl i xs (among_member xs i among))

split_at : (xs : List ℕ) (j : ℕ) → is_among xs j ≡ true → (ahead : List ℕ) × ((rest : List ℕ) × (xs ≡ ahead ++ j ∷ rest))
split_at [] j among = absurd (true_false (sym among))
split_at (x ∷ xs) j among =
    elim (or_cases (eqb j x) (is_among xs j) among) [
      | inl here ↦ ([], (xs, ap (λ y. y ∷ xs) (sym (eqb-true j x here))))
      | inr more ↦ let found = split_at xs j more in (x ∷ found.0, (found.1.0, ap (λ ys. x ∷ ys) found.1.1))
    ]

-- ---- a base that is cleared

cleared_blend : (t : ColumnSpec → Bool) (cs : List ColumnSpec) (row : List Value) → Long cs row → cells_cleared t Null cs row ≡ blend t cs row (nulls cs)
cleared_blend t [] row l = refl
cleared_blend t (c ∷ cs) [] l = absurd l
cleared_blend t (c ∷ cs) (v ∷ row) l = ap (λ r. cond (t c) Null v ∷ r) (cleared_blend t cs row l)

module _ (schema : Catalog) (changes : RowChanges) (gone_once : some_two (λ one other. same_place (place_of_gone schema one) (place_of_gone schema other)) changes.gone ≡ false) (gone_order : List ℕ) (ordered : delete_order schema changes (gone_rows schema changes) ≡ Ok gone_order) where
  abbrev rows : List GoneRow
  rows = gone_rows schema changes

  abbrev numbers : List ℕ
  numbers = sorted_numbers (map (place_of_gone schema) changes.gone)

  abbrev waits : ℕ → ℕ → Bool
  waits place other = gone_refers schema changes (gone_at rows place) (gone_at rows other)

  -- the place of a deleted row by its number in the order
  abbrev pub pl : ℕ → Place
  pl place = place_of_gone schema (gone_at rows place)

  no_place : Place
  no_place = place_of_gone schema no_gone

  size : length rows ≡ length numbers
  size = length_mapped (gone_at changes.gone) numbers

  places_size : length (map (place_of_gone schema) changes.gone) ≡ length changes.gone
  places_size = length_mapped (place_of_gone schema) changes.gone

  row_is : (i : ℕ) → i < length rows → gone_at rows i ≡ get_or changes.gone (get_or numbers i 0) no_gone
  row_is i h = get_mapped (gone_at changes.gone) numbers i 0 no_gone (subst (λ n. i < n) size h)

  number_within : (i : ℕ) → i < length rows → get_or numbers i 0 < length changes.gone
  number_within i h = subst (λ n. get_or numbers i 0 < n) places_size (numbers_within (map (place_of_gone schema) changes.gone) no_place (get_or numbers i 0) (get_among numbers i 0 (subst (λ n. i < n) size h)))

  others : AreOther (map (place_of_gone schema) changes.gone) no_place
  others = apart_other (map (place_of_gone schema) changes.gone) no_place (apart_of (place_of_gone schema) changes.gone gone_once)

  -- two rows of one place are one
  pub place_once : (i j : ℕ) → i < length rows → j < length rows → pl i ≡ pl j → i ≡ j
  place_once i j h k same =
      same_index numbers i j 0 (numbers_distinct (map (place_of_gone schema) changes.gone) no_place) (subst (λ n. i < n) size h) (subst (λ n. j < n) size k)
      (two_at (place_of_gone schema) changes.gone no_gone (get_or numbers i 0) (get_or numbers j 0) gone_once (number_within i h) (number_within j k)
      (ap (place_of_gone schema) (sym (row_is i h)) ∙ same ∙ ap (place_of_gone schema) (row_is j k)))

  -- each deleted row is in the order
  pub number_of : (m : ℕ) → m < length changes.gone → (i : ℕ) × (i < length rows) × (gone_at rows i ≡ get_or changes.gone m no_gone)
  number_of m h =
      let found = among_at numbers m 0 (numbers_have (map (place_of_gone schema) changes.gone) no_place m (subst (λ n. m < n) (sym places_size) h) others) in
      let inside : found.0 < length rows = subst (λ n. found.0 < n) (sym size) found.1 in
      (found.0, inside, row_is found.0 inside ∙ ap (λ k. get_or changes.gone k no_gone) found.2)

  pub is_order : IsOrder waits (length rows) gone_order
  is_order = order_is waits (length rows) gone_order ordered

  once : IsDistinct eqb gone_order
  once = order_distinct waits (length rows) gone_order ordered

  within : (i : ℕ) → is_among gone_order i ≡ true → i < length rows
  within i among = order_within waits (length rows) gone_order i ordered among

  among_split : (ahead rest : List ℕ) (q : ℕ) → gone_order ≡ ahead ++ rest → is_among rest q ≡ true → is_among gone_order q ≡ true
  among_split ahead rest q split among = ap (λ xs. is_among xs q) split ∙ list_any-append (eqb q) ahead rest ∙ or_then (is_among ahead q) (is_among rest q) among

  next_at : (ahead rest : List ℕ) (place : ℕ) → gone_order ≡ ahead ++ place ∷ rest → next_place waits (length rows) ahead ≡ Some place
  next_at ahead rest place split =
      let h : length ahead < length gone_order = subst (λ xs. length ahead < length xs) (sym split) (length_seam ahead place rest) in
      ap (next_place waits (length rows)) (sym (ap (take (length ahead)) split ∙ take_prefix ahead (place ∷ rest)))
      ∙ is_order.next (length ahead) h
      ∙ ap (λ xs. slice_get xs (length ahead)) split ∙ get_seam ahead place rest

  -- what went did not wait for what is left
  waits_none : (ahead rest : List ℕ) (j i : ℕ) → gone_order ≡ ahead ++ rest → is_among ahead j ≡ true → is_among rest i ≡ true → waits j i ≡ false
  waits_none ahead rest j i split gone left =
      let found = split_at ahead j gone in
      let whole : gone_order ≡ found.0 ++ j ∷ (found.1.0 ++ rest) = split ∙ ap (λ xs. xs ++ rest) found.1.1 ∙ append_assoc found.0 (j ∷ found.1.0) rest in
      let behind : is_among (j ∷ (found.1.0 ++ rest)) i ≡ true = or_then (eqb i j) (is_among (found.1.0 ++ rest) i) (list_any-append (eqb i) found.1.0 rest ∙ or_then (is_among found.1.0 i) (is_among rest i) left) in
      waits_not waits (length rows) found.0 j i (next_at found.0 (found.1.0 ++ rest) j whole) (within i (among_split ahead rest i split left))
      (out_before found.0 (j ∷ (found.1.0 ++ rest)) i (subst (IsDistinct eqb) whole once) behind)

  module _ (old : Tables) (order : List ℕ) (placed : Sofar) (after : Tables) (told : IsStated schema old changes order placed after) where
    gone_is : (i : ℕ) → i < length rows → IsEdit (edit_gone schema (gone_at rows i)) (edits schema old changes order placed)
    gone_is i h =
        subst (λ r. IsEdit (edit_gone schema r) (edits schema old changes order placed)) (sym (row_is i h))
        (member_left (edit_gone schema (get_or changes.gone (get_or numbers i 0) no_gone)) (map (edit_gone schema) changes.gone ++ map (edit_changed old placed.keys) (written_rows changes)) (map (edit_new schema changes placed) order)
        (member_left (edit_gone schema (get_or changes.gone (get_or numbers i 0) no_gone)) (map (edit_gone schema) changes.gone) (map (edit_changed old placed.keys) (written_rows changes))
        (member_map (edit_gone schema) (get_or changes.gone (get_or numbers i 0) no_gone) changes.gone (number_member changes.gone (get_or numbers i 0) no_gone (number_within i h)))))

    stated_none : (i : ℕ) → i < length rows → row_at after (pl i) ≡ None
    stated_none i h = stated_edit schema old changes order placed after told (edit_gone schema (gone_at rows i)) (gone_is i h)

    -- an old row that is not stated is a deleted one
    pub gone_cover : (q : Place) → row_at after q ≡ None → is_present old q ≡ true → (i : ℕ) × (i < length rows) × (pl i ≡ q)
    gone_cover q none there =
        elim (edit_cases (edits schema old changes order placed) q) [
          | inr still ↦ absurd (true_false (sym there ∙ ap is_some (sym (stated_other schema old changes order placed after told.sorted (known_facts schema old changes order placed after told) q still) ∙ none)))
          | inl found ↦ elim (member_split found.0 (map (edit_gone schema) changes.gone ++ map (edit_changed old placed.keys) (written_rows changes)) (map (edit_new schema changes placed) order) found.1) [
            | inr new ↦
                let made = mapped_member (edit_new schema changes placed) found.0 order new in
                absurd (true_false (ap is_some (ap (λ e. e.1) made.2 ∙ sym (stated_edit schema old changes order placed after told found.0 found.1) ∙ ap (row_at after) found.2 ∙ none)))
            | inl before ↦ elim (member_split found.0 (map (edit_gone schema) changes.gone) (map (edit_changed old placed.keys) (written_rows changes)) before) [
              | inr changed ↦
                  let made = mapped_member (edit_changed old placed.keys) found.0 (written_rows changes) changed in
                  absurd (true_false (ap is_some (ap (λ e. e.1) made.2 ∙ sym (stated_edit schema old changes order placed after told found.0 found.1) ∙ ap (row_at after) found.2 ∙ none)))
              | inl gone ↦
                  let made = mapped_member (edit_gone schema) found.0 changes.gone gone in
                  let m = member_number changes.gone made.0 no_gone made.1 in
                  let at = number_of m.0 m.1 in
                  (at.0, at.1, ap (place_of_gone schema) (at.2 ∙ m.2) ∙ ap (λ e. e.0) made.2 ∙ found.2)
            ]
          ]
        ]

    pub gone_covered : (q : Place) → row_at after q ≡ None → is_present old q ≡ true → Member q (map pl gone_order)
    gone_covered q none there = let found = gone_cover q none there in member_mapped pl gone_order found.0 q (is_order.each found.0 found.1) found.2

    -- no row that goes is stated
    pub gone_unstated : AllByRecursion (λ place. row_at after place ≡ None) (map pl gone_order)
    gone_unstated = all_map_of (λ place. row_at after place ≡ None) pl gone_order (all_members (λ i. row_at after (pl i) ≡ None) gone_order (λ i among. stated_none i (within i among)))

    -- ---- what is left is closed, where what stands was read

    module _ (read : AreAsRead schema old changes) where
      base_long : (i : ℕ) → i < length rows → Long (spec_of schema (gone_at rows i).name.table).columns (gone_at rows i).base
      base_long i h =
          subst (λ (r : GoneRow). Long (spec_of schema r.name.table).columns r.base) (sym (row_is i h))
          (whole_is_long (spec_of schema (get_or changes.gone (get_or numbers i 0) no_gone).name.table).columns (get_or changes.gone (get_or numbers i 0) no_gone).base
          (all_at (λ (r : GoneRow). length r.base ≡ length (spec_of schema r.name.table).columns) changes.gone (get_or numbers i 0) no_gone told.projected.gone_cells (number_within i h)))

      base_same : (i : ℕ) (row : List Value) → i < length rows → row_at old (pl i) ≡ Some row → AllByRecursion (λ foreign. cells_of (spec_of schema (gone_at rows i).name.table) row foreign.columns ≡ cells_of (spec_of schema (gone_at rows i).name.table) (gone_at rows i).base foreign.columns) (spec_of schema (gone_at rows i).name.table).foreigns
      base_same i row h at =
          subst (λ (r : GoneRow). row_at old (place_of_gone schema r) ≡ Some row → AllByRecursion (λ foreign. cells_of (spec_of schema r.name.table) row foreign.columns ≡ cells_of (spec_of schema r.name.table) r.base foreign.columns) (spec_of schema r.name.table).foreigns)
          (sym (row_is i h))
          (all_at (λ (r : GoneRow). (stands : List Value) → row_at old (place_of_gone schema r) ≡ Some stands → AllByRecursion (λ foreign. cells_of (spec_of schema r.name.table) stands foreign.columns ≡ cells_of (spec_of schema r.name.table) r.base foreign.columns) (spec_of schema r.name.table).foreigns) changes.gone (get_or numbers i 0) no_gone read.base (number_within i h) row)
          at

      cells_same : (i : ℕ) (row : List Value) (foreign : ForeignSpec) → i < length rows → Long (spec_of schema (gone_at rows i).name.table).columns row → cells_of (spec_of schema (gone_at rows i).name.table) row foreign.columns ≡ cells_of (spec_of schema (gone_at rows i).name.table) (gone_at rows i).base foreign.columns → (list_all (late_name schema changes (gone_at rows i).name.table) foreign.columns ≡ true) ⊎ (list_any (late_name schema changes (gone_at rows i).name.table) foreign.columns ≡ false) → cells_of (spec_of schema (gone_at rows i).name.table) (last_base schema changes (gone_at rows i)) foreign.columns ≡ cells_of (spec_of schema (gone_at rows i).name.table) (early_part schema changes (pl i) row) foreign.columns
      cells_same i row foreign h long same kind =
          let table : TableId = (gone_at rows i).name.table in
          let cs : List ColumnSpec = (spec_of schema table).columns in
          ap (λ r. cells_of (spec_of schema table) r foreign.columns) (cleared_blend (is_late schema changes table) cs (gone_at rows i).base (base_long i h))
          ∙ elim kind [
            | inl whole ↦ blend_late (late_name schema changes table) cs (gone_at rows i).base (nulls cs) foreign.columns (base_long i h) (nulls_are_long cs) whole
                ∙ sym (blend_late (late_name schema changes table) cs row (nulls cs) foreign.columns long (nulls_are_long cs) whole)
            | inr none ↦ blend_early (late_name schema changes table) cs (gone_at rows i).base (nulls cs) foreign.columns (base_long i h) (nulls_are_long cs) none
                ∙ sym same ∙ sym (blend_early (late_name schema changes table) cs row (nulls cs) foreign.columns long (nulls_are_long cs) none)
          ]

      abbrev Went : List ℕ → Type 0
      Went ahead = (j : ℕ) × (is_among ahead j ≡ true)

      among_named : (ahead rest : List ℕ) (i : ℕ) (row : List Value) (foreign : ForeignSpec) → gone_order ≡ ahead ++ rest → i < length rows → Long (spec_of schema (gone_at rows i).name.table).columns row → cells_of (spec_of schema (gone_at rows i).name.table) row foreign.columns ≡ cells_of (spec_of schema (gone_at rows i).name.table) (gone_at rows i).base foreign.columns → ((list_all (late_name schema changes (gone_at rows i).name.table) foreign.columns ≡ true) ⊎ (list_any (late_name schema changes (gone_at rows i).name.table) foreign.columns ≡ false)) × ((went : Went ahead) → names schema (last_base schema changes (gone_at rows i)) (gone_at rows i).name.table (gone_at rows went.0).name.table (gone_key schema (gone_at rows went.0)) foreign ≡ false) → NamesAmong schema changes old after (map pl rest) (pl i) row foreign
      among_named ahead rest i row foreign split h long same both t target whole none there =
          let table : TableId = (gone_at rows i).name.table in
          let key : List Value = cells_of (spec_of schema table) (early_part schema changes (pl i) row) foreign.columns in
          let is : cells_of (spec_of schema table) (last_base schema changes (gone_at rows i)) foreign.columns ≡ key = cells_same i row foreign h long same both.0 in
          let found = gone_cover (t, key) none there in
          let placed_at : (is_among ahead found.0 || is_among rest found.0) ≡ true = sym (list_any-append (eqb found.0) ahead rest) ∙ ap (λ xs. is_among xs found.0) (sym split) ∙ is_order.each found.0 found.1 in
          elim (or_cases (is_among ahead found.0) (is_among rest found.0) placed_at) [
            | inr left ↦ member_mapped pl rest found.0 (t, key) left found.2
            | inl went ↦
                let no = both.1 (found.0, went) in
                let to : target_of schema foreign ≡ Some (gone_at rows found.0).name.table = target ∙ ap Some (sym (ap (λ q. q.0) found.2)) in
                let named : gone_key schema (gone_at rows found.0) ≡ key = ap (λ q. q.1) found.2 in
                absurd (true_false (sym ((λ k. table_is schema changes placed.keys (gone_at rows found.0).name.table (target_of schema foreign) to k && not (has_null (is k)) && same_values (is k) (gone_key schema (gone_at rows found.0)))
                ∙ (λ k. not (whole k) && same_values key (gone_key schema (gone_at rows found.0)))
                ∙ key_same schema changes placed.keys key (gone_key schema (gone_at rows found.0)) (sym named)) ∙ no))
          ]

      closed_at : (ahead rest : List ℕ) (i : ℕ) (row : List Value) → gone_order ≡ ahead ++ rest → is_among rest i ≡ true → row_at old (pl i) ≡ Some row → AllByRecursion (NamesAmong schema changes old after (map pl rest) (pl i) row) (spec_of schema (gone_at rows i).name.table).foreigns
      closed_at ahead rest i row split left at =
          let h : i < length rows = within i (among_split ahead rest i split left) in
          let table : TableId = (gone_at rows i).name.table in
          all_both (λ foreign. cells_of (spec_of schema table) row foreign.columns ≡ cells_of (spec_of schema table) (gone_at rows i).base foreign.columns)
          (λ foreign. ((list_all (late_name schema changes table) foreign.columns ≡ true) ⊎ (list_any (late_name schema changes table) foreign.columns ≡ false)) × ((went : Went ahead) → names schema (last_base schema changes (gone_at rows i)) table (gone_at rows went.0).name.table (gone_key schema (gone_at rows went.0)) foreign ≡ false))
          (NamesAmong schema changes old after (map pl rest) (pl i) row)
          (λ foreign same both. among_named ahead rest i row foreign split h (legal_is_long (spec_of schema table).columns row (legal_cells schema old told.legal (pl i) row at)) same both)
          (spec_of schema table).foreigns (base_same i row h at)
          (all_both (λ foreign. (list_all (late_name schema changes table) foreign.columns ≡ true) ⊎ (list_any (late_name schema changes table) foreign.columns ≡ false)) (λ foreign. (went : Went ahead) → names schema (last_base schema changes (gone_at rows i)) table (gone_at rows went.0).name.table (gone_key schema (gone_at rows went.0)) foreign ≡ false)
          (λ foreign. ((list_all (late_name schema changes table) foreign.columns ≡ true) ⊎ (list_any (late_name schema changes table) foreign.columns ≡ false)) × ((went : Went ahead) → names schema (last_base schema changes (gone_at rows i)) table (gone_at rows went.0).name.table (gone_key schema (gone_at rows went.0)) foreign ≡ false))
          (λ foreign a b. (a, b)) (spec_of schema table).foreigns (told.projected.fit.foreigns table)
          (all_forall (λ (went : Went ahead) foreign. names schema (last_base schema changes (gone_at rows i)) table (gone_at rows went.0).name.table (gone_key schema (gone_at rows went.0)) foreign ≡ false) (spec_of schema table).foreigns
          (λ went. any_none (names schema (last_base schema changes (gone_at rows i)) table (gone_at rows went.0).name.table (gone_key schema (gone_at rows went.0))) (spec_of schema table).foreigns (waits_none ahead rest went.0 i split went.1 left))))

      pub closed_rest : (ahead rest : List ℕ) → gone_order ≡ ahead ++ rest → Closed schema changes old after (map pl rest)
      closed_rest ahead rest split place row member at =
          let found = mapped_member pl place rest member in
          subst (λ q. row_at old q ≡ Some row → AllByRecursion (NamesAmong schema changes old after (map pl rest) q row) (spec_of schema q.0).foreigns) found.2 (closed_at ahead rest found.0 row split (member_among rest found.0 found.1)) at

      distinct_suffix : (ahead rest : List ℕ) → IsDistinct eqb (ahead ++ rest) → IsDistinct eqb rest
      unfolding IsDistinct
      distinct_suffix [] rest apart = apart
      distinct_suffix (x ∷ ahead) rest apart = distinct_suffix ahead rest apart.1

      ordered_rest : (ahead rest : List ℕ) → gone_order ≡ ahead ++ rest → Ordered schema changes old after (map pl rest)
      ordered_rest ahead [] split = tt
      ordered_rest ahead (i ∷ rest) split =
          let h : i < length rows = within i (among_split ahead (i ∷ rest) i split (ap (λ b. b || is_among rest i) (eq-eqb i i refl))) in
          let next : gone_order ≡ (ahead ++ i ∷ []) ++ rest = split ∙ sym (append_assoc ahead (i ∷ []) rest) in (
            stated_none i h,
            all_created schema old changes order placed after told (edit_gone schema (gone_at rows i)) (gone_is i h),
            (λ member.
                let found = mapped_member pl (pl i) rest member in
                let k : found.0 < length rows = within found.0 (among_split (ahead ++ i ∷ []) rest found.0 next (member_among rest found.0 found.1)) in
                true_false (sym (subst (λ n. is_among rest n ≡ true) (place_once found.0 i k h found.2) (member_among rest found.0 found.1)) ∙ distinct_out schema changes i rest (distinct_suffix ahead (i ∷ rest) (subst (IsDistinct eqb) split once)))),
            closed_rest (ahead ++ i ∷ []) rest next,
            ordered_rest (ahead ++ i ∷ []) rest next,
          )

      pub gone_closed : Closed schema changes old after (map pl gone_order)
      gone_closed = closed_rest [] gone_order refl

      pub gone_ordered : Ordered schema changes old after (map pl gone_order)
      gone_ordered = ordered_rest [] gone_order refl
