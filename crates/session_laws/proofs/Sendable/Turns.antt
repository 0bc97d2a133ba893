-- Each run of new rows stands behind those whose keys it names.
use Rattle.std.proofs.Common.{◌≡◌, ⊎_elim, ℕ, suc, ◌<◌, ◌*◌, Bool, true, false, cond, not, ◌&&◌, List, [], ◌∷◌, ◌++◌, length, take, Some, Ok, refl, sym, ap, ◌∙◌, subst, append_assoc}
use Rattle.std.specs.Prelude.{nat_eq, nat_lt, slice_get, if◌then◌else◌}
use Rattle.std.specs.List.{AllByRecursion, list_all, list_any}
use Rattle.std.proofs.lemmas.Bool.{and_parts, or_left}
use Rattle.schema_core.specs.declared.changes.RowChanges.{RowChanges}
use Rattle.schema_core.specs.Catalog.{Catalog, spec_of}
use Rattle.std.specs.Cmp.Lexicographic.{pointwise}
use Rattle.flush_order.specs.Cells.{first_cells, table_at}
use Rattle.flush_order.specs.Orders.{insert_order}
use Rattle.row_order.specs.Places.{IsOrder, is_among, next_place}
use Rattle.flush_order.specs.Refers.{comes_from, new_refers}
use Rattle.flush_writes.specs.Runs.{goes_with, joins, leaves_key, nonempty_run, runs, runs_from, width}
use Rattle.session_laws.proofs.Plans.Facts.{bool_cases, not_true, or_false, true_false}
use Rattle.session_laws.proofs.Plans.InsertOrder.{get_seam, length_seam, take_prefix}
use Rattle.session_laws.proofs.Plans.Items.{Member, among_member, append_none, member_all, member_split}
use Rattle.session_laws.proofs.Plans.Ordering.{waits_not}
use Rattle.session_laws.proofs.Plans.Orders.{order_is}
use Rattle.session_laws.proofs.Plans.Stated.{all_from}
use Rattle.session_laws.specs.Sendable.{cell_fits}
use Rattle.session_laws.proofs.Sendable.Parts.{all_within}

module _ (schema : Catalog) (changes : RowChanges) where
  -- the keys that a new row names are those of these rows
  abbrev pub NamesOnly : List ℕ → ℕ → Type 0
  NamesOnly done place = (q : ℕ) → list_any (comes_from q) (first_cells schema changes place) ≡ true → Member q done

  -- each of the rows names only those before it
  abbrev pub AreInTurn : List ℕ → List ℕ → Type 0
  AreInTurn done [] = Unit {0}
  AreInTurn done (place ∷ places) = NamesOnly done place × AreInTurn (done ++ place ∷ []) places

  -- each row of a run names only those of runs before it
  abbrev pub AreBehind : List ℕ → List (List ℕ) → Type 0
  AreBehind done [] = Unit {0}
  AreBehind done (run ∷ runs) = AllByRecursion (NamesOnly done) run × AreBehind (done ++ run) runs

  -- ---- the order

  module _ (order : List ℕ) (ordered : insert_order schema changes ≡ Ok order) (fit : (place : ℕ) → place < length changes.fresh → pointwise (cell_fits schema changes) (spec_of schema (table_at changes place)).columns (first_cells schema changes place) ≡ true) where
    is_order : IsOrder (new_refers schema changes) (length changes.fresh) order
    is_order = order_is (new_refers schema changes) (length changes.fresh) order ordered

    placed_before : (done : List ℕ) (place : ℕ) (places : List ℕ) → done ++ place ∷ places ≡ order → place < length changes.fresh → NamesOnly done place
    placed_before done place places is less q names =
        ⊎_elim (λ (there : is_among done q ≡ true). among_member done q there)
        (λ (out : is_among done q ≡ false).
        let at : next_place (new_refers schema changes) (length changes.fresh) (take (length done) order) ≡ slice_get order (length done) =
        is_order.next (length done) (subst (λ (all : List ℕ). length done < length all) is (length_seam done place places)) in
        let next : next_place (new_refers schema changes) (length changes.fresh) done ≡ Some place =
        ap (next_place (new_refers schema changes) (length changes.fresh)) (sym (take_prefix done (place ∷ places)) ∙ ap (take (length done)) is) ∙ at ∙ ap (λ (all : List ℕ). slice_get all (length done)) (sym is) ∙ get_seam done place places in
        let within : q < length changes.fresh = all_within schema changes (spec_of schema (table_at changes place)).columns (first_cells schema changes place) q (fit place less) names in
        let waits : new_refers schema changes place q ≡ true = or_left (list_any (comes_from q) (first_cells schema changes place)) _ names in
        absurd (true_false (sym waits ∙ waits_not (new_refers schema changes) (length changes.fresh) done place q next within out)))
        (bool_cases (is_among done q))

    in_turn_from : (done places : List ℕ) → done ++ places ≡ order → AllByRecursion (λ place. place < length changes.fresh) places → AreInTurn done places
    in_turn_from done [] is within = tt
    in_turn_from done (place ∷ places) is within = (placed_before done place places is within.0, in_turn_from (done ++ place ∷ []) places (append_assoc done (place ∷ []) places ∙ is) within.1)

    pub in_turn : AllByRecursion (λ place. place < length changes.fresh) order → AreInTurn [] order
    in_turn within = in_turn_from [] order refl within

  -- ---- runs

  -- a row that joins a run names none of it
  joins_apart : (run : List ℕ) (place q : ℕ) → joins schema changes run place ≡ true → Member q run → list_any (comes_from q) (first_cells schema changes place) ≡ false
  joins_apart run place q together among =
      let room : Bool = nat_lt (length run) 1000 && nat_lt 0 (width schema changes place) && not (nat_lt 32700 (suc (length run) * width schema changes place)) in
      let all = (and_parts room (list_all (goes_with schema changes place) run) together).1 in
      let one : goes_with schema changes place q ≡ true = member_all (λ other. goes_with schema changes place other ≡ true) run q (all_from (goes_with schema changes place) run all) among in
      let alike : Bool = nat_eq (table_at changes q).0 (table_at changes place).0 && cond (leaves_key schema changes q) (leaves_key schema changes place) (not (leaves_key schema changes place)) in
      (or_false (list_any (comes_from q) (first_cells schema changes place)) _ (not_true (new_refers schema changes place q) (and_parts alike (not (new_refers schema changes place q)) one).1)).0

  only_before : (done run : List ℕ) (place : ℕ) → joins schema changes run place ≡ true → NamesOnly (done ++ run) place → NamesOnly done place
  only_before done run place together names q named =
      ⊎_elim (λ (there : Member q done). there) (λ (among : Member q run). absurd (true_false (sym named ∙ joins_apart run place q together among))) (member_split q done run (names q named))

  one_more : (P : ℕ → Type 0) (xs : List ℕ) (x : ℕ) → AllByRecursion P xs → P x → AllByRecursion P (xs ++ x ∷ [])
  one_more P [] x all here = (here, tt)
  one_more P (y ∷ ys) x all here = (all.0, one_more P ys x all.1 here)

  run_ends : (done run : List ℕ) (more : List (List ℕ)) → AllByRecursion (NamesOnly done) run → AreBehind (done ++ run) more → AreBehind done (nonempty_run run ++ more)
  run_ends done [] more refs rest = subst (λ (d : List ℕ). AreBehind d more) (append_none done) rest
  run_ends done (place ∷ places) more refs rest = (refs, rest)

  behind : (done run places : List ℕ) → AllByRecursion (NamesOnly done) run → AreInTurn (done ++ run) places → AreBehind done (runs_from schema changes run places)
  behind done run [] refs turn = subst (AreBehind done) (append_none (nonempty_run run)) (run_ends done run [] refs tt)
  behind done run (place ∷ places) refs turn =
      by (joins schema changes run place) refl (λ all later. behind done (run ++ place ∷ []) places all later) (behind (done ++ run) (place ∷ []) places (turn.0, tt) turn.1)
    where
      by : (b : Bool) → joins schema changes run place ≡ b → (AllByRecursion (NamesOnly done) (run ++ place ∷ []) → AreInTurn (done ++ (run ++ place ∷ [])) places → AreBehind done (runs_from schema changes (run ++ place ∷ []) places))
          → AreBehind (done ++ run) (runs_from schema changes (place ∷ []) places)
          → AreBehind done (if b then runs_from schema changes (run ++ place ∷ []) places else nonempty_run run ++ runs_from schema changes (place ∷ []) places)
      by true at joined rest = joined (one_more (NamesOnly done) run place refs (only_before done run place at turn.0)) (subst (λ (d : List ℕ). AreInTurn d places) (append_assoc done run (place ∷ [])) turn.1)
      by false at joined rest = run_ends done run (runs_from schema changes (place ∷ []) places) refs rest

  pub runs_behind : (order : List ℕ) → AreInTurn [] order → AreBehind [] (runs schema changes order)
  runs_behind order turn = behind [] [] order tt turn
