-- What starts a delete is among what a flush deletes, and an orphan that is new among what is new no more.
use Rattle.std.proofs.Common.{◌≡◌, inl, ℕ, ◌<◌, Bool, true, false, not, ◌&&◌, ◌||◌, ◌==◌, List, [], ◌∷◌, ◌++◌, length, map, None, Some, refl, ap, ◌∙◌, arith}
use Rattle.std.specs.Prelude.{find}
use Rattle.std.specs.List.{filter, list_all, range_with_len}
use Rattle.std.proofs.lemmas.Bool.{and_parts, eq-eqb, or_right}
use Rattle.std.proofs.lemmas.List.FromFn.{get_or-map-range_with_len, length-map-range_with_len}
use Rattle.std.proofs.lemmas.Option.{slice_get-get_or}
use Rattle.base_core.specs.declared.ids.ObjId.{ObjId}
use Rattle.class_mapping.specs.Mapped.{Mapped}
use Rattle.class_mapping.proofs.Having.{Has, all_of, any_has, has_at, has_filter, has_right}
use Rattle.cascades.specs.declared.closures.Flag.{Flag}
use Rattle.cascades.specs.declared.closures.Flag.TheVariants.{Delete, Expunge}
use Rattle.cascades.specs.Closures.{is_closed, sublists}
use Rattle.cascades.specs.Closures as closures
use Rattle.cascades.specs.Reaching.{has_with, reach_of}
use Rattle.object_arena.specs.Graph.{Graph, is_among, is_pending, is_persistent, object_at}
use Rattle.object_arena.specs.Identity.{id_of_place}
use Rattle.object_rows.specs.Seen.{object_ids}
use Rattle.prepared_objects.specs.Known.{is_read, next_unread}
use Rattle.prepared_objects.specs.Leaving.{cleared, delete_starts, dropped, going, is_new_orphan, left_with_orphans, new_orphans, prepared_of, reached, starts_deletes}
use Rattle.session_laws.specs.Flushed.{nothing_prepared}
use Rattle.session_laws.proofs.Sound.Touches.{not_true}

-- ---- lists

each_list : {A : Type 0} (test : A → Bool) (xs : List A) → ((x : A) → test x ≡ true) → list_all test xs ≡ true
each_list test [] one = refl
each_list test (x ∷ xs) one = ap (λ (b : Bool). b && list_all test xs) (one x) ∙ each_list test xs one

none_kept : {A : Type 0} (test : A → Bool) (xs : List A) → ((x : A) → test x ≡ false) → filter test xs ≡ []
none_kept test [] none = refl
none_kept test (x ∷ xs) none = rw (none x) (none_kept test xs none)

among : (objects : List ObjId) (object : ObjId) → Has objects object → is_among objects object ≡ true
among objects object has = any_has (λ (other : ObjId). other.0 == object.0) objects object has (eq-eqb object.0 object.0 refl)

-- ---- the least closed set that has some objects

module _ (flag : Flag) (mapped : Mapped) (graph : Graph) where
  -- a start is in each closed set that has the starts
  start_with : (starts : List ObjId) (object : ObjId) → Has starts object → (objects : List ObjId) → has_with flag mapped graph starts object objects ≡ true
  start_with starts object has objects = by (list_all (closures.is_among objects) starts) refl
    where
      by : (b : Bool) → list_all (closures.is_among objects) starts ≡ b → (not (b && is_closed flag mapped graph objects) || closures.is_among objects object) ≡ true
      by false is = refl
      by true is = or_right (not (true && is_closed flag mapped graph objects)) (closures.is_among objects object) (all_of (closures.is_among objects) starts object is has)

  start_reached : (starts : List ObjId) (object : ObjId) → Has (object_ids graph) object → Has starts object → Has (reach_of flag mapped graph starts) object
  unfolding reach_of object_ids
  start_reached starts object there has =
      let all : List ObjId = map id_of_place (range_with_len 0 (length graph.objects)) in
      has_filter (λ (other : ObjId). list_all (has_with flag mapped graph starts other) (sublists all)) all object there
      (each_list (has_with flag mapped graph starts object) (sublists all) (start_with starts object has))

  empty_among : (objects : List ObjId) → Has (sublists objects) []
  empty_among [] = inl refl
  empty_among (object ∷ objects) = has_right (map (λ some. object ∷ some) (sublists objects)) (sublists objects) [] (empty_among objects)

  -- the empty set is closed
  none_reached : reach_of flag mapped graph [] ≡ []
  unfolding reach_of
  none_reached =
      let all : List ObjId = map id_of_place (range_with_len 0 (length graph.objects)) in
      none_kept (λ (object : ObjId). list_all (has_with flag mapped graph [] object) (sublists all)) all
      (λ object.
      not_true (list_all (has_with flag mapped graph [] object) (sublists all))
      (λ is. let never : false ≡ true = all_of (has_with flag mapped graph [] object) (sublists all) [] is (empty_among all) in cc))

-- ---- what a flush decides

module _ (mapped : Mapped) (graph : Graph) where
  here : (place : ℕ) → place < length graph.objects → Has (object_ids graph) (id_of_place place)
  unfolding object_ids
  here place inside =
      let all : List ObjId = map id_of_place (range_with_len 0 (length graph.objects)) in
      let within : place < length all = omega (arith, inside, length-map-range_with_len id_of_place 0 (length graph.objects)) in
      has_at all place (id_of_place place)
      (slice_get-get_or all place (id_of_place place) within ∙ ap Some (get_or-map-range_with_len id_of_place 0 (length graph.objects) place place (id_of_place place) inside (omega arith)))

  -- what is persistent, and marked or left by its parent, is to be deleted
  pub starts_going : (place : ℕ) → place < length graph.objects → starts_deletes (object_at graph (id_of_place place)) ≡ true → is_among (going mapped graph) (id_of_place place) ≡ true
  unfolding going reached
  starts_going place inside is =
      let object : ObjId = id_of_place place in
      let it = object_at graph object in
      let there : Has (object_ids graph) object = here place inside in
      let started : Has (delete_starts graph) object = has_filter (λ (other : ObjId). starts_deletes (object_at graph other)) (object_ids graph) object there is in
      among (going mapped graph) object
      (has_filter (λ (other : ObjId). is_persistent (object_at graph other).state) (reached mapped graph) object (start_reached Delete mapped graph (delete_starts graph) object there started)
      (and_parts (is_persistent it.state) (it.marked || it.orphan) is).0)

  pub prepared_among : (place : ℕ) → place < length graph.objects → starts_deletes (object_at graph (id_of_place place)) ≡ true → is_among (prepared_of mapped graph).deleted (id_of_place place) ≡ true
  unfolding prepared_of
  prepared_among place inside is = starts_going place inside is

  -- what is pending, and left by its parent, is to be transient
  pub dropped_among : (place : ℕ) → place < length graph.objects → is_new_orphan (object_at graph (id_of_place place)) ≡ true → is_among (prepared_of mapped graph).transient (id_of_place place) ≡ true
  unfolding prepared_of dropped left_with_orphans
  dropped_among place inside is =
      let object : ObjId = id_of_place place in
      let it = object_at graph object in
      let there : Has (object_ids graph) object = here place inside in
      let orphaned : Has (new_orphans graph) object = has_filter (λ (other : ObjId). is_new_orphan (object_at graph other)) (object_ids graph) object there is in
      among (dropped mapped graph) object
      (has_filter (λ (other : ObjId). is_pending (object_at graph other).state) (reached mapped graph ++ left_with_orphans mapped graph) object
      (has_right (reached mapped graph) (left_with_orphans mapped graph) object (start_reached Expunge mapped graph (new_orphans graph) object there orphaned))
      (and_parts (is_pending it.state) it.orphan is).0)

  -- ---- where nothing starts a delete

  pub none_going : ((object : ObjId) → starts_deletes (object_at graph object) ≡ false) → going mapped graph ≡ []
  unfolding going reached
  none_going none =
      let persists : ObjId → Bool = λ other. is_persistent (object_at graph other).state in
      ap (λ (starts : List ObjId). filter persists (reach_of Delete mapped graph starts)) (none_kept (λ (object : ObjId). starts_deletes (object_at graph object)) (object_ids graph) none)
      ∙ ap (filter persists) (none_reached Delete mapped graph)

  -- nothing is to be read then
  pub none_unread : going mapped graph ≡ [] → next_unread mapped graph ≡ None
  unfolding next_unread
  none_unread none = ap (find (λ object. not (is_read mapped graph object))) none

  -- and where nothing is pending, nothing is to be written for objects that leave
  pub none_prepared : going mapped graph ≡ [] → ((object : ObjId) → is_pending (object_at graph object).state ≡ false) → prepared_of mapped graph ≡ nothing_prepared
  unfolding prepared_of dropped cleared
  none_prepared none settled =
      ap (λ (objects : List ObjId). record { deleted = objects; transient = dropped mapped graph; cleared = cleared mapped graph objects }) none
      ∙ ap (λ (objects : List ObjId). record { deleted = []; transient = objects; cleared = [] })
      (none_kept (λ (object : ObjId). is_pending (object_at graph object).state) (reached mapped graph ++ left_with_orphans mapped graph) settled)
