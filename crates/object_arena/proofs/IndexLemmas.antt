-- What writes of objects keep of the ordered map, and whom it finds.
use Rattle.std.proofs.Common.{◌≡◌, ◌≢◌, ℕ, ◌+◌, ◌<◌, ◌≤◌, Bool, true, false, ◌&&◌, List, [], ◌∷◌, ◌++◌, length, get_or, Option, None, Some, is_some, refl, sym, ap, ◌∙◌, subst, ⊎_elim, arith}
use Rattle.std.specs.Prelude.{OnOk, OnErr, Result, Ok, Err, nat_lt, nat_le, ◌==◌, slice_set, if◌then◌else◌}
use Rattle.std.specs.Ordering.{is_eq}
use Rattle.std.specs.Option.{option_map}
use Rattle.std.specs.List.{position, zip}
use Rattle.std.proofs.lemmas.Bool.{and_from, and_parts, cases_Bool, cases_eq, cases_lt, eqb-true, eq-eqb}
use Rattle.std.proofs.lemmas.Bool.Decides.{nat_tests}
use Rattle.std.proofs.lemmas.List.{get_or_append_left, get_or_default}
use Rattle.std.proofs.lemmas.List.Elements.{All-nil}
use Rattle.base_core.specs.declared.ids.ObjId.{ObjId}
use Rattle.base_core.specs.declared.ids.ClassId.{ClassId}
use Rattle.base_core.specs.declared.value.Value.{Value}
use Rattle.base_core.specs.Order.{values_cmp}
use Rattle.object_arena.specs.Entries.{IsPut, IsSame, Keyed, entry_of, is_entry}
use Rattle.object_arena.specs.declared.object.State.{State}
use Rattle.object_arena.specs.declared.object.State.TheVariants.{Transient, Pending, Persistent, Deleted, Detached}
use Rattle.object_arena.specs.declared.object.Object.{Object}
use Rattle.object_arena.specs.Graph.{Graph, IsObject, has_identity, is_persistent, kept_identity, place_of, put_back_object, no_class_id, no_object, object_at, object_limit, root_at}
use Rattle.object_arena.specs.Identity.{IsFree, IsGraph, has_key, holds, holds_at, is_identified, is_taken, id_of_place}
use Rattle.object_arena.specs.Index.{IsComplete, IsIndexed, IsMoved, is_holder, number_of}
use Rattle.object_arena.proofs.GraphLemmas.{Owns, at_other, at_same, graph_back, graph_kept, graph_pushed, graph_registered, graph_stated, held_inside, held_position, owns_back, owns_free, settled_identity, settled_state, transient_past}
use Rattle.object_arena.proofs.HolderLemmas.{place_holds}

-- ---- a write that is persistent under nothing new

complete_kept : (objects : List Object) (roots : List ClassId) (maps : List Keyed) (p : ℕ) (old new : Object) → p < length objects → old ≡ get_or objects p no_object → new.state ≡ old.state → new.identity ≡ old.identity → IsComplete objects roots maps → IsComplete (slice_set objects p new) roots maps
complete_kept objects roots maps p old new less was state identity all root key j held =
    ⊎_elim
    (λ (same : j ≡ p).
    let H : Object → Type 0 = λ o. holds root key (o, get_or roots p no_class_id) ≡ true in
    let own : holds root key (new, get_or roots p no_class_id) ≡ true = sym (at_same objects roots root key p new less) ∙ subst (λ (k : ℕ). holds_at (slice_set objects p new) roots root key k ≡ true) same held in
    let own_old : holds root key (old, get_or roots p no_class_id) ≡ true = rw (sym state, sym identity) own in
    all root key p (subst H was own_old) ∙ ap (λ (k : ℕ). k + 1) (sym same))
    (λ (other : j ≢ p). all root key j (sym (at_other objects roots root key p j new other) ∙ held))
    (cases_eq j p)

pub indexed_kept : (objects : List Object) (roots : List ClassId) (maps : List Keyed) (complete : Bool) (p : ℕ) (old new : Object) → IsIndexed objects roots maps complete → p < length objects → old ≡ get_or objects p old → new.state ≡ old.state → new.identity ≡ old.identity → IsIndexed (slice_set objects p new) roots maps complete
indexed_kept objects roots maps complete p old new indexed less read state identity = record {
  graph = graph_kept objects roots p old new indexed.graph less read state identity;
  entries = λ is. complete_kept objects roots maps p old new less (read ∙ get_or_default objects p old no_object less) state identity (indexed.entries is);
}

-- a write of an object that is not persistent
complete_left : (objects : List Object) (roots : List ClassId) (old_maps maps : List Keyed) (p : ℕ) (new : Object) → p < length objects → is_persistent new.state ≡ false → IsSame old_maps maps → IsComplete objects roots old_maps → IsComplete (slice_set objects p new) roots maps
complete_left objects roots old_maps maps p new less left same all root key j held =
    ⊎_elim
    (λ (here : j ≡ p).
    let own : holds root key (new, get_or roots p no_class_id) ≡ true = sym (at_same objects roots root key p new less) ∙ subst (λ (k : ℕ). holds_at (slice_set objects p new) roots root key k ≡ true) here held in
    let persistent : is_persistent new.state ≡ true = (and_parts (is_persistent new.state) _ own).0 in
    absurd (let e : true ≡ false = sym persistent ∙ left in cc))
    (λ (other : j ≢ p). ap number_of (same root key) ∙ all root key j (sym (at_other objects roots root key p j new other) ∙ held))
    (cases_eq j p)

pub indexed_stated : (objects : List Object) (roots : List ClassId) (maps : List Keyed) (complete : Bool) (p : ℕ) (old new : Object) (state : State) → IsIndexed objects roots maps complete → p < length objects → old ≡ get_or objects p old → is_persistent state ≡ false → (has_identity state ≡ true → is_some (get_or objects p no_object).identity ≡ true) → new ≡ record old { state = state; identity = kept_identity state old.identity } → IsIndexed (slice_set objects p new) roots maps complete
indexed_stated objects roots maps complete p old new state indexed less read left had is = record {
  graph = graph_stated objects roots p old new state indexed.graph less read left had is;
  entries = λ whole. complete_left objects roots maps maps p new less (ap (λ (o : Object). is_persistent o.state) is ∙ left) (λ root key. refl) (indexed.entries whole);
}

-- ---- one more object

pub indexed_pushed : (objects : List Object) (roots : List ClassId) (maps : List Keyed) (complete : Bool) (new : Object) (root : ClassId) → IsIndexed objects roots maps complete → length objects < object_limit → new.state ≡ Transient → new.identity ≡ None → IsIndexed (objects ++ new ∷ []) (roots ++ root ∷ []) maps complete
indexed_pushed objects roots maps complete new root indexed less state identity = record {
  graph = graph_pushed objects roots new root indexed.graph less state identity;
  entries = λ whole own key i held. indexed.entries whole own key i (old own key i held);
}
  where
    old : (own : ClassId) (key : List Value) (i : ℕ) → holds_at (objects ++ new ∷ []) (roots ++ root ∷ []) own key i ≡ true → holds_at objects roots own key i ≡ true
    old own key i held =
        ⊎_elim
        (λ (inside : i < length objects).
        sym (ap (λ (o : Object). holds own key (o, get_or roots i no_class_id)) (get_or_append_left objects (new ∷ []) no_object i inside))
        ∙ sym (ap (λ (r : ClassId). holds own key (get_or (objects ++ new ∷ []) i no_object, r)) (get_or_append_left roots (root ∷ []) no_class_id i (omega (arith, indexed.graph.rooted))))
        ∙ held)
        (λ (past : length objects ≤ i).
        let persistent : is_persistent (get_or (objects ++ new ∷ []) i no_object).state ≡ true = (and_parts (is_persistent (get_or (objects ++ new ∷ []) i no_object).state) _ held).0 in
        let left : is_persistent (get_or (objects ++ new ∷ []) i no_object).state ≡ false = ap is_persistent (transient_past objects new i past state) in
        absurd (let e : true ≡ false = sym persistent ∙ left in cc))
        (cases_lt i (length objects))

-- both lists got one more, or neither
pub indexed_after : {E : Type 0} (objects new_objects : List Object) (roots new_roots : List ClassId) (maps : List Keyed) (complete : Bool) (new : Object) (root : ClassId) (result : Result (Unit {0}) E) → IsIndexed objects roots maps complete → length objects < object_limit → new.state ≡ Transient → new.identity ≡ None
    → OnOk result ((new_objects ≡ objects ++ new ∷ []) × (new_roots ≡ roots ++ root ∷ [])) → OnErr result ((new_objects ≡ objects) × (new_roots ≡ roots)) → IsIndexed new_objects new_roots maps complete
indexed_after objects new_objects roots new_roots maps complete new root (Ok done) indexed less state identity ok err = rw (ok.0, ok.1) (indexed_pushed objects roots maps complete new root indexed less state identity)
indexed_after objects new_objects roots new_roots maps complete new root (Err full) indexed less state identity ok err = rw (err.0, err.1) indexed

-- ---- an object that is persistent under a key

-- what the new object holds, where it is persistent under the key
new_holds : (own root : ClassId) (key other : List Value) (new : Object) → new.state ≡ Persistent → new.identity ≡ Some key → is_entry own key root other ≡ true → holds root other (new, own) ≡ true
new_holds own root key other new state identity entry =
    let parts = and_parts (root.0 == own.0) (is_eq (values_cmp key other)) entry in
    and_from (is_persistent new.state) (own.0 == root.0 && has_key other new.identity) (ap is_persistent state)
    (and_from (own.0 == root.0) (has_key other new.identity) (eq-eqb own.0 root.0 (sym (eqb-true root.0 own.0 parts.0))) (ap (has_key other) identity ∙ parts.1))

its_entry : (own root : ClassId) (key other : List Value) (new : Object) → new.identity ≡ Some key → holds root other (new, own) ≡ true → is_entry own key root other ≡ true
its_entry own root key other new identity held =
    let inner = and_parts (own.0 == root.0) (has_key other new.identity) (and_parts (is_persistent new.state) (own.0 == root.0 && has_key other new.identity) held).1 in
    and_from (root.0 == own.0) (is_eq (values_cmp key other)) (eq-eqb root.0 own.0 (sym (eqb-true own.0 root.0 inner.0))) (sym (ap (has_key other) identity) ∙ inner.1)

complete_put : (objects : List Object) (roots : List ClassId) (old_maps maps : List Keyed) (object : ObjId) (key : List Value) (new : Object) → 0 < object.0 → object.0 ≤ length objects → new.state ≡ Persistent → new.identity ≡ Some key
    → Owns objects roots (place_of object) new → IsPut old_maps maps (get_or roots (place_of object) no_class_id) key object → IsComplete objects roots old_maps → IsComplete (slice_set objects (place_of object) new) roots maps
unfolding Owns
complete_put objects roots old_maps maps object key new above within state identity mine put all root other j held =
    let p : ℕ = place_of object in
    let own : ClassId = get_or roots p no_class_id in
    let less : p < length objects = omega arith in
    ⊎_elim
    (λ (here : j ≡ p).
    let holder : holds root other (new, own) ≡ true = sym (at_same objects roots root other p new less) ∙ subst (λ (k : ℕ). holds_at (slice_set objects p new) roots root other k ≡ true) here held in
    let place : object.0 ≡ j + 1 = omega (arith, here) in
    ap number_of (put root other ∙ ap (λ (b : Bool). if b then Some object else entry_of old_maps root other) (its_entry own root key other new identity holder)) ∙ place)
    (λ (apart : j ≢ p).
    let old : holds_at objects roots root other j ≡ true = sym (at_other objects roots root other p j new apart) ∙ held in
    ⊎_elim
    (λ (entry : is_entry own key root other ≡ true). absurd (apart (mine root other (new_holds own root key other new state identity entry) j old)))
    (λ (none : is_entry own key root other ≡ false).
    ap number_of (put root other ∙ ap (λ (b : Bool). if b then Some object else entry_of old_maps root other) none) ∙ all root other j old)
    (cases_Bool (is_entry own key root other)))
    (cases_eq j p)

-- a registration under a free key, where there was memory for its entry, or the map is complete no more
pub indexed_registered : (objects : List Object) (roots : List ClassId) (old_maps maps : List Keyed) (complete now : Bool) (object : ObjId) (key : List Value) (new : Object) → IsIndexed objects roots old_maps complete → 0 < object.0 → object.0 ≤ length objects → is_taken (record { objects = objects; roots = roots }) object key ≡ false → new.state ≡ Persistent → new.identity ≡ Some key
    → (now ≡ true → (complete ≡ true) × IsPut old_maps maps (get_or roots (place_of object) no_class_id) key object) → IsIndexed (slice_set objects (place_of object) new) roots maps now
indexed_registered objects roots old_maps maps complete now object key new indexed above within free state identity entered = record {
  graph = graph_registered objects roots object key new indexed.graph above within free state identity;
  entries = λ whole. complete_put objects roots old_maps maps object key new above within state identity (owns_free objects roots object key new indexed.graph identity free) (entered whole).1 (indexed.entries (entered whole).0);
}

-- ---- an object that goes back

back_complete : (objects : List Object) (roots : List ClassId) (old_maps maps : List Keyed) (object : ObjId) (new : Object) (state : State) (identity : Option (List Value)) → 0 < object.0 → object.0 ≤ length objects → has_identity state ≡ is_some identity → new.state ≡ state → new.identity ≡ identity
    → Owns objects roots (place_of object) new → IsMoved old_maps maps (get_or roots (place_of object) no_class_id) state identity object → IsComplete objects roots old_maps → IsComplete (slice_set objects (place_of object) new) roots maps
back_complete objects roots old_maps maps object new Transient identity above within h s i mine moved all = complete_left objects roots old_maps maps (place_of object) new (omega arith) (ap is_persistent s) moved all
back_complete objects roots old_maps maps object new Pending identity above within h s i mine moved all = complete_left objects roots old_maps maps (place_of object) new (omega arith) (ap is_persistent s) moved all
back_complete objects roots old_maps maps object new Deleted identity above within h s i mine moved all = complete_left objects roots old_maps maps (place_of object) new (omega arith) (ap is_persistent s) moved all
back_complete objects roots old_maps maps object new Detached identity above within h s i mine moved all = complete_left objects roots old_maps maps (place_of object) new (omega arith) (ap is_persistent s) moved all
back_complete objects roots old_maps maps object new Persistent None above within h s i mine moved all = absurd cc
back_complete objects roots old_maps maps object new Persistent (Some key) above within h s i mine moved all = complete_put objects roots old_maps maps object key new above within s i mine moved all

-- where the map had its entry, or is complete no more
pub indexed_back : (objects : List Object) (roots : List ClassId) (old_maps maps : List Keyed) (complete now : Bool) (object : ObjId) (old new : Object) (state : State) (identity : Option (List Value)) → IsIndexed objects roots old_maps complete → 0 < object.0 → object.0 ≤ length objects → has_identity state ≡ is_some identity → (is_persistent state ≡ true → IsFree (record { objects = objects; roots = roots }) object identity)
    → new ≡ put_back_object old state identity → (now ≡ true → (complete ≡ true) × IsMoved old_maps maps (get_or roots (place_of object) no_class_id) state identity object) → IsIndexed (slice_set objects (place_of object) new) roots maps now
indexed_back objects roots old_maps maps complete now object old new state identity indexed above within h free is moved =
    let s : new.state ≡ state = ap (λ (o : Object). o.state) is ∙ settled_state state (record old { state = state; identity = identity; marked = false }) in
    let i : new.identity ≡ identity = ap (λ (o : Object). o.identity) is ∙ settled_identity state (record old { state = state; identity = identity; marked = false }) in
    record {
      graph = graph_back objects roots object old new state identity indexed.graph above within h free is;
      entries = λ whole.
          back_complete objects roots old_maps maps object new state identity above within h s i (owns_back objects roots object new state identity indexed.graph s i h free) (moved whole).1 (indexed.entries (moved whole).0);
    }

-- ---- no object

pub indexed_empty : (maps : List Keyed) (complete : Bool) → IsIndexed [] [] maps complete
indexed_empty maps complete = record {
  graph = record {
    rooted = refl;
    few = omega arith;
    identified = All-nil (λ (object : Object). is_identified object ≡ true);
    one = λ root key i j hi hj. absurd (none root key i hi);
  };
  entries = λ whole root key i held. absurd (none root key i held);
}
  where
    none : (root : ClassId) (key : List Value) (i : ℕ) → holds_at [] [] root key i ≡ true → ⊥
    none root key i held = let less : i < length {A = Object} [] = held_inside [] [] root key i held in omega arith

-- ---- whom the map finds

-- an object whose entry is good has been made, and holds
pub holder_is : (graph : Graph) (root : ClassId) (key : List Value) (object : ObjId) → is_holder graph root key object ≡ true → IsObject graph object × (holds root key (object_at graph object, root_at graph object) ≡ true)
holder_is graph root key object holder =
    let parts = and_parts (nat_lt 0 object.0 && nat_le object.0 (length graph.objects)) (holds root key (object_at graph object, root_at graph object)) holder in
    let made = and_parts (nat_lt 0 object.0) (nat_le object.0 (length graph.objects)) parts.0 in
    let first : nat_lt 0 object.0 ≡ true = made.0 in
    let last : nat_le object.0 (length graph.objects) ≡ true = made.1 in
    let above : 0 < object.0 = grind (arith, nat_tests) in
    let within : object.0 ≤ length graph.objects = grind (arith, nat_tests) in
    ((above, within), parts.1)

pub found_holder : (objects : List Object) (roots : List ClassId) (root : ClassId) (key : List Value) (object : ObjId) (found : Option ℕ) → IsGraph objects roots → position (holds root key) (zip objects roots) ≡ found → is_holder (record { objects = objects; roots = roots }) root key object ≡ true → Some object ≡ option_map id_of_place found
found_holder objects roots root key object found graph at holder = by_found found at
  where
    parts : (nat_lt 0 object.0 && nat_le object.0 (length objects) ≡ true) × (holds_at objects roots root key (place_of object) ≡ true)
    parts = and_parts (nat_lt 0 object.0 && nat_le object.0 (length objects)) (holds_at objects roots root key (place_of object)) holder

    by_found : (found : Option ℕ) → position (holds root key) (zip objects roots) ≡ found → Some object ≡ option_map id_of_place found
    by_found None at = absurd (held_position objects roots root key (place_of object) graph.rooted parts.1 at)
    by_found (Some p) at =
        let above : nat_lt 0 object.0 ≡ true = (and_parts (nat_lt 0 object.0) (nat_le object.0 (length objects)) parts.0).0 in
        let positive : 0 < object.0 = grind (arith, nat_tests) in
        let same : place_of object ≡ p = graph.one root key (place_of object) p parts.1 (place_holds objects roots root key p graph.rooted at).1 in
        let number : object.0 ≡ p + 1 = omega (arith, same) in
        let some : ℕ → Option ObjId = λ n. Some (record { 0 = n }) in
        ap some number

-- nobody holds, where nothing is under the identity
pub found_none : (objects : List Object) (roots : List ClassId) (maps : List Keyed) (whole : Bool) (root : ClassId) (key : List Value) (found : Option ℕ) → whole ≡ true → IsIndexed objects roots maps whole → entry_of maps root key ≡ None
    → position (holds root key) (zip objects roots) ≡ found → None ≡ option_map id_of_place found
found_none objects roots maps whole root key None is_whole indexed is at = refl
found_none objects roots maps whole root key (Some p) is_whole indexed is at =
    let held = place_holds objects roots root key p indexed.graph.rooted at in
    let number : 0 ≡ p + 1 = sym (ap number_of is) ∙ indexed.entries is_whole root key p held.1 in
    absurd (omega (arith, number))

-- nobody holds, where the object under the identity does not
pub found_out : (objects : List Object) (roots : List ClassId) (maps : List Keyed) (whole : Bool) (root : ClassId) (key : List Value) (object : ObjId) (found : Option ℕ) → whole ≡ true → IsIndexed objects roots maps whole → entry_of maps root key ≡ Some object
    → is_holder (record { objects = objects; roots = roots }) root key object ≡ false → position (holds root key) (zip objects roots) ≡ found → None ≡ option_map id_of_place found
found_out objects roots maps whole root key object None is_whole indexed is left at = refl
found_out objects roots maps whole root key object (Some p) is_whole indexed is left at =
    let held = place_holds objects roots root key p indexed.graph.rooted at in
    let less : p < length objects = held.0 in
    let number : object.0 ≡ p + 1 = sym (ap number_of is) ∙ indexed.entries is_whole root key p held.1 in
    let place : p ≡ place_of object = omega (arith, number) in
    let there : holds_at objects roots root key (place_of object) ≡ true = subst (λ (k : ℕ). holds_at objects roots root key k ≡ true) place held.1 in
    let positive : 0 < object.0 = omega (arith, number) in
    let within : object.0 ≤ length objects = omega (arith, number, less) in
    let above : nat_lt 0 object.0 ≡ true = grind (arith, nat_tests) in
    let inside : nat_le object.0 (length objects) ≡ true = grind (arith, nat_tests) in
    let holder : is_holder (record { objects = objects; roots = roots }) root key object ≡ true =
    and_from (nat_lt 0 object.0 && nat_le object.0 (length objects)) (holds_at objects roots root key (place_of object)) (and_from (nat_lt 0 object.0) (nat_le object.0 (length objects)) above inside) there in
    absurd (let e : true ≡ false = sym holder ∙ left in cc)
