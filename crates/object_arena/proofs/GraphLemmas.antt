-- What a write of one object keeps of a graph, and of the identity map.
use Rattle.std.proofs.Common.{◌≡◌, ◌≢◌, ℕ, ◌+◌, ◌<◌, ◌≤◌, Bool, true, false, ◌&&◌, List, [], ◌∷◌, ◌++◌, length, get_or, Option, None, Some, is_some, refl, sym, ap, ◌∙◌, subst, ⊎_elim, arith}
use Rattle.std.specs.Prelude.{nat_lt, ◌==◌, slice_set, cond}
use Rattle.std.specs.Option.{option_map}
use Rattle.std.specs.List.{position, position_or_len, zip}
use Rattle.std.specs.Cmp.{IsEquivalence}
use Rattle.std.proofs.lemmas.Bool.{and_from, and_parts, cases_eq, cases_lt, cases_Bool, eqb-true, eq-eqb}
use Rattle.std.proofs.lemmas.Bool.Decides.{nat_tests}
use Rattle.std.proofs.lemmas.Cmp.{eq_by_cmp_equiv, lists_total}
use Rattle.std.proofs.lemmas.List.{get_or-set_same, get_or-set_other, length-set, length-append, get_or_append_left, get_or_default, get_or_past, get_or_push}
use Rattle.std.proofs.lemmas.List.Elements.{All-set, All-push}
use Rattle.std.proofs.lemmas.List.Quantifiers.{position-Some}
use Rattle.std.proofs.lemmas.List.Sums.{fails_before_first}
use Rattle.std.proofs.lemmas.Slice.Zip.{get_or-zip, length-zip}
use Rattle.base_core.specs.declared.ids.ObjId.{ObjId}
use Rattle.base_core.specs.declared.ids.ClassId.{ClassId}
use Rattle.base_core.specs.declared.value.Value.{Value}
use Rattle.base_core.specs.OrderLaws.{value_cmp_total}
use Rattle.schema_core.specs.Tables.{same_values}
use Rattle.object_arena.specs.declared.object.State.{State}
use Rattle.object_arena.specs.declared.object.State.TheVariants.{Transient, Pending, Persistent, Deleted, Detached}
use Rattle.object_arena.specs.declared.object.Object.{Object}
use Rattle.object_arena.specs.Graph.{has_identity, is_persistent, kept_identity, place_of, put_back_object, no_class_id, no_object, object_limit, settled_object}
use Rattle.object_arena.specs.Identity.{IsFree, IsGraph, IsOne, has_key, holds, holds_at, is_identified, is_other, is_taken, id_of_place}

pub at_same : (objects : List Object) (roots : List ClassId) (root : ClassId) (key : List Value) (p : ℕ) (new : Object) → p < length objects → holds_at (slice_set objects p new) roots root key p ≡ holds root key (new, get_or roots p no_class_id)
at_same objects roots root key p new less = ap (λ (o : Object). holds root key (o, get_or roots p no_class_id)) (get_or-set_same objects p new no_object less)

pub at_other : (objects : List Object) (roots : List ClassId) (root : ClassId) (key : List Value) (p j : ℕ) (new : Object) → j ≢ p → holds_at (slice_set objects p new) roots root key j ≡ holds_at objects roots root key j
at_other objects roots root key p j new other = ap (λ (o : Object). holds root key (o, get_or roots j no_class_id)) (get_or-set_other objects p j new no_object other)

-- what the new object holds, no other holds
unfoldable pub Owns : List Object → List ClassId → ℕ → Object → Type 0
Owns objects roots p new = (root : ClassId) (key : List Value) → holds root key (new, get_or roots p no_class_id) ≡ true → (j : ℕ) → holds_at objects roots root key j ≡ true → j ≡ p

one_set : (objects : List Object) (roots : List ClassId) (p : ℕ) (new : Object) → p < length objects → IsOne objects roots → Owns objects roots p new → IsOne (slice_set objects p new) roots
unfolding Owns
one_set objects roots p new less one mine root key i j hi hj =
    let H : ℕ → Type 0 = λ k. holds_at (slice_set objects p new) roots root key k ≡ true in
    ⊎_elim
    (λ (same_i : i ≡ p).
    let own : holds root key (new, get_or roots p no_class_id) ≡ true = sym (at_same objects roots root key p new less) ∙ subst H same_i hi in
    ⊎_elim
    (λ (same_j : j ≡ p). same_i ∙ sym same_j)
    (λ (other_j : j ≢ p). absurd (other_j (mine root key own j (sym (at_other objects roots root key p j new other_j) ∙ hj))))
    (cases_eq j p))
    (λ (other_i : i ≢ p).
    let old_i : holds_at objects roots root key i ≡ true = sym (at_other objects roots root key p i new other_i) ∙ hi in
    ⊎_elim
    (λ (same_j : j ≡ p).
    let own : holds root key (new, get_or roots p no_class_id) ≡ true = sym (at_same objects roots root key p new less) ∙ subst H same_j hj in
    absurd (other_i (mine root key own i old_i)))
    (λ (other_j : j ≢ p). one root key i j old_i (sym (at_other objects roots root key p j new other_j) ∙ hj))
    (cases_eq j p))
    (cases_eq i p)

-- a write of an object that owns what it holds keeps the graph
pub graph_set : (objects : List Object) (roots : List ClassId) (p : ℕ) (new : Object) → p < length objects → IsGraph objects roots → is_identified new ≡ true → Owns objects roots p new → IsGraph (slice_set objects p new) roots
graph_set objects roots p new less graph identified mine = record {
  rooted = graph.rooted ∙ sym (length-set objects p new);
  few = rw length-set graph.few;
  identified = All-set (λ (object : Object). is_identified object ≡ true) objects p new identified graph.identified;
  one = one_set objects roots p new less graph.one mine;
}

-- a write that keeps state and identity does
pub graph_kept : (objects : List Object) (roots : List ClassId) (p : ℕ) (old new : Object) → IsGraph objects roots → p < length objects → old ≡ get_or objects p old → new.state ≡ old.state → new.identity ≡ old.identity → IsGraph (slice_set objects p new) roots
unfolding Owns
graph_kept objects roots p old new graph less read state identity =
    let was : old ≡ get_or objects p no_object = read ∙ get_or_default objects p old no_object less in
    let identified : is_identified old ≡ true = rw was (graph.identified p no_object less) in
    graph_set objects roots p new less graph (rw (state, identity) identified)
    (λ root key held j other.
    let H : Object → Type 0 = λ o. holds root key (o, get_or roots p no_class_id) ≡ true in
    let held_old : holds root key (old, get_or roots p no_class_id) ≡ true = rw (sym state, sym identity) held in
    graph.one root key j p other (subst H was held_old))

-- a write of an object that is not persistent does
pub graph_left : (objects : List Object) (roots : List ClassId) (p : ℕ) (new : Object) → p < length objects → IsGraph objects roots → is_identified new ≡ true → is_persistent new.state ≡ false → IsGraph (slice_set objects p new) roots
unfolding Owns
graph_left objects roots p new less graph identified left =
    graph_set objects roots p new less graph identified (λ root key held j other. absurd (clash root key held))
  where
    clash : (root : ClassId) (key : List Value) → holds root key (new, get_or roots p no_class_id) ≡ true → ⊥
    clash root key held = let e : is_persistent new.state ≡ true = (and_parts (is_persistent new.state) _ held).0 in cc

pub same_equiv : IsEquivalence same_values
same_equiv = eq_by_cmp_equiv (lists_total value_cmp_total)

key_swapped : (key own : List Value) (identity : Option (List Value)) → has_key key identity ≡ true → same_values own key ≡ true → has_key own identity ≡ true
key_swapped key own None has same = absurd cc
key_swapped key own (Some held) has same = same_equiv.congr held key own has ∙ same_equiv.symm key own ∙ same

none_passes : {X : Type 0} (p : X → Bool) (xs : List X) (k : ℕ) (d : X) → position p xs ≡ None → k < length xs → p (get_or xs k d) ≡ false
none_passes p xs k d none less =
    ⊎_elim
    (λ (found : nat_lt (position_or_len p xs) (length xs) ≡ true).
    let some : position p xs ≡ Some (position_or_len p xs) = ap (λ b. cond b (Some (position_or_len p xs)) None) found in
    absurd (let e : None ≡ Some (position_or_len p xs) = sym none ∙ some in cc))
    (λ (missed : nat_lt (position_or_len p xs) (length xs) ≡ false). fails_before_first p xs k d (grind (arith, nat_tests)))
    (cases_Bool (nat_lt (position_or_len p xs) (length xs)))

-- an object that holds an identity is one of the graph
pub held_inside : (objects : List Object) (roots : List ClassId) (root : ClassId) (key : List Value) (j : ℕ) → holds_at objects roots root key j ≡ true → j < length objects
held_inside objects roots root key j held =
    ⊎_elim
    (λ (less : j < length objects). less)
    (λ (past : length objects ≤ j).
    let none : holds_at objects roots root key j ≡ false = ap (λ (o : Object). holds root key (o, get_or roots j no_class_id)) (get_or_past objects j no_object past) in
    absurd (let e : true ≡ false = sym held ∙ none in cc))
    (cases_lt j (length objects))

held_in_zip : (objects : List Object) (roots : List ClassId) (root : ClassId) (key : List Value) (j : ℕ) → length roots ≡ length objects → j < length objects → holds root key (get_or (zip objects roots) j (no_object, no_class_id)) ≡ holds_at objects roots root key j
held_in_zip objects roots root key j rooted less = ap (holds root key) (get_or-zip objects roots j (no_object, no_class_id) less (omega (arith, rooted)))

only_found : (objects : List Object) (roots : List ClassId) (object : ObjId) (root : ClassId) (key : List Value) (found : Option ℕ) → IsGraph objects roots → position (holds root key) (zip objects roots) ≡ found → is_other object (option_map id_of_place found) ≡ false → (j : ℕ) → holds_at objects roots root key j ≡ true → j ≡ place_of object
only_found objects roots object root key None graph here free j held =
    let less : j < length objects = held_inside objects roots root key j held in
    let none : holds root key (get_or (zip objects roots) j (no_object, no_class_id)) ≡ false = none_passes (holds root key) (zip objects roots) j (no_object, no_class_id) here (rw length-zip (omega (arith, graph.rooted))) in
    absurd (let e : true ≡ false = sym held ∙ sym (held_in_zip objects roots root key j graph.rooted less) ∙ none in cc)
only_found objects roots object root key (Some i) graph here free j held =
    let at = position-Some (holds root key) (zip objects roots) i (no_object, no_class_id) here in
    let inside : i < length objects = omega (arith, at.0, length-zip objects roots, graph.rooted) in
    let first : holds_at objects roots root key i ≡ true = sym (held_in_zip objects roots root key i graph.rooted inside) ∙ at.1 in
    let same : i + 1 ≡ object.0 = grind (arith, nat_tests) in
    graph.one root key j i held first ∙ omega arith

-- where no other object has the key, an object that takes it owns it
pub owns_free : (objects : List Object) (roots : List ClassId) (object : ObjId) (key : List Value) (new : Object) → IsGraph objects roots → new.identity ≡ Some key → is_taken (record { objects = objects; roots = roots }) object key ≡ false → Owns objects roots (place_of object) new
unfolding Owns
owns_free objects roots object key new graph identity free root' key' held j other =
    let own : ClassId = get_or roots (place_of object) no_class_id in
    let mine = and_parts (is_persistent new.state) (own.0 == root'.0 && has_key key' new.identity) held in
    let mine_in = and_parts (own.0 == root'.0) (has_key key' new.identity) mine.1 in
    let its : Object = get_or objects j no_object in
    let its_root : ClassId = get_or roots j no_class_id in
    let theirs = and_parts (is_persistent its.state) (its_root.0 == root'.0 && has_key key' its.identity) other in
    let theirs_in = and_parts (its_root.0 == root'.0) (has_key key' its.identity) theirs.1 in
    let same_key : same_values key key' ≡ true = subst (λ (o : Option (List Value)). has_key key' o ≡ true) identity mine_in.1 in
    let same_root : its_root.0 == own.0 ≡ true = eq-eqb its_root.0 own.0 (eqb-true its_root.0 root'.0 theirs_in.0 ∙ sym (eqb-true own.0 root'.0 mine_in.0)) in
    let swapped : has_key key its.identity ≡ true = key_swapped key' key its.identity theirs_in.1 same_key in
    let has : holds own key (its, its_root) ≡ true = and_from (is_persistent its.state) (its_root.0 == own.0 && has_key key its.identity) theirs.0 (and_from (its_root.0 == own.0) (has_key key its.identity) same_root swapped) in
    only_found objects roots object own key (position (holds own key) (zip objects roots)) graph refl free j has

-- a registration under a free key keeps the graph
pub graph_registered : (objects : List Object) (roots : List ClassId) (object : ObjId) (key : List Value) (new : Object) → IsGraph objects roots → 0 < object.0 → object.0 ≤ length objects → is_taken (record { objects = objects; roots = roots }) object key ≡ false → new.state ≡ Persistent → new.identity ≡ Some key → IsGraph (slice_set objects (place_of object) new) roots
graph_registered objects roots object key new graph above within free state identity =
    graph_set objects roots (place_of object) new (omega arith) graph (rw (state, identity) refl) (owns_free objects roots object key new graph identity free)

identified_left : (state : State) (new : Object) (identity : Option (List Value)) → new.state ≡ state → new.identity ≡ kept_identity state identity → (has_identity state ≡ true → is_some identity ≡ true) → is_identified new ≡ true
identified_left Transient new identity s i h = rw (s, i) refl
identified_left Pending new identity s i h = rw (s, i) refl
identified_left Persistent new identity s i h = rw (s, i) (h refl)
identified_left Deleted new identity s i h = rw (s, i) (h refl)
identified_left Detached new identity s i h = rw (s, i) (h refl)

-- a state other than persistent, with an identity where it wants one, keeps the graph
pub graph_stated : (objects : List Object) (roots : List ClassId) (p : ℕ) (old new : Object) (state : State) → IsGraph objects roots → p < length objects → old ≡ get_or objects p old → is_persistent state ≡ false → (has_identity state ≡ true → is_some (get_or objects p no_object).identity ≡ true) → new ≡ record old { state = state; identity = kept_identity state old.identity } → IsGraph (slice_set objects p new) roots
graph_stated objects roots p old new state graph less read left had is =
    let was : old ≡ get_or objects p no_object = read ∙ get_or_default objects p old no_object less in
    let new_state : new.state ≡ state = ap (λ (o : Object). o.state) is in
    graph_left objects roots p new less graph
    (identified_left state new old.identity new_state (ap (λ (o : Object). o.identity) is) (λ h. rw was (had h)))
    (rw new_state left)

pub settled_state : (state : State) (object : Object) → (settled_object state object).state ≡ object.state
settled_state Transient object = refl
settled_state Pending object = refl
settled_state Persistent object = refl
settled_state Deleted object = refl
settled_state Detached object = refl

pub settled_identity : (state : State) (object : Object) → (settled_object state object).identity ≡ object.identity
settled_identity Transient object = refl
settled_identity Pending object = refl
settled_identity Persistent object = refl
settled_identity Deleted object = refl
settled_identity Detached object = refl

identified_back : (state : State) (new : Object) (identity : Option (List Value)) → new.state ≡ state → new.identity ≡ identity → has_identity state ≡ is_some identity → is_identified new ≡ true
identified_back Transient new identity s i h = rw (s, i, ← h) refl
identified_back Pending new identity s i h = rw (s, i, ← h) refl
identified_back Persistent new identity s i h = rw (s, i, ← h) refl
identified_back Deleted new identity s i h = rw (s, i, ← h) refl
identified_back Detached new identity s i h = rw (s, i, ← h) refl

pub owns_back : (objects : List Object) (roots : List ClassId) (object : ObjId) (new : Object) (state : State) (identity : Option (List Value)) → IsGraph objects roots → new.state ≡ state → new.identity ≡ identity → has_identity state ≡ is_some identity → (is_persistent state ≡ true → IsFree (record { objects = objects; roots = roots }) object identity) → Owns objects roots (place_of object) new
unfolding Owns
owns_back objects roots object new state None graph s i h free root' key' held j other =
    let mine = and_parts (is_persistent new.state) _ held in
    let none : has_key key' new.identity ≡ true = (and_parts ((get_or roots (place_of object) no_class_id).0 == root'.0) (has_key key' new.identity) mine.1).1 in
    absurd (let e : false ≡ true = subst (λ (o : Option (List Value)). has_key key' o ≡ true) i none in cc)
owns_back objects roots object new state (Some key) graph s i h free root' key' held j other =
    let mine = and_parts (is_persistent new.state) _ held in
    let persistent : is_persistent state ≡ true = subst (λ (t : State). is_persistent t ≡ true) s mine.0 in
    owns_free objects roots object key new graph i (free persistent) root' key' held j other

-- a state and identity that an object had keep the graph where no other object is persistent under it
pub graph_back : (objects : List Object) (roots : List ClassId) (object : ObjId) (old new : Object) (state : State) (identity : Option (List Value)) → IsGraph objects roots → 0 < object.0 → object.0 ≤ length objects → has_identity state ≡ is_some identity → (is_persistent state ≡ true → IsFree (record { objects = objects; roots = roots }) object identity) → new ≡ put_back_object old state identity → IsGraph (slice_set objects (place_of object) new) roots
graph_back objects roots object old new state identity graph above within h free is =
    let s : new.state ≡ state = ap (λ (o : Object). o.state) is ∙ settled_state state (record old { state = state; identity = identity; marked = false }) in
    let i : new.identity ≡ identity = ap (λ (o : Object). o.identity) is ∙ settled_identity state (record old { state = state; identity = identity; marked = false }) in
    graph_set objects roots (place_of object) new (omega arith) graph (identified_back state new identity s i h)
    (owns_back objects roots object new state identity graph s i h free)

pub transient_past : (objects : List Object) (new : Object) (i : ℕ) → length objects ≤ i → new.state ≡ Transient → (get_or (objects ++ new ∷ []) i no_object).state ≡ Transient
transient_past objects new i past state =
    ⊎_elim
    (λ (same : length objects ≡ i). ap (λ (o : Object). o.state) (get_or_push objects new no_object i same) ∙ state)
    (λ (other : length objects ≢ i). ap (λ (o : Object). o.state) (get_or_past (objects ++ new ∷ []) i no_object (rw (length-append objects (new ∷ [])) (omega arith))))
    (cases_eq (length objects) i)

-- one more object without an identity keeps the graph
pub graph_pushed : (objects : List Object) (roots : List ClassId) (new : Object) (root : ClassId) → IsGraph objects roots → length objects < object_limit → new.state ≡ Transient → new.identity ≡ None → IsGraph (objects ++ new ∷ []) (roots ++ root ∷ [])
graph_pushed objects roots new root graph less state identity = record {
  rooted = rw (length-append roots (root ∷ []), length-append objects (new ∷ [])) (ap (λ n. n + 1) graph.rooted);
  few = rw (length-append objects (new ∷ [])) (omega arith);
  identified = All-push (λ (object : Object). is_identified object ≡ true) objects new graph.identified (rw (state, identity) refl);
  one = λ own key i j hi hj. graph.one own key i j (old own key i hi) (old own key j hj);
}
  where
    old : (own : ClassId) (key : List Value) (i : ℕ) → holds_at (objects ++ new ∷ []) (roots ++ root ∷ []) own key i ≡ true → holds_at objects roots own key i ≡ true
    old own key i held =
        ⊎_elim
        (λ (inside : i < length objects).
        sym (ap (λ (o : Object). holds own key (o, get_or roots i no_class_id)) (get_or_append_left objects (new ∷ []) no_object i inside))
        ∙ sym (ap (λ (r : ClassId). holds own key (get_or (objects ++ new ∷ []) i no_object, r)) (get_or_append_left roots (root ∷ []) no_class_id i (omega (arith, graph.rooted))))
        ∙ held)
        (λ (past : length objects ≤ i).
        let persistent : is_persistent (get_or (objects ++ new ∷ []) i no_object).state ≡ true = (and_parts (is_persistent (get_or (objects ++ new ∷ []) i no_object).state) _ held).0 in
        let left : is_persistent (get_or (objects ++ new ∷ []) i no_object).state ≡ false = ap is_persistent (transient_past objects new i past state) in
        absurd (let e : true ≡ false = sym persistent ∙ left in cc))
        (cases_lt i (length objects))

-- where an object holds, one is found
pub held_position : (objects : List Object) (roots : List ClassId) (root : ClassId) (key : List Value) (j : ℕ) → length roots ≡ length objects → holds_at objects roots root key j ≡ true → position (holds root key) (zip objects roots) ≡ None → ⊥
held_position objects roots root key j rooted held here =
    let less : j < length objects = held_inside objects roots root key j held in
    let none : holds root key (get_or (zip objects roots) j (no_object, no_class_id)) ≡ false = none_passes (holds root key) (zip objects roots) j (no_object, no_class_id) here (rw length-zip (omega (arith, rooted))) in
    let e : true ≡ false = sym held ∙ sym (held_in_zip objects roots root key j rooted less) ∙ none in cc

-- an object that holds a key holds each key that is the same
pub key_along : (objects : List Object) (roots : List ClassId) (own root : ClassId) (it key : List Value) (j : ℕ) → own.0 ≡ root.0 → same_values it key ≡ true → holds_at objects roots own it j ≡ true → holds_at objects roots root key j ≡ true
key_along objects roots own root it key j same_root same held =
    let object : Object = get_or objects j no_object in
    let its : ClassId = get_or roots j no_class_id in
    let outer = and_parts (is_persistent object.state) (its.0 == own.0 && has_key it object.identity) held in
    let inner = and_parts (its.0 == own.0) (has_key it object.identity) outer.1 in
    and_from (is_persistent object.state) (its.0 == root.0 && has_key key object.identity) outer.0
    (and_from (its.0 == root.0) (has_key key object.identity) (eq-eqb its.0 root.0 (eqb-true its.0 own.0 inner.0 ∙ same_root)) (key_passed it key object.identity inner.1 same))
  where
    key_passed : (it key : List Value) (identity : Option (List Value)) → has_key it identity ≡ true → same_values it key ≡ true → has_key key identity ≡ true
    key_passed it key None has same = absurd cc
    key_passed it key (Some held) has same = same_equiv.symm held key ∙ sym (same_equiv.congr it key held same) ∙ same_equiv.symm it held ∙ has
