-- After success of a flush one object stands for each key still: who is persistent under a key is the new object that has it, or where
-- there is none the one that had it before.
use Rattle.std.proofs.Common.{◌≡◌, ◌⊎◌, inl, inr, ℕ, ◌+◌, ◌-◌, ◌<◌, ◌≤◌, Bool, true, false, cond, not, ◌&&◌, ◌==◌, if◌then◌else◌, List, length, get_or, Option, None, Some, is_some, refl, sym, ap, ◌∙◌, subst, arith}
use Rattle.std.specs.Prelude.{nat_lt}
use Rattle.std.specs.Cmp.{Equal-is}
use Rattle.std.specs.List.{position, position_or_len, zip}
use Rattle.std.specs.Option.{option_map}
use Rattle.std.proofs.lemmas.Bool.{and_from, and_parts, eq-eqb, eqb-true}
use Rattle.std.proofs.lemmas.Bool.Decides.{nat_tests}
use Rattle.std.proofs.lemmas.List.{get_or_default}
use Rattle.std.proofs.lemmas.List.Sums.{fails_before_first}
use Rattle.std.proofs.lemmas.Slice.Zip.{get_or-zip, length-zip}
use Rattle.base_core.specs.declared.ids.ClassId.{ClassId}
use Rattle.base_core.specs.declared.ids.ObjId.{ObjId}
use Rattle.base_core.specs.declared.value.Value.{Value}
use Rattle.base_core.specs.Order.{values_cmp}
use Rattle.base_core.proofs.Exact.{exact_values}
use Rattle.schema_core.specs.Tables.{same_values}
use Rattle.object_arena.specs.declared.object.Object.{Object}
use Rattle.object_arena.specs.declared.object.State.{State}
use Rattle.object_arena.specs.declared.object.State.TheVariants.{Transient, Pending, Persistent, Deleted, Detached}
use Rattle.object_arena.specs.Graph.{has_identity, is_among, is_persistent, no_class_id, no_object, root_at}
use Rattle.object_arena.specs.Identity.{IsGraph, has_key, holds, holds_at, id_of_place, is_identified, is_other}
use Rattle.object_arena.proofs.GraphLemmas.{held_inside}
use Rattle.session_laws.proofs.Plans.Facts.{true_false}
use Rattle.graph_flushed.specs.Flushed.{Written, deleted_object, graph_written, key_of, new_object, object_in, staying_object, state_under, state_unless}
use Rattle.graph_flushed.specs.Keys.{is_given, new_holder}
use Rattle.graph_flushed.proofs.ObjectSteps.{flushed_at, flushed_long}

keyed_there : (state : State) (identity : Option (List Value)) → is_persistent state ≡ true → (if has_identity state then is_some identity else not (is_some identity)) ≡ true → is_some identity ≡ true
keyed_there Transient identity persists is = absurd cc
keyed_there Pending identity persists is = absurd cc
keyed_there Persistent identity persists is = is
keyed_there Deleted identity persists is = absurd cc
keyed_there Detached identity persists is = absurd cc

-- what passes somewhere is found
never_missed : {A : Type 0} (p : A → Bool) (xs : List A) (i : ℕ) (d : A) → i < length xs → p (get_or xs i d) ≡ true → position p xs ≡ None → ⊥
never_missed p xs i d less passes none = by (nat_lt (position_or_len p xs) (length xs)) refl none
  where
    by : (inside : Bool) → nat_lt (position_or_len p xs) (length xs) ≡ inside → cond inside (Some (position_or_len p xs)) None ≡ None → ⊥
    by true e none = absurd cc
    by false e none =
        let past : length xs ≤ position_or_len p xs = grind (arith, nat_tests) in
        true_false (sym passes ∙ fails_before_first p xs i d (omega (arith, less, past)))

missing : {A B : Type 0} (f : A → B) (found : Option A) → option_map f found ≡ None → found ≡ None
missing f None e = refl
missing f (Some a) e = absurd cc

self_or_none : (object : ObjId) (found : Option ObjId) → is_persistent (state_unless (is_other object found)) ≡ true → (found ≡ Some object) ⊎ (found ≡ None)
self_or_none object None persists = inr refl
self_or_none object (Some other) persists = by (other.0 == object.0) refl persists
  where
    by : (same : Bool) → (other.0 == object.0) ≡ same → is_persistent (state_unless (not same)) ≡ true → (Some other ≡ Some object) ⊎ (Some other ≡ None)
    by true e persists = inl (ap (λ (n : ℕ). let id : ObjId = record { 0 = n } in Some id) (eqb-true other.0 object.0 e))
    by false e persists = absurd cc

unless_identified : (taken : Bool) → has_identity (state_unless taken) ≡ true
unless_identified true = refl
unless_identified false = refl

under_identified : (written : Written) (object : ObjId) (identity : Option (List Value)) → has_identity (state_under written object identity) ≡ true
under_identified written object None = refl
under_identified written object (Some key) = unless_identified (is_other object (new_holder written.keys written.graph.roots (root_at written.graph object) key))

with_identity : (state : State) (identity : Option (List Value)) → has_identity state ≡ true → is_some identity ≡ true → (if has_identity state then is_some identity else not (is_some identity)) ≡ true
with_identity state identity has there = ap (λ (b : Bool). if b then is_some identity else not (is_some identity)) has ∙ there

module _ (written : Written) (graph : IsGraph written.graph.objects written.graph.roots) (long : length written.keys ≡ length written.graph.objects) where
  abbrev it_at : ℕ → Object
  it_at place = get_or written.graph.objects place no_object

  abbrev root_of_place : ℕ → ClassId
  root_of_place place = get_or written.graph.roots place no_class_id

  abbrev holder : ClassId → List Value → Option ObjId
  holder root key = new_holder written.keys written.graph.roots root key

  -- the object at a place is the new one that has the key, or there is none and it had the key before
  HasKeyNow : ClassId → List Value → ℕ → Type 0
  HasKeyNow root key place = (holder root key ≡ Some (id_of_place place)) ⊎ ((holder root key ≡ None) × (holds_at written.graph.objects written.graph.roots root key place ≡ true))

  at_place : (place : ℕ) → root_at written.graph (id_of_place place) ≡ root_of_place place
  at_place place = let same : place + 1 - 1 ≡ place = omega arith in ap root_of_place same

  same_root : (place : ℕ) (root : ClassId) → ((root_of_place place).0 == root.0) ≡ true → root_at written.graph (id_of_place place) ≡ root
  same_root place root same = at_place place ∙ ap (λ (n : ℕ). let id : ClassId = record { 0 = n } in id) (eqb-true (root_of_place place).0 root.0 same)

  -- who is persistent under an identity is the new object that has it, unless there is none
  now_under : (place : ℕ) (root : ClassId) (key own : List Value) → is_persistent (state_under written (id_of_place place) (Some own)) ≡ true → ((root_of_place place).0 == root.0) ≡ true → same_values own key ≡ true
      → (holder root key ≡ Some (id_of_place place)) ⊎ (holder root key ≡ None)
  now_under place root key own persists same keys =
      let one : own ≡ key = exact_values own key ((Equal-is (values_cmp own key)).0 keys) in
      let found : holder (root_at written.graph (id_of_place place)) own ≡ holder root key = (λ i. holder (same_root place root same i) (one i)) in
      subst (λ (o : Option ObjId). (o ≡ Some (id_of_place place)) ⊎ (o ≡ None)) found
      (self_or_none (id_of_place place) (holder (root_at written.graph (id_of_place place)) own) persists)

  -- a new object is found under its key
  new_found : (place : ℕ) (root : ClassId) (key own : List Value) → place < length written.graph.objects → get_or written.keys place None ≡ Some own → ((root_of_place place).0 == root.0) ≡ true → same_values own key ≡ true → holder root key ≡ None → ⊥
  new_found place root key own less at same keys none =
      let in_keys : place < length written.keys = omega (arith, less, long) in
      let in_roots : place < length written.graph.roots = omega (arith, less, graph.rooted) in
      never_missed (is_given root key) (zip written.keys written.graph.roots) place (None, no_class_id) (omega (arith, length-zip written.keys written.graph.roots, in_keys, in_roots))
      (ap (is_given root key) (get_or-zip written.keys written.graph.roots place (None, no_class_id) in_keys in_roots)
      ∙ ap (λ (k : Option (List Value)). is_given root key (k, root_of_place place)) at
      ∙ and_from (root.0 == (root_of_place place).0) (same_values own key) (eq-eqb root.0 (root_of_place place).0 (sym (eqb-true (root_of_place place).0 root.0 same))) keys)
      (missing id_of_place (position (is_given root key) (zip written.keys written.graph.roots)) none)

  new_now : (place : ℕ) (root : ClassId) (key : List Value) (own : Option (List Value)) → place < length written.graph.objects → get_or written.keys place None ≡ own
      → holds root key (new_object written (id_of_place place) own (it_at place), root_of_place place) ≡ true → HasKeyNow root key place
  unfolding HasKeyNow
  new_now place root key None less at has = absurd (true_false (sym has))
  new_now place root key (Some own) less at has =
      let parts = and_parts (is_persistent (state_under written (id_of_place place) (Some own))) ((root_of_place place).0 == root.0 && same_values own key) has in
      let rest = and_parts ((root_of_place place).0 == root.0) (same_values own key) parts.1 in
      elim (now_under place root key own parts.0 rest.0 rest.1) [
        | inl found ↦ inl found
        | inr none ↦ absurd (new_found place root key own less at rest.0 rest.1 none)
      ]

  old_now : (place : ℕ) (root : ClassId) (key : List Value) (identity : Option (List Value)) → (it_at place).identity ≡ identity → is_persistent (it_at place).state ≡ true
      → (is_persistent (state_under written (id_of_place place) identity) && ((root_of_place place).0 == root.0 && has_key key identity)) ≡ true → HasKeyNow root key place
  unfolding HasKeyNow
  old_now place root key None is persists has =
      let parts = and_parts true ((root_of_place place).0 == root.0 && false) has in
      absurd (true_false (sym (and_parts ((root_of_place place).0 == root.0) false parts.1).1))
  old_now place root key (Some own) is persists has =
      let parts = and_parts (is_persistent (state_under written (id_of_place place) (Some own))) ((root_of_place place).0 == root.0 && same_values own key) has in
      let rest = and_parts ((root_of_place place).0 == root.0) (same_values own key) parts.1 in
      elim (now_under place root key own parts.0 rest.0 rest.1) [
        | inl found ↦ inl found
        | inr none ↦ inr (
          none,
          and_from (is_persistent (it_at place).state) ((root_of_place place).0 == root.0 && has_key key (it_at place).identity) persists
              (and_from ((root_of_place place).0 == root.0) (has_key key (it_at place).identity) rest.0 (ap (has_key key) is ∙ rest.1)),
        )
      ]

  gone_now : {A : Type 0} (own : State) (b : Bool) → is_persistent own ≡ false → (is_persistent own && b) ≡ true → A
  gone_now own b left has = absurd (true_false (sym (and_parts (is_persistent own) b has).0 ∙ left))

  kept_now : (place : ℕ) (root : ClassId) (key : List Value) (gone : Bool) → is_persistent (it_at place).state ≡ true
      → holds root key (if gone then deleted_object written (id_of_place place) (it_at place) else staying_object written (id_of_place place) (it_at place), root_of_place place) ≡ true → HasKeyNow root key place
  kept_now place root key true persists has = absurd (true_false (sym has))
  kept_now place root key false persists has = old_now place root key (it_at place).identity refl persists has

  now_in : (place : ℕ) (root : ClassId) (key : List Value) (state : State) → place < length written.graph.objects → (it_at place).state ≡ state
      → holds root key (object_in state written (id_of_place place) (it_at place), root_of_place place) ≡ true → HasKeyNow root key place
  now_in place root key Transient less is has = gone_now (it_at place).state ((root_of_place place).0 == root.0 && has_key key (it_at place).identity) (ap is_persistent is) has
  now_in place root key Pending less is has =
      let same : place + 1 - 1 ≡ place = omega arith in
      new_now place root key (key_of written (id_of_place place)) less (ap (λ (p : ℕ). get_or written.keys p None) (sym same)) has
  now_in place root key Persistent less is has = kept_now place root key (is_among written.prepared.deleted (id_of_place place)) (ap is_persistent is) has
  now_in place root key Deleted less is has = gone_now (it_at place).state ((root_of_place place).0 == root.0 && has_key key (it_at place).identity) (ap is_persistent is) has
  now_in place root key Detached less is has = gone_now (it_at place).state ((root_of_place place).0 == root.0 && has_key key (it_at place).identity) (ap is_persistent is) has

  now_at : (place : ℕ) (root : ClassId) (key : List Value) → holds_at (graph_written written).objects written.graph.roots root key place ≡ true → HasKeyNow root key place
  now_at place root key has =
      let less : place < length written.graph.objects = omega (arith, held_inside (graph_written written).objects written.graph.roots root key place has, flushed_long written) in
      now_in place root key (it_at place).state less refl (ap (λ (o : Object). holds root key (o, root_of_place place)) (sym (flushed_at written place less)) ∙ has)

  one_only : (root : ClassId) (key : List Value) (i j : ℕ) → HasKeyNow root key i → HasKeyNow root key j → i ≡ j
  unfolding HasKeyNow
  one_only root key i j (inl one) (inl two) =
      let same : i + 1 ≡ j + 1 = ap (λ (o : Option ObjId). number_in o) (sym one ∙ two) in
      omega (arith, same)
    where
      number_in : Option ObjId → ℕ
      number_in None = 0
      number_in (Some id) = id.0
  one_only root key i j (inl one) (inr two) = absurd (let e : Some (id_of_place i) ≡ None = sym one ∙ two.0 in cc)
  one_only root key i j (inr one) (inl two) = absurd (let e : None ≡ Some (id_of_place j) = sym one.0 ∙ two in cc)
  one_only root key i j (inr one) (inr two) = graph.one root key i j one.1 two.1

  -- ---- who has an identity

  new_identified : (object : ObjId) (key : Option (List Value)) (it : Object) → is_identified (new_object written object key it) ≡ true
  new_identified object None it = refl
  new_identified object (Some key) it = with_identity (state_under written object (Some key)) (Some key) (under_identified written object (Some key)) refl

  kept_identified : (object : ObjId) (it : Object) (gone : Bool) → is_some it.identity ≡ true → is_identified (if gone then deleted_object written object it else staying_object written object it) ≡ true
  kept_identified object it true there = there
  kept_identified object it false there = with_identity (state_under written object it.identity) it.identity (under_identified written object it.identity) there

  identified_in : (object : ObjId) (it : Object) (state : State) → it.state ≡ state → is_identified it ≡ true → is_identified (object_in state written object it) ≡ true
  identified_in object it Transient is identified = identified
  identified_in object it Pending is identified = new_identified object (key_of written object) it
  identified_in object it Persistent is identified = kept_identified object it (is_among written.prepared.deleted object) (keyed_there it.state it.identity (ap is_persistent is) identified)
  identified_in object it Deleted is identified = identified
  identified_in object it Detached is identified = identified

  -- what every graph keeps
  pub written_graph : IsGraph (graph_written written).objects written.graph.roots
  written_graph = record {
    rooted = graph.rooted ∙ sym (flushed_long written);
    few = omega (arith, graph.few, flushed_long written);
    identified = λ place d less.
        let within : place < length written.graph.objects = omega (arith, less, flushed_long written) in
        subst (λ (o : Object). is_identified o ≡ true) (sym (get_or_default (graph_written written).objects place d no_object less ∙ flushed_at written place within))
        (identified_in (id_of_place place) (it_at place) (it_at place).state refl (graph.identified place no_object within));
    one = λ root key i j has other. one_only root key i j (now_at i root key has) (now_at j root key other);
  }
