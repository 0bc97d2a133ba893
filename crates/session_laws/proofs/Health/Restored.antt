-- A rollback leaves objects with the keys that they hold.
use Rattle.std.proofs.Common.{◌≡◌, ℕ, ◌-◌, ◌<◌, Bool, true, false, not, List, drop, length, get_or, Option, None, Some, refl, sym, ap, ◌∙◌, subst, arith}
use Rattle.std.specs.Prelude.{if◌then◌else◌, is_some, nat_lt}
use Rattle.std.proofs.lemmas.Bool.{and_parts}
use Rattle.std.proofs.lemmas.Bool.Decides.{nat_tests}
use Rattle.std.proofs.lemmas.List.{get_or_past}
use Rattle.base_core.specs.declared.ids.AttrNo.{AttrNo}
use Rattle.base_core.specs.declared.ids.ClassId.{ClassId}
use Rattle.base_core.specs.declared.value.Value.{Value}
use Rattle.class_mapping.specs.Mapped.{Mapped, is_key_attribute}
use Rattle.object_arena.specs.declared.object.Cell.{Cell}
use Rattle.object_arena.specs.declared.object.Object.{Object}
use Rattle.object_arena.specs.declared.object.State.{State}
use Rattle.object_arena.specs.declared.object.State.TheVariants.{Transient, Pending, Persistent, Deleted, Detached}
use Rattle.object_arena.specs.Graph.{Graph, cell_in, expired_cell, has_identity, no_object, put_back_object}
use Rattle.object_arena.specs.Identity.{is_identified}
use Rattle.savepoints.specs.declared.scope.Scope.{Scope}
use Rattle.savepoints.specs.declared.scope.Standing.{Standing}
use Rattle.savepoints.specs.Scopes.{Framed, around, back_to, contested_state, expired_in, expired_where, made_since, restored_graph, since, standing_at, standing_of, trace_in}
use Rattle.savepoints.proofs.BackLemmas.{stands_back}
use Rattle.session_laws.proofs.Scopes.Back.{read_stands}
use Rattle.session_scopes.specs.Scoping.{session_restored}
use Rattle.session_scopes.specs.SessionState.{SessionState}
use Rattle.session_scopes.proofs.SessionLemmas.{around_scopes}
use Rattle.session_laws.specs.Sound.{EachObject}
use Rattle.session_laws.proofs.Sound.Everyone.{expired_cells}
use Rattle.session_laws.proofs.Sound.Restoring.{again, again_at, each_again, lost, object, start, want}
use Rattle.session_laws.specs.Health.Health.{AreNamedSince, HoldsItsKey, IsOrderlySession, is_named, is_named_in, stands_named, was_named}
use Rattle.session_laws.proofs.Health.Named.{named_at, named_from, named_inside, named_more}
use Rattle.session_laws.proofs.Health.Objects.{IsEven, back_cells, back_class, never_true}

-- ---- an object that may be read again

in_even : (state : State) (o : Object) (attr : AttrNo) → IsEven (cell_in o attr) → IsEven (cell_in (expired_in state o) attr)
in_even Transient o attr even = even
in_even Pending o attr even = even
in_even Persistent o attr even = ap (λ (c : Cell). c.value) (expired_cells o.cells attr.0) ∙ sym (ap (λ (c : Cell). c.base) (expired_cells o.cells attr.0))
in_even Deleted o attr even = even
in_even Detached o attr even = even

where_even : (is_read : Bool) (o : Object) (attr : AttrNo) → IsEven (cell_in o attr) → IsEven (cell_in (expired_where is_read o) attr)
where_even true o attr even = in_even o.state o attr even
where_even false o attr even = even

in_class : (state : State) (o : Object) → (expired_in state o).class ≡ o.class
in_class Transient o = refl
in_class Pending o = refl
in_class Persistent o = refl
in_class Deleted o = refl
in_class Detached o = refl

pub where_class : (is_read : Bool) (o : Object) → (expired_where is_read o).class ≡ o.class
where_class true o = in_class o.state o
where_class false o = refl

-- ---- who stands with an identity then had one before

some_named : (state : State) (key : List Value) → (if has_identity state then true else false) ≡ true → is_named state (Some key) ≡ true
some_named Transient key is = absurd cc
some_named Pending key is = absurd cc
some_named Persistent key is = refl
some_named Deleted key is = refl
some_named Detached key is = refl

since_named : (is_loaded : Bool) (state : State) (identity : Option (List Value)) → (if has_identity state then is_some identity else not (is_some identity)) ≡ true → stands_named (since is_loaded identity) ≡ true → is_named state identity ≡ true
since_named true state None is named = absurd cc
since_named true state (Some key) is named = some_named state key is
since_named false state identity is named = absurd cc

either_named : {A : Type 0} (within : Bool) (first later : Standing) → (stands_named first ≡ true → A) → (stands_named later ≡ true → A) → stands_named (if within then first else later) ≡ true → A
either_named true first later one other named = one named
either_named false first later one other named = other named

contested_named : (is_lost : Bool) (standing : Standing) → is_named (contested_state is_lost standing.state) standing.identity ≡ stands_named standing
contested_named is_lost standing = by is_lost standing.state
  where
    by : (b : Bool) (state : State) → is_named (contested_state b state) standing.identity ≡ is_named state standing.identity
    by true Transient = refl
    by true Pending = refl
    by true Persistent = refl
    by true Deleted = refl
    by true Detached = refl
    by false state = refl

module _ (depth : ℕ) (frames : Framed) (graph : Graph) where
  again_stands : (place : ℕ) → stands_named (standing_of (again depth frames graph place)) ≡ stands_named (want depth frames graph place)
  again_stands place =
      let wanted : Standing = want depth frames graph place in
      let back : Object = back_to wanted (lost depth frames graph place) (object depth frames graph place) in
      ap stands_named (read_stands _ back)
      ∙ ap stands_named (stands_back (object depth frames graph place) (contested_state (lost depth frames graph place) wanted.state) wanted.identity)
      ∙ contested_named (lost depth frames graph place) wanted

  start_named : AreNamedSince (is_named_in graph) frames.scopes → (place : ℕ) → was_named (start depth frames graph) place ≡ true → is_named_in graph place ≡ true
  start_named named place is = named_at (is_named_in graph) frames.scopes (length frames.scopes - depth) place named is

  want_named : AreNamedSince (is_named_in graph) frames.scopes → EachObject (λ (o : Object). is_identified o ≡ true) graph → (place : ℕ) → place < length graph.objects → stands_named (want depth frames graph place) ≡ true → is_named_in graph place ≡ true
  want_named named identified place less is =
      let o : Object = object depth frames graph place in
      let begun : Scope = start depth frames graph in
      either_named (nat_lt place (length begun.standings)) (standing_at begun place) (since (trace_in frames.traces place).loaded o.identity) (start_named named place)
      (since_named (trace_in frames.traces place).loaded o.state o.identity (identified place less)) is

  -- an object that stands with an identity then has its key as it had it
  again_keyed : (mapped : Mapped) → AreNamedSince (is_named_in graph) frames.scopes → EachObject (λ (o : Object). is_identified o ≡ true) graph → EachObject (HoldsItsKey mapped) graph → (place : ℕ) → place < length graph.objects → HoldsItsKey mapped (again depth frames graph place)
  again_keyed mapped named identified keyed place less = λ stands attr key.
      let o : Object = object depth frames graph place in
      let wanted : Standing = want depth frames graph place in
      let state : State = contested_state (lost depth frames graph place) wanted.state in
      let back : Object = put_back_object o state wanted.identity in
      let there : stands_named wanted ≡ true = sym (again_stands place) ∙ stands in
      let has : has_identity state ≡ true = (and_parts (has_identity state) (is_some wanted.identity) (contested_named (lost depth frames graph place) wanted ∙ there)).0 in
      let class : (again depth frames graph place).class ≡ o.class = where_class _ back ∙ back_class o state wanted.identity in
      let even : IsEven (cell_in o attr) = keyed place less (want_named named identified place less there) attr (ap (λ (c : ClassId). is_key_attribute mapped c attr) (sym class) ∙ key) in
      where_even _ back attr (subst (λ (cells : List Cell). IsEven (get_or cells attr.0 expired_cell)) (sym (back_cells o state wanted.identity has)) even)

  -- who had an identity at the start of the scope has it again
  want_start : (place : ℕ) (within : Bool) → nat_lt place (length (start depth frames graph).standings) ≡ within → was_named (start depth frames graph) place ≡ true → stands_named (want depth frames graph place) ≡ true
  want_start place true at is =
      ap (λ (b : Bool). stands_named (if b then standing_at (start depth frames graph) place else since (trace_in frames.traces place).loaded (object depth frames graph place).identity)) at ∙ is
  want_start place false at is =
      let past : standing_at (start depth frames graph) place ≡ made_since = get_or_past (start depth frames graph).standings place made_since (grind (arith, nat_tests)) in
      never_true (was_named (start depth frames graph) place) (ap stands_named past) is

  again_named : AreNamedSince (is_named_in graph) frames.scopes → (place : ℕ) → was_named (start depth frames graph) place ≡ true → is_named_in (restored_graph depth frames graph) place ≡ true
  again_named named place is =
      let less : place < length graph.objects = named_inside graph place (start_named named place is) in
      ap (λ (o : Object). is_named o.state o.identity) (again_at depth frames graph place no_object less)
      ∙ again_stands place
      ∙ want_start place (nat_lt place (length (start depth frames graph).standings)) refl is

  around_named : AreNamedSince (is_named_in graph) frames.scopes → AreNamedSince (is_named_in (restored_graph depth frames graph)) (around depth frames).scopes
  around_named named =
      let n : ℕ = length frames.scopes - depth in
      let k : ℕ = length frames.scopes - (depth - 1) in
      subst (AreNamedSince (is_named_in (restored_graph depth frames graph))) (sym (around_scopes depth frames))
      (named_more (was_named (start depth frames graph)) (is_named_in (restored_graph depth frames graph)) (drop k frames.scopes) (again_named named)
      (named_from (is_named_in graph) frames.scopes n k (omega arith) named))

pub restored_orderly : (depth : ℕ) (own : SessionState) → EachObject (λ (o : Object). is_identified o ≡ true) own.graph → IsOrderlySession own → IsOrderlySession (session_restored depth own)
restored_orderly depth own identified orderly = record {
  well = orderly.well;
  objects = each_again depth own.frames own.graph (HoldsItsKey own.mapping) (again_keyed depth own.frames own.graph own.mapping orderly.named identified orderly.objects);
  named = around_named depth own.frames own.graph orderly.named;
}
