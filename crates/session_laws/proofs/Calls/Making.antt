-- The making of an object keeps a session sound.
use Rattle.std.proofs.Common.{◌≡◌, ◌≢◌, ℕ, ◌+◌, ◌-◌, ◌<◌, ◌≤◌, Bool, true, false, List, [], ◌∷◌, length, get_or, Option, None, Some, Ok, Err, ⊎_elim, refl, sym, ap, ◌∙◌, subst, arith}
use Rattle.std.proofs.lemmas.Bool.{cases_lt}
use Rattle.std.proofs.lemmas.Bool.Decides.{nat_tests}
use Rattle.std.proofs.lemmas.List.{get_or-set_other, get_or-set_same, get_or_append_left, get_or_at, get_or_past, length-append, length-set}
use Rattle.std.specs.Prelude.{if◌then◌else◌, nat_lt, slice_set}
use Rattle.base_core.specs.declared.ids.AttrNo.{AttrNo}
use Rattle.base_core.specs.declared.ids.ClassId.{ClassId}
use Rattle.base_core.specs.declared.ids.ObjId.{ObjId}
use Rattle.base_core.specs.declared.refusal.LimitKind.TheVariants.{Objects}
use Rattle.base_core.specs.declared.refusal.Refusal.{Refusal}
use Rattle.base_core.specs.declared.refusal.Refusal.TheVariants.{LimitReached}
use Rattle.base_core.specs.declared.value.Value.{Value}
use Rattle.class_mapping.specs.Mapped.{Mapped, root_of}
use Rattle.object_arena.specs.declared.object.Object.{Object}
use Rattle.object_arena.specs.declared.object.State.TheVariants.{Pending, Transient}
use Rattle.object_arena.specs.Graph.{Graph, cell_put, fresh_object, make, no_class_id, no_object, object_at, object_limit, place_of, with_fresh}
use Rattle.object_arena.specs.Identity.{IsGraph, holds}
use Rattle.object_arena.proofs.GraphLemmas.{graph_pushed}
use Rattle.keeper_core.specs.Beside.{on_own}
use Rattle.keeper_core.specs.Store.{Store}
use Rattle.savepoints.specs.declared.scope.Scope.{Scope}
use Rattle.savepoints.specs.declared.scope.Standing.{Standing}
use Rattle.savepoints.specs.Scopes.{Framed, made_since, standing_at, standing_of}
use Rattle.schema_core.specs.Tables.{Tables}
use Rattle.session_scopes.specs.Making.{first_given_fault, made_unless, object_made, object_with, unwritten_cell, with_given}
use Rattle.session_scopes.specs.SessionState.{SessionState}
use Rattle.session_objects.proofs.TakingLemmas.{identity_left, state_left}
use Rattle.session_laws.specs.Sound.{AreSoundScopes, EachObject, IsAsAtStart, IsAtRest, IsFresh, IsMarkedRight, IsSound, KeepsSound, RestIf, as_object}
use Rattle.session_laws.proofs.Sound.Everyone.{not_held}
use Rattle.session_laws.proofs.Sound.Objects.{stands_kept}
use Rattle.session_laws.proofs.Sound.Programs.{own_sound}

-- ---- a new object

mark_left : (o : Object) (given : List (AttrNo × Value)) → (object_with o given).marked ≡ o.marked
mark_left o [] = refl
mark_left o (one ∷ others) = mark_left (cell_put o one.0 (unwritten_cell one.1)) others

-- an object that was not touched and never written
record IsNew (o : Object) : Type 0 where
  transient : o.state ≡ Transient
  nameless : o.identity ≡ None
  unmarked : o.marked ≡ false

new_with : (mapped : Mapped) (class : ClassId) (given : List (AttrNo × Value)) → IsNew (object_with (fresh_object mapped class) given)
new_with mapped class given = record {
  transient = state_left (fresh_object mapped class) given;
  nameless = identity_left (fresh_object mapped class) given;
  unmarked = mark_left (fresh_object mapped class) given;
}

new_fresh : (mapped : Mapped) (tables : Tables) (o : Object) → IsNew o → IsFresh mapped tables o
new_fresh mapped tables o is = λ persists. not_held o Transient refl is.transient persists

new_stands : (o : Object) → IsNew o → standing_of o ≡ made_since
new_stands o is = let state = is.transient in let identity = is.nameless in cc

-- ---- it stands last

module _ (mapped : Mapped) (class : ClassId) (given : List (AttrNo × Value)) (graph : Graph) where
  abbrev new_id : ObjId
  new_id = record { 0 = length graph.objects + 1 }

  abbrev wider : Graph
  wider = with_fresh graph mapped class

  abbrev new_object : Object
  new_object = object_with (fresh_object mapped class) given

  abbrev pub made : Graph
  made = with_given wider new_id given

  last_place : place_of new_id ≡ length graph.objects
  last_place = let e : length graph.objects + 1 - 1 ≡ length graph.objects = omega arith in e

  wider_long : length wider.objects ≡ length graph.objects + 1
  wider_long = length-append graph.objects (fresh_object mapped class ∷ [])

  pub made_long : length made.objects ≡ length graph.objects + 1
  made_long = length-set wider.objects (place_of new_id) (object_with (object_at wider new_id) given) ∙ wider_long

  fresh_there : object_at wider new_id ≡ fresh_object mapped class
  fresh_there = ap (λ (p : ℕ). get_or wider.objects p no_object) last_place ∙ get_or_at graph.objects (fresh_object mapped class) [] no_object (length graph.objects) refl

  made_last : get_or made.objects (length graph.objects) no_object ≡ new_object
  made_last =
      ap (λ (p : ℕ). get_or (slice_set wider.objects p (object_with (object_at wider new_id) given)) (length graph.objects) no_object) last_place
      ∙ get_or-set_same wider.objects (length graph.objects) (object_with (object_at wider new_id) given) no_object (omega (arith, wider_long))
      ∙ ap (λ (o : Object). object_with o given) fresh_there

  pub made_before : (place : ℕ) → place < length graph.objects → get_or made.objects place no_object ≡ get_or graph.objects place no_object
  made_before place less =
      let apart : place ≢ place_of new_id = λ same. omega (arith, less, same, last_place) in
      get_or-set_other wider.objects (place_of new_id) place (object_with (object_at wider new_id) given) no_object apart
      ∙ get_or_append_left graph.objects (fresh_object mapped class ∷ []) no_object place less

  -- what holds of each object there was, and of the new one
  pub each_made : (P : Object → Type 0) → EachObject P graph → P new_object → EachObject P made
  each_made P all new place less =
      ⊎_elim
      (λ (before : place < length graph.objects). subst P (sym (made_before place before)) (all place before))
      (λ (after : length graph.objects ≤ place).
      let last : place ≡ length graph.objects = omega (arith, less, after, made_long) in
      subst P (sym (ap (λ (p : ℕ). get_or made.objects p no_object) last ∙ made_last)) new)
      (cases_lt place (length graph.objects))

  pub made_is : length graph.objects < object_limit → IsGraph graph.objects graph.roots → IsGraph made.objects made.roots
  made_is few is =
      let pushed : IsGraph wider.objects wider.roots = graph_pushed graph.objects graph.roots (fresh_object mapped class) (root_of mapped class) is few refl refl in
      stands_kept wider new_id (object_with (object_at wider new_id) given) (omega arith, omega (arith, wider_long)) pushed (state_left (object_at wider new_id) given) (identity_left (object_at wider new_id) given)

  -- ---- the scopes

  held_inside_start : (scope : Scope) (root own : ClassId) (key : List Value) (place : ℕ) → holds root key (as_object (standing_at scope place), own) ≡ true → place < length scope.standings
  held_inside_start scope root own key place held =
      ⊎_elim
      (λ (inside : place < length scope.standings). inside)
      (λ (past : length scope.standings ≤ place).
      let h : false ≡ true = sym (ap (λ (s : Standing). holds root key (as_object s, own)) (get_or_past scope.standings place made_since past)) ∙ held in
      absurd cc)
      (cases_lt place (length scope.standings))

  same_root : IsGraph graph.objects graph.roots → (place : ℕ) → place < length graph.objects → get_or made.roots place no_class_id ≡ get_or graph.roots place no_class_id
  same_root is place less = get_or_append_left graph.roots (root_of mapped class ∷ []) no_class_id place (omega (arith, less, is.rooted))

  held_then : IsGraph graph.objects graph.roots → (scope : Scope) → length scope.standings ≤ length graph.objects → (root : ClassId) (key : List Value) (place : ℕ) → holds root key (as_object (standing_at scope place), get_or made.roots place no_class_id) ≡ true
      → holds root key (as_object (standing_at scope place), get_or graph.roots place no_class_id) ≡ true
  held_then is scope few root key place held =
      let inside : place < length scope.standings = held_inside_start scope root (get_or made.roots place no_class_id) key place held in
      sym (ap (λ (own : ClassId). holds root key (as_object (standing_at scope place), own)) (same_root is place (omega (arith, inside, few)))) ∙ held

  pub scopes_made : IsGraph graph.objects graph.roots → (frames : Framed) (scopes : List Scope) (starts : List Tables) → AreSoundScopes mapped graph frames scopes starts → AreSoundScopes mapped made frames scopes starts
  scopes_made is frames [] [] sound = tt
  scopes_made is frames [] (start ∷ starts) sound = absurd sound
  scopes_made is frames (scope ∷ scopes) [] sound = absurd sound
  scopes_made is frames (scope ∷ scopes) (start ∷ starts) sound = (
    record {
      legal = sound.0.legal;
      few = omega (arith, sound.0.few, made_long);
      settled = sound.0.settled;
      identified = sound.0.identified;
      apart = λ root key i j one other. sound.0.apart root key i j (held_then is scope sound.0.few root key i one) (held_then is scope sound.0.few root key j other);
      untouched = λ place less untouched.
          ⊎_elim
          (λ (before : place < length graph.objects). subst (IsAsAtStart mapped start (standing_at scope place)) (sym (made_before place before)) (sound.0.untouched place before untouched))
          (λ (after : length graph.objects ≤ place).
          let last : place ≡ length graph.objects = omega (arith, less, after, made_long) in
          let new : IsNew new_object = new_with mapped class given in
          subst (IsAsAtStart mapped start (standing_at scope place)) (sym (ap (λ (p : ℕ). get_or made.objects p no_object) last ∙ made_last))
          (record { stands = new_stands new_object new ∙ sym (get_or_past scope.standings place made_since (omega (arith, after, sound.0.few))); unmarked = new.unmarked; fresh = new_fresh mapped start new_object new }))
          (cases_lt place (length graph.objects));
    },
    scopes_made is frames scopes starts sound.1,
  )

  pub rest_made : (scopes : List Scope) → RestIf scopes graph → RestIf scopes made
  rest_made [] rest =
      let new : IsNew new_object = new_with mapped class given in
      each_made IsAtRest rest (record {
        settled = λ is. absurd (let h : Transient ≡ Pending = sym new.transient ∙ is in cc);
        unmarked = new.unmarked;
        expired = λ persists. not_held new_object Transient refl new.transient persists;
        unloaded = λ persists. not_held new_object Transient refl new.transient persists;
      })
  rest_made (scope ∷ scopes) rest = tt

-- ---- the session

made_sound : (class : ClassId) (given : List (AttrNo × Value)) (own : SessionState) (store : Store) → length own.graph.objects < object_limit → IsSound (record { own = own; store = store })
    → IsSound (record { own = record own { graph = made own.mapping class given own.graph }; store = store })
made_sound class given own store few sound =
    let new = new_with own.mapping class given in
    record {
      graph = made_is own.mapping class given own.graph few sound.graph;
      legal = sound.legal;
      fresh = each_made own.mapping class given own.graph (IsFresh own.mapping store.tables) sound.fresh (new_fresh own.mapping store.tables _ new);
      marked = each_made own.mapping class given own.graph IsMarkedRight sound.marked (λ marked. absurd (let h : false ≡ true = sym new.unmarked ∙ marked in cc));
      scopes = scopes_made own.mapping class given own.graph sound.graph own.frames own.frames.scopes store.scopes sound.scopes;
      rest = rest_made own.mapping class given own.graph own.frames.scopes sound.rest;
    }

room_sound : (room : Bool) (fault : Option Refusal) (class : ClassId) (given : List (AttrNo × Value)) (own : SessionState) (store : Store) → nat_lt (length own.graph.objects) object_limit ≡ room → IsSound (record { own = own; store = store })
    → IsSound (record {
      own = (made_unless fault given own (if room then Ok (record { 0 = length own.graph.objects + 1 }, with_fresh own.graph own.mapping class) else Err (LimitReached Objects))).after;
      store = store;
    })
room_sound room (Some fault) class given own store at sound = sound
room_sound false None class given own store at sound = sound
room_sound true None class given own store at sound = made_sound class given own store (let e : length own.graph.objects < object_limit = grind (arith, nat_tests) in e) sound

pub make_sound : (class : ClassId) (given : List (AttrNo × Value)) → KeepsSound (on_own (object_made class given))
unfolding object_made make
make_sound class given w sound =
    own_sound (object_made class given) w
    (room_sound (nat_lt (length w.own.graph.objects) object_limit) (first_given_fault w.own.mapping class given) class given w.own w.store refl sound)
