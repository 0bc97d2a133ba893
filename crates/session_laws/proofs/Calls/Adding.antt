-- An object that comes into a session keeps it sound.
use Rattle.std.proofs.Common.{◌≡◌, ℕ, ◌<◌, Bool, true, false, List, [], ◌∷◌, length, map, get_or, zero, suc, Option, None, Some, refl, sym, ap, ◌∙◌, subst, arith}
use Rattle.std.specs.Prelude.{if◌then◌else◌, is_some, not, slice_set}
use Rattle.base_core.specs.Counts.{one_more}
use Rattle.base_core.specs.declared.ids.AttrNo.{AttrNo}
use Rattle.base_core.specs.declared.ids.ObjId.{ObjId}
use Rattle.base_core.specs.declared.refusal.Refusal.{Refusal}
use Rattle.base_core.specs.declared.refusal.Refusal.TheVariants.{InvalidRequestError}
use Rattle.base_core.specs.declared.refusal.RequestKind.TheVariants as requests
use Rattle.base_core.specs.declared.value.Value.{Value}
use Rattle.class_mapping.specs.Mapped.{Mapped}
use Rattle.object_arena.specs.declared.object.Cell.{Cell}
use Rattle.object_arena.specs.declared.object.Object.{Object}
use Rattle.object_arena.specs.declared.object.State.{State}
use Rattle.object_arena.specs.declared.object.State.TheVariants.{Transient, Pending, Persistent, Deleted, Detached}
use Rattle.object_arena.specs.Graph.{Graph, IsObject, cell_in, cell_put, either_fault, expired_cell, expired_object, has_identity, is_persistent, no_object, object_at, place_of, with_object}
use Rattle.object_arena.specs.Identity.{IsGraph, is_identified}
use Rattle.std.proofs.lemmas.List.{length-set}
use Rattle.object_arena.proofs.GraphLemmas.{graph_left, graph_set, owns_back}
use Rattle.keeper_core.specs.Store.{Store}
use Rattle.keeper_core.specs.Beside.{changes}
use Rattle.schema_core.specs.Tables.{Tables}
use Rattle.session_parts.specs.Depths.{has_scope}
use Rattle.session_parts.specs.Ends.{object_unmarked}
use Rattle.session_scopes.specs.Making.{object_with, unwritten_cell}
use Rattle.session_scopes.specs.SessionState.{SessionState, with_graph}
use Rattle.session_calls.specs.Parts.{World, fault_if}
use Rattle.session_calls.specs.Steps.{enter}
use Rattle.session_objects.specs.Conflicts.{add_fault, has_conflict, is_deleted}
use Rattle.session_objects.specs.Steps.{add, add_inside}
use Rattle.session_objects.specs.Taking.{AreOnce, MayJoin, MayReturn, added_then, changed_values, coming_objects, object_taken, returned_object, session_added, session_joined, session_taken, session_unmarked, taken_under}
use Rattle.session_objects.proofs.JoiningLemmas.{may_come, may_join}
use Rattle.session_objects.proofs.TakingLemmas.{identity_left, state_left}
use Rattle.session_laws.specs.Sound.{IsFresh, IsMarkedRight, IsSound}
use Rattle.session_laws.proofs.Sound.Beginning.{enter_sound, entered_graph, entered_mapping, entered_open}
use Rattle.session_laws.proofs.Sound.Changes.{object_of, one_changed}
use Rattle.session_laws.proofs.Sound.Everyone.{identified_as}
use Rattle.session_laws.proofs.Sound.Objects.{stands_kept}
use Rattle.session_laws.proofs.Sound.Programs.{checked_then, then_sound}
use Rattle.session_laws.proofs.Sound.Touches.{between_scopes}
use Rattle.session_laws.specs.Calls.{ComingInKeepsSound}

-- ---- an object of whose rows nothing is known

KnowsNoRow : Object → Type 0
KnowsNoRow o = (attr : AttrNo) → (cell_in o attr).base ≡ None

expired_bases : (cells : List Cell) (i : ℕ) → (get_or (map (λ cell. expired_cell) cells) i expired_cell).base ≡ None
expired_bases [] i = refl
expired_bases (cell ∷ cells) zero = refl
expired_bases (cell ∷ cells) (suc i) = expired_bases cells i

bases_put : (cells : List Cell) (i j : ℕ) (cell : Cell) → cell.base ≡ None → ((k : ℕ) → (get_or cells k expired_cell).base ≡ None) → (get_or (slice_set cells i cell) j expired_cell).base ≡ None
bases_put [] i j cell is none = none j
bases_put (c ∷ cells) zero zero cell is none = is
bases_put (c ∷ cells) zero (suc j) cell is none = none (suc j)
bases_put (c ∷ cells) (suc i) zero cell is none = none zero
bases_put (c ∷ cells) (suc i) (suc j) cell is none = bases_put cells i j cell is (λ k. none (suc k))

given_bases : (o : Object) (given : List (AttrNo × Value)) → KnowsNoRow o → KnowsNoRow (object_with o given)
unfolding KnowsNoRow
given_bases o [] none = none
given_bases o (one ∷ others) none =
    given_bases (cell_put o one.0 (unwritten_cell one.1)) others (λ attr. bases_put o.cells one.0.0 attr.0 (unwritten_cell one.1) refl (λ k. none (record { 0 = k })))

returned_bases : (o : Object) → KnowsNoRow (returned_object o)
unfolding KnowsNoRow
returned_bases o = λ attr. given_bases (expired_object (record o { state = Persistent; marked = false })) (changed_values 0 o.cells) (λ other. expired_bases o.cells other.0) attr

fresh_unknown : (mapped : Mapped) (tables : Tables) (o : Object) → KnowsNoRow o → IsFresh mapped tables o
unfolding KnowsNoRow
fresh_unknown mapped tables o none = λ persists attr less base is. absurd (let h : None ≡ Some base = sym (none attr) ∙ is in cc)

taken_fresh : (mapped : Mapped) (tables : Tables) (state : State) (number : ℕ) (o : Object) → IsFresh mapped tables o → IsFresh mapped tables (object_taken state number o)
taken_fresh mapped tables Transient number o fresh = λ persists. absurd cc
taken_fresh mapped tables Pending number o fresh = fresh
taken_fresh mapped tables Persistent number o fresh = fresh
taken_fresh mapped tables Deleted number o fresh = fresh
taken_fresh mapped tables Detached number o fresh = fresh_unknown mapped tables (returned_object o) (returned_bases o)

-- ---- delete marks

pub marked_left : (o : Object) (given : List (AttrNo × Value)) → (object_with o given).marked ≡ o.marked
marked_left o [] = refl
marked_left o (one ∷ others) = marked_left (cell_put o one.0 (unwritten_cell one.1)) others

taken_right : (state : State) (number : ℕ) (o : Object) → o.state ≡ state → IsMarkedRight o → IsMarkedRight (object_taken state number o)
taken_right Transient number o at right = λ marked. absurd (let h : false ≡ true = sym (ap is_persistent at) ∙ right marked in cc)
taken_right Pending number o at right = right
taken_right Persistent number o at right = right
taken_right Deleted number o at right = right
taken_right Detached number o at right =
    λ marked. absurd (let h : false ≡ true = sym (marked_left (expired_object (record o { state = Persistent; marked = false })) (changed_values 0 o.cells)) ∙ marked in cc)

-- ---- one object for each key

persists_as : (o : Object) → o.state ≡ Persistent → is_some o.identity ≡ true → is_identified o ≡ true
persists_as o is some = subst (λ (s : State). (if has_identity s then is_some o.identity else not (is_some o.identity)) ≡ true) (sym is) some

taken_graph : (graph : Graph) (object : ObjId) (state : State) (number : ℕ) → IsObject graph object → IsGraph graph.objects graph.roots → (object_at graph object).state ≡ state → MayReturn graph object
    → IsGraph (slice_set graph.objects (place_of object) (object_taken state number (object_at graph object))) graph.roots
taken_graph graph object Transient number made is at free =
    graph_left graph.objects graph.roots (place_of object) (object_taken Transient number (object_at graph object)) (omega (arith, made.0, made.1)) is refl refl
taken_graph graph object Pending number made is at free = stands_kept graph object (object_at graph object) made is refl refl
taken_graph graph object Persistent number made is at free = stands_kept graph object (object_at graph object) made is refl refl
taken_graph graph object Deleted number made is at free = stands_kept graph object (object_at graph object) made is refl refl
taken_graph graph object Detached number made is at free =
    let o : Object = object_at graph object in
    let within : place_of object < length graph.objects = omega (arith, made.0, made.1) in
    let new : Object = returned_object o in
    let begun : Object = expired_object (record o { state = Persistent; marked = false }) in
    let state : new.state ≡ Persistent = state_left begun (changed_values 0 o.cells) in
    let identity : new.identity ≡ o.identity = identity_left begun (changed_values 0 o.cells) in
    let some : is_some o.identity ≡ true = identified_as o Detached at refl (is.identified (place_of object) no_object within) in
    graph_set graph.objects graph.roots (place_of object) new within is (persists_as new state (ap is_some identity ∙ some))
    (owns_back graph.objects graph.roots object new Persistent o.identity is state identity (sym some) (λ persists. free at))

-- ---- the call

one_taken : (object : ObjId) (own : SessionState) (store : Store) → IsObject own.graph object → MayReturn own.graph object → has_scope own.frames.scopes ≡ true → IsSound (record { own = own; store = store })
    → IsSound (record { own = session_taken object own; store = store })
one_taken object own store made free opened sound =
    let o : Object = object_at own.graph object in
    let number : ℕ = one_more own.added in
    one_changed (record own { added = added_then o.state own.added }) store object (taken_under number o) opened made
    (taken_graph own.graph object o.state number made sound.graph refl free)
    (taken_fresh own.mapping store.tables o.state number o (object_of (IsFresh own.mapping store.tables) own.graph object made sound.fresh))
    (taken_right o.state number o refl (object_of IsMarkedRight own.graph object made sound.marked))
    (record { graph = sound.graph; legal = sound.legal; fresh = sound.fresh; marked = sound.marked; scopes = sound.scopes; rest = sound.rest })

pub still_open : (graph : Graph) (own : SessionState) → has_scope own.frames.scopes ≡ true → has_scope (with_graph graph own).frames.scopes ≡ true
still_open graph own opened = ap has_scope (between_scopes own.graph graph own.frames) ∙ opened

-- what is kept while objects come in
pub record IsJoined (own now : SessionState) (store : Store) : Type 0 where
  pub opened : has_scope now.frames.scopes ≡ true
  pub long : length now.graph.objects ≡ length own.graph.objects
  pub sound : IsSound (record { own = now; store = store })

pub all_joined : (objects : List ObjId) (own : SessionState) (store : Store) → MayJoin own objects → has_scope own.frames.scopes ≡ true → IsSound (record { own = own; store = store }) → IsJoined own (session_joined objects own) store
all_joined [] own store may opened sound = record { opened = opened; long = refl; sound = sound }
all_joined (object ∷ objects) own store may opened sound =
    let o : Object = object_at own.graph object in
    let taken : Object = taken_under (one_more own.added) o in
    let rest = all_joined objects (session_taken object own) store may.2 (still_open (with_object own.graph object taken) (record own { added = added_then o.state own.added }) opened) (one_taken object own store may.0 may.1 opened sound) in
    record { opened = rest.opened; long = rest.long ∙ length-set own.graph.objects (place_of object) taken; sound = rest.sound }

unmarked_sound : (object : ObjId) (own : SessionState) (store : Store) → IsObject own.graph object → has_scope own.frames.scopes ≡ true → IsSound (record { own = own; store = store }) → IsSound (record { own = session_unmarked object own; store = store })
unmarked_sound object own store made opened sound =
    one_changed own store object (object_unmarked (object_at own.graph object)) opened made (stands_kept own.graph object (object_unmarked (object_at own.graph object)) made sound.graph refl refl)
    (object_of (IsFresh own.mapping store.tables) own.graph object made sound.fresh) (λ is. absurd cc) sound

none_against : (first : Option Refusal) (b : Bool) → either_fault first (fault_if b (InvalidRequestError requests.IdentityConflict)) ≡ None → b ≡ false
none_against None true h = absurd cc
none_against None false h = refl
none_against (Some fault) b h = absurd cc

added_sound : (object : ObjId) (own : SessionState) (store : Store) → AreOnce own.graph (coming_objects own.mapping own.graph object) → add_fault object own ≡ None → has_scope own.frames.scopes ≡ true → IsSound (record { own = own; store = store })
    → IsSound (record { own = session_added object own; store = store })
added_sound object own store once none opened sound =
    let objects : List ObjId = coming_objects own.mapping own.graph object in
    let free : has_conflict own.graph objects ≡ false = none_against (fault_if (is_deleted (object_at own.graph object).state) (InvalidRequestError requests.Deleted)) (has_conflict own.graph objects) none in
    let joined = all_joined objects own store (may_join objects own sound.graph.rooted (may_come own.graph objects sound.graph free once)) opened sound in
    unmarked_sound object (session_joined objects own) store (once.0.0, omega (arith, once.0.1, joined.long)) joined.opened joined.sound

inside_sound : (object : ObjId) (v : World) → AreOnce v.own.graph (coming_objects v.own.mapping v.own.graph object) → has_scope v.own.frames.scopes ≡ true → IsSound v → IsSound (add_inside object v).after
unfolding changes
inside_sound object v once opened sound = checked_then (add_fault object) (λ u. changes (session_added object)) v sound (λ u none. added_sound object v.own v.store once none opened sound)

pub add_sound : ComingInKeepsSound
unfolding add
add_sound object w once sound =
    then_sound enter (λ u. add_inside object) w (enter_sound w sound)
    (λ u is. inside_sound object (enter w).after
    (subst (λ (m : Mapped). AreOnce (enter w).after.own.graph (coming_objects m (enter w).after.own.graph object)) (sym (entered_mapping w))
    (subst (λ (g : Graph). AreOnce g (coming_objects w.own.mapping g object)) (sym (entered_graph w)) once))
    (entered_open w u is) (enter_sound w sound))
