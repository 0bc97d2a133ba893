-- A session is sound at its beginning, and where its transaction begins.
use Rattle.std.proofs.Common.{◌≡◌, ◌≢◌, ℕ, ◌<◌, ◌≤◌, Bool, true, false, List, [], ◌∷◌, length, map, get_or, zero, suc, Ok, refl, sym, ap, ◌∙◌, subst, ⊎_elim, arith}
use Rattle.std.proofs.lemmas.Bool.{cases_lt}
use Rattle.std.proofs.lemmas.List.{get_or_past, length-map}
use Rattle.base_core.specs.declared.refusal.Refusal.TheVariants.{PendingRollbackError}
use Rattle.class_mapping.specs.Mapped.{Mapped}
use Rattle.keeper_core.specs.Calls as call
use Rattle.object_arena.specs.declared.object.Object.{Object}
use Rattle.object_arena.specs.declared.object.State.TheVariants.{Pending, Transient}
use Rattle.object_arena.specs.Graph.{Graph, no_class_id, no_object}
use Rattle.object_arena.specs.Identity.{IsGraph, holds, is_identified}
use Rattle.keeper_core.specs.Store.{Store}
use Rattle.keeper_core.specs.Programs.{Event, ◌>>=◌, give, refuse}
use Rattle.keeper_core.specs.Beside.{by_own, changes, on_store}
use Rattle.schema_core.specs.Tables.{Legal, Tables}
use Rattle.savepoints.specs.declared.scope.Scope.{Scope}
use Rattle.savepoints.specs.declared.scope.Standing.{Standing}
use Rattle.savepoints.specs.Scopes.{Framed, begun_at, made_since, standing_at, standing_of}
use Rattle.session_parts.specs.Depths.{has_scope}
use Rattle.session_scopes.specs.Scoping.{session_begun}
use Rattle.session_scopes.specs.SessionState.{SessionState, in_transaction, new_session, with_notes}
use Rattle.session_calls.specs.Parts.{World, checked, fault_if, unless}
use Rattle.session_calls.specs.Steps.{begin_unless, enter}
use Rattle.session_calls.proofs.Acting.{no_scope_open}
use Rattle.session_laws.specs.Sound.{AreSoundScopes, EachObject, as_object, IsAtRest, IsFresh, IsSettled, IsSound, IsSoundScope, KeepsSound, RestIf}

-- ---- a new session

pub new_sound : (mapping : Mapped) → IsSound (record { own = new_session mapping; store = record { tables = []; scopes = [] } })
new_sound mapping = record {
  graph = record { rooted = refl; few = omega arith; identified = λ i d less. absurd (omega (arith, less)); one = λ root key i j held other. absurd (let h : false ≡ true = held in cc) };
  legal = record { created = tt; keys = tt; cells = tt; uniques = tt; foreigns = refl };
  fresh = λ place less. absurd (omega (arith, less));
  marked = λ place less. absurd (omega (arith, less));
  scopes = tt;
  rest = λ place less. absurd (omega (arith, less));
}

-- ---- a scope begins

pub no_starts : (mapped : Mapped) (graph : Graph) (frames : Framed) (scopes : List Scope) (starts : List Tables) → scopes ≡ [] → AreSoundScopes mapped graph frames scopes starts → starts ≡ []
no_starts mapped graph frames [] [] none sound = refl
no_starts mapped graph frames [] (tables ∷ starts) none sound = absurd sound
no_starts mapped graph frames (scope ∷ scopes) starts none sound = absurd cc

pub at_rest : (graph : Graph) (scopes : List Scope) → scopes ≡ [] → RestIf scopes graph → EachObject IsAtRest graph
at_rest graph [] none rest = rest
at_rest graph (scope ∷ scopes) none rest = absurd cc

-- where each object stands when a scope begins
started_in : (objects : List Object) (place : ℕ) → get_or (map (λ object. standing_of object) objects) place made_since ≡ standing_of (get_or objects place no_object)
started_in [] place = refl
started_in (o ∷ objects) zero = refl
started_in (o ∷ objects) (suc place) = started_in objects place

pub started_at : (graph : Graph) (place : ℕ) → standing_at (begun_at graph) place ≡ standing_of (get_or graph.objects place no_object)
started_at graph place = started_in graph.objects place

pending_none : (graph : Graph) → EachObject IsSettled graph → (place : ℕ) → (standing_at (begun_at graph) place).state ≢ Pending
pending_none graph settled place is =
    let there : (get_or graph.objects place no_object).state ≡ Pending = sym (ap (λ (s : Standing). s.state) (started_at graph place)) ∙ is in
    ⊎_elim
    (λ (inside : place < length graph.objects). (settled place inside).settled there)
    (λ (past : length graph.objects ≤ place). let h : Transient ≡ Pending = sym (ap (λ (o : Object). o.state) (get_or_past graph.objects place no_object past)) ∙ there in absurd cc)
    (cases_lt place (length graph.objects))

identified_all : (graph : Graph) → IsGraph graph.objects graph.roots → (place : ℕ) → is_identified (get_or graph.objects place no_object) ≡ true
identified_all graph is place =
    ⊎_elim
    (λ (inside : place < length graph.objects). is.identified place no_object inside)
    (λ (past : length graph.objects ≤ place). ap (λ (o : Object). is_identified o) (get_or_past graph.objects place no_object past))
    (cases_lt place (length graph.objects))

-- where nothing is pending or to be deleted, and what is known of objects is what the tables have, a scope may begin
pub scope_begun : (mapped : Mapped) (graph : Graph) (frames : Framed) (depth : ℕ) (tables : Tables) → IsGraph graph.objects graph.roots → EachObject IsSettled graph → EachObject (IsFresh mapped tables) graph → Legal mapped.schema tables
    → IsSoundScope mapped graph frames depth (begun_at graph) tables
scope_begun mapped graph frames depth tables is settled fresh legal = record {
  legal = legal;
  few = omega (arith, length-map graph.objects (λ (o : Object). standing_of o));
  settled = pending_none graph settled;
  identified = λ place. ap (λ (s : Standing). is_identified (as_object s)) (started_at graph place) ∙ identified_all graph is place;
  apart = λ root key i j one other.
      let Held : ℕ → Standing → Type 0 = λ k s. holds root key (as_object s, get_or graph.roots k no_class_id) ≡ true in
      is.one root key i j (subst (Held i) (started_at graph i) one) (subst (Held j) (started_at graph j) other);
  untouched = λ place less is. record { stands = sym (started_at graph place); unmarked = (settled place less).unmarked; fresh = fresh place less };
}

none_sound : (mapped : Mapped) (graph : Graph) (frames : Framed) (scopes : List Scope) (starts : List Tables) → scopes ≡ [] → starts ≡ [] → AreSoundScopes mapped graph frames scopes starts
none_sound mapped graph frames [] [] none outside = tt
none_sound mapped graph frames [] (tables ∷ starts) none outside = absurd cc
none_sound mapped graph frames (scope ∷ scopes) starts none outside = absurd cc

begun_sound : (own : SessionState) (store : Store) (events : List Event) → own.frames.scopes ≡ [] → IsSound (record { own = own; store = store })
    → IsSound (record { own = session_begun (with_notes events own); store = record { tables = store.tables; scopes = store.tables ∷ store.scopes } })
begun_sound own store events none sound =
    let rest : EachObject IsAtRest own.graph = at_rest own.graph own.frames.scopes none sound.rest in
    let frames : Framed = (session_begun (with_notes events own)).frames in
    record {
      graph = sound.graph;
      legal = sound.legal;
      fresh = sound.fresh;
      marked = sound.marked;
      scopes = (
        scope_begun own.mapping own.graph frames (length (begun_at own.graph ∷ own.frames.scopes)) store.tables sound.graph (λ place less. record { settled = (rest place less).settled; unmarked = (rest place less).unmarked }) sound.fresh sound.legal,
        none_sound own.mapping own.graph frames own.frames.scopes store.scopes none (no_starts own.mapping own.graph own.frames own.frames.scopes store.scopes none sound.scopes),
      );
      rest = tt;
    }

-- ---- the call

-- the session and the store once the transaction began, unless it had begun
after_begin : Bool → World → World
after_begin true w = w
after_begin false w = record { own = session_begun (with_notes (call.begin w.store).events w.own); store = (call.begin w.store).after }

begin_is : (begun : Bool) (w : World) → (begin_unless begun w).after ≡ after_begin begun w
unfolding after_begin ◌>>=◌ give changes on_store call.begin
begin_is true w = refl
begin_is false w = refl

after_enter : Bool → World → World
after_enter true w = w
after_enter false w = after_begin (in_transaction w.own) w

unless_is : (failed : Bool) (w : World) → ((unless (fault_if failed PendingRollbackError) >>= λ u. by_own (λ session. begin_unless (in_transaction session))) w).after ≡ after_enter failed w
unfolding after_enter ◌>>=◌ give refuse by_own
unless_is true w = refl
unless_is false w = begin_is (in_transaction w.own) w

enter_is : (w : World) → (enter w).after ≡ after_enter w.own.failed w
unfolding enter checked by_own ◌>>=◌
enter_is w = unless_is w.own.failed w

begin_sound : (begun : Bool) (w : World) → in_transaction w.own ≡ begun → IsSound w → IsSound (after_begin begun w)
unfolding after_begin call.begin
begin_sound true w is sound = sound
begin_sound false w is sound = begun_sound w.own w.store (call.begin w.store).events (no_scope_open w.own.frames.scopes is) sound

enter_with : (failed : Bool) (w : World) → IsSound w → IsSound (after_enter failed w)
unfolding after_enter
enter_with true w sound = sound
enter_with false w sound = begin_sound (in_transaction w.own) w refl sound

pub enter_sound : KeepsSound enter
enter_sound w sound = subst IsSound (sym (enter_is w)) (enter_with w.own.failed w sound)

-- ---- once it began

begun_open : (begun : Bool) (w : World) → in_transaction w.own ≡ begun → has_scope (after_begin begun w).own.frames.scopes ≡ true
unfolding after_begin
begun_open true w is = is
begun_open false w is = refl

answer_open : (failed : Bool) (w : World) (u : Unit {0}) → ((unless (fault_if failed PendingRollbackError) >>= λ u. by_own (λ session. begin_unless (in_transaction session))) w).answer ≡ Ok u → has_scope (after_enter failed w).own.frames.scopes ≡ true
unfolding after_enter ◌>>=◌ give refuse by_own
answer_open true w u is = absurd cc
answer_open false w u is = begun_open (in_transaction w.own) w refl

-- it is in progress
pub entered_open : (w : World) (u : Unit {0}) → (enter w).answer ≡ Ok u → has_scope (enter w).after.own.frames.scopes ≡ true
unfolding enter checked by_own ◌>>=◌
entered_open w u is = subst (λ (v : World). has_scope v.own.frames.scopes ≡ true) (sym (enter_is w)) (answer_open w.own.failed w u is)

begun_graph : (begun : Bool) (w : World) → (after_begin begun w).own.graph ≡ w.own.graph
unfolding after_begin
begun_graph true w = refl
begun_graph false w = refl

graph_then : (failed : Bool) (w : World) → (after_enter failed w).own.graph ≡ w.own.graph
unfolding after_enter
graph_then true w = refl
graph_then false w = begun_graph (in_transaction w.own) w

-- and the objects are as they were
pub entered_graph : (w : World) → (enter w).after.own.graph ≡ w.own.graph
entered_graph w = ap (λ (v : World). v.own.graph) (enter_is w) ∙ graph_then w.own.failed w

begun_mapping : (begun : Bool) (w : World) → (after_begin begun w).own.mapping ≡ w.own.mapping
unfolding after_begin
begun_mapping true w = refl
begun_mapping false w = refl

mapping_then : (failed : Bool) (w : World) → (after_enter failed w).own.mapping ≡ w.own.mapping
unfolding after_enter
mapping_then true w = refl
mapping_then false w = begun_mapping (in_transaction w.own) w

-- the mapping is the same
pub entered_mapping : (w : World) → (enter w).after.own.mapping ≡ w.own.mapping
entered_mapping w = ap (λ (v : World). v.own.mapping) (enter_is w) ∙ mapping_then w.own.failed w
