-- The calls that roll scopes back leave a session sound.
use Rattle.std.proofs.Common.{◌≡◌, ℕ, ◌+◌, ◌-◌, ◌<◌, ◌≤◌, Bool, true, false, ◌&&◌, List, [], ◌∷◌, drop, length, get_or, zero, suc, Option, None, Some, Result, Ok, Err, refl, sym, ap, ◌∙◌, subst, arith}
use Rattle.std.specs.Prelude.{◌==◌, if◌then◌else◌, nat_le, not}
use Rattle.std.proofs.lemmas.Bool.{eqb-true}
use Rattle.std.proofs.lemmas.Bool.Decides.{nat_tests}
use Rattle.std.proofs.lemmas.List.{drop_all, length-drop}
use Rattle.std.proofs.lemmas.List.Quantifiers.{position-Some}
use Rattle.keeper_core.specs.Calls as call
use Rattle.base_core.specs.declared.ids.ClassId.{ClassId}
use Rattle.class_mapping.specs.Mapped.{Mapped}
use Rattle.object_arena.specs.Graph.{Graph, no_object}
use Rattle.object_arena.specs.Identity.{IsGraph}
use Rattle.keeper_core.specs.Store.{Store, committed_of, outermost}
use Rattle.base_core.specs.declared.refusal.Refusal.{Refusal}
use Rattle.keeper_core.specs.Programs.{◌>>=◌, continue_from, give, refuse}
use Rattle.keeper_core.specs.Beside.{by_own, changes, on_store}
use Rattle.schema_core.specs.Tables.{Tables}
use Rattle.savepoints.specs.declared.scope.Scope.{Scope}
use Rattle.savepoints.specs.Scopes.{Framed, around, is_touched, no_scope, restored_graph, scope_at, standing_at}
use Rattle.session_laws.specs.Scopes.{Restore}
use Rattle.session_laws.proofs.Scopes.Inside.{restored_long}
use Rattle.session_laws.proofs.Scopes.Traces.{touches_grow}
use Rattle.session_scopes.specs.Scoping.{session_restored, session_rolled_back}
use Rattle.session_scopes.specs.Handles.{place_of_handle}
use Rattle.session_scopes.specs.SessionState.{SessionState, depth_in, in_transaction, with_notes}
use Rattle.session_calls.specs.Parts.{World, go_back, roll_back_scope}
use Rattle.session_calls.specs.Steps.{go_back_if, roll_back_place, rollback, rollback_handle}
use Rattle.session_calls.proofs.Acting.{some_scope_open}
use Rattle.session_laws.specs.Sound.{AreApart, AreSoundScopes, EachObject, IsAsAtStart, IsAtRest, IsFresh, IsHandled, IsMarkedRight, IsSound, IsSoundScope, KeepsSound, RestIf}
use Rattle.session_laws.proofs.Sound.Programs.{then_sound}
use Rattle.session_laws.proofs.Sound.Restoring.{again_at, again_unmarked, each_again, fresh_again, kept_as, rest_again, restored_is, same_roots}
use Rattle.session_laws.proofs.Sound.Touches.{not_true, other_answer}

-- ---- the scopes around the one that is gone back to

around_scopes : (depth : ℕ) (frames : Framed) → (around depth frames).scopes ≡ drop (length frames.scopes - (depth - 1)) frames.scopes
unfolding around
around_scopes depth frames = refl

around_long : (depth : ℕ) (frames : Framed) → 1 ≤ depth → depth ≤ length frames.scopes → length (around depth frames).scopes + 1 ≡ depth
around_long depth frames low high = omega (arith, low, high, ap length (around_scopes depth frames), length-drop (length frames.scopes - (depth - 1)) frames.scopes)

deeper : (outer inner touched : ℕ) → outer ≤ inner → nat_le outer touched ≡ false → nat_le inner touched ≡ false
deeper outer inner touched most is = grind (arith, nat_tests)

untouched_before : (depth : ℕ) (frames : Framed) (graph : Graph) (outer place : ℕ) → 1 ≤ depth → depth ≤ length frames.scopes → 1 ≤ outer → outer < depth → is_touched (around depth frames) outer place ≡ false → is_touched frames outer place ≡ false
untouched_before depth frames graph outer place low high first less is =
    not_true (is_touched frames outer place) (λ touched. other_answer (is_touched (around depth frames) outer place) is
    (touches_grow (record { graph = graph; frames = frames }) (Restore depth) outer place (first, omega (arith, less, around_long depth frames low high)) touched))

scopes_back : (mapped : Mapped) (depth : ℕ) (frames : Framed) (graph : Graph) (tables : Tables) → 1 ≤ depth → depth ≤ length frames.scopes → IsSoundScope mapped graph frames depth (scope_at depth frames.scopes) tables → (scopes : List Scope) (starts : List Tables) → length scopes < depth
    → AreSoundScopes mapped graph frames scopes starts → AreSoundScopes mapped (restored_graph depth frames graph) (around depth frames) scopes starts
scopes_back mapped depth frames graph tables low high inner [] [] few sound = tt
scopes_back mapped depth frames graph tables low high inner [] (start ∷ starts) few sound = absurd sound
scopes_back mapped depth frames graph tables low high inner (scope ∷ scopes) [] few sound = absurd sound
scopes_back mapped depth frames graph tables low high inner (scope ∷ scopes) (start ∷ starts) few sound = (
  record {
    legal = sound.0.legal;
    few = omega (arith, sound.0.few, restored_long depth frames graph);
    settled = sound.0.settled;
    identified = sound.0.identified;
    apart = subst (λ (roots : List ClassId). AreApart roots scope) (sym (same_roots depth frames graph)) sound.0.apart;
    untouched = λ place less is.
        let within : place < length graph.objects = omega (arith, less, restored_long depth frames graph) in
        let before : is_touched frames (length (scope ∷ scopes)) place ≡ false = untouched_before depth frames graph (length (scope ∷ scopes)) place low high (omega arith) few is in
        let inside : is_touched frames depth place ≡ false = deeper (length (scope ∷ scopes)) depth _ (omega (arith, few)) before in
        subst (IsAsAtStart mapped start (standing_at scope place)) (sym (again_at depth frames graph place no_object within))
        (kept_as depth frames graph mapped tables start (standing_at scope place) inner place within inside (sound.0.untouched place within before));
  },
  scopes_back mapped depth frames graph tables low high inner scopes starts (omega (arith, few)) sound.1,
)

-- ---- the scope in its list

record IsFound (mapped : Mapped) (graph : Graph) (frames : Framed) (place : ℕ) (scopes : List Scope) (starts : List Tables) (tables : Tables) : Type 0 where
  here : IsSoundScope mapped graph frames (length scopes - place) (get_or scopes place no_scope) (get_or starts place tables)
  outer : AreSoundScopes mapped graph frames (drop (suc place) scopes) (drop (suc place) starts)

scope_found : (mapped : Mapped) (graph : Graph) (frames : Framed) (place : ℕ) (scopes : List Scope) (starts : List Tables) (tables : Tables) → place < length scopes → AreSoundScopes mapped graph frames scopes starts → IsFound mapped graph frames place scopes starts tables
scope_found mapped graph frames place [] starts tables less sound = absurd (omega (arith, less))
scope_found mapped graph frames place (scope ∷ scopes) [] tables less sound = absurd sound
scope_found mapped graph frames zero (scope ∷ scopes) (start ∷ starts) tables less sound =
    record { here = subst (λ (d : ℕ). IsSoundScope mapped graph frames d scope start) (let e : length (scope ∷ scopes) ≡ length (scope ∷ scopes) - zero = omega arith in e) sound.0; outer = sound.1 }
scope_found mapped graph frames (suc place) (scope ∷ scopes) (start ∷ starts) tables less sound =
    let found = scope_found mapped graph frames place scopes starts tables (omega (arith, less)) sound.1 in
    record {
      here = subst (λ (d : ℕ). IsSoundScope mapped graph frames d (get_or scopes place no_scope) (get_or starts place tables)) (let e : length scopes - place ≡ length (scope ∷ scopes) - suc place = omega arith in e) found.here;
      outer = found.outer;
    }

as_many : (mapped : Mapped) (graph : Graph) (frames : Framed) (scopes : List Scope) (starts : List Tables) → AreSoundScopes mapped graph frames scopes starts → length starts ≡ length scopes
as_many mapped graph frames [] [] sound = refl
as_many mapped graph frames [] (start ∷ starts) sound = absurd sound
as_many mapped graph frames (scope ∷ scopes) [] sound = absurd sound
as_many mapped graph frames (scope ∷ scopes) (start ∷ starts) sound = ap (λ (n : ℕ). suc n) (as_many mapped graph frames scopes starts sound.1)

rest_where : (scopes : List Scope) (graph : Graph) → (length scopes ≡ 0 → EachObject IsAtRest graph) → RestIf scopes graph
rest_where [] graph rest = rest refl
rest_where (scope ∷ scopes) graph rest = tt

-- ---- the session and the store are gone back

-- one object stands for each key, and the scopes are sound, whatever was written inside the innermost one
pub record HasSoundScopes (own : SessionState) (store : Store) : Type 0 where
  pub graph : IsGraph own.graph.objects own.graph.roots
  pub scopes : AreSoundScopes own.mapping own.graph own.frames own.frames.scopes store.scopes

pub restored_sound : (own : SessionState) (store left : Store) (depth : ℕ) → 1 ≤ depth → depth ≤ length own.frames.scopes → left.tables ≡ get_or store.scopes (length own.frames.scopes - depth) store.tables
    → left.scopes ≡ drop (length own.frames.scopes - (depth - 1)) store.scopes → HasSoundScopes own store → IsSound (record { own = session_restored depth own; store = left })
restored_sound own store left depth low high tables starts sound =
    let mapped : Mapped = own.mapping in
    let graph : Graph = own.graph in
    let frames : Framed = own.frames in
    let n : ℕ = length frames.scopes - depth in
    let m : length frames.scopes - (depth - 1) ≡ suc n = omega (arith, low, high) in
    let found = scope_found mapped graph frames n frames.scopes store.scopes store.tables (omega (arith, low, high)) sound.scopes in
    let inner : IsSoundScope mapped graph frames depth (scope_at depth frames.scopes) left.tables =
    subst (λ (t : Tables). IsSoundScope mapped graph frames depth (scope_at depth frames.scopes) t) (sym tables)
    (subst (λ (d : ℕ). IsSoundScope mapped graph frames d (scope_at depth frames.scopes) (get_or store.scopes n store.tables)) (let e : length frames.scopes - n ≡ depth = omega (arith, low, high) in e) found.here) in
    let outer : AreSoundScopes mapped graph frames (around depth frames).scopes left.scopes =
    subst (λ (s : List Tables). AreSoundScopes mapped graph frames (around depth frames).scopes s) (sym (starts ∙ ap (λ (k : ℕ). drop k store.scopes) m))
    (subst (λ (s : List Scope). AreSoundScopes mapped graph frames s (drop (suc n) store.scopes)) (sym (around_scopes depth frames ∙ ap (λ (k : ℕ). drop k frames.scopes) m)) found.outer) in
    record {
      graph = subst (λ (roots : List ClassId). IsGraph (restored_graph depth frames graph).objects roots) (sym (same_roots depth frames graph)) (restored_is depth frames graph sound.graph inner.identified);
      legal = inner.legal;
      fresh = each_again depth frames graph (IsFresh mapped left.tables) (fresh_again depth frames graph mapped left.tables inner);
      marked = each_again depth frames graph IsMarkedRight (λ place less marked. absurd (let h : false ≡ true = sym (again_unmarked depth frames graph place) ∙ marked in cc));
      scopes = scopes_back mapped depth frames graph left.tables low high inner (around depth frames).scopes left.scopes (omega (arith, around_long depth frames low high)) outer;
      rest = rest_where (around depth frames).scopes (restored_graph depth frames graph) (λ none. each_again depth frames graph IsAtRest (λ place less. rest_again depth frames graph place (omega (arith, none, around_long depth frames low high)) (inner.settled place)));
    }

outer_is : (starts : List Tables) (tables d : Tables) → 0 < length starts → outermost tables starts ≡ get_or starts (length starts - 1) d
outer_is [] tables d some = absurd (omega (arith, some))
outer_is (start ∷ []) tables d some = refl
outer_is (start ∷ other ∷ starts) tables d some =
    outer_is (other ∷ starts) start d (omega arith) ∙ (let e : suc (length (other ∷ starts) - 1) ≡ length (start ∷ other ∷ starts) - 1 = omega arith in ap (λ (n : ℕ). get_or (start ∷ other ∷ starts) n d) e)

all_dropped : (starts : List Tables) (n : ℕ) → length starts ≤ n → [] ≡ drop n starts
all_dropped starts n past = sym (drop_all n starts past)

sent_back : (first : Bool) (depth : ℕ) (own : SessionState) (store : Store) → (depth == 1) ≡ first → 1 ≤ depth → depth ≤ length own.frames.scopes → HasSoundScopes own store
    → IsSound (record { own = session_restored depth own; store = ((if first then call.rollback else call.rollback_to (depth - 1)) store).after })
unfolding call.rollback call.rollback_to
sent_back true depth own store at low high sound =
    let one : depth ≡ 1 = eqb-true depth 1 at in
    let long : length store.scopes ≡ length own.frames.scopes = as_many own.mapping own.graph own.frames own.frames.scopes store.scopes sound.scopes in
    restored_sound own store (record { tables = committed_of store; scopes = [] }) depth low high
    (outer_is store.scopes store.tables store.tables (omega (arith, long, low, high)) ∙ ap (λ (n : ℕ). get_or store.scopes n store.tables) (let e : length store.scopes - 1 ≡ length own.frames.scopes - depth = omega (arith, long, one) in e))
    (all_dropped store.scopes (length own.frames.scopes - (depth - 1)) (omega (arith, long, one))) sound
sent_back false depth own store at low high sound =
    let long : length store.scopes ≡ length own.frames.scopes = as_many own.mapping own.graph own.frames own.frames.scopes store.scopes sound.scopes in
    restored_sound own store (call.rollback_to (depth - 1) store).after depth low high
    (ap (λ (n : ℕ). get_or store.scopes n store.tables) (let e : length store.scopes - (depth - 1) - 1 ≡ length own.frames.scopes - depth = omega (arith, long, low, high) in e))
    (ap (λ (n : ℕ). drop (n - (depth - 1)) store.scopes) long) sound

-- the scope at a depth is rolled back in the store, and the objects stand where they stood at its start
pub scope_rolled_back : (depth : ℕ) (own : SessionState) (store : Store) → 1 ≤ depth → depth ≤ length own.frames.scopes → HasSoundScopes own store → IsSound (record { own = session_restored depth own; store = (roll_back_scope depth store).after })
scope_rolled_back depth own store low high sound = sent_back (depth == 1) depth own store refl low high sound

pub answered_back : (first : Bool) (depth : ℕ) (store : Store) → ((if first then call.rollback else call.rollback_to (depth - 1)) store).answer ≡ Ok tt
unfolding call.rollback call.rollback_to
answered_back true depth store = refl
answered_back false depth store = refl

pub go_back_sound : (depth : ℕ) (w : World) → (1 ≤ depth) × (depth ≤ length w.own.frames.scopes) → IsSound w → IsSound (go_back depth w).after
unfolding ◌>>=◌ changes on_store
go_back_sound depth w within sound =
    let events = (roll_back_scope depth w.store).events in
    answer_then (roll_back_scope depth w.store).answer (answered_back (depth == 1) depth w.store)
    (scope_rolled_back depth (with_notes events w.own) w.store within.0 within.1 (record { graph = sound.graph; scopes = sound.scopes }))
  where
    answer_then : (answer : Result (Unit {0}) Refusal) → answer ≡ Ok tt → IsSound (record { own = session_restored depth (with_notes (roll_back_scope depth w.store).events w.own); store = (roll_back_scope depth w.store).after })
        → IsSound (continue_from (roll_back_scope depth w.store).events (record { own = with_notes (roll_back_scope depth w.store).events w.own; store = (roll_back_scope depth w.store).after }) answer (λ u. changes (session_restored depth))).after
    answer_then (Ok u) is restored = restored
    answer_then (Err e) is restored = absurd cc

-- ---- the calls

rolled_sound : (count : ℕ) (w : World) → IsSound w → IsSound (changes (session_rolled_back count) w).after
unfolding changes
rolled_sound count w sound = record { graph = sound.graph; legal = sound.legal; fresh = sound.fresh; marked = sound.marked; scopes = sound.scopes; rest = sound.rest }

nothing_sound : (w : World) → IsSound w → IsSound (give {W = World} {A = Unit {0}} tt w).after
unfolding give
nothing_sound w sound = sound

roll_if : (inside : Bool) (depth count : ℕ) (w : World) → (inside ≡ true → (1 ≤ depth) × (depth ≤ length w.own.frames.scopes)) → IsSound w → IsSound ((go_back_if inside depth >>= λ u. changes (session_rolled_back count)) w).after
roll_if true depth count w within sound =
    let gone : IsSound (go_back depth w).after = go_back_sound depth w (within refl) sound in
    then_sound (go_back depth) (λ u. changes (session_rolled_back count)) w gone (λ u is. rolled_sound count (go_back depth w).after gone)
roll_if false depth count w within sound = then_sound (give {W = World} {A = Unit {0}} tt) (λ u. changes (session_rolled_back count)) w (nothing_sound w sound) (λ u is. rolled_sound count (give {W = World} {A = Unit {0}} tt w).after (nothing_sound w sound))

pub rollback_sound : KeepsSound rollback
unfolding rollback by_own
rollback_sound w sound =
    roll_if (in_transaction w.own) 1 (length w.own.drawn.handles) w (λ is. (omega arith, some_scope_open w.own.frames.scopes is)) sound

placed_sound : (handle : ℕ) (failed : Bool) (place : Option ℕ) (w : World) → w.own.failed ≡ failed → place_of_handle w.own.drawn handle ≡ place → length w.own.drawn.handles ≡ depth_in failed w.own.frames.scopes - 1 → IsSound w
    → IsSound (roll_back_place failed (length w.own.drawn.handles) place w).after
unfolding refuse
placed_sound handle failed None w state at handled sound = sound
placed_sound handle false (Some place) w state at handled sound =
    let inside : place < length w.own.drawn.handles = (position-Some (λ other. other == handle) w.own.drawn.handles place 0 at).0 in
    roll_if (not (false && (place == 0))) (length w.own.drawn.handles - place + 1) (place + 1) w (λ is. (omega arith, omega (arith, inside, handled))) sound
placed_sound handle true (Some place) w state at handled sound =
    let inside : place < length w.own.drawn.handles = (position-Some (λ other. other == handle) w.own.drawn.handles place 0 at).0 in
    roll_if (not (true && (place == 0))) (length w.own.drawn.handles - place + 1) (place + 1) w
    (λ is. let later : 0 < place = grind (arith, nat_tests) in (omega arith, omega (arith, inside, handled, later))) sound

pub handle_sound : (handle : ℕ) (w : World) → IsHandled w → IsSound w → IsSound (rollback_handle handle w).after
unfolding rollback_handle by_own
handle_sound handle w handled sound = placed_sound handle w.own.failed (place_of_handle w.own.drawn handle) w refl refl handled sound
