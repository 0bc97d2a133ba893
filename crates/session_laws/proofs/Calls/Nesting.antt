-- Scopes that begin and end keep a session sound, where nothing is to be written at their beginning.
use Rattle.std.proofs.Common.{◌≡◌, ℕ, ◌+◌, ◌-◌, ◌<◌, ◌≤◌, true, false, List, [], ◌∷◌, drop, length, get_or, zero, suc, None, Some, refl, sym, ap, ◌∙◌, subst, arith}
use Rattle.keeper_core.specs.Calls as call
use Rattle.class_mapping.specs.Mapped.{Mapped}
use Rattle.object_arena.specs.declared.object.Cell.{Cell}
use Rattle.object_arena.specs.declared.object.Object.{Object}
use Rattle.object_arena.specs.declared.object.State.{State}
use Rattle.object_arena.specs.declared.object.State.TheVariants.{Transient, Pending, Persistent, Deleted, Detached}
use Rattle.object_arena.specs.Graph.{Graph, is_persistent, no_object}
use Rattle.object_arena.specs.Identity.{is_identified}
use Rattle.keeper_core.specs.Store.{Store}
use Rattle.keeper_core.specs.Programs.{◌>>=◌, give}
use Rattle.keeper_core.specs.Beside.{by_own, changes, on_store}
use Rattle.schema_core.specs.Tables.{Tables}
use Rattle.savepoints.specs.declared.scope.Scope.{Scope}
use Rattle.savepoints.specs.Scopes.{Framed, begun_at, is_touched, scope_released}
use Rattle.session_laws.specs.Scopes.{Release}
use Rattle.session_laws.proofs.Scopes.Traces.{touches_grow}
use Rattle.session_parts.specs.Ends.{object_committed, object_committed_in}
use Rattle.session_scopes.specs.Scoping.{session_committed, session_nested, session_released}
use Rattle.session_scopes.specs.SessionState.{SessionState, with_notes}
use Rattle.session_calls.specs.Parts.{World}
use Rattle.session_acts.specs.Savepoints.{begin_savepoint, commit_transaction, release_many, release_one}
use Rattle.session_laws.specs.Sound.{AreSoundScopes, EachObject, IsAtRest, IsFresh, IsMarkedRight, IsSettled, IsSound, RestIf}
use Rattle.session_laws.proofs.Sound.Beginning.{scope_begun}
use Rattle.session_laws.proofs.Sound.Changes.{IsLater, scopes_kept}
use Rattle.session_laws.proofs.Sound.Everyone.{KeepsHolders, each_changed, each_graph, expired_cells, identified_as, not_held, unloaded_links}
use Rattle.session_laws.proofs.Sound.Programs.{then_sound}
use Rattle.session_laws.proofs.Sound.Touches.{not_true, other_answer}

-- ---- a savepoint begins

-- the same objects, touched where they were touched
same_later : (graph : Graph) (before after : Framed) (most : ℕ) → ((depth place : ℕ) → 1 ≤ depth → depth ≤ most → is_touched before depth place ≡ true → is_touched after depth place ≡ true) → IsLater most graph graph before after
unfolding IsLater
same_later graph before after most grows = λ depth place low high less is. record { untouched = not_true (is_touched before depth place) (λ touched. other_answer (is_touched after depth place) is (grows depth place low high touched)); same = refl }

nested_sound : (own : SessionState) (store : Store) → EachObject IsSettled own.graph → IsSound (record { own = own; store = store })
    → IsSound (record { own = session_nested own; store = record { tables = store.tables; scopes = store.tables ∷ store.scopes } })
nested_sound own store settled sound =
    let after : Framed = (session_nested own).frames in
    record {
      graph = sound.graph;
      legal = sound.legal;
      fresh = sound.fresh;
      marked = sound.marked;
      scopes = (
        scope_begun own.mapping own.graph after (length (begun_at own.graph ∷ own.frames.scopes)) store.tables sound.graph settled sound.fresh sound.legal,
        scopes_kept own.mapping own.graph own.graph own.frames after (length own.frames.scopes) refl refl (same_later own.graph own.frames after (length own.frames.scopes) (λ depth place low high touched. touched)) own.frames.scopes store.scopes (omega arith) sound.scopes,
      );
      rest = tt;
    }

pub nest_sound : (w : World) → EachObject IsSettled w.own.graph → IsSound w → IsSound (begin_savepoint w).after
unfolding begin_savepoint ◌>>=◌ on_store changes by_own give call.savepoint
nest_sound w settled sound =
    nested_sound (with_notes (call.savepoint w.store).events w.own) w.store settled
    (record { graph = sound.graph; legal = sound.legal; fresh = sound.fresh; marked = sound.marked; scopes = sound.scopes; rest = sound.rest })

-- ---- a savepoint ends

rest_past : (scopes : List Scope) (graph : Graph) → 0 < length scopes → RestIf scopes graph
rest_past [] graph some = absurd (omega (arith, some))
rest_past (scope ∷ scopes) graph some = tt

inner_out : (mapped : Mapped) (graph : Graph) (frames : Framed) (scopes : List Scope) (starts : List Tables) → 0 < length scopes → AreSoundScopes mapped graph frames scopes starts → AreSoundScopes mapped graph frames (drop 1 scopes) (drop 1 starts)
inner_out mapped graph frames [] starts some sound = absurd (omega (arith, some))
inner_out mapped graph frames (scope ∷ scopes) [] some sound = absurd sound
inner_out mapped graph frames (scope ∷ scopes) (tables ∷ starts) some sound = sound.1

less_one : (scopes : List Scope) → 0 < length scopes → length (drop 1 scopes) + 1 ≡ length scopes
less_one [] some = absurd (omega (arith, some))
less_one (scope ∷ scopes) some = omega arith

-- one scope fewer is left
released_scopes : (frames : Framed) → 0 < length frames.scopes → (scope_released frames).scopes ≡ drop 1 frames.scopes
unfolding scope_released
released_scopes frames some = let one : length frames.scopes - (length frames.scopes - 1) ≡ 1 = omega (arith, some) in ap (λ (n : ℕ). drop n frames.scopes) one

released_grows : (graph : Graph) (frames : Framed) → 0 < length frames.scopes → (depth place : ℕ) → 1 ≤ depth → depth ≤ length (drop 1 frames.scopes) → is_touched frames depth place ≡ true → is_touched (scope_released frames) depth place ≡ true
released_grows graph frames some depth place low high touched =
    touches_grow (record { graph = graph; frames = frames }) Release depth place (low, subst (λ (scopes : List Scope). depth ≤ length scopes) (sym (released_scopes frames some)) high) touched

released_sound : (own : SessionState) (store : Store) → 1 < length own.frames.scopes → IsSound (record { own = own; store = store }) → IsSound (record { own = session_released own; store = record { tables = store.tables; scopes = drop 1 store.scopes } })
released_sound own store inside sound =
    let after : Framed = scope_released own.frames in
    let left : List Scope = drop 1 own.frames.scopes in
    let some : 0 < length own.frames.scopes = omega (arith, inside) in
    let scopes : after.scopes ≡ left = released_scopes own.frames some in
    record {
      graph = sound.graph;
      legal = sound.legal;
      fresh = sound.fresh;
      marked = sound.marked;
      scopes = subst (λ (s : List Scope). AreSoundScopes own.mapping own.graph after s (drop 1 store.scopes)) (sym scopes)
          (scopes_kept own.mapping own.graph own.graph own.frames after (length left) refl refl (same_later own.graph own.frames after (length left) (released_grows own.graph own.frames some)) left (drop 1 store.scopes) (omega arith)
          (inner_out own.mapping own.graph own.frames own.frames.scopes store.scopes some sound.scopes));
      rest = subst (λ (s : List Scope). RestIf s own.graph) (sym scopes) (rest_past left own.graph (omega (arith, inside, less_one own.frames.scopes some)));
    }

pub release_sound : (w : World) → 1 < length w.own.frames.scopes → IsSound w → IsSound (release_one w).after
unfolding release_one ◌>>=◌ on_store changes call.release
release_sound w inside sound =
    released_sound (with_notes (call.release w.store).events w.own) w.store inside
    (record { graph = sound.graph; legal = sound.legal; fresh = sound.fresh; marked = sound.marked; scopes = sound.scopes; rest = sound.rest })

released_long : (w : World) → 1 < length w.own.frames.scopes → length (release_one w).after.own.frames.scopes + 1 ≡ length w.own.frames.scopes
unfolding release_one ◌>>=◌ on_store changes call.release
released_long w inside =
    let some : 0 < length w.own.frames.scopes = omega (arith, inside) in
    ap (λ (scopes : List Scope). length scopes + 1) (released_scopes w.own.frames some) ∙ less_one w.own.frames.scopes some

pub releases_sound : (count : ℕ) (w : World) → count < length w.own.frames.scopes → IsSound w → IsSound (release_many count w).after
unfolding release_many give
releases_sound zero w inside sound = sound
releases_sound (suc count) w inside sound =
    let one : 1 < length w.own.frames.scopes = omega (arith, inside) in
    then_sound release_one (λ u. release_many count) w (release_sound w one sound)
    (λ u is. releases_sound count (release_one w).after (omega (arith, inside, released_long w one)) (release_sound w one sound))

-- ---- the transaction is committed

persists_in : (state : State) (o : Object) → is_persistent (object_committed_in state o).state ≡ true → is_persistent o.state ≡ true
persists_in Transient o is = is
persists_in Pending o is = is
persists_in Persistent o is = is
persists_in Deleted o is = absurd cc
persists_in Detached o is = is

identity_in : (state : State) (o : Object) → (object_committed_in state o).identity ≡ o.identity
identity_in Transient o = refl
identity_in Pending o = refl
identity_in Persistent o = refl
identity_in Deleted o = refl
identity_in Detached o = refl

identified_in : (state : State) (o : Object) → o.state ≡ state → is_identified o ≡ true → is_identified (object_committed_in state o) ≡ true
identified_in Transient o at is = is
identified_in Pending o at is = is
identified_in Persistent o at is = is
identified_in Deleted o at is = identified_as o Deleted at refl is
identified_in Detached o at is = is

committed_holders : KeepsHolders object_committed
committed_holders = record { persists = λ o persists. persists_in o.state o persists; identity = λ o persists. identity_in o.state o; identified = λ o is. identified_in o.state o refl is }

rest_in : (state : State) (o : Object) → o.state ≡ state → IsSettled o → IsAtRest (object_committed_in state o)
rest_in Transient o at s = record { settled = s.settled; unmarked = s.unmarked; expired = λ persists. not_held o Transient refl at persists; unloaded = λ persists. not_held o Transient refl at persists }
rest_in Pending o at s = record { settled = s.settled; unmarked = s.unmarked; expired = λ persists. not_held o Pending refl at persists; unloaded = λ persists. not_held o Pending refl at persists }
rest_in Persistent o at s = record { settled = s.settled; unmarked = s.unmarked; expired = λ persists attr less. expired_cells o.cells attr.0; unloaded = λ persists. unloaded_links o.links }
rest_in Deleted o at s = record { settled = λ is. absurd cc; unmarked = s.unmarked; expired = λ persists. absurd cc; unloaded = λ persists. absurd cc }
rest_in Detached o at s = record { settled = s.settled; unmarked = s.unmarked; expired = λ persists. not_held o Detached refl at persists; unloaded = λ persists. not_held o Detached refl at persists }

-- of an object at rest nothing is known that a row could contradict
rest_fresh : (mapped : Mapped) (tables : Tables) (o : Object) → IsAtRest o → IsFresh mapped tables o
rest_fresh mapped tables o rest = λ persists attr less base is. absurd (let h : None ≡ Some base = sym (ap (λ (c : Cell). c.base) (rest.expired persists attr less)) ∙ is in cc)

rest_right : (o : Object) → IsAtRest o → IsMarkedRight o
rest_right o rest = λ marked. absurd (let h : false ≡ true = sym rest.unmarked ∙ marked in cc)

committed_sound : (own : SessionState) (store : Store) → EachObject IsSettled own.graph → IsSound (record { own = own; store = store }) → IsSound (record { own = session_committed own; store = record { tables = store.tables; scopes = [] } })
committed_sound own store settled sound =
    let rest : EachObject IsAtRest (session_committed own).graph = each_changed IsSettled IsAtRest object_committed own.graph settled (λ o s. rest_in o.state o refl s) in
    record {
      graph = each_graph object_committed own.graph committed_holders sound.graph;
      legal = sound.legal;
      fresh = λ place less. rest_fresh own.mapping store.tables (get_or (session_committed own).graph.objects place no_object) (rest place less);
      marked = λ place less. rest_right (get_or (session_committed own).graph.objects place no_object) (rest place less);
      scopes = tt;
      rest = rest;
    }

pub commit_sound : (w : World) → EachObject IsSettled w.own.graph → IsSound w → IsSound (commit_transaction w).after
unfolding commit_transaction ◌>>=◌ on_store changes call.commit
commit_sound w settled sound =
    committed_sound (with_notes (call.commit w.store).events w.own) w.store settled
    (record { graph = sound.graph; legal = sound.legal; fresh = sound.fresh; marked = sound.marked; scopes = sound.scopes; rest = sound.rest })
