-- A session is sound once it is closed, and once its transaction is committed.
use Rattle.std.proofs.Common.{◌≡◌, ◌≢◌, Bool, true, false, not, List, [], ◌∷◌, Option, is_some, refl, sym, ap, ◌∙◌, subst}
use Rattle.std.specs.Prelude.{if◌then◌else◌}
use Rattle.base_core.specs.declared.value.Value.{Value}
use Rattle.class_mapping.specs.Mapped.{Mapped}
use Rattle.keeper_core.specs.Calls as call
use Rattle.object_arena.specs.declared.object.State.{State}
use Rattle.object_arena.specs.declared.object.State.TheVariants.{Transient, Pending, Persistent, Deleted, Detached}
use Rattle.object_arena.specs.Graph.{Graph, has_identity, is_persistent, kept_identity}
use Rattle.keeper_core.specs.Store.{Store, committed_of, outermost}
use Rattle.keeper_core.specs.Programs.{◌>>=◌, give}
use Rattle.keeper_core.specs.Beside.{by_own, changes, on_store}
use Rattle.schema_core.specs.Tables.{Legal, Tables}
use Rattle.savepoints.specs.declared.scope.Scope.{Scope}
use Rattle.savepoints.specs.Scopes.{Framed}
use Rattle.session_parts.specs.Ends.{left_state, object_left}
use Rattle.session_scopes.specs.Scoping.{session_closed}
use Rattle.session_scopes.specs.SessionState.{SessionState, in_transaction, with_notes}
use Rattle.session_calls.specs.Steps.{close, roll_back_if}
use Rattle.session_calls.proofs.Acting.{no_scope_open}
use Rattle.session_laws.specs.Sound.{AreSoundScopes, IsAtRest, IsFresh, IsMarkedRight, IsSound, KeepsSound}
use Rattle.session_laws.proofs.Sound.Beginning.{no_starts}
use Rattle.session_laws.proofs.Sound.Everyone.{KeepsHolders, each_changed, each_graph}

-- ---- an object that has left the session

pub left_persists : (state : State) → is_persistent (left_state state) ≡ false
left_persists Transient = refl
left_persists Pending = refl
left_persists Persistent = refl
left_persists Deleted = refl
left_persists Detached = refl

left_settled : (state : State) → left_state state ≢ Pending
left_settled Transient is = absurd cc
left_settled Pending is = absurd cc
left_settled Persistent is = absurd cc
left_settled Deleted is = absurd cc
left_settled Detached is = absurd cc

pub not_both : {A : Type 0} (b : Bool) → b ≡ false → b ≡ true → A
not_both b left right = absurd (let h : false ≡ true = sym left ∙ right in cc)

left_identified : (state : State) (identity : Option (List Value)) → (if has_identity state then is_some identity else not (is_some identity)) ≡ true
    → (if has_identity (left_state state) then is_some (kept_identity (left_state state) identity) else not (is_some (kept_identity (left_state state) identity))) ≡ true
left_identified Transient identity is = refl
left_identified Pending identity is = refl
left_identified Persistent identity is = is
left_identified Deleted identity is = is
left_identified Detached identity is = is

pub left_holders : KeepsHolders object_left
left_holders = record {
  persists = λ o persists. not_both (is_persistent (left_state o.state)) (left_persists o.state) persists;
  identity = λ o persists. not_both (is_persistent (left_state o.state)) (left_persists o.state) persists;
  identified = λ o is. left_identified o.state o.identity is;
}

-- ---- the session is closed

closed_sound : (own : SessionState) (tables : Tables) (store : Store) → Legal own.mapping.schema tables → IsSound (record { own = own; store = store }) → IsSound (record { own = session_closed own; store = record { tables = tables; scopes = [] } })
closed_sound own tables store legal sound = record {
  graph = each_graph object_left own.graph left_holders sound.graph;
  legal = legal;
  fresh = each_changed IsMarkedRight (IsFresh own.mapping tables) object_left own.graph sound.marked (λ o is persists. not_both (is_persistent (left_state o.state)) (left_persists o.state) persists);
  marked = each_changed IsMarkedRight IsMarkedRight object_left own.graph sound.marked (λ o is. λ marked. absurd cc);
  scopes = tt;
  rest = each_changed IsMarkedRight IsAtRest object_left own.graph sound.marked (λ o is. record {
    settled = left_settled o.state;
    unmarked = refl;
    expired = λ persists. not_both (is_persistent (left_state o.state)) (left_persists o.state) persists;
    unloaded = λ persists. not_both (is_persistent (left_state o.state)) (left_persists o.state) persists;
  });
}

-- the tables at the start of the transaction
outer_legal : (mapped : Mapped) (graph : Graph) (frames : Framed) (scopes : List Scope) (starts : List Tables) (tables : Tables) → Legal mapped.schema tables → AreSoundScopes mapped graph frames scopes starts → Legal mapped.schema (outermost tables starts)
outer_legal mapped graph frames [] [] tables legal sound = legal
outer_legal mapped graph frames [] (start ∷ starts) tables legal sound = absurd sound
outer_legal mapped graph frames (scope ∷ scopes) [] tables legal sound = absurd sound
outer_legal mapped graph frames (scope ∷ scopes) (start ∷ starts) tables legal sound = outer_legal mapped graph frames scopes starts start sound.0.legal sound.1

no_scopes : (store : Store) → store.scopes ≡ [] → record { tables = store.tables; scopes = [] } ≡ store
no_scopes store none = ap (λ (scopes : List Tables). record { tables = store.tables; scopes = scopes }) (sym none)

close_from : (opened : Bool) (own : SessionState) (store : Store) → in_transaction own ≡ opened → IsSound (record { own = own; store = store }) → IsSound ((roll_back_if opened >>= λ u. changes session_closed) (record { own = own; store = store })).after
unfolding ◌>>=◌ changes on_store give call.rollback
close_from true own store is sound =
    closed_sound (with_notes (call.rollback store).events own) (committed_of store) store (outer_legal own.mapping own.graph own.frames own.frames.scopes store.scopes store.tables sound.legal sound.scopes)
    (record { graph = sound.graph; legal = sound.legal; fresh = sound.fresh; marked = sound.marked; scopes = sound.scopes; rest = sound.rest })
close_from false own store is sound =
    subst (λ (s : Store). IsSound (record { own = session_closed own; store = s }))
    (no_scopes store (no_starts own.mapping own.graph own.frames own.frames.scopes store.scopes (no_scope_open own.frames.scopes is) sound.scopes))
    (closed_sound own store.tables store sound.legal sound)

pub close_sound : KeepsSound close
unfolding close by_own
close_sound w sound = close_from (in_transaction w.own) w.own w.store refl sound
