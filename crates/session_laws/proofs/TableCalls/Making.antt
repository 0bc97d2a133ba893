-- Tables are made outside transactions, where nothing is known of any row: so new tables beside them leave a session sound.
use Rattle.std.proofs.Common.{◌≡◌, ◌<◌, Bool, true, false, List, [], ◌∷◌, length, None, Some, refl, sym, ap, ◌∙◌, subst, arith}
use Rattle.std.proofs.lemmas.List.Elements.{All-head, All-tail}
use Rattle.std.specs.List.{All, AllByRecursion}
use Rattle.base_core.specs.declared.ids.TableId.{TableId}
use Rattle.base_core.specs.declared.refusal.Refusal.TheVariants.{InvalidRequestError}
use Rattle.base_core.specs.declared.refusal.RequestKind.TheVariants.{InTransaction}
use Rattle.schema_core.specs.Catalog.{IsTable}
use Rattle.schema_core.specs.DependencyOrder.{dependency_order}
use Rattle.schema_core.specs.Tables.{Legal, Tables, is_created}
use Rattle.class_mapping.specs.Mapped.{Mapped}
use Rattle.object_arena.specs.declared.object.Cell.{Cell}
use Rattle.object_arena.specs.declared.object.Object.{Object}
use Rattle.object_arena.specs.Graph.{Graph}
use Rattle.savepoints.specs.declared.scope.Scope.{Scope}
use Rattle.keeper_core.specs.declared.notes.Note.{Note}
use Rattle.keeper_core.specs.Beside.{by_own, on_store}
use Rattle.keeper_core.specs.Programs.{Event, each, give}
use Rattle.keeper_core.specs.Store.{Store}
use Rattle.keeper_core.specs.Calls as call
use Rattle.table_laws.specs.Legality.{AreSound, IsAscendingStore, IsLegalStore, Keeps}
use Rattle.table_laws.proofs.EachCall.{create_legal}
use Rattle.table_laws.proofs.EachJoin.{keeps_each, keeps_give, keeps_then}
use Rattle.session_scopes.specs.SessionState.{AreAlikeButNotes, SessionState, depth_in, depth_of, with_notes}
use Rattle.session_calls.specs.Parts.{World}
use Rattle.session_laws.specs.Sound.{AreSoundScopes, EachObject, IsAtRest, IsFresh, IsSound, KeepsSoundWhere, RestIf}
use Rattle.session_laws.proofs.Sound.Beginning.{no_starts}
use Rattle.session_laws.proofs.Sound.Programs.{checked_then}
use Rattle.session_tables.specs.declared.tables.TableChange.TheVariants.{Create}
use Rattle.session_tables.specs.Steps.{change_all, change_one, order_for, transaction_fault}
use Rattle.session_tables.proofs.Changing.{open_depth}
use Rattle.session_tables.proofs.Orders.{order_declared}

-- ---- outside transactions

deep_in : (failed : Bool) (scopes : List Scope) → 0 < length scopes → 0 < depth_in failed scopes
deep_in true scopes some = omega arith
deep_in false scopes some = some

by_scopes : (session : SessionState) (scopes : List Scope) → session.frames.scopes ≡ scopes → transaction_fault session ≡ None → session.frames.scopes ≡ []
by_scopes session [] is fault = is
by_scopes session (scope ∷ scopes) is fault =
    let some : 0 < length session.frames.scopes = subst (λ (all : List Scope). 0 < length all) (sym is) (omega arith) in
    let told : transaction_fault session ≡ Some (InvalidRequestError InTransaction) = open_depth session (depth_of session) refl (deep_in session.failed session.frames.scopes some) in
    absurd (let both : Some (InvalidRequestError InTransaction) ≡ None = sym told ∙ fault in cc)

pub no_scopes : (session : SessionState) → transaction_fault session ≡ None → session.frames.scopes ≡ []
no_scopes session fault = by_scopes session session.frames.scopes refl fault

-- ---- a session that was closed at a start, with more tables and notes

pub record IsClosedAs (start w : World) : Type 0 where
  pub own : AreAlikeButNotes start.own w.own
  pub scopes : w.store.scopes ≡ []
  pub store : IsLegalStore start.own.mapping.schema w.store

resting : (graph : Graph) (scopes : List Scope) → scopes ≡ [] → RestIf scopes graph → EachObject IsAtRest graph
resting graph [] none rest = rest
resting graph (scope ∷ scopes) none rest = absurd cc

-- an object of whose row nothing is known has no base that could differ
rested_fresh : (mapped : Mapped) (tables : Tables) (object : Object) → IsAtRest object → IsFresh mapped tables object
rested_fresh mapped tables object rest persistent attr less base known = absurd (let none : None ≡ Some base = sym (ap (λ (cell : Cell). cell.base) (rest.expired persistent attr less)) ∙ known in cc)

sound_with : (start : World) (notes : List Note) (store : Store) → IsSound start → start.own.frames.scopes ≡ [] → store.scopes ≡ [] → Legal start.own.mapping.schema store.tables → IsSound (record { own = record start.own { notes = notes }; store = store })
sound_with start notes store sound none starts legal =
    let rest : EachObject IsAtRest start.own.graph = resting start.own.graph start.own.frames.scopes none sound.rest in
    record {
      graph = sound.graph;
      legal = legal;
      fresh = λ place less. rested_fresh start.own.mapping store.tables _ (rest place less);
      marked = sound.marked;
      scopes = subst (λ (all : List Tables). AreSoundScopes start.own.mapping start.own.graph start.own.frames start.own.frames.scopes all)
          (no_starts start.own.mapping start.own.graph start.own.frames start.own.frames.scopes start.store.scopes none sound.scopes ∙ sym starts) sound.scopes;
      rest = sound.rest;
    }

pub sound_after : (start w : World) → IsSound start → start.own.frames.scopes ≡ [] → IsClosedAs start w → IsSound w
sound_after start w sound none closed =
    subst (λ (own : SessionState). IsSound (record { own = own; store = w.store })) (sym closed.own) (sound_with start w.own.notes w.store sound none closed.scopes closed.store.tables.legal)

pub closed_itself : (w : World) → IsAscendingStore w.store → IsSound w → w.own.frames.scopes ≡ [] → IsClosedAs w w
closed_itself w up sound none =
    let starts : w.store.scopes ≡ [] = no_starts w.own.mapping w.own.graph w.own.frames w.own.frames.scopes w.store.scopes none sound.scopes in
    record {
      own = refl;
      scopes = starts;
      store = record {
        tables = record { legal = sound.legal; ascending = up.tables };
        scopes = subst (AllByRecursion (AreSound w.own.mapping.schema)) (sym starts) tt;
      };
    }

-- ---- one table

created_scopes : (table : TableId) (w : Store) → (call.create table w).after.scopes ≡ w.scopes
unfolding call.create
created_scopes table w = by (is_created w.tables table) refl
  where
    by : (b : Bool) → is_created w.tables table ≡ b → (call.create table w).after.scopes ≡ w.scopes
    by true is = rw is refl
    by false is = rw is refl

pub noted_alike : (start own : SessionState) (events : List Event) → AreAlikeButNotes start own → AreAlikeButNotes start (with_notes events own)
noted_alike start own events alike = ap (λ (s : SessionState). record s { notes = (with_notes events own).notes }) alike

kept_call : (start : World) (table : TableId) → IsTable start.own.mapping.schema table → Keeps (IsClosedAs start) (on_store with_notes (call.create table))
unfolding on_store
kept_call start table declared = record {
  kept = λ w closed. record {
    own = noted_alike start.own w.own (call.create table w.store).events closed.own;
    scopes = created_scopes table w.store ∙ closed.scopes;
    store = (create_legal start.own.mapping.schema table declared).kept w.store closed.store;
  };
}

kept_one : (start : World) (table : TableId) → IsTable start.own.mapping.schema table → (u : Unit {0}) → Keeps (IsClosedAs start) (change_one Create table u)
unfolding change_one
kept_one start table declared u = keeps_then (IsClosedAs start) (on_store with_notes (call.create table)) (λ made. give tt) (kept_call start table declared) (λ w made closed is. keeps_give (IsClosedAs start) tt)

-- ---- all tables

each_kept : (start : World) (order : List TableId) → All (IsTable start.own.mapping.schema) order → AllByRecursion (λ table. (u : Unit {0}) → Keeps (IsClosedAs start) (change_one Create table u)) order
each_kept start [] all = tt
each_kept start (table ∷ order) all = (
  kept_one start table (All-head (IsTable start.own.mapping.schema) table order all),
  each_kept start order (All-tail (IsTable start.own.mapping.schema) table order all),
)

all_kept : (start : World) → Keeps (IsClosedAs start) (each (change_one Create) tt (order_for Create start.own.mapping.schema))
all_kept start =
    let order : List TableId = dependency_order start.own.mapping.schema in
    keeps_each (IsClosedAs start) (change_one Create) tt order (each_kept start order (order_declared start.own.mapping.schema order refl))

made_sound : (w : World) → IsAscendingStore w.store → IsSound w → w.own.frames.scopes ≡ [] → IsSound (by_own (λ session. each (change_one Create) tt (order_for Create session.mapping.schema)) w).after
unfolding by_own
made_sound w up sound none = sound_after w (each (change_one Create) tt (order_for Create w.own.mapping.schema) w).after sound none ((all_kept w).kept w (closed_itself w up sound none))

pub create_sound : KeepsSoundWhere (λ world. IsAscendingStore world.store) (change_all Create)
unfolding change_all
create_sound w up sound =
    checked_then transaction_fault (λ u. by_own (λ session. each (change_one Create) tt (order_for Create session.mapping.schema))) w sound (λ u fault. made_sound w up sound (no_scopes w.own fault))
