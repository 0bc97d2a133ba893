-- Programs of the session's calls keep it orderly over tables that ascend, whatever they answer.
use Rattle.std.proofs.Common.{◌≡◌, ℕ, ◌-◌, ◌+◌, zero, suc, Bool, true, false, not, ◌&&◌, ◌==◌, List, [], ◌∷◌, length, Option, None, Some, Result, Ok, Err, refl}
use Rattle.std.specs.Prelude.{if◌then◌else◌}
use Rattle.std.specs.List.{AllByRecursion}
use Rattle.base_core.specs.declared.ids.AttrNo.{AttrNo}
use Rattle.base_core.specs.declared.ids.ClassId.{ClassId}
use Rattle.base_core.specs.declared.ids.ObjId.{ObjId}
use Rattle.base_core.specs.declared.ids.RelNo.{RelNo}
use Rattle.base_core.specs.declared.ids.TableId.{TableId}
use Rattle.base_core.specs.declared.refusal.Refusal.{Refusal}
use Rattle.base_core.specs.declared.value.Value.{Value}
use Rattle.schema_core.specs.Tables.{AreAscending}
use Rattle.expr_types.specs.declared.select.Bulk.{Bulk}
use Rattle.expr_types.specs.declared.select.Select.{Select}
use Rattle.keeper_core.specs.Calls as call
use Rattle.table_laws.specs.Legality.{Keeps, KeepsAscending}
use Rattle.table_laws.proofs.Accepted.{keeps_bulk_ascending}
use Rattle.table_laws.proofs.EachCall.{create_ascends, drop_ascends, keeps_begin, keeps_commit, keeps_query, keeps_release, keeps_rollback, keeps_rollback_to, keeps_savepoint}
use Rattle.table_laws.proofs.EachJoin.{keeps_each, keeps_give, keeps_refuse, keeps_then}
use Rattle.object_arena.specs.Graph.{object_at, value_fault}
use Rattle.object_arena.specs.Identity.{is_identified}
use Rattle.keeper_core.specs.Programs.{Run, ◌>>=◌, continue_from, each, give, refuse}
use Rattle.keeper_core.specs.Beside.{by_own, changes, on_own, on_store}
use Rattle.keeper_core.specs.Store.{Store}
use Rattle.relations.specs.declared.calls.LinkCall.{LinkCall}
use Rattle.sql_semantics.specs.Applied.{table_of}
use Rattle.session_parts.specs.Ends.{object_committed_in}
use Rattle.session_scopes.specs.Changes.{deletion_marked, value_put}
use Rattle.session_scopes.specs.Handles.{place_of_handle}
use Rattle.session_scopes.specs.Making.{object_made}
use Rattle.session_scopes.specs.Scoping.{session_begun, session_closed, session_committed, session_nested, session_released, session_restored, session_rolled_back}
use Rattle.session_scopes.specs.SessionState.{SessionState, in_transaction, with_notes}
use Rattle.session_calls.specs.Parts.{World, checked, go_back, roll_back_scope, unless}
use Rattle.session_calls.specs.Steps.{begin_unless, close, delete, enter, go_back_if, pending_fault, roll_back_if, roll_back_place, rollback, rollback_handle, set_cell, set_fitting}
use Rattle.session_acts.specs.Savepoints.{begin_savepoint, check_handle, commit_transaction, commit_whole, enter_nested, handle_fault, limit_fault, release_handle, release_many, release_one, release_place}
use Rattle.session_objects.specs.Conflicts.{add_fault}
use Rattle.session_objects.specs.Steps.{add, add_inside}
use Rattle.session_objects.specs.Taking.{session_added}
use Rattle.session_links.specs.Linking.{change_fault, session_changed}
use Rattle.session_links.specs.Steps.{change_inside, change_link}
use Rattle.session_statements.specs.Rewriting.{session_reread}
use Rattle.session_statements.specs.Steps as statements
use Rattle.session_tables.specs.declared.tables.TableChange.{TableChange}
use Rattle.session_tables.specs.declared.tables.TableChange.TheVariants.{Create, Drop}
use Rattle.session_tables.specs.Steps.{change_all, change_in_store, change_one, order_for, transaction_fault}
use Rattle.object_arena.specs.declared.object.Object.{Object}
use Rattle.object_arena.specs.declared.object.State.{State}
use Rattle.object_arena.specs.declared.object.State.TheVariants.{Transient, Pending, Persistent, Deleted, Detached}
use Rattle.session_laws.specs.Sound.{EachObject, IsSettled}
use Rattle.session_laws.proofs.Sound.Everyone.{each_changed}
use Rattle.session_laws.specs.Health.Health.{IsOrderlySession, IsTidy}
use Rattle.session_laws.proofs.Health.Restored.{restored_orderly}
use Rattle.session_laws.proofs.Health.Sessions.{added_orderly, begun_orderly, closed_orderly, committed_orderly, linked_orderly, marked_orderly, nested_orderly, object_orderly, released_orderly, reread_orderly, reread_settled, rolled_orderly, value_orderly}

-- ---- how programs are put together

pub tidy_store : {A : Type 0} (m : Store → Run Store A) → KeepsAscending m → Keeps IsTidy (on_store with_notes m)
unfolding on_store
tidy_store m up = record {
  kept = λ w tidy. record {
    own = record { well = tidy.own.well; objects = tidy.own.objects; named = tidy.own.named };
    ascending = up.kept w.store tidy.ascending;
  };
}

pub tidy_changes : (f : SessionState → SessionState) → ((own : SessionState) → IsOrderlySession own → IsOrderlySession (f own)) → Keeps IsTidy (changes f)
unfolding changes
tidy_changes f stays = record { kept = λ w tidy. record { own = stays w.own tidy.own; ascending = tidy.ascending } }

pub tidy_own : {A : Type 0} (m : SessionState → Run SessionState A) → ((own : SessionState) → IsOrderlySession own → IsOrderlySession (m own).after) → Keeps IsTidy (on_own m)
unfolding on_own
tidy_own m stays = record { kept = λ w tidy. record { own = stays w.own tidy.own; ascending = tidy.ascending } }

pub tidy_by : {A : Type 0} (choose : SessionState → World → Run World A) → ((own : SessionState) → Keeps IsTidy (choose own)) → Keeps IsTidy (by_own choose)
unfolding by_own
tidy_by choose one = record { kept = λ w tidy. (one w.own).kept w tidy }

unless_tidy : (fault : Option Refusal) → Keeps IsTidy (unless fault)
unless_tidy None = keeps_give IsTidy tt
unless_tidy (Some fault) = keeps_refuse IsTidy fault

pub tidy_checked : (fault : SessionState → Option Refusal) → Keeps IsTidy (checked fault)
unfolding checked
tidy_checked fault = tidy_by (λ own. unless (fault own)) (λ own. unless_tidy (fault own))

-- one after another
pub tidy_then : {A B : Type 0} (m : World → Run World A) (next : A → World → Run World B) → Keeps IsTidy m → ((a : A) → Keeps IsTidy (next a)) → Keeps IsTidy (m >>= next)
tidy_then m next first later = keeps_then IsTidy m next first (λ w a tidy is. later a)

-- ---- the transaction begins

begin_tidy : (begun : Bool) → Keeps IsTidy (begin_unless begun)
begin_tidy true = keeps_give IsTidy tt
begin_tidy false = tidy_then (on_store with_notes call.begin) (λ u. changes session_begun) (tidy_store call.begin (keeps_begin AreAscending)) (λ u. tidy_changes session_begun begun_orderly)

pub enter_tidy : Keeps IsTidy enter
unfolding enter
enter_tidy =
    tidy_then (checked pending_fault) (λ u. by_own (λ session. begin_unless (in_transaction session))) (tidy_checked pending_fault)
    (λ u. tidy_by (λ session. begin_unless (in_transaction session)) (λ own. begin_tidy (in_transaction own)))

-- ---- calls on objects

pub set_tidy : (object : ObjId) (attr : AttrNo) (value : Value) → Keeps IsTidy (set_cell object attr value)
unfolding set_cell
set_tidy object attr value =
    tidy_then (checked (λ session. value_fault session.mapping (object_at session.graph object) attr value)) (λ u. set_fitting object attr value) (tidy_checked (λ session. value_fault session.mapping (object_at session.graph object) attr value))
    (λ u. tidy_then enter (λ u. on_own (value_put object attr value)) enter_tidy (λ u. tidy_own (value_put object attr value) (value_orderly object attr value)))

pub delete_tidy : (object : ObjId) → Keeps IsTidy (delete object)
unfolding delete
delete_tidy object = tidy_then enter (λ u. on_own (deletion_marked object)) enter_tidy (λ u. tidy_own (deletion_marked object) (marked_orderly object))

pub make_tidy : (class : ClassId) (given : List (AttrNo × Value)) → Keeps IsTidy (on_own (object_made class given))
make_tidy class given = tidy_own (object_made class given) (object_orderly class given)

pub add_tidy : (object : ObjId) → Keeps IsTidy (add object)
unfolding add
add_tidy object =
    tidy_then enter (λ u. add_inside object) enter_tidy
    (λ u. tidy_then (checked (add_fault object)) (λ u. changes (session_added object)) (tidy_checked (add_fault object)) (λ u. tidy_changes (session_added object) (added_orderly object)))

pub link_tidy : (owner : ObjId) (place : RelNo) (call : LinkCall) → Keeps IsTidy (change_link owner place call)
unfolding change_link
link_tidy owner place call =
    tidy_then enter (λ u. change_inside owner place call) enter_tidy
    (λ u. tidy_then (checked (change_fault owner place call)) (λ u. changes (session_changed owner place call)) (tidy_checked (change_fault owner place call)) (λ u. tidy_changes (session_changed owner place call) (linked_orderly owner place call)))

-- ---- tables and queries

table_ascends : (change : TableChange) (table : TableId) → KeepsAscending (change_in_store change table)
table_ascends Create table = create_ascends table
table_ascends Drop table = drop_ascends table

one_tidy : (change : TableChange) (table : TableId) (u : Unit {0}) → Keeps IsTidy (change_one change table u)
unfolding change_one
one_tidy change table u = tidy_then (on_store with_notes (change_in_store change table)) (λ done. give tt) (tidy_store (change_in_store change table) (table_ascends change table)) (λ done. keeps_give IsTidy tt)

each_tidy : (change : TableChange) (order : List TableId) → AllByRecursion (λ table. (u : Unit {0}) → Keeps IsTidy (change_one change table u)) order
each_tidy change [] = tt
each_tidy change (table ∷ order) = (one_tidy change table, each_tidy change order)

pub tables_tidy : (change : TableChange) → Keeps IsTidy (change_all change)
unfolding change_all
tables_tidy change =
    tidy_then (checked transaction_fault) (λ u. by_own (λ session. each (change_one change) tt (order_for change session.mapping.schema))) (tidy_checked transaction_fault)
    (λ u.
    tidy_by (λ session. each (change_one change) tt (order_for change session.mapping.schema))
    (λ own. keeps_each IsTidy (change_one change) tt (order_for change own.mapping.schema) (each_tidy change (order_for change own.mapping.schema))))

pub rows_tidy : (select : Select) → Keeps IsTidy (statements.rows select)
unfolding statements.rows
rows_tidy select =
    tidy_by (λ session. on_store with_notes (call.query session.mapping.schema select)) (λ own. tidy_store (call.query own.mapping.schema select) (keeps_query AreAscending own.mapping.schema select))

-- ---- the session is closed

rolls_tidy : (opened : Bool) → Keeps IsTidy (roll_back_if opened)
rolls_tidy true = tidy_store call.rollback (keeps_rollback AreAscending)
rolls_tidy false = keeps_give IsTidy tt

pub close_tidy : Keeps IsTidy close
unfolding close
close_tidy =
    tidy_by (λ session. roll_back_if (in_transaction session) >>= λ u. changes session_closed)
    (λ own. tidy_then (roll_back_if (in_transaction own)) (λ u. changes session_closed) (rolls_tidy (in_transaction own)) (λ u. tidy_changes session_closed closed_orderly))

-- ---- what is asked before a flush

pub nested_tidy : Keeps IsTidy enter_nested
unfolding enter_nested
nested_tidy = tidy_then enter (λ u. checked limit_fault) enter_tidy (λ u. tidy_checked limit_fault)

pub check_tidy : (handle : ℕ) → Keeps IsTidy (check_handle handle)
unfolding check_handle
check_tidy handle = tidy_then (checked pending_fault) (λ u. checked (handle_fault handle)) (tidy_checked pending_fault) (λ u. tidy_checked (handle_fault handle))

pub bulk_tidy : (statement : Bulk) → Keeps IsTidy (statements.enter_bulk statement)
unfolding statements.enter_bulk
bulk_tidy statement = tidy_then enter (λ u. checked (statements.update_fault statement)) enter_tidy (λ u. tidy_checked (statements.update_fault statement))

-- ---- a rollback

-- a tidy session in which exactly the objects of such a state have an identity
pub record IsReady (world : World) : Type 0 where
  pub tidy : IsTidy world
  pub identified : EachObject (λ (object : Object). is_identified object ≡ true) world.own.graph

pub scope_ascends : (depth : ℕ) → KeepsAscending (roll_back_scope depth)
scope_ascends depth = by (depth == 1)
  where
    by : (b : Bool) → KeepsAscending (if b then call.rollback else call.rollback_to (depth - 1))
    by true = keeps_rollback AreAscending
    by false = keeps_rollback_to AreAscending (depth - 1)

-- what goes on from one world
pub goes_on : {A B : Type 0} (m : World → Run World A) (next : A → World → Run World B) (w : World) → IsTidy (m w).after → ((a : A) → IsTidy (next a (m w).after).after) → IsTidy ((m >>= next) w).after
unfolding ◌>>=◌
goes_on {A} {B} m next w here later = by (m w).answer
  where
    by : (r : Result A Refusal) → IsTidy (continue_from (m w).events (m w).after r next).after
    by (Ok a) = later a
    by (Err e) = here

-- objects stand where they stood, and what else is noted of that
pub back_tidy : (depth : ℕ) (f : SessionState → SessionState) (w : World) → ((own : SessionState) → own.frames.scopes ≡ w.own.frames.scopes → IsOrderlySession (session_restored depth own) → IsOrderlySession (f own)) → IsReady w
    → IsTidy ((on_store with_notes (roll_back_scope depth) >>= λ u. changes f) w).after
unfolding on_store changes
back_tidy depth f w restored ready =
    let gone : World = (on_store with_notes (roll_back_scope depth) w).after in
    let here : IsTidy gone = (tidy_store (roll_back_scope depth) (scope_ascends depth)).kept w ready.tidy in
    goes_on (on_store with_notes (roll_back_scope depth)) (λ u. changes f) w here
    (λ u. record { own = restored gone.own refl (restored_orderly depth gone.own ready.identified here.own); ascending = here.ascending })

go_back_tidy : (depth : ℕ) (w : World) → IsReady w → IsTidy (go_back depth w).after
go_back_tidy depth w ready = back_tidy depth (session_restored depth) w (λ own same orderly. orderly) ready

roll_tidy : (inside : Bool) (depth count : ℕ) (w : World) → IsReady w → IsTidy ((go_back_if inside depth >>= λ u. changes (session_rolled_back count)) w).after
roll_tidy true depth count w ready =
    let gone : IsTidy (go_back depth w).after = go_back_tidy depth w ready in
    goes_on (go_back depth) (λ u. changes (session_rolled_back count)) w gone (λ u. (tidy_changes (session_rolled_back count) (rolled_orderly count)).kept (go_back depth w).after gone)
roll_tidy false depth count w ready =
    (tidy_then (give {W = World} tt) (λ u. changes (session_rolled_back count)) (keeps_give IsTidy tt) (λ u. tidy_changes (session_rolled_back count) (rolled_orderly count))).kept w ready.tidy

pub rollback_tidy : (w : World) → IsReady w → IsTidy (rollback w).after
unfolding rollback by_own
rollback_tidy w ready = roll_tidy (in_transaction w.own) 1 (length w.own.drawn.handles) w ready

place_tidy : (failed : Bool) (count : ℕ) (place : Option ℕ) (w : World) → IsReady w → IsTidy (roll_back_place failed count place w).after
unfolding refuse
place_tidy failed count None w ready = ready.tidy
place_tidy failed count (Some place) w ready = roll_tidy (not (failed && (place == 0))) (count - place + 1) (place + 1) w ready

pub handle_tidy : (handle : ℕ) (w : World) → IsReady w → IsTidy (rollback_handle handle w).after
unfolding rollback_handle by_own
handle_tidy handle w ready = place_tidy w.own.failed (length w.own.drawn.handles) (place_of_handle w.own.drawn handle) w ready

-- ---- behind a flush

-- a tidy session with nothing to be written
pub record IsClean (world : World) : Type 0 where
  pub tidy : IsTidy world
  pub written : EachObject IsSettled world.own.graph

clean_store : {A : Type 0} (m : Store → Run Store A) → KeepsAscending m → Keeps IsClean (on_store with_notes m)
unfolding on_store
clean_store m up = record {
  kept = λ w clean. record {
    tidy = record { own = record { well = clean.tidy.own.well; objects = clean.tidy.own.objects; named = clean.tidy.own.named }; ascending = up.kept w.store clean.tidy.ascending };
    written = clean.written;
  };
}

clean_changes : (f : SessionState → SessionState) → ((own : SessionState) → EachObject IsSettled own.graph → IsOrderlySession own → IsOrderlySession (f own)) → ((own : SessionState) → EachObject IsSettled own.graph → EachObject IsSettled (f own).graph)
    → Keeps IsClean (changes f)
unfolding changes
clean_changes f stays settled = record {
  kept = λ w clean. record { tidy = record { own = stays w.own clean.written clean.tidy.own; ascending = clean.tidy.ascending }; written = settled w.own clean.written };
}

clean_by : {A : Type 0} (choose : SessionState → World → Run World A) → ((own : SessionState) → Keeps IsClean (choose own)) → Keeps IsClean (by_own choose)
unfolding by_own
clean_by choose one = record { kept = λ w clean. (one w.own).kept w clean }

clean_then : {A B : Type 0} (m : World → Run World A) (next : A → World → Run World B) → Keeps IsClean m → ((a : A) → Keeps IsClean (next a)) → Keeps IsClean (m >>= next)
clean_then m next first later = keeps_then IsClean m next first (λ w a clean is. later a)

pub savepoint_clean : Keeps IsClean begin_savepoint
unfolding begin_savepoint
savepoint_clean =
    clean_then (on_store with_notes call.savepoint) (λ u. (changes session_nested >>= λ u. by_own (λ session. give session.drawn.drawn))) (clean_store call.savepoint (keeps_savepoint AreAscending))
    (λ u.
    clean_then (changes session_nested) (λ u. by_own (λ session. give session.drawn.drawn)) (clean_changes session_nested (λ own settled orderly. nested_orderly own orderly) (λ own settled. settled))
    (λ u. clean_by (λ session. give session.drawn.drawn) (λ own. keeps_give IsClean own.drawn.drawn)))

one_clean : Keeps IsClean release_one
unfolding release_one
one_clean =
    clean_then (on_store with_notes call.release) (λ u. changes session_released) (clean_store call.release (keeps_release AreAscending))
    (λ u. clean_changes session_released (λ own settled orderly. released_orderly own orderly) (λ own settled. settled))

many_clean : (count : ℕ) → Keeps IsClean (release_many count)
unfolding release_many
many_clean zero = keeps_give IsClean tt
many_clean (suc count) = clean_then release_one (λ u. release_many count) one_clean (λ u. many_clean count)

place_clean : (place : Option ℕ) → Keeps IsClean (release_place place)
place_clean None = keeps_give IsClean tt
place_clean (Some place) = many_clean (place + 1)

pub release_clean : (handle : ℕ) → Keeps IsClean (release_handle handle)
unfolding release_handle
release_clean handle = clean_by (λ session. release_place (place_of_handle session.drawn handle)) (λ own. place_clean (place_of_handle own.drawn handle))

committed_settled : (state : State) (o : Object) → IsSettled o → IsSettled (object_committed_in state o)
committed_settled Transient o settled = settled
committed_settled Pending o settled = settled
committed_settled Persistent o settled = record { settled = settled.settled; unmarked = settled.unmarked }
committed_settled Deleted o settled = record { settled = λ is. absurd cc; unmarked = settled.unmarked }
committed_settled Detached o settled = settled

transaction_clean : Keeps IsClean commit_transaction
unfolding commit_transaction
transaction_clean =
    clean_then (on_store with_notes call.commit) (λ u. changes session_committed) (clean_store call.commit (keeps_commit AreAscending))
    (λ u.
    clean_changes session_committed (λ own settled. committed_orderly own)
    (λ own settled. each_changed IsSettled IsSettled (λ o. object_committed_in o.state o) own.graph settled (λ o one. committed_settled o.state o one)))

pub commit_clean : Keeps IsClean commit_whole
unfolding commit_whole
commit_clean =
    clean_by (λ session. release_many (length session.drawn.handles) >>= λ u. commit_transaction)
    (λ own. clean_then (release_many (length own.drawn.handles)) (λ u. commit_transaction) (many_clean (length own.drawn.handles)) (λ u. transaction_clean))

send_clean : (statement : Bulk) → Keeps IsClean (statements.send_bulk statement)
unfolding statements.send_bulk
send_clean statement =
    clean_by (λ session. on_store with_notes (call.bulk session.mapping.schema statement)) (λ own. clean_store (call.bulk own.mapping.schema statement) (keeps_bulk_ascending own.mapping.schema statement))

pub bulk_clean : (statement : Bulk) → Keeps IsClean (statements.bulk statement)
unfolding statements.bulk
bulk_clean statement =
    let table : TableId = table_of statement in
    clean_then (statements.send_bulk statement) (λ count. (changes (session_reread table) >>= λ u. give count)) (send_clean statement)
    (λ count. clean_then (changes (session_reread table)) (λ u. give count) (clean_changes (session_reread table) (λ own settled. reread_orderly table own) (reread_settled table)) (λ u. keeps_give IsClean count))
