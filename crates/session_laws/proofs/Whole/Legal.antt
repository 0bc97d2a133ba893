-- Every call of a session leaves tables legal that were so, those at the start of each scope too.
use Rattle.std.proofs.Common.{◌≡◌, ℕ, ◌+◌, ◌-◌, zero, suc, Bool, true, false, not, ◌&&◌, ◌==◌, List, [], ◌∷◌, length, Option, None, Some, Result, Ok, Err, refl, sym, ap, ◌∙◌, subst}
use Rattle.std.specs.Prelude.{reverse}
use Rattle.std.specs.List.{All, AllByRecursion}
use Rattle.std.proofs.lemmas.List.Elements.{All-head, All-tail}
use Rattle.base_core.specs.declared.ids.AttrNo.{AttrNo}
use Rattle.base_core.specs.declared.ids.ClassId.{ClassId}
use Rattle.base_core.specs.declared.ids.ObjId.{ObjId}
use Rattle.base_core.specs.declared.ids.RelNo.{RelNo}
use Rattle.base_core.specs.declared.ids.TableId.{TableId}
use Rattle.base_core.specs.declared.refusal.Refusal.{Refusal}
use Rattle.base_core.specs.declared.refusal.Refusal.TheVariants.{InvalidRequestError}
use Rattle.base_core.specs.declared.refusal.RequestKind.TheVariants.{KeyChange}
use Rattle.base_core.specs.declared.value.Value.{Value}
use Rattle.schema_core.specs.Catalog.{Catalog, IsTable}
use Rattle.schema_core.specs.DependencyOrder.{dependency_order}
use Rattle.class_types.specs.Rules.{Rules}
use Rattle.class_mapping.specs.Mapped.{Mapped}
use Rattle.expr_types.specs.declared.select.Bulk.{Bulk}
use Rattle.expr_types.specs.declared.select.Select.{Select}
use Rattle.sql_semantics.specs.Applied.{table_of}
use Rattle.sql_semantics.specs.Plain.{IsPlainBulk}
use Rattle.keeper_core.specs.Calls as call
use Rattle.keeper_core.specs.Beside.{by_own, changes, on_own, on_store}
use Rattle.keeper_core.specs.Programs.{Event, Run, ◌>>=◌, each, give}
use Rattle.keeper_core.specs.Store.{Store}
use Rattle.table_laws.specs.Legality.{AreSound, IsLegalStore, Keeps, drop_each}
use Rattle.table_laws.proofs.Accepted.{keeps_bulk_legal}
use Rattle.table_laws.proofs.Dropped.{keeps_dropping}
use Rattle.table_laws.proofs.EachCall.{create_legal, keeps_begin, keeps_commit, keeps_query, keeps_release, keeps_rollback, keeps_savepoint}
use Rattle.table_laws.proofs.EachJoin.{keeps_each, keeps_give, keeps_refuse, keeps_then}
use Rattle.object_arena.specs.Graph.{Graph, either_fault, key_fault, make, object_at, value_fault, with_object, with_value}
use Rattle.relations.specs.declared.calls.LinkCall.{LinkCall}
use Rattle.relations.specs.declared.change.Change.{Change}
use Rattle.relations.specs.declared.change.LinkPut.{LinkPut}
use Rattle.relations.specs.Calls.{child_of, link_change}
use Rattle.session_scopes.specs.Changes.{changed_unless, delete_fault, deletion_marked, value_put}
use Rattle.session_scopes.specs.Handles.{place_of_handle}
use Rattle.session_scopes.specs.Making as making
use Rattle.session_scopes.specs.Scoping.{session_begun, session_closed, session_committed, session_nested, session_released, session_restored, session_rolled_back}
use Rattle.session_scopes.specs.SessionState.{SessionState, in_transaction, with_notes}
use Rattle.session_calls.specs.Parts.{World, checked, fault_if, go_back, roll_back_scope, unless}
use Rattle.session_calls.specs.Steps.{begin_unless, close, delete, enter, go_back_if, pending_fault, roll_back_if, roll_back_place, rollback, rollback_handle, set_cell, set_fitting}
use Rattle.session_acts.specs.Flush.{flush}
use Rattle.session_acts.specs.Savepoints.{begin_savepoint, check_handle, commit_transaction, commit_whole, enter_nested, handle_fault, limit_fault, release_handle, release_many, release_one, release_place}
use Rattle.session_acts.specs.Steps as acts
use Rattle.session_acts.specs.Steps.{IsPlainButForKeys, flush_now}
use Rattle.session_objects.specs.Conflicts.{add_fault}
use Rattle.session_objects.specs.Leaving.{expunge_fault, session_expunged}
use Rattle.session_objects.specs.Steps.{add, add_inside, expunge, expunge_inside}
use Rattle.session_objects.specs.Taking.{session_added}
use Rattle.session_objects.specs.ValueSteps.{cell_kept, given_fault, made_unless, set_inside, set_judged, set_valid, valid_made, value_invalid}
use Rattle.session_links.specs.Linking.{change_fault, coming_along, session_by, session_changed, session_linked, session_orphaned, session_put}
use Rattle.session_links.specs.Steps.{change_inside, change_link}
use Rattle.session_statements.specs.Rewriting.{session_reread}
use Rattle.session_statements.specs.Steps as statements
use Rattle.session_tables.specs.declared.tables.TableChange.{TableChange}
use Rattle.session_tables.specs.declared.tables.TableChange.TheVariants.{Create, Drop}
use Rattle.session_tables.specs.Steps.{change_all, change_one, order_for, transaction_fault}
use Rattle.session_tables.proofs.Orders.{order_declared}
use Rattle.session_laws.specs.Health.Calls.{Call, after_call, after_calls}
use Rattle.session_laws.specs.Whole.{AreCallsOf, CallsKeepLegal, IsCallOf}
use Rattle.session_laws.proofs.Calls.Leaving.{expunged_same}
use Rattle.session_laws.proofs.Flushes.Legal.{IsLegalWorld, changed_keeps, chosen_keeps, flush_keeps, noted_keeps, scope_keeps}
use Rattle.session_laws.proofs.Health.Acts.{IsLed, led_checked, led_then}
use Rattle.session_laws.proofs.TableCalls.Dropping.{dropped_store}
use Rattle.session_laws.proofs.TableCalls.Placed.{turned_whole}
use Rattle.session_laws.proofs.Whole.Keeping as keeping
use Rattle.session_laws.proofs.Whole.Linked.{joined_same}
use Rattle.session_laws.proofs.Whole.Since.{added_same}

-- ---- the mapping stays

unless_mapping : (fault : Option Refusal) (graph : Graph) (own : SessionState) → (changed_unless fault graph own).after.mapping ≡ own.mapping
unless_mapping None graph own = refl
unless_mapping (Some fault) graph own = refl

value_mapping : (object : ObjId) (attr : AttrNo) (value : Value) (own : SessionState) → (value_put object attr value own).after.mapping ≡ own.mapping
unfolding value_put
value_mapping object attr value own = unless_mapping (key_fault own.mapping (object_at own.graph object) attr) (with_value own.graph object attr value) own

marked_mapping : (object : ObjId) (own : SessionState) → (deletion_marked object own).after.mapping ≡ own.mapping
unfolding deletion_marked
marked_mapping object own = unless_mapping (delete_fault (object_at own.graph object)) (with_object own.graph object (record (object_at own.graph object) { marked = true })) own

new_mapping : (given : List (AttrNo × Value)) (own : SessionState) (r : Result (ObjId × Graph) Refusal) → (making.made_with given own r).after.mapping ≡ own.mapping
new_mapping given own (Ok made) = refl
new_mapping given own (Err full) = refl

fitting_mapping : (fault : Option Refusal) (given : List (AttrNo × Value)) (own : SessionState) (r : Result (ObjId × Graph) Refusal) → (making.made_unless fault given own r).after.mapping ≡ own.mapping
fitting_mapping None given own r = new_mapping given own r
fitting_mapping (Some fault) given own r = refl

made_mapping : (fault : Option Refusal) (class : ClassId) (given : List (AttrNo × Value)) (own : SessionState) → (made_unless fault class given own).after.mapping ≡ own.mapping
unfolding making.object_made
made_mapping None class given own = fitting_mapping (making.first_given_fault own.mapping class given) given own (make own.graph own.mapping class)
made_mapping (Some fault) class given own = refl

valid_mapping : (rules : Rules) (class : ClassId) (given : List (AttrNo × Value)) (own : SessionState) → (valid_made rules class given own).after.mapping ≡ own.mapping
unfolding valid_made
valid_mapping rules class given own = made_mapping (given_fault rules own.mapping class given) class given own

put_mapping : (put : Option LinkPut) (own : SessionState) → (session_put put own).mapping ≡ own.mapping
put_mapping None own = refl
put_mapping (Some put) own = refl

orphan_mapping : (child : ObjId) (orphan : Option Bool) (own : SessionState) → (session_orphaned child orphan own).mapping ≡ own.mapping
orphan_mapping child None own = refl
orphan_mapping child (Some orphan) own = refl

linked_mapping : (child : ObjId) (change : Change) (own : SessionState) → (session_linked child change own).mapping ≡ own.mapping
linked_mapping child change own =
    let marked : SessionState = session_orphaned child change.orphan own in
    let left : SessionState = session_put change.left marked in
    let joined : SessionState = session_put change.joined left in
    put_mapping change.own joined ∙ put_mapping change.joined left ∙ put_mapping change.left marked ∙ orphan_mapping child change.orphan own

by_mapping : (owner : ObjId) (place : RelNo) (call : LinkCall) (own : SessionState) (found : Result Change Refusal) → (session_by owner place call own found).mapping ≡ own.mapping
by_mapping owner place call own (Err fault) = refl
by_mapping owner place call own (Ok change) =
    (joined_same (coming_along own owner place call change) (session_linked (child_of owner call) change own)).mapping ∙ linked_mapping (child_of owner call) change own

changed_mapping : (owner : ObjId) (place : RelNo) (call : LinkCall) (own : SessionState) → (session_changed owner place call own).mapping ≡ own.mapping
unfolding session_changed
changed_mapping owner place call own = by_mapping owner place call own (link_change own.graph own.mapping owner place call)

-- of a statement that is sent it is known that it writes no key
no_key : (writes : Bool) (second : Option Refusal) → either_fault (fault_if writes (InvalidRequestError KeyChange)) second ≡ None → writes ≡ false
no_key true second none = absurd cc
no_key false second none = refl

module _ (schema : Catalog) where
  -- ---- how programs are put together

  abbrev P : World → Type 0
  P = IsLegalWorld schema

  noted : {A : Type 0} (m : Store → Run Store A) → Keeps (IsLegalStore schema) m → Keeps P (on_store with_notes m)
  noted m legal = noted_keeps schema m legal

  changed : (f : SessionState → SessionState) → ((own : SessionState) → (f own).mapping ≡ own.mapping) → Keeps P (changes f)
  changed f same = changed_keeps schema f same

  chosen : {A : Type 0} (choose : SessionState → World → Run World A) → ((own : SessionState) → own.mapping.schema ≡ schema → Keeps P (choose own)) → Keeps P (by_own choose)
  chosen choose one = chosen_keeps schema choose one

  owned : {A : Type 0} (m : SessionState → Run SessionState A) → ((own : SessionState) → (m own).after.mapping ≡ own.mapping) → Keeps P (on_own m)
  unfolding on_own
  owned m same = record { kept = λ w p. record { own = ap (λ (mapped : Mapped). mapped.schema) (same w.own) ∙ p.own; store = p.store } }

  joined : {A B : Type 0} (m : World → Run World A) (next : A → World → Run World B) → Keeps P m → ((a : A) → Keeps P (next a)) → Keeps P (m >>= next)
  joined m next first later = keeps_then P m next first (λ w a p is. later a)

  asked : (fault : SessionState → Option Refusal) → Keeps P (checked fault)
  unfolding checked
  asked fault = chosen (λ own. unless (fault own)) (λ own is. by (fault own))
    where
      by : (found : Option Refusal) → Keeps P (unless found)
      by None = keeps_give P tt
      by (Some e) = keeps_refuse P e

  -- ---- calls without a flush

  enters : Keeps P enter
  unfolding enter
  enters =
      joined (checked pending_fault) (λ u. by_own (λ session. begin_unless (in_transaction session))) (asked pending_fault)
      (λ u. chosen (λ session. begin_unless (in_transaction session)) (λ own is. by (in_transaction own)))
    where
      by : (begun : Bool) → Keeps P (begin_unless begun)
      by true = keeps_give P tt
      by false = joined (on_store with_notes call.begin) (λ u. changes session_begun) (noted call.begin (keeps_begin (AreSound schema))) (λ u. changed session_begun (λ own. refl))

  sets : (rules : Rules) (object : ObjId) (attr : AttrNo) (value : Value) → Keeps P (set_valid rules object attr value)
  unfolding set_valid set_cell
  sets rules object attr value =
      joined (checked (value_invalid rules object attr value)) (λ u. set_judged object attr value) (asked (value_invalid rules object attr value))
      (λ u. joined enter (λ u. set_inside object attr value) enters
      (λ u. joined (checked (cell_kept object attr)) (λ u. set_cell object attr value) (asked (cell_kept object attr))
      (λ u. joined (checked (λ session. value_fault session.mapping (object_at session.graph object) attr value)) (λ u. set_fitting object attr value)
      (asked (λ session. value_fault session.mapping (object_at session.graph object) attr value))
      (λ u. joined enter (λ u. on_own (value_put object attr value)) enters (λ u. owned (value_put object attr value) (value_mapping object attr value))))))

  deletes : (object : ObjId) → Keeps P (delete object)
  unfolding delete
  deletes object = joined enter (λ u. on_own (deletion_marked object)) enters (λ u. owned (deletion_marked object) (marked_mapping object))

  adds : (object : ObjId) → Keeps P (add object)
  unfolding add
  adds object =
      joined enter (λ u. add_inside object) enters
      (λ u. joined (checked (add_fault object)) (λ u. changes (session_added object)) (asked (add_fault object)) (λ u. changed (session_added object) (λ own. (added_same object own).mapping)))

  expunges : (object : ObjId) → Keeps P (expunge object)
  unfolding expunge
  expunges object =
      joined enter (λ u. expunge_inside object) enters
      (λ u. joined (checked (expunge_fault object)) (λ u. changes (session_expunged object)) (asked (expunge_fault object)) (λ u. changed (session_expunged object) (λ own. (expunged_same object own).mapping)))

  links : (owner : ObjId) (place : RelNo) (call : LinkCall) → Keeps P (change_link owner place call)
  unfolding change_link
  links owner place call =
      joined enter (λ u. change_inside owner place call) enters
      (λ u. joined (checked (change_fault owner place call)) (λ u. changes (session_changed owner place call)) (asked (change_fault owner place call)) (λ u. changed (session_changed owner place call) (changed_mapping owner place call)))

  closes : Keeps P close
  unfolding close
  closes =
      chosen (λ session. roll_back_if (in_transaction session) >>= λ u. changes session_closed)
      (λ own is. joined (roll_back_if (in_transaction own)) (λ u. changes session_closed) (by (in_transaction own)) (λ u. changed session_closed (λ own. refl)))
    where
      by : (opened : Bool) → Keeps P (roll_back_if opened)
      by true = noted call.rollback (keeps_rollback (AreSound schema))
      by false = keeps_give P tt

  -- ---- tables

  created : (table : TableId) → IsTable schema table → (u : Unit {0}) → Keeps P (change_one Create table u)
  unfolding change_one
  created table declared u = joined (on_store with_notes (call.create table)) (λ done. give tt) (noted (call.create table) (create_legal schema table declared)) (λ done. keeps_give P tt)

  each_created : (order : List TableId) → All (IsTable schema) order → AllByRecursion (λ table. (u : Unit {0}) → Keeps P (change_one Create table u)) order
  each_created [] all = tt
  each_created (table ∷ order) all = (created table (All-head (IsTable schema) table order all), each_created order (All-tail (IsTable schema) table order all))

  all_created : Keeps P (each (change_one Create) tt (order_for Create schema))
  all_created = keeps_each P (change_one Create) tt (dependency_order schema) (each_created (dependency_order schema) (order_declared schema (dependency_order schema) refl))

  -- between the tables that are dropped one may lead to a table that is not there: they are legal again when none is left
  all_dropped : Keeps P (each (change_one Drop) tt (order_for Drop schema))
  unfolding drop_each
  all_dropped =
      let order : List TableId = reverse (dependency_order schema) in
      let IsOf : SessionState → Type 0 = λ own. own.mapping.schema ≡ schema in
      let notes : (events : List Event) (own : SessionState) → IsOf own → IsOf (with_notes events own) = λ events own is. is in
      let owns : Keeps (keeping.Holds IsOf) (each (change_one Drop) tt order) = keeps_each (keeping.Holds IsOf) (change_one Drop) tt order (keeping.each_table IsOf notes Drop order) in
      record {
        kept = λ w p. record {
          own = owns.kept w p.own;
          store = subst (IsLegalStore schema) (sym (dropped_store order w)) ((keeps_dropping schema order (turned_whole schema)).kept w.store p.store);
        };
      }

  tables : (change : TableChange) → Keeps P (change_all change)
  unfolding change_all
  tables change =
      joined (checked transaction_fault) (λ u. by_own (λ session. each (change_one change) tt (order_for change session.mapping.schema))) (asked transaction_fault)
      (λ u.
      chosen (λ session. each (change_one change) tt (order_for change session.mapping.schema))
      (λ own is. subst (λ (s : Catalog). Keeps P (each (change_one change) tt (order_for change s))) (sym is) (by change)))
    where
      by : (change : TableChange) → Keeps P (each (change_one change) tt (order_for change schema))
      by Create = all_created
      by Drop = all_dropped

  -- ---- rollbacks

  goes_back : (depth : ℕ) → Keeps P (go_back depth)
  goes_back depth = joined (on_store with_notes (roll_back_scope depth)) (λ u. changes (session_restored depth)) (noted (roll_back_scope depth) (scope_keeps schema depth)) (λ u. changed (session_restored depth) (λ own. refl))

  rolls : (inside : Bool) (depth count : ℕ) → Keeps P (go_back_if inside depth >>= λ u. changes (session_rolled_back count))
  rolls inside depth count = joined (go_back_if inside depth) (λ u. changes (session_rolled_back count)) (by inside) (λ u. changed (session_rolled_back count) (λ own. refl))
    where
      by : (b : Bool) → Keeps P (go_back_if b depth)
      by true = goes_back depth
      by false = keeps_give P tt

  rolls_back : Keeps P rollback
  unfolding rollback
  rolls_back =
      chosen (λ session. go_back_if (in_transaction session) 1 >>= λ u. changes (session_rolled_back (length session.drawn.handles))) (λ own is. rolls (in_transaction own) 1 (length own.drawn.handles))

  rolls_to_place : (failed : Bool) (count : ℕ) (place : Option ℕ) → Keeps P (roll_back_place failed count place)
  rolls_to_place failed count None = keeps_refuse P _
  rolls_to_place failed count (Some place) = rolls (not (failed && (place == 0))) (count - place + 1) (place + 1)

  rolls_back_to : (handle : ℕ) → Keeps P (rollback_handle handle)
  unfolding rollback_handle
  rolls_back_to handle =
      chosen (λ session. roll_back_place session.failed (length session.drawn.handles) (place_of_handle session.drawn handle)) (λ own is. rolls_to_place own.failed (length own.drawn.handles) (place_of_handle own.drawn handle))

  -- ---- the flush, and acts behind it

  pub flushes : Keeps P flush_now
  unfolding flush_now
  flushes = joined enter (λ u. flush) enters (λ u. flush_keeps schema)

  one_released : Keeps P release_one
  unfolding release_one
  one_released = joined (on_store with_notes call.release) (λ u. changes session_released) (noted call.release (keeps_release (AreSound schema))) (λ u. changed session_released (λ own. refl))

  releases : (count : ℕ) → Keeps P (release_many count)
  unfolding release_many
  releases zero = keeps_give P tt
  releases (suc count) = joined release_one (λ u. release_many count) one_released (λ u. releases count)

  place_released : (place : Option ℕ) → Keeps P (release_place place)
  place_released None = keeps_give P tt
  place_released (Some place) = releases (place + 1)

  commits : Keeps P acts.commit
  unfolding acts.commit commit_whole commit_transaction
  commits =
      joined flush_now (λ u. commit_whole) flushes
      (λ u.
      chosen (λ session. release_many (length session.drawn.handles) >>= λ u. commit_transaction)
      (λ own is. joined (release_many (length own.drawn.handles)) (λ u. commit_transaction) (releases (length own.drawn.handles))
      (λ u. joined (on_store with_notes call.commit) (λ u. changes session_committed) (noted call.commit (keeps_commit (AreSound schema))) (λ u. changed session_committed (λ own. refl)))))

  begins_nested : Keeps P acts.begin_nested
  unfolding acts.begin_nested enter_nested begin_savepoint
  begins_nested =
      joined enter_nested (λ u. flush >>= λ u. begin_savepoint) (joined enter (λ u. checked limit_fault) enters (λ u. asked limit_fault))
      (λ u.
      joined flush (λ u. begin_savepoint) (flush_keeps schema)
      (λ u.
      joined (on_store with_notes call.savepoint) (λ u. changes session_nested >>= λ u. by_own (λ session. give session.drawn.drawn)) (noted call.savepoint (keeps_savepoint (AreSound schema)))
      (λ u. joined (changes session_nested) (λ u. by_own (λ session. give session.drawn.drawn)) (changed session_nested (λ own. refl)) (λ u. chosen (λ session. give session.drawn.drawn) (λ own is. keeps_give P own.drawn.drawn)))))

  commits_handle : (handle : ℕ) → Keeps P (acts.commit_handle handle)
  unfolding acts.commit_handle check_handle release_handle
  commits_handle handle =
      joined (check_handle handle) (λ u. flush >>= λ u. release_handle handle) (joined (checked pending_fault) (λ u. checked (handle_fault handle)) (asked pending_fault) (λ u. asked (handle_fault handle)))
      (λ u.
      joined flush (λ u. release_handle handle) (flush_keeps schema)
      (λ u. chosen (λ session. release_place (place_of_handle session.drawn handle)) (λ own is. place_released (place_of_handle own.drawn handle))))

  asks_rows : (select : Select) → Keeps P (acts.rows select)
  unfolding acts.rows statements.rows
  asks_rows select =
      joined flush_now (λ u. statements.rows select) flushes
      (λ u. chosen (λ session. on_store with_notes (call.query session.mapping.schema select)) (λ own is. noted (call.query own.mapping.schema select) (keeps_query (AreSound schema) own.mapping.schema select)))

  -- ---- bulk statements

  module _ (statement : Bulk) where
    sends : IsPlainBulk schema statement → Keeps P (statements.bulk statement)
    unfolding statements.bulk statements.send_bulk
    sends plain =
        joined (statements.send_bulk statement) (λ count. changes (session_reread (table_of statement)) >>= λ u. give count)
        (chosen (λ session. on_store with_notes (call.bulk session.mapping.schema statement))
        (λ own is. subst (λ (s : Catalog). Keeps P (on_store with_notes (call.bulk s statement))) (sym is) (noted (call.bulk schema statement) (keeps_bulk_legal schema statement plain))))
        (λ count. joined (changes (session_reread (table_of statement))) (λ u. give count) (changed (session_reread (table_of statement)) (λ own. refl)) (λ u. keeps_give P count))

    abbrev IsPlain : World → Type 0
    IsPlain w = P w × IsPlainBulk schema statement

    asks_plain : IsPlainButForKeys schema statement → (w : World) → P w → IsLed P IsPlain (statements.enter_bulk statement w)
    unfolding statements.enter_bulk
    asks_plain plain w p =
        let inside : P (enter w).after = enters.kept w p in
        led_then P P IsPlain enter (λ u. checked (statements.update_fault statement)) w (record { here = inside; told = λ u is. inside })
        (λ u again.
        let v : World = (enter w).after in
        led_checked P IsPlain (statements.update_fault statement) v again
        (λ none. (again, plain (ap (λ (s : Catalog). statements.writes_key s statement) (sym again.own) ∙ no_key (statements.writes_key v.own.mapping.schema statement) _ none))))

    writes : IsPlainButForKeys schema statement → (w : World) → P w → P (acts.bulk statement w).after
    unfolding acts.bulk
    writes plain w p =
        (led_then P IsPlain P (statements.enter_bulk statement) (λ u. flush >>= λ u. statements.bulk statement) w (asks_plain plain w p)
        (λ u both.
        let done = (joined flush (λ u. statements.bulk statement) (flush_keeps schema) (λ u. sends both.1)).kept (statements.enter_bulk statement w).after both.0 in
        record { here = done; told = λ u is. done })).here

  -- ---- every call

  module _ (rules : Rules) where
    call_legal : (call : Call) (w : World) → IsCallOf call w → P w → P (after_call rules call w)
    call_legal (Call.Make class given) w of legal = (owned (valid_made rules class given) (valid_mapping rules class given)).kept w legal
    call_legal (Call.Add object) w of legal = (adds object).kept w legal
    call_legal (Call.Set object attr value) w of legal = (sets rules object attr value).kept w legal
    call_legal (Call.Delete object) w of legal = (deletes object).kept w legal
    call_legal (Call.Expunge object) w of legal = (expunges object).kept w legal
    call_legal (Call.ChangeLink owner place call) w of legal = (links owner place call).kept w legal
    call_legal Call.Flush w of legal = flushes.kept w legal
    call_legal Call.Commit w of legal = commits.kept w legal
    call_legal Call.Rollback w of legal = rolls_back.kept w legal
    call_legal Call.Close w of legal = closes.kept w legal
    call_legal Call.BeginNested w of legal = begins_nested.kept w legal
    call_legal (Call.CommitHandle handle) w of legal = (commits_handle handle).kept w legal
    call_legal (Call.RollbackHandle handle) w of legal = (rolls_back_to handle).kept w legal
    call_legal (Call.ChangeTables change) w of legal = (tables change).kept w legal
    call_legal (Call.Rows select) w of legal = (asks_rows select).kept w legal
    call_legal (Call.Write statement) w of legal = writes statement (subst (λ (s : Catalog). IsPlainButForKeys s statement) legal.own of) w legal

    calls_legal : (calls : List Call) (w : World) → P w → AreCallsOf rules calls w → P (after_calls rules calls w)
    calls_legal [] w legal of = legal
    calls_legal (call ∷ calls) w legal of = calls_legal calls (after_call rules call w) (call_legal call w of.0 legal) of.1

pub legal_law : CallsKeepLegal
legal_law rules calls w legal of =
    let end : World = after_calls rules calls w in
    let kept : IsLegalWorld w.own.mapping.schema end = calls_legal w.own.mapping.schema rules calls w (record { own = refl; store = legal }) of in
    subst (λ (s : Catalog). IsLegalStore s end.store) (sym kept.own) kept.store
