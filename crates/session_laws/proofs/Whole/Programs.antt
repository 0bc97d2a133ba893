-- What each step of a session keeps of it, the programs of its calls keep, whatever they answer.
use Rattle.std.proofs.Common.{◌≡◌, ℕ, ◌+◌, ◌-◌, Bool, true, false, not, ◌&&◌, ◌==◌, List, length, Option, None, Some, Result, Ok, Err, refl, sym, ◌∙◌, subst}
use Rattle.base_core.specs.declared.ids.AttrNo.{AttrNo}
use Rattle.base_core.specs.declared.ids.ObjId.{ObjId}
use Rattle.base_core.specs.declared.ids.RelNo.{RelNo}
use Rattle.base_core.specs.declared.ids.TableId.{TableId}
use Rattle.base_core.specs.declared.refusal.Refusal.{Refusal}
use Rattle.base_core.specs.declared.value.Value.{Value}
use Rattle.schema_core.specs.declared.changes.RowChanges.{RowChanges}
use Rattle.class_types.specs.Rules.{Rules}
use Rattle.class_mapping.specs.Mapped.{IsAttribute, Mapped}
use Rattle.class_mapping.specs.Paired.{HasPairs}
use Rattle.expr_types.specs.declared.select.Bulk.{Bulk}
use Rattle.expr_types.specs.declared.select.Select.{Select}
use Rattle.keeper_core.specs.Calls as call
use Rattle.table_laws.specs.Legality.{Keeps}
use Rattle.table_laws.proofs.EachJoin.{keeps_give, keeps_refuse}
use Rattle.load_filling.specs.Growing.{Grows}
use Rattle.load_rows.specs.Loading.{Loading}
use Rattle.object_arena.specs.Fit.{IsFit}
use Rattle.object_arena.specs.Graph.{Graph, object_at, value_fault}
use Rattle.object_rows.specs.declared.prepared.Prepared.{Prepared}
use Rattle.object_records.specs.Kept.{given_back, held_in}
use Rattle.graph_flushed.specs.Fitting.{AreClearable}
use Rattle.prepared_objects.specs.Leaving.{prepared_of}
use Rattle.load_preparing.specs.Preparing.{read_going}
use Rattle.keeper_core.specs.Programs.{Event, Run, ◌>>=◌, give, refuse, undo_on_refusal, with_undo}
use Rattle.keeper_core.specs.Beside.{Beside, by_own, changes, on_own, on_store}
use Rattle.keeper_core.specs.Store.{Store}
use Rattle.relations.specs.declared.calls.LinkCall.{LinkCall}
use Rattle.sql_semantics.specs.Applied.{table_of}
use Rattle.session_scopes.specs.Changes.{deletion_marked, value_put}
use Rattle.session_scopes.specs.Handles.{place_of_handle}
use Rattle.session_scopes.specs.Keeping.{session_given_back}
use Rattle.session_scopes.specs.Loads.{on_load, with_loaded}
use Rattle.session_scopes.specs.Scoping.{session_begun, session_closed, session_committed, session_failed, session_nested, session_released, session_restored, session_rolled_back}
use Rattle.session_scopes.specs.SessionState.{SessionState, in_transaction, with_notes, with_warnings}
use Rattle.session_calls.specs.Parts.{World, checked, go_back, roll_back_scope}
use Rattle.session_calls.specs.Steps.{begin_unless, close, delete, enter, go_back_if, pending_fault, roll_back_place, rollback, rollback_handle, set_cell, set_fitting}
use Rattle.session_acts.specs.Savepoints.{begin_savepoint, check_handle, commit_transaction, commit_whole, enter_nested, handle_fault, limit_fault, release_handle, release_many, release_place}
use Rattle.session_objects.specs.Leaving.{session_expunged}
use Rattle.session_objects.specs.Steps.{add, expunge}
use Rattle.session_objects.specs.Taking.{session_added}
use Rattle.session_links.specs.Linking.{change_fault, session_changed}
use Rattle.session_links.specs.Steps.{change_inside, change_link}
use Rattle.session_laws.specs.LinkCalls.{IsLinkCall}
use Rattle.session_laws.specs.Loads.{loading_of}
use Rattle.session_statements.specs.Rewriting.{session_reread}
use Rattle.session_statements.specs.Steps as statements
use Rattle.session_tables.specs.declared.tables.TableChange.{TableChange}
use Rattle.session_tables.specs.Steps.{change_all}
use Rattle.session_acts.specs.Flush.{flush, give_up, give_up_to, prepare, session_flushed, write_loaded, write_objects}
use Rattle.session_acts.specs.Steps as acts
use Rattle.session_acts.specs.Steps.{flush_now}
use Rattle.session_acts.proofs.Clearing.{clearable}
use Rattle.session_laws.specs.Flushes.{prepared_world}
use Rattle.session_laws.proofs.Flushes.GivenBack.{IsGivenBack, given_read}
use Rattle.session_laws.proofs.Flushes.Reading.{IsReadWell, prepare_mapping}
use Rattle.session_laws.proofs.SoundFlushes.Refused.{IsUnmoved, objects_refused}
use Rattle.session_laws.proofs.Sound.Beginning.{entered_graph, entered_mapping}
use Rattle.session_objects.specs.ValueSteps.{cell_kept, set_inside, set_judged, set_valid, value_invalid}
use Rattle.session_laws.proofs.Health.Acts.{led_checked, led_then}
use Rattle.session_laws.proofs.Whole.Keeping as keeping
use Rattle.session_laws.proofs.Whole.Keeping.{Holds, goes}

-- what becomes of a session in its steps has a property of it
pub record AreSteps (P : SessionState → Type 0) : Type 0 where
  pub notes : (events : List Event) (own : SessionState) → P own → P (with_notes events own)
  pub warned : (rows : RowChanges) (own : SessionState) → P own → P (with_warnings rows.warnings own)
  pub begun : (own : SessionState) → P own → P (session_begun own)
  pub nested : (own : SessionState) → P own → P (session_nested own)
  pub released : (own : SessionState) → P own → P (session_released own)
  pub restored : (depth : ℕ) (own : SessionState) → P own → P (session_restored depth own)
  pub failed : (own : SessionState) → P own → P (session_failed own)
  pub rolled : (count : ℕ) (own : SessionState) → P own → P (session_rolled_back count own)
  pub committed : (own : SessionState) → P own → P (session_committed own)
  pub closed : (own : SessionState) → P own → P (session_closed own)
  pub pairs : (own : SessionState) → P own → HasPairs own.mapping
  pub flushed : (prepared : Prepared) (rows : RowChanges) (keys : List (List Value)) (own : SessionState) → AreClearable own.mapping own.graph prepared → P own → P (session_flushed prepared rows keys own)
  pub given : (before own : SessionState) (back : Graph) → own.mapping ≡ before.mapping → IsGivenBack before.graph own.graph back → P before → P own → P (record own { graph = back })
  pub reread : (table : TableId) (own : SessionState) → P own → P (session_reread table own)
  pub added : (object : ObjId) (own : SessionState) → P own → P (session_added object own)
  pub expunged : (object : ObjId) (own : SessionState) → P own → P (session_expunged object own)
  pub linked : (owner : ObjId) (place : RelNo) (call : LinkCall) (own : SessionState) → IsLinkCall own.mapping own.graph owner place call → P own → P (session_changed owner place call own)
  pub marked : (object : ObjId) (own : SessionState) → P own → P (deletion_marked object own).after
  pub put : (object : ObjId) (attr : AttrNo) (value : Value) (own : SessionState) → IsAttribute own.mapping (object_at own.graph object).class attr → value_fault own.mapping (object_at own.graph object) attr value ≡ None → P own → P (value_put object attr value own).after
  pub loaded : (after : Loading) (own : SessionState) → IsFit own.mapping after.graph → Grows own.graph after.graph → P own → P (with_loaded after own)

module _ (P : SessionState → Type 0) (steps : AreSteps P) where
  -- ---- how programs are put together

  noted : {A : Type 0} (m : Store → Run Store A) → Keeps (Holds P) (on_store with_notes m)
  noted m = keeping.noted P steps.notes m

  changed : (f : SessionState → SessionState) → ((own : SessionState) → P own → P (f own)) → Keeps (Holds P) (changes f)
  changed f stays = keeping.changed P steps.notes f stays

  chosen : {A : Type 0} (choose : SessionState → World → Run World A) → ((own : SessionState) → Keeps (Holds P) (choose own)) → Keeps (Holds P) (by_own choose)
  chosen choose one = keeping.chosen P steps.notes choose one

  joined : {A B : Type 0} (m : World → Run World A) (next : A → World → Run World B) → Keeps (Holds P) m → ((a : A) → Keeps (Holds P) (next a)) → Keeps (Holds P) (m >>= next)
  joined m next first later = keeping.joined P steps.notes m next first later

  asked : (fault : SessionState → Option Refusal) → Keeps (Holds P) (checked fault)
  asked fault = keeping.asked P steps.notes fault

  -- ---- calls without a flush

  pub enters : Keeps (Holds P) enter
  unfolding enter
  enters =
      joined (checked pending_fault) (λ u. by_own (λ session. begin_unless (in_transaction session))) (asked pending_fault)
      (λ u. chosen (λ session. begin_unless (in_transaction session)) (λ own. by (in_transaction own)))
    where
      by : (begun : Bool) → Keeps (Holds P) (begin_unless begun)
      by true = keeps_give (Holds P) tt
      by false = joined (on_store with_notes call.begin) (λ u. changes session_begun) (noted call.begin) (λ u. changed session_begun steps.begun)

  pub deletes : (object : ObjId) → Keeps (Holds P) (delete object)
  unfolding delete
  deletes object = joined enter (λ u. on_own (deletion_marked object)) enters (λ u. keeping.owned P steps.notes (deletion_marked object) (steps.marked object))

  pub adds : (object : ObjId) → Keeps (Holds P) (add object)
  adds object = keeping.adds P steps.notes enters object (steps.added object)

  pub expunges : (object : ObjId) → Keeps (Holds P) (expunge object)
  expunges object = keeping.expunges P steps.notes enters object (steps.expunged object)

  pub changes_tables : (change : TableChange) → Keeps (Holds P) (change_all change)
  changes_tables change = keeping.tables P steps.notes change

  pub closes : Keeps (Holds P) close
  closes = keeping.closes P steps.notes steps.closed

  -- a load that leaves objects that fit, those that there were among them
  pub loads : {A : Type 0} (m : Beside Loading → Run (Beside Loading) A) (w : World) → IsFit w.own.mapping (m (loading_of w)).after.own.graph → Grows w.own.graph (m (loading_of w)).after.own.graph → P w.own → P (on_load m w).after.own
  unfolding on_load
  loads m w fit grows has = steps.loaded (m (loading_of w)).after.own w.own fit grows has

  -- ---- rollbacks

  goes_back : (depth : ℕ) → Keeps (Holds P) (go_back depth)
  goes_back depth = joined (on_store with_notes (roll_back_scope depth)) (λ u. changes (session_restored depth)) (noted (roll_back_scope depth)) (λ u. changed (session_restored depth) (steps.restored depth))

  rolls : (inside : Bool) (depth count : ℕ) → Keeps (Holds P) (go_back_if inside depth >>= λ u. changes (session_rolled_back count))
  rolls inside depth count =
      joined (go_back_if inside depth) (λ u. changes (session_rolled_back count)) (by inside) (λ u. changed (session_rolled_back count) (steps.rolled count))
    where
      by : (b : Bool) → Keeps (Holds P) (go_back_if b depth)
      by true = goes_back depth
      by false = keeps_give (Holds P) tt

  pub rolls_back : Keeps (Holds P) rollback
  unfolding rollback
  rolls_back =
      chosen (λ session. go_back_if (in_transaction session) 1 >>= λ u. changes (session_rolled_back (length session.drawn.handles))) (λ own. rolls (in_transaction own) 1 (length own.drawn.handles))

  rolls_to_place : (failed : Bool) (count : ℕ) (place : Option ℕ) → Keeps (Holds P) (roll_back_place failed count place)
  rolls_to_place failed count None = keeps_refuse (Holds P) _
  rolls_to_place failed count (Some place) = rolls (not (failed && (place == 0))) (count - place + 1) (place + 1)

  pub rolls_back_to : (handle : ℕ) → Keeps (Holds P) (rollback_handle handle)
  unfolding rollback_handle
  rolls_back_to handle =
      chosen (λ session. roll_back_place session.failed (length session.drawn.handles) (place_of_handle session.drawn handle)) (λ own. rolls_to_place own.failed (length own.drawn.handles) (place_of_handle own.drawn handle))

  -- ---- the flush

  loaded_written : (w : World) → P w.own → P (write_loaded w).after.own
  unfolding write_loaded by_own
  loaded_written w has =
      let prepared : Prepared = prepared_of w.own.mapping w.own.graph in
      keeping.prepared_written (λ own. P own × AreClearable own.mapping own.graph prepared) P (λ events own p. (steps.notes events own p.0, p.1)) (λ rows own p. (steps.warned rows own p.0, p.1)) (λ own p. p.0) prepared
      (λ rows keys own p. steps.flushed prepared rows keys own p.1 p.0) w (has, clearable w.own.mapping w.own.graph (steps.pairs w.own has))

  prepared_well : (w : World) → IsReadWell w → P w.own → P (prepare w).after.own
  unfolding prepare by_own
  prepared_well w well has = loads (read_going w.own.mapping) w well.loads.fit well.loads.grows has

  objects_written : (w : World) → IsReadWell w → P w.own → P (write_objects w).after.own
  unfolding write_objects
  objects_written w well has = goes (Holds P) prepare (λ u. write_loaded) w (prepared_well w well has) (λ u. loaded_written (prepare w).after (prepared_well w well has))

  gives_up : Keeps (Holds P) give_up
  unfolding give_up
  gives_up =
      chosen (λ session. on_store with_notes (roll_back_scope (length session.frames.scopes)) >>= λ u. changes session_failed)
      (λ own. joined (on_store with_notes (roll_back_scope (length own.frames.scopes))) (λ u. changes session_failed) (noted (roll_back_scope (length own.frames.scopes)))
      (λ u. changed session_failed steps.failed))

  -- what was read is given back first
  gives_back : (w v : World) → IsReadWell w → IsUnmoved (prepared_world w) v → P w.own → P v.own → P (give_up_to (held_in w.own.graph) v).after.own
  unfolding give_up_to changes
  gives_back w v well same has there =
      goes (Holds P) (changes (session_given_back (held_in w.own.graph))) (λ u. give_up) v given (λ u. gives_up.kept (record { own = session_given_back (held_in w.own.graph) v.own; store = v.store }) given)
    where
      given : P (session_given_back (held_in w.own.graph) v.own)
      given =
          steps.given w.own v.own (given_back (held_in w.own.graph) v.own.graph) (same.mapping ∙ prepare_mapping w)
          (subst (λ (graph : Graph). IsGivenBack w.own.graph graph (given_back (held_in w.own.graph) graph)) (sym same.graph) (given_read w well)) has there

  -- where what is read before it is read as loads read
  pub flushes_in : (w : World) → IsReadWell w → P w.own → P (flush w).after.own
  unfolding flush with_undo by_own refuse
  flushes_in w well has = by (write_objects w).answer refl
    where
      there : P (write_objects w).after.own
      there = objects_written w well has

      by : (r : Result (Unit {0}) Refusal) → (write_objects w).answer ≡ r → P (undo_on_refusal (write_objects w).events (write_objects w).after r (give_up_to (held_in w.own.graph))).after.own
      by (Ok u) is = there
      by (Err e) is =
          let v : World = (write_objects w).after in
          let back : P (give_up_to (held_in w.own.graph) v).after.own = gives_back w v well (objects_refused w e is) has there in
          goes (Holds P) (give_up_to (held_in w.own.graph)) (λ u. refuse {A = Unit {0}} e) v back (λ u. back)

  pub flushes : (w : World) → IsReadWell (enter w).after → P w.own → P (flush_now w).after.own
  unfolding flush_now
  flushes w well has = goes (Holds P) enter (λ u. flush) w (enters.kept w has) (λ u. flushes_in (enter w).after well (enters.kept w has))

  -- ---- acts behind it

  releases_many : (count : ℕ) → Keeps (Holds P) (release_many count)
  releases_many count = keeping.releases P steps.notes steps.released count

  commits_whole : Keeps (Holds P) commit_whole
  unfolding commit_whole commit_transaction
  commits_whole =
      chosen (λ session. release_many (length session.drawn.handles) >>= λ u. commit_transaction)
      (λ own. joined (release_many (length own.drawn.handles)) (λ u. commit_transaction) (releases_many (length own.drawn.handles))
      (λ u. joined (on_store with_notes call.commit) (λ u. changes session_committed) (noted call.commit) (λ u. changed session_committed steps.committed)))

  pub commits : (w : World) → IsReadWell (enter w).after → P w.own → P (acts.commit w).after.own
  unfolding acts.commit
  commits w well has = goes (Holds P) flush_now (λ u. commit_whole) w (flushes w well has) (λ u. commits_whole.kept (flush_now w).after (flushes w well has))

  pub asks_rows : (select : Select) (w : World) → IsReadWell (enter w).after → P w.own → P (acts.rows select w).after.own
  unfolding acts.rows
  asks_rows select w well has =
      goes (Holds P) flush_now (λ u. statements.rows select) w (flushes w well has) (λ u. (keeping.asks_rows P steps.notes select).kept (flush_now w).after (flushes w well has))

  -- what is asked, the flush, and an act
  acted : {A : Type 0} (asks : World → Run World (Unit {0})) (act : World → Run World A) → Keeps (Holds P) asks → Keeps (Holds P) act → (w : World) → IsReadWell (asks w).after → P w.own → P ((asks >>= λ u. (flush >>= λ u. act)) w).after.own
  acted asks act first later w well has =
      let v : World = (asks w).after in
      let there : P v.own = first.kept w has in
      goes (Holds P) asks (λ u. flush >>= λ u. act) w there (λ u. goes (Holds P) flush (λ u. act) v (flushes_in v well there) (λ u. later.kept (flush v).after (flushes_in v well there)))

  begins : Keeps (Holds P) begin_savepoint
  unfolding begin_savepoint
  begins =
      joined (on_store with_notes call.savepoint) (λ u. changes session_nested >>= λ u. by_own (λ session. give session.drawn.drawn)) (noted call.savepoint)
      (λ u. joined (changes session_nested) (λ u. by_own (λ session. give session.drawn.drawn)) (changed session_nested steps.nested) (λ u. chosen (λ session. give session.drawn.drawn) (λ own. keeps_give (Holds P) own.drawn.drawn)))

  pub begins_nested : (w : World) → IsReadWell (enter_nested w).after → P w.own → P (acts.begin_nested w).after.own
  unfolding acts.begin_nested enter_nested
  begins_nested = acted enter_nested begin_savepoint (joined enter (λ u. checked limit_fault) enters (λ u. asked limit_fault)) begins

  pub commits_handle : (handle : ℕ) (w : World) → IsReadWell (check_handle handle w).after → P w.own → P (acts.commit_handle handle w).after.own
  unfolding acts.commit_handle check_handle release_handle
  commits_handle handle =
      acted (check_handle handle) (release_handle handle) (joined (checked pending_fault) (λ u. checked (handle_fault handle)) (asked pending_fault) (λ u. asked (handle_fault handle)))
      (chosen (λ session. release_place (place_of_handle session.drawn handle)) (λ own. keeping.place_released P steps.notes steps.released (place_of_handle own.drawn handle)))

  pub sends_bulk : (statement : Bulk) (w : World) → IsReadWell (statements.enter_bulk statement w).after → P w.own → P (acts.bulk statement w).after.own
  unfolding acts.bulk statements.enter_bulk
  sends_bulk statement =
      acted (statements.enter_bulk statement) (statements.bulk statement) (joined enter (λ u. checked (statements.update_fault statement)) enters (λ u. asked (statements.update_fault statement)))
      (keeping.sends_bulk P steps.notes statement (steps.reread (table_of statement)))

  -- ---- links

  module _ (owner : ObjId) (place : RelNo) (call : LinkCall) where
    record IsOn (w : World) : Type 0 where
      has : P w.own
      on : IsLinkCall w.own.mapping w.own.graph owner place call

    changes_link : (w : World) → IsOn w → (Holds P) (changes (session_changed owner place call) w).after
    unfolding changes
    changes_link w it = steps.linked owner place call w.own it.on it.has

    pub links : (w : World) → IsLinkCall w.own.mapping w.own.graph owner place call → (Holds P) w → (Holds P) (change_link owner place call w).after
    unfolding change_link
    links w on has =
        let v : World = (enter w).after in
        let entered : IsOn v = record {
          has = enters.kept w has;
          on = subst (λ (m : Mapped). IsLinkCall m v.own.graph owner place call) (sym (entered_mapping w)) (subst (λ (g : Graph). IsLinkCall w.own.mapping g owner place call) (sym (entered_graph w)) on);
        } in
        (led_then (Holds P) IsOn (Holds P) enter (λ u. change_inside owner place call) w (record { here = entered.has; told = λ u is. entered })
        (λ u it.
        led_then (Holds P) IsOn (Holds P) (checked (change_fault owner place call)) (λ u. changes (session_changed owner place call)) v (led_checked (Holds P) IsOn (change_fault owner place call) v it.has (λ none. it))
        (λ u ready. let done = changes_link (checked (change_fault owner place call) v).after ready in record { here = done; told = λ u is. done }))).here

  -- ---- values

  module _ (object : ObjId) (attr : AttrNo) (value : Value) where
    -- the attribute is one of the object, of which the value is taken
    record IsTaken (mapped : Mapped) (graph : Graph) : Type 0 where
      inside : IsAttribute mapped (object_at graph object).class attr
      none : value_fault mapped (object_at graph object) attr value ≡ None

    puts : (w : World) → IsTaken w.own.mapping w.own.graph → (Holds P) w → (Holds P) (on_own (value_put object attr value) w).after
    unfolding on_own
    puts w taken has = steps.put object attr value w.own taken.inside taken.none has

    record IsAttr (w : World) : Type 0 where
      has : P w.own
      inside : IsAttribute w.own.mapping (object_at w.own.graph object).class attr

    enters_attr : (w : World) → IsAttr w → IsAttr (enter w).after
    enters_attr w it = record {
      has = enters.kept w it.has;
      inside = subst (λ (m : Mapped). IsAttribute m (object_at (enter w).after.own.graph object).class attr) (sym (entered_mapping w)) (subst (λ (g : Graph). IsAttribute w.own.mapping (object_at g object).class attr) (sym (entered_graph w)) it.inside);
    }

    puts_fitting : (w : World) → IsTaken w.own.mapping w.own.graph → (Holds P) w → (Holds P) (set_fitting object attr value w).after
    puts_fitting w taken has =
        (led_then (Holds P) (Holds P) (Holds P) enter (λ u. on_own (value_put object attr value)) w (record { here = enters.kept w has; told = λ u is. enters.kept w has })
        (λ u entered.
        let v : World = (enter w).after in
        let there : IsTaken v.own.mapping v.own.graph = subst (λ (m : Mapped). IsTaken m v.own.graph) (sym (entered_mapping w)) (subst (λ (g : Graph). IsTaken w.own.mapping g) (sym (entered_graph w)) taken) in
        let done = puts v there entered in
        record { here = done; told = λ u is. done })).here

    sets_cell : (w : World) → IsAttr w → (Holds P) (set_cell object attr value w).after
    unfolding set_cell
    sets_cell w it =
        let fault : SessionState → Option Refusal = λ session. value_fault session.mapping (object_at session.graph object) attr value in
        (led_then (Holds P) (λ v. IsTaken v.own.mapping v.own.graph × (Holds P) v) (Holds P) (checked fault) (λ u. set_fitting object attr value) w
        (led_checked (Holds P) (λ v. IsTaken v.own.mapping v.own.graph × (Holds P) v) fault w it.has (λ none. (record { inside = it.inside; none = none }, it.has)))
        (λ u both. let done = puts_fitting (checked fault w).after both.0 both.1 in record { here = done; told = λ u is. done })).here

    pub sets : (rules : Rules) (w : World) → IsAttribute w.own.mapping (object_at w.own.graph object).class attr → (Holds P) w → (Holds P) (set_valid rules object attr value w).after
    unfolding set_valid
    sets rules w inside has =
        let all : IsAttr w = record { has = has; inside = inside } in
        (led_then (Holds P) IsAttr (Holds P) (checked (value_invalid rules object attr value)) (λ u. set_judged object attr value) w (led_checked (Holds P) IsAttr (value_invalid rules object attr value) w has (λ none. all))
        (λ u it.
        let v : World = (checked (value_invalid rules object attr value) w).after in
        let entered : IsAttr (enter v).after = enters_attr v it in
        led_then (Holds P) IsAttr (Holds P) enter (λ u. set_inside object attr value) v (record { here = entered.has; told = λ u is. entered })
        (λ u inside.
        let x : World = (enter v).after in
        led_then (Holds P) IsAttr (Holds P) (checked (cell_kept object attr)) (λ u. set_cell object attr value) x (led_checked (Holds P) IsAttr (cell_kept object attr) x inside.has (λ none. inside))
        (λ u ready. let done = sets_cell (checked (cell_kept object attr) x).after ready in record { here = done; told = λ u is. done })))).here
