-- No flush is refused as not built.
use Rattle.std.proofs.Common.{◌≡◌, ℕ, ◌-◌, Bool, true, false, List, [], ◌∷◌, length, Result, Ok, Err, refl, sym, ap, ◌∙◌}
use Rattle.std.specs.Prelude.{◌==◌, if◌then◌else◌}
use Rattle.base_core.specs.declared.ids.TableId.{TableId}
use Rattle.base_core.specs.declared.refusal.Refusal.{Refusal}
use Rattle.base_core.specs.declared.refusal.Refusal.TheVariants.{NotBuilt, PendingRollbackError}
use Rattle.base_core.specs.declared.value.Value.{Value}
use Rattle.schema_core.specs.declared.changes.Planned.{Planned}
use Rattle.schema_core.specs.declared.changes.RowChanges.{RowChanges}
use Rattle.schema_core.specs.declared.statement.RowStmt.{RowStmt}
use Rattle.schema_core.specs.declared.statement.Violation.{Violation}
use Rattle.schema_core.specs.declared.statement.Violation.TheVariants as violations
use Rattle.schema_core.specs.Apply.{Outcome, apply, table_of}
use Rattle.schema_core.specs.Catalog.{Catalog}
use Rattle.schema_core.specs.Refusals.{violation_refusal}
use Rattle.flush_order.specs.Orders.{delete_order, gone_rows, insert_order}
use Rattle.flush_plan.specs.Flushing.{Keys, statement_sent, was_missing}
use Rattle.flush_plan.specs.Planning.{plan, unless_gone_cycle, unless_new_cycle}
use Rattle.object_rows.specs.declared.prepared.Prepared.{Prepared}
use Rattle.keeper_core.specs.Calls as call
use Rattle.keeper_core.specs.Calls.{run_of_write}
use Rattle.keeper_core.specs.Programs.{Event, Run, ◌>>=◌, ask, each, give, refuse, undo_on_refusal, with_undo}
use Rattle.keeper_core.specs.Beside.{by_own, changes, on_own, on_store}
use Rattle.session_scopes.specs.Scoping.{session_failed}
use Rattle.session_scopes.specs.SessionState.{in_transaction, with_notes, with_warnings}
use Rattle.session_calls.specs.Parts.{World, checked, fault_if, roll_back_scope, unless}
use Rattle.session_calls.specs.Steps.{begin_unless, enter}
use Rattle.plan_statements.specs.Known.{is_sendable}
use Rattle.session_statements.specs.Run.{keys_by_place, keys_unless, send_one, send_plan, write_if}
use Rattle.object_records.specs.declared.kept.Held.{Held}
use Rattle.object_records.specs.Kept.{held_in}
use Rattle.prepared_objects.specs.Leaving.{prepared_of}
use Rattle.session_scopes.specs.Keeping.{session_given_back}
use Rattle.session_acts.specs.Flush.{flush, give_up, give_up_to, prepare, session_flushed, write_loaded, write_objects, write_prepared, write_rows, write_warned}
use Rattle.session_acts.specs.Outcome.{changes_of}
use Rattle.session_acts.specs.Steps.{flush_now}
use Rattle.session_laws.specs.Complete.{FlushesAreBuilt}
use Rattle.session_laws.specs.Flushes.{AreSendable, prepared_world}
use Rattle.session_laws.specs.Plans.Laws.{before}
use Rattle.session_laws.specs.Preparing.{IsReadable, PreparationsKnowAll, PreparationsLeaveReread}
use Rattle.session_laws.specs.Sendable.{ChangesFit, FitPlansAreSendable}
use Rattle.session_laws.specs.Sound.{IsSound}
use Rattle.session_laws.proofs.Whole.Reads.{enter_readable}
use Rattle.session_laws.proofs.Complete.Answering.{enter_answers}
use Rattle.session_laws.proofs.Complete.Opened.{stands_read}
use Rattle.session_laws.proofs.Complete.Reads.{IsBuilt, built_changes, built_then, prepare_built}
use Rattle.session_laws.proofs.Complete.Written.{sendable_then}
use Rattle.session_laws.proofs.Flushes.Sending.{sent_one, sofar_of}
use Rattle.session_laws.proofs.OwnRows.Standing.{hierarchies, own_rows}
use Rattle.session_laws.proofs.Preparing.{prepare_readable}
use Rattle.session_laws.proofs.Sound.Beginning.{enter_sound, entered_open}

-- ---- answers

-- what answers is not refused
answered : {A : Type 0} (r : Result A Refusal) (a : A) → r ≡ Ok a → r ≡ Err NotBuilt → ⊥
answered r a answers is = let never : Ok a ≡ Err NotBuilt = sym answers ∙ is in cc

-- nor is what is refused otherwise
other_refusal : {A : Type 0} (d : Refusal) (r : Result A Refusal) → r ≡ Err d → (d ≡ NotBuilt → ⊥) → r ≡ Err NotBuilt → ⊥
other_refusal {A} d r refused other is =
    let both : (let one : Result A Refusal = Err d in one ≡ Err NotBuilt) = sym refused ∙ is in
    let same : d ≡ NotBuilt = cc in
    other same

-- ---- one statement

by_violation : (table : TableId) (violation : Violation) → violation_refusal table violation ≡ NotBuilt → ⊥
by_violation table (violations.NoTable absent) is = cc
by_violation table violations.Missing is = cc
by_violation table violations.NotNull is = cc
by_violation table violations.KeysSpent is = cc
by_violation table violations.PrimaryKey is = cc
by_violation table violations.Unique is = cc
by_violation table violations.Foreign is = cc

module _ (schema : Catalog) (rows : RowChanges) where
  write_built : (statement : RowStmt) (w : World) → IsBuilt (on_store with_notes (call.write schema statement) w)
  unfolding on_store call.write
  write_built statement w = by (apply schema w.store.tables statement)
    where
      by : (outcome : Outcome) → (run_of_write statement outcome w.store).answer ≡ Err NotBuilt → ⊥
      by (Ok done) is = cc
      by (Err violation) is = let same : violation_refusal (table_of statement) violation ≡ NotBuilt = cc in by_violation (table_of statement) violation same

  keys_built : (planned : Planned) (b : Bool) (keys : Keys) (given : List (List Value)) (w : World) → IsBuilt (keys_unless b planned keys given w)
  unfolding give refuse
  keys_built planned true keys given w is = cc
  keys_built planned false keys given w is = cc

  fitting_built : (planned : Planned) (keys : Keys) (b : Bool) (w : World) → b ≡ true → IsBuilt (write_if b schema rows planned keys w)
  fitting_built planned keys false w fits = absurd cc
  fitting_built planned keys true w fits =
      let statement : RowStmt = statement_sent schema rows keys planned in
      built_then (on_store with_notes (call.write schema statement)) (λ given. keys_unless (was_missing schema rows planned given) planned keys given) w (write_built statement w)
      (λ given is. keys_built planned (was_missing schema rows planned given) keys given (on_store with_notes (call.write schema statement) w).after)

  one_built : (planned : Planned) (keys : Keys) (w : World) → is_sendable schema rows keys planned ≡ true → IsBuilt (send_one schema rows planned keys w)
  unfolding send_one
  one_built planned keys w fits = fitting_built planned keys (is_sendable schema rows keys planned) w fits

  -- ---- the plan

  all_built : (plan : List Planned) (keys : Keys) (w : World) → AreSendable schema rows (sofar_of w keys) plan → IsBuilt (each (send_one schema rows) keys plan w)
  unfolding each give
  all_built [] keys w fit is = cc
  all_built (planned ∷ plan) keys w fit is =
      built_then (send_one schema rows planned keys) (λ t. each (send_one schema rows) t plan) w (one_built planned keys w fit.0)
      (λ last sent. all_built plan last (send_one schema rows planned keys w).after (fit.1 (sofar_of (send_one schema rows planned keys w).after last) (sent_one schema rows planned keys last w sent))) is

  plan_built : (statements : List Planned) (w : World) → AreSendable schema rows (sofar_of w []) statements → IsBuilt (send_plan schema rows statements w)
  unfolding send_plan give
  plan_built statements w fit =
      built_then (each (send_one schema rows) [] statements) (λ keys. give (keys_by_place rows keys)) w (all_built statements [] w fit)
      (λ keys is refused. cc)

  gone_built : (order : List ℕ) (gone : Result (List ℕ) (List ℕ)) → unless_gone_cycle schema rows order gone ≡ Err NotBuilt → ⊥
  gone_built order (Ok places) is = cc
  gone_built order (Err places) is = cc

  new_built : (order : Result (List ℕ) (List ℕ)) → unless_new_cycle schema rows order ≡ Err NotBuilt → ⊥
  new_built (Ok places) is = gone_built places (delete_order schema rows (gone_rows schema rows)) is
  new_built (Err places) is = cc

  -- a plan that is not there has a cycle
  planned_built : plan schema rows ≡ Err NotBuilt → ⊥
  unfolding plan
  planned_built is = new_built (insert_order schema rows) is

-- ---- the flush

-- the statements of the plan of the changes fit when they are sent
abbrev AreFit : RowChanges → World → Type 0
AreFit rows w = (statements : List Planned) → plan w.own.mapping.schema rows ≡ Ok statements → AreSendable w.own.mapping.schema rows (sofar_of w []) statements

rows_built : (prepared : Prepared) (rows : RowChanges) (w : World) → AreFit rows w → IsBuilt (write_rows prepared rows w)
unfolding write_rows on_own ask by_own changes
rows_built prepared rows w fit =
    let send : List Planned → World → Run World (List (List Value)) = λ statements. by_own (λ session. send_plan session.mapping.schema rows statements) in
    built_then (on_own (ask (λ session. plan session.mapping.schema rows))) (λ statements. send statements >>= λ keys. changes (session_flushed prepared rows keys)) w
    (planned_built w.own.mapping.schema rows)
    (λ statements is. built_then (send statements) (λ keys. changes (session_flushed prepared rows keys)) w (plan_built w.own.mapping.schema rows statements w (fit statements is))
    (λ keys sent refused. cc))

warned_built : (prepared : Prepared) (rows : RowChanges) (w : World) → AreFit rows w → IsBuilt (write_warned prepared rows w)
unfolding write_warned changes
warned_built prepared rows w fit =
    built_then (changes (with_warnings rows.warnings)) (λ u. write_rows prepared rows) w (λ refused. cc)
    (λ u is. rows_built prepared rows (changes (with_warnings rows.warnings) w).after fit)

loaded_built : (w : World) → AreFit (changes_of w.own) w → IsBuilt (write_loaded w)
unfolding write_loaded write_prepared by_own
loaded_built w fit = warned_built (prepared_of w.own.mapping w.own.graph) (changes_of w.own) w fit

-- what a session changes that is prepared fits the schema
abbrev IsFitBehind : World → Type 0
IsFitBehind w = (prepare w).answer ≡ Ok tt → AreFit (changes_of (prepared_world w).own) (prepared_world w)

objects_built : (w : World) → IsFitBehind w → IsBuilt (write_objects w)
unfolding write_objects
objects_built w fit = built_then prepare (λ u. write_loaded) w (prepare_built w) (λ u is. loaded_built (prepared_world w) (fit is))

-- a scope that is given up is gone back to
gone_back : (first : Bool) (depth : ℕ) (w : World) → (on_store with_notes (if first then call.rollback else call.rollback_to depth) w).answer ≡ Ok tt
unfolding on_store call.rollback call.rollback_to
gone_back true depth w = refl
gone_back false depth w = refl

given_up : (w : World) → IsBuilt (give_up w)
unfolding give_up by_own changes
given_up w =
    let depth : ℕ = length w.own.frames.scopes in
    built_then (on_store with_notes (roll_back_scope depth)) (λ u. changes session_failed) w (answered (on_store with_notes (roll_back_scope depth) w).answer tt (gone_back (depth == 1) (depth - 1) w)) (λ u is refused. cc)

module _ (held : List Held) where
  up_built : (w : World) → IsBuilt (give_up_to held w)
  unfolding give_up_to
  up_built w = built_then (changes (session_given_back held)) (λ u. give_up) w (built_changes (session_given_back held) w) (λ u is. given_up (changes (session_given_back held) w).after)

  undone_built : (events : List Event) (w : World) (r : Result (Unit {0}) Refusal) → (r ≡ Err NotBuilt → ⊥) → IsBuilt (undo_on_refusal events w r (give_up_to held))
  unfolding refuse
  undone_built events w (Ok u) never is = cc
  undone_built events w (Err e) never is =
      built_then (give_up_to held) (λ u. refuse e) w (up_built w) (λ u undone refused. let same : e ≡ NotBuilt = cc in never (ap (λ (d : Refusal). Err d) same)) is

inside_built : (w : World) → IsFitBehind w → IsBuilt (flush w)
unfolding flush with_undo by_own
inside_built w fit = undone_built (held_in w.own.graph) (write_objects w).events (write_objects w).after (write_objects w).answer (objects_built w fit)

-- ---- the call

-- while a rollback is awaited nothing begins
unless_refused : (failed : Bool) (w : World) → failed ≡ true → ((unless (fault_if failed PendingRollbackError) >>= λ u. by_own (λ session. begin_unless (in_transaction session))) w).answer ≡ Err PendingRollbackError
unfolding ◌>>=◌ refuse
unless_refused true w is = refl
unless_refused false w is = absurd cc

enter_refused : (w : World) → w.own.failed ≡ true → (enter w).answer ≡ Err PendingRollbackError
unfolding enter checked by_own ◌>>=◌
enter_refused w is = unless_refused w.own.failed w is

entered_built : (w : World) → IsBuilt (enter w)
entered_built w = by w.own.failed refl
  where
    by : (failed : Bool) → w.own.failed ≡ failed → (enter w).answer ≡ Err NotBuilt → ⊥
    by false is = answered (enter w).answer tt (enter_answers w is)
    by true is = other_refusal PendingRollbackError (enter w).answer (enter_refused w is) (λ same. cc)

module _ (reads : PreparationsLeaveReread) (knows : PreparationsKnowAll) (sendable : FitPlansAreSendable) (fits : ChangesFit) where
  -- what the objects change, once they are prepared, fits the schema when it is sent
  fit_inside : (w : World) → in_transaction w.own ≡ true → IsReadable w → IsSound w → IsFitBehind w
  fit_inside w inside can sound prepared statements planned =
      let mid : World = prepared_world w in
      let decided : Prepared = prepared_of mid.own.mapping mid.own.graph in
      let readable : IsReadable mid = prepare_readable reads w can in
      let own = own_rows mid.own.mapping mid.own.graph decided mid.store.tables (stands_read reads knows w inside can sound prepared) in
      sendable_then mid.own.mapping.schema (changes_of mid.own) statements (before mid.store.tables)
      (sendable mid.own.mapping.schema (changes_of mid.own) statements mid.store.tables
      (fits mid.own.mapping mid.own.graph decided readable.well (hierarchies mid.own.mapping readable.well) own.fit readable.one own.keyed) planned)

  pub flush_built : FlushesAreBuilt
  unfolding flush_now
  flush_built w can sound is =
      built_then enter (λ u. flush) w (entered_built w) (λ u entered. inside_built (enter w).after (fit_inside (enter w).after (entered_open w u entered) (enter_readable w can) (enter_sound w sound))) is
