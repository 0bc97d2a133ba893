-- What a flush that answered has sent is the statements of its plan.
use Rattle.std.proofs.Common.{◌≡◌, Bool, true, false, List, [], ◌∷◌, ◌++◌, Result, Ok, Err, refl, sym, ap, ◌∙◌}
use Rattle.std.specs.List.{flat_map}
use Rattle.std.proofs.lemmas.List.{append-nil}
use Rattle.std.proofs.lemmas.List.Concat.{flat_map-append}
use Rattle.base_core.specs.declared.refusal.Refusal.{Refusal}
use Rattle.base_core.specs.declared.value.Value.{Value}
use Rattle.schema_core.specs.declared.changes.Planned.{Planned}
use Rattle.schema_core.specs.declared.changes.RowChanges.{RowChanges}
use Rattle.schema_core.specs.declared.statement.RowStmt.{RowStmt}
use Rattle.schema_core.specs.Apply.{Outcome, apply}
use Rattle.schema_core.specs.Catalog.{Catalog}
use Rattle.flush_plan.specs.Flushing.{Flushed, Keys, statement_sent, was_missing}
use Rattle.flush_plan.specs.Planning.{plan}
use Rattle.object_rows.specs.declared.prepared.Prepared.{Prepared}
use Rattle.row_project.specs.Changes.{project}
use Rattle.keeper_core.specs.declared.sent.Sent.{Sent}
use Rattle.keeper_core.specs.declared.sent.Sent.TheVariants.{Write}
use Rattle.keeper_core.specs.Calls as call
use Rattle.keeper_core.specs.Calls.{run_of_write}
use Rattle.keeper_core.specs.Programs.{Run, ◌>>=◌, ask, continue_from, each, give, refuse, undo_on_refusal, with_undo}
use Rattle.keeper_core.specs.Beside.{by_own, changes, on_own, on_store}
use Rattle.session_scopes.specs.SessionState.{with_notes, with_warnings}
use Rattle.session_calls.specs.Parts.{World}
use Rattle.plan_statements.specs.Known.{is_sendable}
use Rattle.session_statements.specs.Run.{keys_by_place, keys_unless, send_one, send_plan, write_if}
use Rattle.object_records.specs.Kept.{held_in}
use Rattle.prepared_objects.specs.Leaving.{prepared_of}
use Rattle.session_acts.specs.Flush.{flush, give_up_to, prepare, session_flushed, write_loaded, write_objects, write_prepared, write_rows, write_warned}
use Rattle.session_laws.specs.Flushes.{prepared_world}
use Rattle.session_acts.specs.Outcome.{changes_of}
use Rattle.session_laws.specs.Flushes.{sent_by, statements_sent}
use Rattle.session_laws.proofs.Flushes.Answered.{IsDone, IsJoined, done_of, joined_of}
use Rattle.session_laws.proofs.Flushes.Sending.{sent_one, sofar_of}

-- what the run sends
abbrev sent_in : {A : Type 0} → Run World A → List Sent
sent_in run = flat_map sent_by run.events

-- a program that went on from an answer sent what both parts send
both_sent : {A B : Type 0} (m : World → Run World A) (next : A → World → Run World B) (w : World) (a : A) → (m w).answer ≡ Ok a → sent_in ((m >>= next) w) ≡ sent_in (m w) ++ sent_in (next a (m w).after)
unfolding ◌>>=◌
both_sent {A} {B} m next w a is =
    ap (λ (r : Result A Refusal). sent_in (continue_from (m w).events (m w).after r next)) is ∙ flat_map-append sent_by (m w).events (next a (m w).after).events

-- and what the first part sends, where the second sends nothing
first_sent : {A B : Type 0} (m : World → Run World A) (next : A → World → Run World B) (w : World) (a : A) → (m w).answer ≡ Ok a → sent_in (next a (m w).after) ≡ [] → sent_in ((m >>= next) w) ≡ sent_in (m w)
first_sent m next w a is none = both_sent m next w a is ∙ ap (λ (sent : List Sent). sent_in (m w) ++ sent) none ∙ append-nil (sent_in (m w))

-- and what the second part sends, where the first sends nothing
second_sent : {A B : Type 0} (m : World → Run World A) (next : A → World → Run World B) (w : World) (a : A) → (m w).answer ≡ Ok a → sent_in (m w) ≡ [] → sent_in ((m >>= next) w) ≡ sent_in (next a (m w).after)
second_sent m next w a is none = both_sent m next w a is ∙ ap (λ (sent : List Sent). sent ++ sent_in (next a (m w).after)) none

module _ (schema : Catalog) (rows : RowChanges) where
  keys_quiet : (b : Bool) (planned : Planned) (keys : Keys) (answered : List (List Value)) (w : World) → sent_in (keys_unless b planned keys answered w) ≡ []
  unfolding give refuse
  keys_quiet true planned keys answered w = refl
  keys_quiet false planned keys answered w = refl

  write_sent : (statement : RowStmt) (w : World) → sent_in (on_store with_notes (call.write schema statement) w) ≡ Write statement ∷ []
  unfolding on_store call.write
  write_sent statement w = by (apply schema w.store.tables statement)
    where
      by : (outcome : Outcome) → flat_map sent_by (run_of_write statement outcome w.store).events ≡ Write statement ∷ []
      by (Ok done) = refl
      by (Err violation) = refl

  one_if : (planned : Planned) (b : Bool) (keys last : Keys) (w : World) → (write_if b schema rows planned keys w).answer ≡ Ok last → sent_in (write_if b schema rows planned keys w) ≡ Write (statement_sent schema rows keys planned) ∷ []
  unfolding refuse
  one_if planned false keys last w is = absurd cc
  one_if planned true keys last w is =
      let statement : RowStmt = statement_sent schema rows keys planned in
      let send : World → Run World (List (List Value)) = on_store with_notes (call.write schema statement) in
      let next : List (List Value) → World → Run World Keys = λ answered. keys_unless (was_missing schema rows planned answered) planned keys answered in
      let joined : IsJoined send next w last = joined_of send next w last is in
      first_sent send next w joined.middle joined.first (keys_quiet (was_missing schema rows planned joined.middle) planned keys joined.middle (send w).after) ∙ write_sent statement w

  one_told : (planned : Planned) (keys last : Keys) (w : World) → (send_one schema rows planned keys w).answer ≡ Ok last → sent_in (send_one schema rows planned keys w) ≡ Write (statement_sent schema rows keys planned) ∷ []
  unfolding send_one
  one_told planned keys last w is = one_if planned (is_sendable schema rows keys planned) keys last w is

  -- all of a plan, statement by statement
  all_told : (plan : List Planned) (keys last : Keys) (w : World) → (each (send_one schema rows) keys plan w).answer ≡ Ok last → sent_in (each (send_one schema rows) keys plan w) ≡ statements_sent schema rows (Ok (sofar_of w keys)) plan
  unfolding each give
  all_told [] keys last w is = refl
  all_told (planned ∷ plan) keys last w is =
      let statement : Sent = Write (statement_sent schema rows keys planned) in
      let next : Keys → World → Run World Keys = λ t. each (send_one schema rows) t plan in
      let joined : IsJoined (send_one schema rows planned keys) next w last = joined_of (send_one schema rows planned keys) next w last is in
      let u : World = (send_one schema rows planned keys w).after in
      both_sent (send_one schema rows planned keys) next w joined.middle joined.first
      ∙ ap (λ (sent : List Sent). sent ++ sent_in (next joined.middle u)) (one_told planned keys joined.middle w joined.first)
      ∙ ap (λ (sent : List Sent). statement ∷ sent) (all_told plan joined.middle last u joined.second)
      ∙ ap (λ (f : Flushed). statement ∷ statements_sent schema rows f plan) (sym (sent_one schema rows planned keys joined.middle w joined.first))

  plan_told : (statements : List Planned) (keys : List (List Value)) (w : World) → (send_plan schema rows statements w).answer ≡ Ok keys → sent_in (send_plan schema rows statements w) ≡ statements_sent schema rows (Ok (sofar_of w [])) statements
  unfolding send_plan give
  plan_told statements keys w is =
      let run : World → Run World Keys = each (send_one schema rows) [] statements in
      let next : Keys → World → Run World (List (List Value)) = λ known. give (keys_by_place rows known) in
      let joined : IsJoined run next w keys = joined_of run next w keys is in
      first_sent run next w joined.middle joined.first refl ∙ all_told statements [] joined.middle w joined.first

-- the run sends the plan of the changes
abbrev IsTold : RowChanges → World → Run World (Unit {0}) → Type 0
IsTold rows w run =
    (statements : List Planned) × (plan w.own.mapping.schema rows ≡ Ok statements) × (sent_in run ≡ statements_sent w.own.mapping.schema rows (Ok (sofar_of w [])) statements)

module _ (prepared : Prepared) (rows : RowChanges) where
  after_plan : (w : World) (statements : List Planned)
      → ((by_own (λ session. send_plan session.mapping.schema rows statements) >>= λ keys. changes (session_flushed prepared rows keys)) w).answer ≡ Ok tt
      → sent_in ((by_own (λ session. send_plan session.mapping.schema rows statements) >>= λ keys. changes (session_flushed prepared rows keys)) w) ≡ statements_sent w.own.mapping.schema rows (Ok (sofar_of w [])) statements
  unfolding by_own changes
  after_plan w statements answered =
      let send : World → Run World (List (List Value)) = by_own (λ session. send_plan session.mapping.schema rows statements) in
      let next : List (List Value) → World → Run World (Unit {0}) = λ keys. changes (session_flushed prepared rows keys) in
      let joined : IsJoined send next w tt = joined_of send next w tt answered in
      first_sent send next w joined.middle joined.first refl ∙ plan_told w.own.mapping.schema rows statements joined.middle w joined.first

  rows_told : (w : World) → (write_rows prepared rows w).answer ≡ Ok tt → IsTold rows w (write_rows prepared rows w)
  unfolding write_rows on_own ask
  rows_told w is =
      let asked : World → Run World (List Planned) = on_own (ask (λ session. plan session.mapping.schema rows)) in
      let next : List Planned → World → Run World (Unit {0}) = λ statements. by_own (λ session. send_plan session.mapping.schema rows statements) >>= λ keys. changes (session_flushed prepared rows keys) in
      let joined : IsJoined asked next w tt = joined_of asked next w tt is in
      (joined.middle, joined.first, second_sent asked next w joined.middle joined.first refl ∙ after_plan w joined.middle joined.second)

  warned_told : (w : World) → (write_warned prepared rows w).answer ≡ Ok tt → IsTold rows w (write_warned prepared rows w)
  unfolding write_warned changes
  warned_told w is =
      let warn : World → Run World (Unit {0}) = changes (with_warnings rows.warnings) in
      let next : Unit {0} → World → Run World (Unit {0}) = λ u. write_rows prepared rows in
      let joined : IsJoined warn next w tt = joined_of warn next w tt is in
      let sent : IsTold rows w (write_rows prepared rows (warn w).after) = rows_told (warn w).after joined.second in
      (sent.0, sent.1, second_sent warn next w tt refl refl ∙ sent.2)

prepared_told : (prepared : Prepared) (w : World) → (write_prepared prepared w).answer ≡ Ok tt → IsTold (project w.own.mapping w.own.graph prepared) w (write_prepared prepared w)
unfolding write_prepared by_own
prepared_told prepared w is = warned_told prepared (project w.own.mapping w.own.graph prepared) w is

-- the run sends what was sent first, and the plan of the changes of the session that is prepared
abbrev IsToldBehind : World → World → Run World (Unit {0}) → Type 0
IsToldBehind w mid run =
    (statements : List Planned) × (plan mid.own.mapping.schema (changes_of mid.own) ≡ Ok statements)
    × (sent_in run ≡ sent_in (prepare w) ++ statements_sent mid.own.mapping.schema (changes_of mid.own) (Ok (sofar_of mid [])) statements)

objects_told : (w : World) → (write_objects w).answer ≡ Ok tt → IsToldBehind w (prepared_world w) (write_objects w)
unfolding write_objects write_loaded by_own
objects_told w is =
    let mid : World = prepared_world w in
    let joined : IsJoined prepare (λ u. write_loaded) w tt = joined_of prepare (λ u. write_loaded) w tt is in
    let sent : IsTold (changes_of mid.own) mid (write_loaded mid) = prepared_told (prepared_of mid.own.mapping mid.own.graph) mid joined.second in
    (sent.0, sent.1, both_sent prepare (λ u. write_loaded) w tt joined.first ∙ ap (λ (behind : List Sent). sent_in (prepare w) ++ behind) sent.2)

pub flush_told : (w : World) → (flush w).answer ≡ Ok tt → IsToldBehind w (prepared_world w) (flush w)
unfolding flush with_undo by_own
flush_told w is =
    let undo : World → Run World (Unit {0}) = give_up_to (held_in w.own.graph) in
    let done : IsDone write_objects undo w tt = done_of write_objects undo w tt is in
    let sent : IsToldBehind w (prepared_world w) (write_objects w) = objects_told w done.answer in
    (sent.0, sent.1, ap (λ (r : Result (Unit {0}) Refusal). sent_in (undo_on_refusal (write_objects w).events (write_objects w).after r undo)) done.answer ∙ sent.2)
