-- A flush each of whose statements fits and is accepted answers.
use Rattle.std.proofs.Common.{◌≡◌, Bool, true, false, List, [], ◌∷◌, Result, Ok, Err, refl, sym, ap, ◌∙◌, subst}
use Rattle.std.specs.Prelude.{if◌then◌else◌}
use Rattle.base_core.specs.declared.refusal.Refusal.{Refusal}
use Rattle.base_core.specs.declared.value.Value.{Value}
use Rattle.base_core.specs.declared.ids.TableId.{TableId}
use Rattle.schema_core.specs.declared.changes.Planned.{Planned}
use Rattle.schema_core.specs.declared.changes.RowChanges.{RowChanges}
use Rattle.schema_core.specs.declared.statement.RowStmt.{RowStmt}
use Rattle.schema_core.specs.declared.statement.Violation.{Violation}
use Rattle.schema_core.specs.declared.statement.Violation.TheVariants.{Missing}
use Rattle.schema_core.specs.Apply.{Outcome, apply}
use Rattle.schema_core.specs.Catalog.{Catalog}
use Rattle.schema_core.specs.Tables.{Tables}
use Rattle.flush_plan.specs.Flushing.{Flushed, Keys, Sofar, after_outcome, keys_then, send, send_all, statement_sent, table_of, was_missing}
use Rattle.flush_plan.specs.Planning.{plan}
use Rattle.object_rows.specs.declared.prepared.Prepared.{Prepared}
use Rattle.keeper_core.specs.Programs.{Run, ◌>>=◌, ask, continue_from, each, give, undo_on_refusal, with_undo}
use Rattle.keeper_core.specs.Beside.{by_own, changes, on_own, on_store}
use Rattle.keeper_core.specs.Calls as call
use Rattle.keeper_core.specs.Calls.{run_of_write}
use Rattle.session_scopes.specs.SessionState.{with_notes, with_warnings}
use Rattle.session_calls.specs.Parts.{World}
use Rattle.plan_statements.specs.Known.{is_sendable}
use Rattle.session_statements.specs.Run.{keys_by_place, keys_unless, send_one, send_plan, write_if}
use Rattle.object_records.specs.Kept.{held_in}
use Rattle.prepared_objects.specs.Leaving.{prepared_of}
use Rattle.session_acts.specs.Flush.{flush, give_up_to, prepare, session_flushed, write_loaded, write_objects, write_prepared, write_rows, write_warned}
use Rattle.session_acts.specs.Outcome.{changes_of}
use Rattle.session_laws.specs.Flushes.{AnswersWhereAccepted, AreSendable, prepared_world}
use Rattle.session_laws.proofs.Flushes.Sending.{sofar_of}

-- a program answers this, and leaves these tables
record Answers {A : Type 0} (run : Run World A) (a : A) (left : Tables) : Type 0 where
  answer : run.answer ≡ Ok a
  tables : run.after.store.tables ≡ left

-- what goes on from an answer answers where the rest does
goes_on : {A B : Type 0} (m : World → Run World A) (next : A → World → Run World B) (w : World) (a : A) (b : B) (tables : Tables) → (m w).answer ≡ Ok a → Answers (next a (m w).after) b tables → Answers ((m >>= next) w) b tables
unfolding ◌>>=◌
goes_on {A} {B} m next w a b tables is rest =
    subst (λ (r : Result A Refusal). Answers (continue_from (m w).events (m w).after r next) b tables) (sym is) (record { answer = rest.answer; tables = rest.tables })

module _ (schema : Catalog) (rows : RowChanges) where
  known : (planned : Planned) (b : Bool) (keys : Keys) (answered : List (List Value)) (next : Sofar) (w : World)
      → (let told : Flushed = (if b then Err (table_of planned, Missing) else Ok (record { tables = w.store.tables; keys = keys_then keys planned answered })) in told ≡ Ok next) → Answers (keys_unless b planned keys answered w) next.keys next.tables
  unfolding give
  known planned true keys answered next w is = absurd cc
  known planned false keys answered next w is =
      let same : record { tables = w.store.tables; keys = keys_then keys planned answered } ≡ next = cc in record { answer = ap (λ (s : Sofar). Ok s.keys) same; tables = ap (λ (s : Sofar). s.tables) same }

  wrote : (planned : Planned) (keys : Keys) (next : Sofar) (w : World) → after_outcome schema rows (sofar_of w keys) planned (apply schema w.store.tables (statement_sent schema rows keys planned)) ≡ Ok next
      → Answers (write_if true schema rows planned keys w) next.keys next.tables
  unfolding ◌>>=◌ on_store call.write
  wrote planned keys next w is = by (apply schema w.store.tables statement) is
    where
      statement : RowStmt
      statement = statement_sent schema rows keys planned

      by : (outcome : Outcome) → after_outcome schema rows (sofar_of w keys) planned outcome ≡ Ok next
          → (let run = run_of_write statement outcome w.store in
          Answers (continue_from run.events (record { own = with_notes run.events w.own; store = run.after }) run.answer (λ answered. keys_unless (was_missing schema rows planned answered) planned keys answered)) next.keys next.tables)
      by (Err violation) told = absurd cc
      by (Ok done) told =
          let went = known planned (was_missing schema rows planned done.0) keys done.0 next (record { own = with_notes (run_of_write statement (Ok done) w.store).events w.own; store = record { tables = done.1; scopes = w.store.scopes } }) told in
          record { answer = went.answer; tables = went.tables }

  sends_one : (planned : Planned) (keys : Keys) (next : Sofar) (w : World) → is_sendable schema rows keys planned ≡ true → send schema rows (sofar_of w keys) planned ≡ Ok next → Answers (send_one schema rows planned keys w) next.keys next.tables
  unfolding send_one send
  sends_one planned keys next w fits is = subst (λ (b : Bool). Answers (write_if b schema rows planned keys w) next.keys next.tables) (sym fits) (wrote planned keys next w is)

  stopped : (plan : List Planned) (stop : TableId × Violation) → send_all schema rows (Err stop) plan ≡ Err stop
  stopped [] stop = refl
  stopped (planned ∷ plan) stop = stopped plan stop

  same_sofar : (w : World) (next : Sofar) → w.store.tables ≡ next.tables → sofar_of w next.keys ≡ next
  same_sofar w next is = ap (λ (t : Tables). record { tables = t; keys = next.keys }) is

  sends_all : (plan : List Planned) (keys : Keys) (last : Sofar) (w : World) → AreSendable schema rows (sofar_of w keys) plan → send_all schema rows (Ok (sofar_of w keys)) plan ≡ Ok last
      → Answers (each (send_one schema rows) keys plan w) last.keys last.tables
  unfolding each give
  sends_all [] keys last w fit is = let same : sofar_of w keys ≡ last = cc in record { answer = ap (λ (s : Sofar). Ok s.keys) same; tables = ap (λ (s : Sofar). s.tables) same }
  sends_all (planned ∷ plan) keys last w fit is = by (send schema rows (sofar_of w keys) planned) refl is (λ u known_keys. sends_all plan known_keys last u)
    where
      by : (told : Flushed) → send schema rows (sofar_of w keys) planned ≡ told → send_all schema rows told plan ≡ Ok last
          → ((u : World) (known_keys : Keys) → AreSendable schema rows (sofar_of u known_keys) plan → send_all schema rows (Ok (sofar_of u known_keys)) plan ≡ Ok last → Answers (each (send_one schema rows) known_keys plan u) last.keys last.tables)
          → Answers ((send_one schema rows planned keys >>= λ t. each (send_one schema rows) t plan) w) last.keys last.tables
      by (Err stop) told all rest = absurd (let never : Err stop ≡ Ok last = sym (stopped plan stop) ∙ all in cc)
      by (Ok next) told all rest =
          let one = sends_one planned keys next w fit.0 told in
          let u : World = (send_one schema rows planned keys w).after in
          let same : sofar_of u next.keys ≡ next = same_sofar u next one.tables in
          goes_on (send_one schema rows planned keys) (λ t. each (send_one schema rows) t plan) w next.keys last.keys last.tables one.answer
          (rest u next.keys (subst (λ (s : Sofar). AreSendable schema rows s plan) (sym same) (fit.1 next told)) (ap (λ (s : Sofar). send_all schema rows (Ok s) plan) same ∙ all))

  sends_plan : (statements : List Planned) (last : Sofar) (w : World) → AreSendable schema rows (sofar_of w []) statements → send_all schema rows (Ok (sofar_of w [])) statements ≡ Ok last
      → Answers (send_plan schema rows statements w) (keys_by_place rows last.keys) last.tables
  unfolding send_plan give
  sends_plan statements last w fit is =
      let all = sends_all statements [] last w fit is in
      goes_on (each (send_one schema rows) [] statements) (λ keys. give (keys_by_place rows keys)) w last.keys (keys_by_place rows last.keys) last.tables all.answer (record { answer = refl; tables = all.tables })

-- the plan is found, sent and accepted
record IsAccepted (schema : Catalog) (rows : RowChanges) (old : Tables) (last : Sofar) : Type 0 where
  statements : List Planned
  planned : plan schema rows ≡ Ok statements
  fit : AreSendable schema rows (record { tables = old; keys = [] }) statements
  sent : send_all schema rows (Ok (record { tables = old; keys = [] })) statements ≡ Ok last

rows_answer : (prepared : Prepared) (rows : RowChanges) (w : World) (last : Sofar) → IsAccepted w.own.mapping.schema rows w.store.tables last → Answers (write_rows prepared rows w) tt last.tables
unfolding write_rows on_own ask by_own changes
rows_answer prepared rows w last accepted =
    let sent = sends_plan w.own.mapping.schema rows accepted.statements last w accepted.fit accepted.sent in
    goes_on (on_own (ask (λ session. plan session.mapping.schema rows))) (λ statements. by_own (λ session. send_plan session.mapping.schema rows statements) >>= λ keys. changes (session_flushed prepared rows keys)) w accepted.statements tt
    last.tables accepted.planned
    (goes_on (by_own (λ session. send_plan session.mapping.schema rows accepted.statements)) (λ keys. changes (session_flushed prepared rows keys)) w (keys_by_place rows last.keys) tt last.tables sent.answer
    (record { answer = refl; tables = sent.tables }))

warned_answer : (prepared : Prepared) (rows : RowChanges) (w : World) (last : Sofar) → IsAccepted w.own.mapping.schema rows w.store.tables last → Answers (write_warned prepared rows w) tt last.tables
unfolding write_warned changes
warned_answer prepared rows w last accepted =
    goes_on (changes (with_warnings rows.warnings)) (λ u. write_rows prepared rows) w tt tt last.tables refl (rows_answer prepared rows (changes (with_warnings rows.warnings) w).after last accepted)

loaded_answer : (w : World) (last : Sofar) → IsAccepted w.own.mapping.schema (changes_of w.own) w.store.tables last → Answers (write_loaded w) tt last.tables
unfolding write_loaded write_prepared by_own
loaded_answer w last accepted = warned_answer (prepared_of w.own.mapping w.own.graph) (changes_of w.own) w last accepted

-- what a session that is prepared changes is accepted
abbrev IsAcceptedBehind : World → Sofar → Type 0
IsAcceptedBehind mid last = IsAccepted mid.own.mapping.schema (changes_of mid.own) mid.store.tables last

objects_answer : (w : World) (last : Sofar) → (prepare w).answer ≡ Ok tt → IsAcceptedBehind (prepared_world w) last → Answers (write_objects w) tt last.tables
unfolding write_objects
objects_answer w last ready accepted = goes_on prepare (λ u. write_loaded) w tt tt last.tables ready (loaded_answer (prepared_world w) last accepted)

flush_answers : (w : World) (last : Sofar) → (prepare w).answer ≡ Ok tt → IsAcceptedBehind (prepared_world w) last → Answers (flush w) tt last.tables
unfolding flush with_undo by_own
flush_answers w last ready accepted =
    let done = objects_answer w last ready accepted in
    subst (λ (r : Result (Unit {0}) Refusal). Answers (undo_on_refusal (write_objects w).events (write_objects w).after r (give_up_to (held_in w.own.graph))) tt last.tables) (sym done.answer)
    (record { answer = refl; tables = done.tables })

pub accepted_answers : AnswersWhereAccepted
accepted_answers world statements sofar ready planned fit sent =
    let done = flush_answers world sofar ready (record { statements = statements; planned = planned; fit = fit; sent = sent }) in (done.answer, done.tables)
