-- A flush that answered has sent its plan, and the objects stand as they were written.
use Rattle.std.proofs.Common.{◌≡◌, List, [], Ok, Err, refl, sym, ap, ◌∙◌, subst}
use Rattle.base_core.specs.declared.value.Value.{Value}
use Rattle.schema_core.specs.declared.changes.Planned.{Planned}
use Rattle.schema_core.specs.declared.changes.RowChanges.{RowChanges}
use Rattle.schema_core.specs.declared.statement.RowStmt.{RowStmt}
use Rattle.schema_core.specs.Apply.{Outcome, apply}
use Rattle.schema_core.specs.Catalog.{Catalog}
use Rattle.keeper_core.specs.Calls as call
use Rattle.class_mapping.specs.Mapped.{Mapped}
use Rattle.object_arena.specs.Graph.{Graph}
use Rattle.flush_plan.specs.Flushing.{Keys, send_all}
use Rattle.flush_plan.specs.Planning.{plan}
use Rattle.object_rows.specs.declared.prepared.Prepared.{Prepared}
use Rattle.row_project.specs.Changes.{project}
use Rattle.graph_flushed.specs.Flushed.{graph_flushed}
use Rattle.keeper_core.specs.Store.{Store}
use Rattle.keeper_core.specs.Programs.{Run, ◌>>=◌, ask, each, give}
use Rattle.savepoints.specs.Scopes.{Framed}
use Rattle.object_records.specs.Touched.{frames_touched_between}
use Rattle.keeper_core.specs.Beside.{by_own, changes, on_own, on_store}
use Rattle.session_scopes.specs.SessionState.{with_notes, with_warnings}
use Rattle.session_calls.specs.Parts.{World}
use Rattle.session_statements.specs.Run.{keys_by_place, send_one, send_plan}
use Rattle.object_records.specs.Kept.{held_in}
use Rattle.prepared_objects.specs.Leaving.{prepared_of}
use Rattle.session_acts.specs.Flush.{flush, give_up_to, prepare, session_flushed, write_loaded, write_objects, write_prepared, write_rows, write_warned}
use Rattle.session_laws.specs.Flushes.{prepared_world}
use Rattle.session_acts.specs.Outcome.{changes_of}
use Rattle.session_laws.proofs.Flushes.Answered.{IsDone, IsJoined, done_of, joined_of}
use Rattle.session_laws.proofs.Flushes.Kept.{IsKeptByWrites, plan_keeps}
use Rattle.session_laws.proofs.Flushes.Sending.{sent_all, sofar_of}

-- Changes were planned, and all of the plan was accepted by these tables, which became those of the world then. Its objects are
-- the old ones as they were written, where the new rows had these keys; those that differ have been touched, and each scope began
-- with the tables with which it began.
pub record IsSent (mapped : Mapped) (graph : Graph) (frames : Framed) (prepared : Prepared) (rows : RowChanges) (old : Store) (now : World) : Type 0 where
  pub statements : List Planned
  pub keys : Keys
  pub given : List (List Value)
  pub planned : plan mapped.schema rows ≡ Ok statements
  pub sent : send_all mapped.schema rows (Ok (record { tables = old.tables; keys = [] })) statements ≡ Ok (record { tables = now.store.tables; keys = keys })
  pub mapping : now.own.mapping ≡ mapped
  pub objects : now.own.graph ≡ graph_flushed mapped prepared rows given graph
  pub known : given ≡ keys_by_place rows keys
  pub touches : now.own.frames ≡ frames_touched_between graph now.own.graph frames
  pub starts : now.store.scopes ≡ old.scopes

-- the same mapping, the same objects, and the same scopes
record IsStill (old w : World) : Type 0 where
  mapping : w.own.mapping ≡ old.own.mapping
  objects : w.own.graph ≡ old.own.graph
  frames : w.own.frames ≡ old.own.frames
  starts : w.store.scopes ≡ old.store.scopes

written_still : (old : World) (statement : RowStmt) (outcome : Outcome) (w : World) → IsStill old w
    → IsStill old (record { own = with_notes (call.run_of_write statement outcome w.store).events w.own; store = (call.run_of_write statement outcome w.store).after })
written_still old statement (Ok done) w p = record { mapping = p.mapping; objects = p.objects; frames = p.frames; starts = p.starts }
written_still old statement (Err violation) w p = record { mapping = p.mapping; objects = p.objects; frames = p.frames; starts = p.starts }

still_kept : (schema : Catalog) (old : World) → IsKeptByWrites schema (IsStill old)
unfolding on_store call.write
still_kept schema old statement well = record { kept = λ w p. written_still old statement (apply schema w.store.tables statement) w p }

-- a plan was sent whole, and nothing of the objects was changed by that
record IsPlanSent (schema : Catalog) (rows : RowChanges) (statements : List Planned) (given : List (List Value)) (w now : World) : Type 0 where
  keys : Keys
  sent : send_all schema rows (Ok (sofar_of w [])) statements ≡ Ok (sofar_of now keys)
  known : given ≡ keys_by_place rows keys
  still : IsStill w now

known_then : (schema : Catalog) (rows : RowChanges) (statements : List Planned) (w : World) (keys : List (List Value)) → (send_plan schema rows statements w).answer ≡ Ok keys
    → (known : Keys) × (send_all schema rows (Ok (sofar_of w [])) statements ≡ Ok (sofar_of (send_plan schema rows statements w).after known)) × (keys ≡ keys_by_place rows known)
unfolding send_plan give
known_then schema rows statements w keys is =
    let run : World → Run World Keys = each (send_one schema rows) [] statements in
    let joined : IsJoined run (λ ks. give (keys_by_place rows ks)) w keys = joined_of run (λ ks. give (keys_by_place rows ks)) w keys is in
    let told : Ok (keys_by_place rows joined.middle) ≡ Ok keys = joined.second in
    let given : keys_by_place rows joined.middle ≡ keys = cc in
    (joined.middle, sent_all schema rows statements [] joined.middle w joined.first ∙ ap (λ (u : World). Ok (sofar_of u joined.middle)) (sym joined.after), sym given)

plan_sent : (schema : Catalog) (rows : RowChanges) (statements : List Planned) (w : World) (keys : List (List Value)) → (send_plan schema rows statements w).answer ≡ Ok keys → IsPlanSent schema rows statements keys w (send_plan schema rows statements w).after
plan_sent schema rows statements w keys answered =
    let last = known_then schema rows statements w keys answered in
    record {
      keys = last.0;
      sent = last.1;
      known = last.2;
      still = (plan_keeps schema rows (IsStill w) (still_kept schema w) statements).kept w (record { mapping = refl; objects = refl; frames = refl; starts = refl });
    }

module _ (prepared : Prepared) (rows : RowChanges) where
  abbrev IsSentFrom : World → World → Type 0
  IsSentFrom w now = IsSent w.own.mapping w.own.graph w.own.frames prepared rows w.store now

  after_plan : (w : World) (statements : List Planned) → plan w.own.mapping.schema rows ≡ Ok statements
      → ((by_own (λ session. send_plan session.mapping.schema rows statements) >>= λ keys. changes (session_flushed prepared rows keys)) w).answer ≡ Ok tt
      → IsSentFrom w ((by_own (λ session. send_plan session.mapping.schema rows statements) >>= λ keys. changes (session_flushed prepared rows keys)) w).after
  unfolding by_own changes
  after_plan w statements planned answered =
      let send : World → Run World (List (List Value)) = by_own (λ session. send_plan session.mapping.schema rows statements) in
      let joined : IsJoined send (λ keys. changes (session_flushed prepared rows keys)) w tt = joined_of send (λ keys. changes (session_flushed prepared rows keys)) w tt answered in
      let sent : IsPlanSent w.own.mapping.schema rows statements joined.middle w (send w).after = plan_sent w.own.mapping.schema rows statements w joined.middle joined.first in
      subst (λ (u : World). IsSentFrom w u) (sym joined.after)
      (record {
        statements = statements;
        keys = sent.keys;
        given = joined.middle;
        planned = planned;
        sent = sent.sent;
        mapping = sent.still.mapping;
        objects = ap (λ (m : Mapped). graph_flushed m prepared rows joined.middle (send w).after.own.graph) sent.still.mapping ∙ ap (graph_flushed w.own.mapping prepared rows joined.middle) sent.still.objects;
        known = sent.known;
        touches = (λ i. frames_touched_between (sent.still.objects i) (graph_flushed (send w).after.own.mapping prepared rows joined.middle (send w).after.own.graph) (sent.still.frames i));
        starts = sent.still.starts;
      })

  rows_sent : (w : World) → (write_rows prepared rows w).answer ≡ Ok tt → IsSentFrom w (write_rows prepared rows w).after
  unfolding write_rows on_own ask
  rows_sent w is =
      let asked : World → Run World (List Planned) = on_own (ask (λ session. plan session.mapping.schema rows)) in
      let next : List Planned → World → Run World (Unit {0}) = λ statements. by_own (λ session. send_plan session.mapping.schema rows statements) >>= λ keys. changes (session_flushed prepared rows keys) in
      let joined : IsJoined asked next w tt = joined_of asked next w tt is in
      subst (λ (u : World). IsSentFrom w u) (sym joined.after) (after_plan w joined.middle joined.first joined.second)

  warned_sent : (w : World) → (write_warned prepared rows w).answer ≡ Ok tt → IsSentFrom w (write_warned prepared rows w).after
  unfolding write_warned changes
  warned_sent w is =
      let joined : IsJoined (changes (with_warnings rows.warnings)) (λ u. write_rows prepared rows) w tt = joined_of (changes (with_warnings rows.warnings)) (λ u. write_rows prepared rows) w tt is in
      subst (λ (u : World). IsSentFrom w u) (sym joined.after) (rows_sent (changes (with_warnings rows.warnings) w).after joined.second)

prepared_sent : (prepared : Prepared) (w : World) → (write_prepared prepared w).answer ≡ Ok tt → IsSent w.own.mapping w.own.graph w.own.frames prepared (project w.own.mapping w.own.graph prepared) w.store (write_prepared prepared w).after
unfolding write_prepared by_own
prepared_sent prepared w is = warned_sent prepared (project w.own.mapping w.own.graph prepared) w is

-- what was sent of a session that is prepared
abbrev pub IsFlushSent : World → World → Type 0
IsFlushSent w now = IsSent w.own.mapping w.own.graph w.own.frames (prepared_of w.own.mapping w.own.graph) (changes_of w.own) w.store now

loaded_sent : (w : World) → (write_loaded w).answer ≡ Ok tt → IsFlushSent w (write_loaded w).after
unfolding write_loaded by_own
loaded_sent w is = prepared_sent (prepared_of w.own.mapping w.own.graph) w is

-- a flush that answered was prepared, and has sent that
pub record IsFlushDone (w now : World) : Type 0 where
  pub prepared : (prepare w).answer ≡ Ok tt
  pub sent : IsFlushSent (prepared_world w) now

objects_sent : (w : World) → (write_objects w).answer ≡ Ok tt → IsFlushDone w (write_objects w).after
unfolding write_objects
objects_sent w is =
    let joined : IsJoined prepare (λ u. write_loaded) w tt = joined_of prepare (λ u. write_loaded) w tt is in
    record { prepared = joined.first; sent = subst (λ (u : World). IsFlushSent (prepared_world w) u) (sym joined.after) (loaded_sent (prepared_world w) joined.second) }

pub flush_sent : (w : World) → (flush w).answer ≡ Ok tt → IsFlushDone w (flush w).after
unfolding flush by_own
flush_sent w is =
    let undo : World → Run World (Unit {0}) = give_up_to (held_in w.own.graph) in
    let done : IsDone write_objects undo w tt = done_of write_objects undo w tt is in
    subst (λ (u : World). IsFlushDone w u) (sym done.after) (objects_sent w done.answer)
