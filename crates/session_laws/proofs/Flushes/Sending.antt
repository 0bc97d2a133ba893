-- A plan that was sent to a store is the plan sent statement by statement.
use Rattle.std.proofs.Common.{◌≡◌, Bool, true, false, List, [], ◌∷◌, Ok, Err, sym, ap, ◌∙◌}
use Rattle.std.specs.Prelude.{if◌then◌else◌}
use Rattle.base_core.specs.declared.value.Value.{Value}
use Rattle.schema_core.specs.declared.changes.Planned.{Planned}
use Rattle.schema_core.specs.declared.changes.RowChanges.{RowChanges}
use Rattle.schema_core.specs.declared.statement.RowStmt.{RowStmt}
use Rattle.schema_core.specs.declared.statement.Violation.TheVariants.{Missing}
use Rattle.schema_core.specs.Apply.{Outcome, apply}
use Rattle.schema_core.specs.Catalog.{Catalog}
use Rattle.flush_plan.specs.Flushing.{Flushed, Keys, Sofar, after_outcome, keys_then, send, send_all, statement_sent, table_of, was_missing}
use Rattle.keeper_core.specs.Programs.{Run, each, give, refuse}
use Rattle.keeper_core.specs.Beside.{on_store}
use Rattle.keeper_core.specs.Calls as call
use Rattle.keeper_core.specs.Calls.{run_of_write}
use Rattle.session_scopes.specs.SessionState.{with_notes}
use Rattle.session_calls.specs.Parts.{World}
use Rattle.plan_statements.specs.Known.{is_sendable}
use Rattle.session_statements.specs.Run.{keys_unless, send_one, write_if}
use Rattle.session_laws.proofs.Flushes.Answered.{IsJoined, joined_of}

-- the tables of a world, and the keys that are known there
abbrev pub sofar_of : World → Keys → Sofar
sofar_of w keys = record { tables = w.store.tables; keys = keys }

module _ (schema : Catalog) (changes : RowChanges) where
  -- the keys go on, unless a row was missing
  kept : (planned : Planned) (b : Bool) (keys last : Keys) (answered : List (List Value)) (w : World) → (keys_unless b planned keys answered w).answer ≡ Ok last
      → (let told : Flushed = (if b then Err (table_of planned, Missing) else Ok (record { tables = w.store.tables; keys = keys_then keys planned answered })) in told ≡ Ok (sofar_of (keys_unless b planned keys answered w).after last))
  unfolding give refuse
  kept planned true keys last answered w is = absurd cc
  kept planned false keys last answered w is = let known : keys_then keys planned answered ≡ last = cc in ap (λ (k : Keys). Ok (sofar_of w k)) known

  -- a store that answered a statement accepted it
  wrote : (statement : RowStmt) (answered : List (List Value)) (w : World) → (on_store with_notes (call.write schema statement) w).answer ≡ Ok answered
      → apply schema w.store.tables statement ≡ Ok (answered, (on_store with_notes (call.write schema statement) w).after.store.tables)
  unfolding on_store call.write
  wrote statement answered w is = by (apply schema w.store.tables statement) is
    where
      by : (outcome : Outcome) → (run_of_write statement outcome w.store).answer ≡ Ok answered → outcome ≡ Ok (answered, (run_of_write statement outcome w.store).after.tables)
      by (Ok done) is = let same : done.0 ≡ answered = cc in ap (λ (ks : List (List Value)). Ok (ks, done.1)) same
      by (Err violation) is = absurd cc

  sent_if : (planned : Planned) (b : Bool) (keys last : Keys) (w : World) → (write_if b schema changes planned keys w).answer ≡ Ok last
      → after_outcome schema changes (sofar_of w keys) planned (apply schema w.store.tables (statement_sent schema changes keys planned)) ≡ Ok (sofar_of (write_if b schema changes planned keys w).after last)
  unfolding refuse
  sent_if planned false keys last w is = absurd cc
  sent_if planned true keys last w is =
      let statement : RowStmt = statement_sent schema changes keys planned in
      let send : World → Run World (List (List Value)) = on_store with_notes (call.write schema statement) in
      let next : List (List Value) → World → Run World Keys = λ answered. keys_unless (was_missing schema changes planned answered) planned keys answered in
      let joined : IsJoined send next w last = joined_of send next w last is in
      ap (after_outcome schema changes (sofar_of w keys) planned) (wrote statement joined.middle w joined.first)
      ∙ kept planned (was_missing schema changes planned joined.middle) keys last joined.middle (send w).after joined.second
      ∙ ap (λ (u : World). Ok (sofar_of u last)) (sym joined.after)

  pub sent_one : (planned : Planned) (keys last : Keys) (w : World) → (send_one schema changes planned keys w).answer ≡ Ok last → send schema changes (sofar_of w keys) planned ≡ Ok (sofar_of (send_one schema changes planned keys w).after last)
  unfolding send_one send
  sent_one planned keys last w is = sent_if planned (is_sendable schema changes keys planned) keys last w is

  -- all of a plan was accepted, statement by statement
  pub sent_all : (plan : List Planned) (keys last : Keys) (w : World) → (each (send_one schema changes) keys plan w).answer ≡ Ok last
      → send_all schema changes (Ok (sofar_of w keys)) plan ≡ Ok (sofar_of (each (send_one schema changes) keys plan w).after last)
  unfolding each give
  sent_all [] keys last w is = let known : keys ≡ last = cc in ap (λ (k : Keys). Ok (sofar_of w k)) known
  sent_all (planned ∷ plan) keys last w is =
      let next : Keys → World → Run World Keys = λ t. each (send_one schema changes) t plan in
      let joined : IsJoined (send_one schema changes planned keys) next w last = joined_of (send_one schema changes planned keys) next w last is in
      ap (λ (f : Flushed). send_all schema changes f plan) (sent_one planned keys joined.middle w joined.first)
      ∙ sent_all plan joined.middle last (send_one schema changes planned keys w).after joined.second
      ∙ ap (λ (u : World). Ok (sofar_of u last)) (sym joined.after)
