-- What the parts of a flush keep of a world that each statement keeps.
use Rattle.std.proofs.Common.{◌≡◌, Bool, true, false, List, [], ◌∷◌, refl}
use Rattle.std.specs.List.{AllByRecursion}
use Rattle.std.proofs.lemmas.Bool.{and_parts}
use Rattle.base_core.specs.declared.value.Value.{Value}
use Rattle.schema_core.specs.declared.changes.Planned.{Planned}
use Rattle.schema_core.specs.declared.changes.RowChanges.{RowChanges}
use Rattle.schema_core.specs.declared.statement.RowStmt.{RowStmt}
use Rattle.schema_core.specs.Catalog.{Catalog}
use Rattle.schema_core.specs.WellFormed.{IsWellFormed}
use Rattle.schema_core.specs.WellFormedTest.{is_well_formed}
use Rattle.schema_core.proofs.WellFormedTests.{formed}
use Rattle.flush_plan.specs.Flushing.{Keys, keys_then, statement_sent, was_missing}
use Rattle.keeper_core.specs.Programs.{each, give}
use Rattle.keeper_core.specs.Beside.{on_store}
use Rattle.keeper_core.specs.Calls as call
use Rattle.table_laws.specs.Legality.{Keeps}
use Rattle.table_laws.proofs.EachJoin.{keeps_each, keeps_give, keeps_refuse, keeps_then}
use Rattle.plan_statements.specs.Known.{is_of_rows, is_sendable}
use Rattle.session_scopes.specs.SessionState.{with_notes}
use Rattle.session_calls.specs.Parts.{World}
use Rattle.session_statements.specs.Run.{keys_by_place, keys_unless, send_one, send_plan, write_if}

-- each statement that fits keeps the property, and the session that notes it
abbrev pub IsKeptByWrites : Catalog → (World → Type 0) → Type 0
IsKeptByWrites schema P = (statement : RowStmt) → IsWellFormed schema statement → Keeps P (on_store with_notes (call.write schema statement))

module _ (schema : Catalog) (rows : RowChanges) (P : World → Type 0) (writes : IsKeptByWrites schema P) where
  known_keeps : (planned : Planned) (b : Bool) (keys : Keys) (answered : List (List Value)) → Keeps P (keys_unless b planned keys answered)
  known_keeps planned true keys answered = keeps_refuse P _
  known_keeps planned false keys answered = keeps_give P (keys_then keys planned answered)

  sent_keeps : (planned : Planned) (keys : Keys) (b : Bool) → is_sendable schema rows keys planned ≡ b → Keeps P (write_if b schema rows planned keys)
  sent_keeps planned keys false is = keeps_refuse P _
  sent_keeps planned keys true is =
      let statement : RowStmt = statement_sent schema rows keys planned in
      keeps_then P (on_store with_notes (call.write schema statement)) (λ answered. keys_unless (was_missing schema rows planned answered) planned keys answered)
      (writes statement (formed schema statement (and_parts (is_of_rows schema rows planned) (is_well_formed schema statement) is).1))
      (λ w answered p answers. known_keeps planned (was_missing schema rows planned answered) keys answered)

  one_keeps : (planned : Planned) (keys : Keys) → Keeps P (send_one schema rows planned keys)
  unfolding send_one
  one_keeps planned keys = sent_keeps planned keys (is_sendable schema rows keys planned) refl

  each_keeps : (statements : List Planned) → AllByRecursion (λ (planned : Planned). (keys : Keys) → Keeps P (send_one schema rows planned keys)) statements
  each_keeps [] = tt
  each_keeps (planned ∷ statements) = (one_keeps planned, each_keeps statements)

  pub plan_keeps : (statements : List Planned) → Keeps P (send_plan schema rows statements)
  unfolding send_plan
  plan_keeps statements =
      keeps_then P (each (send_one schema rows) [] statements) (λ keys. give (keys_by_place rows keys)) (keeps_each P (send_one schema rows) [] statements (each_keeps statements))
      (λ w keys p answers. keeps_give P (keys_by_place rows keys))
