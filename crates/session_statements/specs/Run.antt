-- The run of a plan: its statements in order, each with the keys that are known by then, up to the first refusal.
use Rattle.std.specs.Prelude.{◌≡◌, ◌⊎◌, Bool, true, false, List, [], length, map, Some, MatchBool}
use Rattle.std.specs.List.{Contains, range_with_len}
use Rattle.base_core.specs.Counts.{Rose}
use Rattle.base_core.specs.declared.refusal.Refusal.{Refusal}
use Rattle.base_core.specs.declared.refusal.Refusal.TheVariants.{NotBuilt, StaleDataError}
use Rattle.base_core.specs.declared.value.Value.{Value}
use Rattle.schema_core.specs.declared.changes.Planned.{Planned}
use Rattle.schema_core.specs.declared.changes.RowChanges.{RowChanges}
use Rattle.schema_core.specs.Catalog.{Catalog}
use Rattle.schema_core.specs.WellFormed.{AreKeysFor}
use Rattle.flush_plan.specs.Flushing.{Keys, key_of_new, keys_then, statement_sent, table_of, was_missing}
use Rattle.keeper_core.specs.declared.sent.Sent.{Sent}
use Rattle.keeper_core.specs.Programs.{Run, ◌>>=◌, each, ends_early, give, refuse}
use Rattle.keeper_core.specs.Moment.{Moment}
use Rattle.keeper_core.specs.Beside.{on_store}
use Rattle.keeper_core.specs.Calls as call
use Rattle.session_scopes.specs.SessionState.{with_notes}
use Rattle.session_calls.specs.Parts.{World}
use Rattle.plan_statements.specs.Known.{is_sendable}

-- the keys that are known then; an INSERT that was given the key of a row that is changed or deleted is refused: that row is missing
abbrev pub keys_unless : Bool → Planned → Keys → List (List Value) → World → Run World Keys
keys_unless true planned keys answered = refuse (StaleDataError (table_of planned))
keys_unless false planned keys answered = give (keys_then keys planned answered)

-- a statement that fits the schema is sent and noted; any other is not sent
abbrev pub write_if : Bool → Catalog → RowChanges → Planned → Keys → World → Run World Keys
write_if false schema changes planned keys = refuse NotBuilt
write_if true schema changes planned keys =
    on_store with_notes (call.write schema (statement_sent schema changes keys planned)) >>= λ answered.
    keys_unless (was_missing schema changes planned answered) planned keys answered

-- one statement
unfoldable pub send_one : Catalog → RowChanges → Planned → Keys → World → Run World Keys
send_one schema changes planned keys = write_if (is_sendable schema changes keys planned) schema changes planned keys

-- the key of each new row, in the order of the new rows; none is empty where each row was written
abbrev pub keys_by_place : RowChanges → Keys → List (List Value)
keys_by_place changes keys = map (key_of_new keys) (range_with_len 0 (length changes.fresh))

-- all statements in order, and then the keys of the new rows
unfoldable pub send_plan : Catalog → RowChanges → List Planned → World → Run World (List (List Value))
send_plan schema changes plan = each (send_one schema changes) [] plan >>= λ keys. give (keys_by_place changes keys)

-- ---- why a run ended

-- the store refused a statement, and keeps that as its last refusal
abbrev pub WasRefused : {W : Type 0} → Moment W → Refusal → Moment W → Type 0
WasRefused old e new = Rose old.refusals new.refusals × (statement : Sent) × (new.last ≡ Some (record { statement = statement; refusal = e }))

-- memory ran out, the store failed, or it refused a statement
abbrev pub WasStopped : {W : Type 0} → Moment W → Refusal → Moment W → Type 0
WasStopped old e new = MatchBool (ends_early e) (Unit {0}) (WasRefused old e new)

-- A statement of the plan was sent and accepted, and its rows have these keys: an INSERT's own, where it gives them, and else ones that
-- its table's keys may have.
pub record WasGiven (schema : Catalog) (changes : RowChanges) (planned : Planned) (answered : List (List Value)) : Type 0 where
  pub keys : Keys
  pub fits : is_sendable schema changes keys planned ≡ true
  pub shape : AreKeysFor schema (statement_sent schema changes keys planned) answered

-- an INSERT of the plan was given the key of a row that is changed or deleted
abbrev pub WasGivenStale : Catalog → RowChanges → List Planned → Refusal → Type 0
WasGivenStale schema changes plan e =
    (planned : Planned) × (answered : List (List Value)) × Contains plan planned × WasGiven schema changes planned answered
    × (was_missing schema changes planned answered ≡ true) × (e ≡ StaleDataError (table_of planned))

-- a statement of the plan did not fit the schema
abbrev pub WasUnfit : Catalog → RowChanges → List Planned → Refusal → Type 0
WasUnfit schema changes plan e =
    (planned : Planned) × (keys : Keys) × Contains plan planned × (is_sendable schema changes keys planned ≡ false) × (e ≡ NotBuilt)

-- memory ran out or the store failed, or one of these
abbrev pub IsCause : {W : Type 0} → Catalog → RowChanges → List Planned → Moment W → Refusal → Moment W → Type 0
IsCause schema changes plan old e new = MatchBool (ends_early e) (Unit {0}) (WasRefused old e new ⊎ (WasGivenStale schema changes plan e ⊎ WasUnfit schema changes plan e))
