-- What a flush sends, and what it leaves in the tables, where the store is told.
use Rattle.std.specs.Prelude.{◌≡◌, true, List, [], ◌∷◌, ◌++◌, Option, IfSome, Ok, Err}
use Rattle.std.specs.List.{flat_map}
use Rattle.schema_core.specs.declared.changes.Planned.{Planned}
use Rattle.schema_core.specs.declared.changes.RowChanges.{RowChanges}
use Rattle.schema_core.specs.Catalog.{Catalog}
use Rattle.flush_plan.specs.Flushing.{Flushed, Sofar, send, send_all, statement_sent}
use Rattle.flush_plan.specs.Planning.{plan}
use Rattle.keeper_core.specs.declared.sent.Sent.{Sent}
use Rattle.keeper_core.specs.declared.sent.Sent.TheVariants.{Write}
use Rattle.keeper_core.specs.Store.{Store}
use Rattle.keeper_core.specs.Programs.{Event, Log, Sends, Writes, after_events}
use Rattle.keeper_core.specs.Moment.{Told}
use Rattle.table_laws.specs.Legality.{IsLegalStore}
use Rattle.session_scopes.specs.SessionState.{SessionState}
use Rattle.session_calls.specs.Parts.{World}
use Rattle.plan_statements.specs.Known.{is_sendable}
use Rattle.session_acts.specs.Flush.{flush, prepare}
use Rattle.session_acts.specs.Outcome.{changes_of}
use Rattle.session_laws.specs.Sound.{EachObject, IsMarkedRight}

-- ---- over a keeper that tells

-- the session and the store that is told
abbrev pub world_of : SessionState → Told Store → World
world_of own told = record { own = own; store = told.world }

-- the flush of a world answers, what is told then, with the session, is what it leaves, and the outside has seen its events
pub record IsRunOf (world : World) (before : Log) (now : SessionState) (told : Option (Told Store)) : Type 0 where
  pub answer : (flush world).answer ≡ Ok tt
  pub own : now ≡ (flush world).after.own
  pub store : IfSome told (λ t. t.world ≡ (flush world).after.store)
  pub log : IfSome told (λ t. t.log ≡ after_events before (flush world).events)

-- ---- what is read first

-- the session when all is read that is to be known of the objects that are to be deleted, and the store
abbrev pub prepared_world : World → World
prepared_world world = (prepare world).after

-- ---- what is sent

-- a flush that answers has sent the whole plan of the session once it was prepared, each statement of which was accepted
abbrev pub SendsItsPlan : Type 0
SendsItsPlan =
    (world : World) → (flush world).answer ≡ Ok tt
    → (statements : List Planned) × (sofar : Sofar) × (plan (prepared_world world).own.mapping.schema (changes_of (prepared_world world).own) ≡ Ok statements)
    × (send_all (prepared_world world).own.mapping.schema (changes_of (prepared_world world).own) (Ok (record { tables = (prepared_world world).store.tables; keys = [] })) statements ≡ Ok sofar) × ((flush world).after.store.tables ≡ sofar.tables)

-- the statement that an event sends, if it is such an event
abbrev pub sent_by : Event → List Sent
sent_by (Sends statement committed) = statement ∷ []
sent_by (Writes byte) = []

-- the statements of a plan as they are sent, each with the keys that are known by then, up to the first that is refused
abbrev pub statements_sent : Catalog → RowChanges → Flushed → List Planned → List Sent
statements_sent schema rows sofar [] = []
statements_sent schema rows (Err stop) (planned ∷ plan) = []
statements_sent schema rows (Ok sofar) (planned ∷ plan) = Write (statement_sent schema rows sofar.keys planned) ∷ statements_sent schema rows (send schema rows sofar planned) plan

-- what a flush that answers sends is the selects of its preparation, and the statements of its plan in order, each with the keys that are
-- known by then, and no more
abbrev pub SendsPlannedStatements : Type 0
SendsPlannedStatements =
    (world : World) → (flush world).answer ≡ Ok tt
    → (statements : List Planned) × (plan (prepared_world world).own.mapping.schema (changes_of (prepared_world world).own) ≡ Ok statements)
    × (flat_map sent_by (flush world).events ≡ flat_map sent_by (prepare world).events ++ statements_sent (prepared_world world).own.mapping.schema (changes_of (prepared_world world).own) (Ok (record { tables = (prepared_world world).store.tables; keys = [] })) statements)

-- each statement is of new rows and fits the schema when it is sent
abbrev pub AreSendable : Catalog → RowChanges → Sofar → List Planned → Type 0
AreSendable schema rows sofar [] = Unit {0}
AreSendable schema rows sofar (planned ∷ plan) =
    (is_sendable schema rows sofar.keys planned ≡ true) × ((next : Sofar) → send schema rows sofar planned ≡ Ok next → AreSendable schema rows next plan)

-- and a flush whose preparation answers, and each of whose statements fits and is accepted, answers and leaves the tables that this gives
abbrev pub AnswersWhereAccepted : Type 0
AnswersWhereAccepted =
    (world : World) (statements : List Planned) (sofar : Sofar) → (prepare world).answer ≡ Ok tt → plan (prepared_world world).own.mapping.schema (changes_of (prepared_world world).own) ≡ Ok statements
    → AreSendable (prepared_world world).own.mapping.schema (changes_of (prepared_world world).own) (record { tables = (prepared_world world).store.tables; keys = [] }) statements
    → send_all (prepared_world world).own.mapping.schema (changes_of (prepared_world world).own) (Ok (record { tables = (prepared_world world).store.tables; keys = [] })) statements ≡ Ok sofar
    → ((flush world).answer ≡ Ok tt) × ((flush world).after.store.tables ≡ sofar.tables)

-- where only persistent objects have a delete mark, a flush right after it reads and sends nothing, and answers
abbrev pub SendsNothingAgain : Type 0
SendsNothingAgain =
    (world : World) → EachObject IsMarkedRight world.own.graph → (flush world).answer ≡ Ok tt → ((flush (flush world).after).events ≡ []) × ((flush (flush world).after).answer ≡ Ok tt)

-- ---- what is left

-- whatever a flush answers, it leaves legal tables where it found them
abbrev pub LeavesLegalTables : Type 0
LeavesLegalTables = (world : World) → IsLegalStore world.own.mapping.schema world.store → IsLegalStore world.own.mapping.schema (flush world).after.store
