-- Programs: what one run of a program does to a world, and how programs are joined.
use Rattle.std.specs.Prelude.{ℕ, Bool, true, false, List, [], ◌∷◌, ◌++◌, Result, Ok, Err}
use Rattle.base_core.specs.declared.refusal.Refusal.{Refusal}
use Rattle.base_core.specs.declared.refusal.Refusal.TheVariants.{Memory, KeeperFault, DataError, KeysSpent, IntegrityError, OperationalError}
use Rattle.keeper_core.specs.declared.sent.Sent.{Sent}
use Rattle.schema_core.specs.Tables.{Tables}

-- one thing that the outside sees: a statement that is sent, with the tables that it leaves committed, or a byte that is written
pub data Event : Type 0 where
  Sends : Sent → Tables → Event
  Writes : ℕ → Event

-- what the outside has seen so far: the statements, the tables that were committed last, and the bytes
pub record Log : Type 0 where
  pub sent : List Sent
  pub committed : Tables
  pub written : List ℕ

abbrev pub after_event : Log → Event → Log
after_event log (Sends statement committed) = record { sent = log.sent ++ statement ∷ []; committed = committed; written = log.written }
after_event log (Writes byte) = record { sent = log.sent; committed = log.committed; written = log.written ++ byte ∷ [] }

-- the log after these events, in order
unfoldable pub after_events : Log → List Event → Log
after_events log [] = log
after_events log (e ∷ es) = after_events (after_event log e) es

-- one run: its events in order, what it answers, and the world after it
pub record Run (W A : Type 0) : Type 0 where
  pub events : List Event
  pub answer : Result A Refusal
  pub after : W

-- a call's answer, its refusal told in other words
abbrev pub as_refusal : {A E : Type 0} → (E → Refusal) → Result A E → Result A Refusal
as_refusal words (Ok x) = Ok x
as_refusal words (Err e) = Err (words e)

-- a failure of the store and memory that ran out end a run early; every other refusal is the run's own
abbrev pub ends_early : Refusal → Bool
ends_early Memory = true
ends_early KeeperFault = true
ends_early e = false

-- a failure of the store
abbrev pub is_fault : Refusal → Bool
is_fault KeeperFault = true
is_fault e = false

-- a refusal that comes of what the tables hold, and that the keeper itself gave
abbrev pub is_of_tables : Refusal → Bool
is_of_tables (DataError op a b) = true
is_of_tables (KeysSpent table) = true
is_of_tables (IntegrityError kind table) = true
is_of_tables (OperationalError table) = true
is_of_tables e = false

-- ---- programs and how they are joined

-- the run that answers with no event
abbrev pub quiet : {W A : Type 0} → Result A Refusal → W → Run W A
quiet answer w = record { events = []; answer = answer; after = w }

-- events, and then a run
abbrev pub with_events_before : {W A : Type 0} → List Event → Run W A → Run W A
with_events_before events run = record { events = events ++ run.events; answer = run.answer; after = run.after }

-- events, and then the run that goes on from an answer; a refusal ends it
abbrev pub continue_from : {W A B : Type 0} → List Event → W → Result A Refusal → (A → W → Run W B) → Run W B
continue_from events w (Ok a) next = with_events_before events (next a w)
continue_from events w (Err e) next = record { events = events; answer = Err e; after = w }

infixl 10 ◌>>=◌
-- a program, and then the one that goes on from its answer
unfoldable pub ◌>>=◌ : {W A B : Type 0} → (W → Run W A) → (A → W → Run W B) → W → Run W B
(m >>= next) w = continue_from (m w).events (m w).after (m w).answer next

unfoldable pub give : {W A : Type 0} → A → W → Run W A
give a w = quiet (Ok a) w

unfoldable pub refuse : {W A : Type 0} → Refusal → W → Run W A
refuse e w = quiet (Err e) w

-- the world changes, with no event
unfoldable pub change : {W : Type 0} → (W → W) → W → Run W (Unit {0})
change f w = quiet (Ok tt) (f w)

-- after a refusal, undo, and then the refusal
abbrev pub undo_on_refusal : {W A : Type 0} → List Event → W → Result A Refusal → (W → Run W (Unit {0})) → Run W A
undo_on_refusal events w (Ok a) undo = record { events = events; answer = Ok a; after = w }
undo_on_refusal events w (Err e) undo = with_events_before events ((undo >>= λ _. refuse e) w)

-- a program, and where it refuses, undo, and then the refusal
unfoldable pub with_undo : {W A : Type 0} → (W → Run W A) → (W → Run W (Unit {0})) → W → Run W A
with_undo m undo w = undo_on_refusal (m w).events (m w).after (m w).answer undo

-- what came of a program: its answer, or after a refusal what is done about it
abbrev pub recover_from : {W A : Type 0} → List Event → W → Result A Refusal → (Refusal → W → Run W A) → Run W A
recover_from events w (Ok a) instead = record { events = events; answer = Ok a; after = w }
recover_from events w (Err e) instead = with_events_before events (instead e w)

-- a program, and where it refuses, what is done about the refusal
unfoldable pub handle_refusal : {W A : Type 0} → (Refusal → W → Run W A) → (W → Run W A) → W → Run W A
handle_refusal instead m w = recover_from (m w).events (m w).after (m w).answer instead

abbrev pub rescue_of : {A : Type 0} → (Refusal → A) → Result A Refusal → Result A Refusal
rescue_of text (Ok a) = Ok a
rescue_of text (Err e) = Ok (text e)

-- a program, and where it refuses, what text makes of the refusal
unfoldable pub rescue : {W A : Type 0} → (Refusal → A) → (W → Run W A) → W → Run W A
rescue text m w = record { events = (m w).events; answer = rescue_of text (m w).answer; after = (m w).after }

-- one step for each item, in order; what a step answers is given to the next one
unfoldable pub each : {W A S : Type 0} → (A → S → W → Run W S) → S → List A → W → Run W S
each step s [] = give s
each step s (x ∷ xs) = step x s >>= λ t. each step t xs

-- ---- programs that send nothing

-- a question, which changes nothing
unfoldable pub ask : {W A : Type 0} → (W → Result A Refusal) → W → Run W A
ask question w = quiet (question w) w

abbrev pub become : {W : Type 0} → W → Result W Refusal → Run W (Unit {0})
become w (Ok now) = quiet (Ok tt) now
become w (Err e) = quiet (Err e) w

-- the world becomes what is told, or that is refused and the world stays
unfoldable pub becomes : {W : Type 0} → (W → Result W Refusal) → W → Run W (Unit {0})
becomes step w = become w (step w)
