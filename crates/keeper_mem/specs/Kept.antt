-- What a keeper in memory has, what is seen of it, and what its calls make of it.
use Rattle.std.specs.Prelude.{◌≡◌, ℕ, Bool, true, false, nat_eq, List, [], ◌∷◌, ◌++◌, length, if◌then◌else◌, MatchBool, Option, None, Some, Result, Ok, Err, refl}
use Rattle.std.specs.List.{list_any}
use Rattle.base_core.specs.Counts.{one_more}
use Rattle.base_core.specs.declared.refusal.Refusal.{Refusal}
use Rattle.base_core.specs.declared.refusal.Refusal.TheVariants as from
use Rattle.keeper_core.specs.declared.sent.Sent.{Sent}
use Rattle.keeper_core.specs.declared.target.Target.{Target}
use Rattle.keeper_core.specs.declared.target.Target.TheVariants as targets
use Rattle.keeper_core.specs.Moment.{Moment, Refused, Told}
use Rattle.keeper_core.specs.Programs.{Run, ends_early, is_fault}
use Rattle.keeper_core.specs.Store.{Store, committed_of}
use Rattle.schema_core.specs.Tables.{Tables}
use Rattle.keeper_core.specs.Calls.{sends}
use Rattle.keeper_core.specs.Keeping.{IsCoherent, IsCoherentTold, new_store}
use Rattle.table_log.specs.Marks.{HasMore, IsNoted, Marked, Marks, no_marks}
use Rattle.table_store.specs.Written.{given_up}
use Rattle.keeper_mem.specs.declared.keeper.Attachment.{Attachment}
use Rattle.keeper_mem.specs.declared.keeper.Attachment.TheVariants.{Fresh, Taken, Untaken}

-- The store with the marks by which it goes back, the statements that were sent, the counts of calls, faults and refusals, the last
-- refusal, the target, and the numbers of the calls that are to fail.
pub record Kept : Type 0 where
  pub store : Store
  pub marks : Marks
  pub sent : List Sent
  pub calls : ℕ
  pub faults : ℕ
  pub refusals : ℕ
  pub last : Option Refused
  pub attachment : Attachment
  pub failing : List ℕ

-- no tables and no scope
abbrev pub empty_store : Store
empty_store = record { tables = []; scopes = [] }

-- what a keeper begins with
abbrev pub new_keeper : List ℕ → Kept
new_keeper failing = record { store = empty_store; marks = no_marks; sent = []; calls = 0; faults = 0; refusals = 0; last = None; attachment = Fresh; failing = failing }

-- the store with the statements that were sent
abbrev pub told_of : Kept → Told Store
told_of kept = record { world = kept.store; log = record { sent = kept.sent; committed = committed_of kept.store; written = [] } }

-- a keeper that took no target has no tables
abbrev pub told_by : Attachment → Kept → Told Store
told_by (Taken target) kept = told_of kept
told_by attachment kept = new_store

abbrev pub depth_by : Attachment → Kept → ℕ
depth_by (Taken target) kept = length kept.store.scopes
depth_by attachment kept = 0

abbrev pub target_of : Attachment → Option Target
target_of Fresh = None
target_of (Taken target) = Some target
target_of (Untaken target) = Some target

abbrev pub is_taken : Attachment → Bool
is_taken (Taken target) = true
is_taken attachment = false

-- what is seen of the keeper: it tells everything
abbrev pub moment_of : Kept → Moment Store
moment_of kept = record {
  told = Some (told_by kept.attachment kept);
  tells = true;
  faults = kept.faults;
  refusals = kept.refusals;
  last = kept.last;
  depth = depth_by kept.attachment kept;
  target = target_of kept.attachment;
  attached = is_taken kept.attachment;
}

-- it begins with no tables in memory, and takes no file
abbrev pub opening : Kept → Target → Option Tables
opening kept targets.Memory = Some []
opening kept (targets.File name) = None

-- the number is in the list
unfoldable pub is_listed : ℕ → List ℕ → Bool
is_listed number numbers = list_any (λ other. nat_eq other number) numbers

-- the next call is to fail
abbrev pub is_failing : Kept → Bool
is_failing kept = is_listed (one_more kept.calls) kept.failing

abbrev pub is_file : Target → Bool
is_file targets.Memory = false
is_file (targets.File name) = true

-- one call more was counted, and the same calls are to fail
abbrev pub IsCounted : Kept → Kept → Type 0
IsCounted old new = (new.calls ≡ one_more old.calls) × (new.failing ≡ old.failing)

-- the call was ended by a fault
abbrev pub is_faulted : {A : Type 0} → Result A Refusal → Bool
is_faulted (Ok x) = false
is_faulted (Err e) = is_fault e

-- the call was counted, and ended by a fault exactly where its number is in the list
abbrev pub IsNumbered : {A : Type 0} → Kept → Result A Refusal → Kept → Type 0
IsNumbered old result new = (is_faulted result ≡ is_failing old) × (new.calls ≡ one_more old.calls) × (new.failing ≡ old.failing)

-- ---- what calls make of a keeper

-- one call more
abbrev pub one_call_more : Kept → Kept
one_call_more kept = record kept { calls = one_more kept.calls }

-- the call was ended by memory that ran out
abbrev pub call_ended : Kept → Kept
call_ended kept = record kept { store = given_up kept.store; marks = no_marks }

-- the call was ended by a fault
abbrev pub call_failed : Kept → Kept
call_failed kept = record kept { store = given_up kept.store; marks = no_marks; faults = one_more kept.faults }

-- a statement was sent, and left this store and these marks
abbrev pub sent_by : Kept → Sent → Store → Marks → Kept
sent_by kept statement after marks = record kept { store = after; marks = marks; sent = kept.sent ++ statement ∷ [] }

-- a statement was sent, and refused
abbrev pub refused_by : Kept → Sent → Refusal → Kept
refused_by kept statement refusal = record kept {
  sent = kept.sent ++ statement ∷ [];
  refusals = one_more kept.refusals;
  last = Some (record { statement = statement; refusal = refusal });
}

-- the target was given, and taken: a new store begins
abbrev pub taken_by : Kept → Target → Kept
taken_by kept target = record kept { store = empty_store; marks = no_marks; sent = []; attachment = Taken target }

-- the target was given, and not taken
abbrev pub untaken_by : Kept → Target → Kept
untaken_by kept target = record kept { attachment = Untaken target }

-- ---- statements

-- the store with its marks
abbrev pub marked_of : Kept → Marked
marked_of kept = record { seen = kept.store; marks = kept.marks }

-- What a keeper did with a statement: its program, with the statement sent and so many changes noted, or refused; it gave up where memory
-- ran out.
abbrev pub Does : {A : Type 0} → (Store → Run Store A) → Sent → (A → ℕ) → Kept → Result A Refusal → Kept → Type 0
Does m statement count old (Ok x) new =
    (m old.store ≡ sends statement new.store (Ok x)) × (new.store.scopes ≡ old.store.scopes) × (new ≡ sent_by old statement new.store new.marks) × IsNoted (count x) (marked_of old) (marked_of new)
Does m statement count old (Err e) new =
    MatchBool (ends_early e) ((e ≡ from.Memory) × (new ≡ call_ended old)) ((m old.store ≡ sends statement old.store (Err e)) × (new ≡ refused_by old statement e))

-- An accepted statement added so many entries to the log, and a refused one none. Where memory ran out or the call failed there is no scope, and no log.
abbrev pub IsMarked : {A : Type 0} → (A → ℕ) → Kept → Result A Refusal → Kept → Type 0
IsMarked count old (Ok x) new = HasMore (count x) old.marks new.marks
IsMarked count old (Err e) new = new.marks ≡ (if ends_early e then no_marks else old.marks)

-- ---- what is told fits the depth and the tables that were committed

told_coherent : (attachment : Attachment) (kept : Kept) → IsCoherentTold true (depth_by attachment kept) (Some (told_by attachment kept))
told_coherent Fresh kept = (refl, refl, refl, refl)
told_coherent (Taken target) kept = (refl, refl, refl, refl)
told_coherent (Untaken target) kept = (refl, refl, refl, refl)

pub coherent : (kept : Kept) → IsCoherent (moment_of kept)
coherent kept = told_coherent kept.attachment kept
