-- What is seen of a keeper, or of what stands beside it, at one moment, and the one relation that every acting call ensures.
use Rattle.std.specs.Prelude.{◌≡◌, ℕ, ◌≤◌, Bool, false, List, ◌++◌, Option, None, Some, Result, Ok, Err, OnOk, IfErr, MatchBool}
use Rattle.base_core.specs.Counts.{Rose}
use Rattle.base_core.specs.declared.refusal.Refusal.{Refusal}
use Rattle.keeper_core.specs.declared.sent.Sent.{Sent}
use Rattle.keeper_core.specs.declared.target.Target.{Target}
use Rattle.keeper_core.specs.Programs.{Event, Log, Run, after_events, ends_early, is_fault, is_of_tables, with_events_before}

-- ---- moments

-- a statement that was refused, and why
pub record Refused : Type 0 where
  pub statement : Sent
  pub refusal : Refusal

-- what is told: the world, and what the outside has seen
pub record Told (W : Type 0) : Type 0 where
  pub world : W
  pub log : Log

-- A moment. Whatever a keeper tells, and whether it tells, it counts its faults and its refusals, and keeps the last refusal, its
-- depth, and the target that it was given with whether it took it.
pub record Moment (W : Type 0) : Type 0 where
  pub told : Option (Told W)
  pub tells : Bool
  pub faults : ℕ
  pub refusals : ℕ
  pub last : Option Refused
  pub depth : ℕ
  pub target : Option Target
  pub attached : Bool

-- a keeper that was given no target
abbrev pub IsFresh : {W : Type 0} → Moment W → Type 0
IsFresh moment = (moment.target ≡ None) × (moment.attached ≡ false)

-- ---- what is told after a call

-- the outcome is the run's, whole
pub record IsRun {W A : Type 0} (run : Run W A) (before : Log) (result : Result A Refusal) (now : Told W) : Type 0 where
  pub answer : run.answer ≡ result
  pub world : now.world ≡ run.after
  pub log : now.log ≡ after_events before run.events

-- the run was cut off: what the outside has seen is a prefix of its events
pub record IsCutOff {W A : Type 0} (run : Run W A) (before : Log) (now : Told W) : Type 0 where
  pub prefix : List Event
  pub rest : List Event
  pub events : prefix ++ rest ≡ run.events
  pub log : now.log ≡ after_events before prefix

-- a refusal is the run's own, unless it ends the run early
abbrev pub Stops : {W A : Type 0} → Run W A → Log → Refusal → Told W → Type 0
Stops run before e now = MatchBool (ends_early e) (IsCutOff run before now) (IsRun run before (Err e) now)

abbrev pub Outcome : {W A X : Type 0} → (X → A) → Run W A → Log → Result X Refusal → Told W → Type 0
Outcome view run before (Ok x) now = IsRun run before (Ok (view x)) now
Outcome view run before (Err e) now = Stops run before e now

-- who tells goes on telling
abbrev pub AsTold : {W A X : Type 0} → (X → A) → (W → Run W A) → Option (Told W) → Result X Refusal → Option (Told W) → Type 0
AsTold view m None result now = Unit {0}
AsTold view m (Some told) result None = ⊥
AsTold view m (Some told) result (Some now) = Outcome view (m told.world) told.log result now

-- ---- what is kept, whatever is told

-- what a moment shows of itself whatever it tells
pub record Counters : Type 0 where
  pub faults : ℕ
  pub refusals : ℕ
  pub last : Option Refused
  pub target : Option Target
  pub attached : Bool
  pub tells : Bool

abbrev pub counters : {W : Type 0} → Moment W → Counters
counters moment = record {
  faults = moment.faults;
  refusals = moment.refusals;
  last = moment.last;
  target = moment.target;
  attached = moment.attached;
  tells = moment.tells;
}

-- the count of faults rose where a fault is answered, and is as it was at every other answer
abbrev pub IsFaultCount : {X : Type 0} → ℕ → Result X Refusal → ℕ → Type 0
IsFaultCount before (Ok x) now = now ≡ before
IsFaultCount before (Err e) now = MatchBool (is_fault e) ((before ≤ now) × Rose before now) (now ≡ before)

-- a refusal that comes of what the tables hold was the keeper's, and its last one
abbrev pub IsShown : Refusal → Counters → Counters → Type 0
IsShown e old new = MatchBool (is_of_tables e) (Rose old.refusals new.refusals × (statement : Sent) × (new.last ≡ Some (record { statement = statement; refusal = e }))) (Unit {0})

-- no refusal was given
abbrev pub IsCalm : Counters → Counters → Type 0
IsCalm old new = (new.refusals ≡ old.refusals) × (new.last ≡ old.last)

-- Faults are counted exactly. What comes of the tables is answered only where the keeper refused it, and at Ok nothing was
-- refused. The target stays, and whether it was taken and whether anything is told.
pub record Keeps {X : Type 0} (old : Counters) (result : Result X Refusal) (new : Counters) : Type 0 where
  pub faults : IsFaultCount old.faults result new.faults
  pub refusals : old.refusals ≤ new.refusals
  pub shown : IfErr result (λ e. IsShown e old new)
  pub calm : OnOk result (IsCalm old new)
  pub target : new.target ≡ old.target
  pub attached : new.attached ≡ old.attached
  pub tells : new.tells ≡ old.tells

-- ---- a call and its program

-- From old on the call ran the program m, as tell shows it: where it is told, its answer and the moment new are those of m,
-- unless memory or the store ended it early.
pub record Parts {W A X S : Type 0} (tell : S → Moment W) (view : X → A) (m : W → Run W A) (old : S) (result : Result X Refusal) (new : S) : Type 0 where
  pub told : AsTold view m (tell old).told result (tell new).told
  pub keeps : Keeps (counters (tell old)) result (counters (tell new))

pub data Runs {W A X S : Type 0} (tell : S → Moment W) (view : X → A) (m : W → Run W A) (old : S) (result : Result X Refusal) (new : S) : Type 0 where
  Ran : Parts tell view m old result new → Runs tell view m old result new

pub parts : {W A X S : Type 0} {tell : S → Moment W} {view : X → A} {m : W → Run W A} {old : S} {result : Result X Refusal} {new : S} → Runs tell view m old result new → Parts tell view m old result new
parts (Ran p) = p

-- what is left of a program once its first events have happened
abbrev pub AsReached : {W A : Type 0} → (W → Run W A) → Option (Told W) → (W → Run W A) → Option (Told W) → Type 0
AsReached whole None rest now = Unit {0}
AsReached whole (Some told) rest None = ⊥
AsReached whole (Some told) rest (Some now) = (events : List Event) × (now.log ≡ after_events told.log events) × (whole told.world ≡ with_events_before events (rest now.world))

-- From old on, the program whole has come to mid, where the program rest is left of it. Nothing was refused on the way.
pub record Way {W A S : Type 0} (tell : S → Moment W) (whole : W → Run W A) (old : S) (rest : W → Run W A) (mid : S) : Type 0 where
  pub told : AsReached whole (tell old).told rest (tell mid).told
  pub keeps : Keeps {X = Unit {0}} (counters (tell old)) (Ok tt) (counters (tell mid))

pub data Reaches {W A S : Type 0} (tell : S → Moment W) (whole : W → Run W A) (old : S) (rest : W → Run W A) (mid : S) : Type 0 where
  Reached : Way tell whole old rest mid → Reaches tell whole old rest mid

-- ---- what every acting call keeps, whatever it does

-- faults are counted exactly, and the target stays with whether it was taken and whether anything is told
pub record ActsParts {W X : Type 0} (old : Moment W) (result : Result X Refusal) (new : Moment W) : Type 0 where
  pub faults : IsFaultCount old.faults result new.faults
  pub kept : new.target ≡ old.target
  pub attached : new.attached ≡ old.attached
  pub tells : new.tells ≡ old.tells

pub data Acts {W X : Type 0} (old : Moment W) (result : Result X Refusal) (new : Moment W) : Type 0 where
  Acted : ActsParts old result new → Acts old result new
