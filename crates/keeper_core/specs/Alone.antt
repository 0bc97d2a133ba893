-- What acts without a keeper: it sends and writes nothing, and its refusals are its own.
use Rattle.std.specs.Prelude.{◌≡◌, true, false, [], None, Some, Result, Ok, Err}
use Rattle.base_core.specs.declared.refusal.Refusal.{Refusal}
use Rattle.base_core.specs.declared.refusal.Refusal.TheVariants.{Memory}
use Rattle.keeper_core.specs.Programs.{Log, Run, ends_early, is_of_tables, quiet}
use Rattle.keeper_core.specs.Moment.{Moment}

-- nothing was seen
abbrev pub no_log : Log
no_log = record { sent = []; committed = []; written = [] }

-- a moment of what stands alone: all of it is told, and nothing was sent, written, failed or refused by a keeper
unfoldable pub alone : {S : Type 0} → S → Moment S
alone s = record {
  told = Some (record { world = s; log = no_log });
  tells = true;
  faults = 0;
  refusals = 0;
  last = None;
  depth = 0;
  target = None;
  attached = false;
}

-- a refusal of what stands alone: it ends no run early, and comes of no table
abbrev pub IsOwn : Refusal → Type 0
IsOwn e = (ends_early e ≡ false) × (is_of_tables e ≡ false)

abbrev pub IsTold : {A X : Type 0} → (X → A) → Result A Refusal → Result X Refusal → Type 0
IsTold view told (Ok x) = told ≡ Ok (view x)
IsTold view told (Err Memory) = Unit {0}
IsTold view told (Err e) = (told ≡ Err e) × IsOwn e

-- the answer, seen by view, is what is told, unless memory ran out; a refusal is its own
pub data Tells {A X : Type 0} (view : X → A) (told : Result A Refusal) (result : Result X Refusal) : Type 0 where
  Told : IsTold view told result → Tells view told result

abbrev pub IsTurned : {S X : Type 0} → Result S Refusal → S → Result X Refusal → S → Type 0
IsTurned told old (Ok x) new = told ≡ Ok new
IsTurned told old (Err Memory) new = Unit {0}
IsTurned told old (Err e) new = (told ≡ Err e) × (new ≡ old) × IsOwn e

-- a value became what is told, unless memory ran out, and a refusal, which is its own, left it
pub data Turns {S X : Type 0} (told : Result S Refusal) (old : S) (result : Result X Refusal) (new : S) : Type 0 where
  Turned : IsTurned told old result new → Turns told old result new

-- the call did what the program says, which sends nothing, unless memory ran out; its refusals are its own
abbrev pub IsQuiet : {S A X : Type 0} → (X → A) → Run S A → Result X Refusal → S → Type 0
IsQuiet view run (Ok x) now = run ≡ quiet (Ok (view x)) now
IsQuiet view run (Err Memory) now = Unit {0}
IsQuiet view run (Err e) now = (run ≡ quiet (Err e) now) × IsOwn e
