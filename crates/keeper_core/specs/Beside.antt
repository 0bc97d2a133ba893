-- A store with something beside it that acts with it, as a session or an arena of objects: the world of the layers above.
use Rattle.std.specs.Prelude.{◌≡◌, List, Option, None, Some, Result, Ok, Err, MatchBool}
use Rattle.base_core.specs.declared.refusal.Refusal.{Refusal}
use Rattle.keeper_core.specs.Store.{Store}
use Rattle.keeper_core.specs.Programs.{Event, Run, ends_early, quiet}
use Rattle.keeper_core.specs.Moment.{Moment, Told}

-- what stands beside the store, and the store
pub record Beside (S : Type 0) : Type 0 where
  pub own : S
  pub store : Store

-- ---- programs of the one and of the other

abbrev pub beside_run : {S A : Type 0} → S → Run Store A → Run (Beside S) A
beside_run own run = record { events = run.events; answer = run.answer; after = record { own = own; store = run.after } }

-- a program of the store, whose events are noted by what stands beside it
unfoldable pub on_store : {S A : Type 0} → (List Event → S → S) → (Store → Run Store A) → Beside S → Run (Beside S) A
on_store note m w = beside_run (note (m w.store).events w.own) (m w.store)

-- the note that keeps nothing
abbrev pub no_note : {S : Type 0} → List Event → S → S
no_note events own = own

abbrev pub IsNotedAs : {S A X : Type 0} → (List Event → S → S) → (X → A) → (Store → Run Store A) → S → Result X Refusal → S → Type 0
IsNotedAs note view m own (Ok x) now = (w : Store) → (m w).answer ≡ Ok (view x) → now ≡ note (m w).events own
IsNotedAs note view m own (Err e) now = MatchBool (ends_early e) (Unit {0}) ((w : Store) → (m w).answer ≡ Err e → now ≡ note (m w).events own)

-- what stood beside a program of the store has noted its events, unless it ended early
pub data IsNoted {S A X : Type 0} (note : List Event → S → S) (view : X → A) (m : Store → Run Store A) (own : S) (result : Result X Refusal) (now : S) : Type 0 where
  Noted : IsNotedAs note view m own result now → IsNoted note view m own result now

-- a program of what stands beside the store, which leaves the store: it sends nothing
abbrev pub quiet_run : {S A : Type 0} → Store → Run S A → Run (Beside S) A
quiet_run store run = record { events = run.events; answer = run.answer; after = record { own = run.after; store = store } }

unfoldable pub on_own : {S A : Type 0} → (S → Run S A) → Beside S → Run (Beside S) A
on_own m w = quiet_run w.store (m w.own)

-- what stands beside the store changes, and nothing is sent
unfoldable pub changes : {S : Type 0} → (S → S) → Beside S → Run (Beside S) (Unit {0})
changes f w = quiet (Ok tt) (record { own = f w.own; store = w.store })

-- a program chosen by what stands beside the store
unfoldable pub by_own : {S A : Type 0} → (S → Beside S → Run (Beside S) A) → Beside S → Run (Beside S) A
by_own choose w = choose w.own w

-- ---- what is seen of both

abbrev pub told_beside : {S : Type 0} → S → Option (Told Store) → Option (Told (Beside S))
told_beside own None = None
told_beside own (Some told) = Some (record { world = record { own = own; store = told.world }; log = told.log })

-- what is seen of a keeper and of what stands beside it
unfoldable pub moment_beside : {S K : Type 0} → (K → Moment Store) → S × K → Moment (Beside S)
moment_beside moment s = record {
  told = told_beside s.0 (moment s.1).told;
  tells = (moment s.1).tells;
  faults = (moment s.1).faults;
  refusals = (moment s.1).refusals;
  last = (moment s.1).last;
  depth = (moment s.1).depth;
  target = (moment s.1).target;
  attached = (moment s.1).attached;
}

-- the same where refusals are answered in text: they are not counted here
unfoldable pub moment_answering : {S K : Type 0} → (K → Moment Store) → S × K → Moment (Beside S)
moment_answering moment s = record {
  told = told_beside s.0 (moment s.1).told;
  tells = (moment s.1).tells;
  faults = (moment s.1).faults;
  refusals = 0;
  last = None;
  depth = (moment s.1).depth;
  target = (moment s.1).target;
  attached = (moment s.1).attached;
}
