-- What stands alone acts as a run, and so it does beside a keeper.
use Rattle.std.proofs.Common.{◌≡◌, ℕ, ◌+◌, ◌≤◌, Bool, true, false, List, [], ◌∷◌, Option, None, Some, Result, Ok, Err, MatchBool, refl, sym, ap, subst, arith, length, length-append}
use Rattle.base_core.specs.Counts.{Rose}
use Rattle.base_core.specs.declared.refusal.Refusal.{Refusal}
use Rattle.base_core.specs.declared.refusal.Refusal.TheVariants.{Memory}
use Rattle.keeper_core.specs.declared.sent.Sent.{Sent}
use Rattle.keeper_core.specs.Store.{Store}
use Rattle.keeper_core.specs.Programs.{Event, Sends, Writes, Log, Run, ◌>>=◌, after_event, after_events, ask, become, becomes, change, ends_early, is_fault, is_of_tables, quiet}
use Rattle.keeper_core.specs.Moment.{AsTold, Counters, IsCutOff, IsRun, Keeps, Moment, Outcome, Ran, Runs, Told, counters}
use Rattle.keeper_core.specs.Beside.{Beside, moment_answering, moment_beside, on_own, quiet_run, told_beside}
use Rattle.keeper_core.specs.Alone.{alone, no_log, IsQuiet, IsTold, Tells, Told as WasTold, IsTurned, Turns, Turned}
use Rattle.keeper_core.proofs.Counts.{keeps_answer, keeps_memory, keeps_refusal}
use Rattle.keeper_core.proofs.Sequence.{then_err, then_ok}

-- ---- what is told of what stands alone

told_answer : {S A X : Type 0} (v : X → A) (m : S → Run S A) (own now : S) (x : X)
    → m own ≡ quiet (Ok (v x)) now → AsTold v m (alone own).told (Ok x) (alone now).told
unfolding alone after_events
told_answer v m own now x is = subst (λ run. IsRun run no_log (Ok (v x)) (record { world = now; log = no_log })) (sym is)
    (record { answer = refl; world = refl; log = refl })

told_refusal : {S A X : Type 0} (v : X → A) (m : S → Run S A) (own now : S) (e : Refusal)
    → ends_early e ≡ false → m own ≡ quiet (Err e) now → AsTold v m (alone own).told (Err e) (alone now).told
unfolding alone after_events
told_refusal {S = S} {A = A} v m own now e early is =
    let then : Told S = record { world = now; log = no_log } in
    let whole : IsRun (m own) no_log (Err e) then = subst (λ run. IsRun run no_log (Err e) then) (sym is) (record { answer = refl; world = refl; log = refl }) in
    subst (λ b. MatchBool b (IsCutOff (m own) no_log then) (IsRun (m own) no_log (Err e) then)) (sym early) whole

told_lost : {S A X : Type 0} (v : X → A) (m : S → Run S A) (own now : S) → AsTold v m (alone own).told (Err Memory) (alone now).told
unfolding alone after_events
told_lost v m own now = record { prefix = []; rest = (m own).events; events = refl; log = refl }

-- an answer, and what stands there then
pub alone_ok : {S A X : Type 0} {v : X → A} (m : S → Run S A) {own now : S} {x : X} → m own ≡ quiet (Ok (v x)) now → Runs alone v m own (Ok x) now
unfolding alone
alone_ok {v = v} m {own = own} {now = now} {x = x} is = Ran (record {
  told = told_answer v m own now x is;
  keeps = keeps_answer;
})

-- a refusal, and what stands there then
pub alone_err : {S A X : Type 0} {v : X → A} (m : S → Run S A) {own now : S} {e : Refusal}
    → ends_early e ≡ false → is_of_tables e ≡ false → m own ≡ quiet (Err e) now → Runs alone v m own (Err e) now
unfolding alone
alone_err {v = v} m {own = own} {now = now} {e = e} early apart is = Ran (record {
  told = told_refusal v m own now e early is;
  keeps = keeps_refusal e early apart;
})

-- memory ran out, whatever stands there then
pub alone_lost : {S A X : Type 0} {v : X → A} {m : S → Run S A} {own now : S} → Runs alone v m own (Err Memory) now
unfolding alone
alone_lost {v = v} {m = m} {own = own} {now = now} = Ran (record {
  told = told_lost v m own now;
  keeps = keeps_memory;
})

-- ---- questions, and what becomes of what stands there

pub asked_ok : {S A X : Type 0} {v : X → A} (question : S → Result A Refusal) {s : S} {x : X} → question s ≡ Ok (v x) → Runs alone v (ask question) s (Ok x) s
unfolding ask
asked_ok {v = v} question {s = s} {x = x} is = alone_ok {v = v} (ask question) (ap (λ r. quiet r s) is)

pub asked_err : {S A X : Type 0} {v : X → A} (question : S → Result A Refusal) {s : S} {e : Refusal}
    → ends_early e ≡ false → is_of_tables e ≡ false → question s ≡ Err e → Runs alone v (ask question) s (Err e) s
unfolding ask
asked_err {v = v} question {s = s} {e = e} early apart is = alone_err {v = v} (ask question) early apart (ap (λ r. quiet r s) is)

pub becomes_ok : {S X : Type 0} (step : S → Result S Refusal) {own now : S} {x : X} → step own ≡ Ok now → Runs alone (λ (_ : X). tt) (becomes step) own (Ok x) now
unfolding becomes
becomes_ok step {own = own} {now = now} {x = x} is = alone_ok {v = λ _. tt} (becomes step) (ap (become own) is)

pub becomes_err : {S X : Type 0} (step : S → Result S Refusal) {own : S} {e : Refusal}
    → ends_early e ≡ false → is_of_tables e ≡ false → step own ≡ Err e → Runs alone (λ (_ : X). tt) (becomes step) own (Err e) own
unfolding becomes
becomes_err step {own = own} {e = e} early apart is = alone_err {v = λ _. tt} (becomes step) early apart (ap (become own) is)

pub change_ok : {S X : Type 0} (f : S → S) {own now : S} {x : X} → now ≡ f own → Runs alone (λ (_ : X). tt) (change f) own (Ok x) now
unfolding change
change_ok f {own = own} {now = now} {x = x} is = alone_ok {v = λ _. tt} (change f) (ap (λ s. quiet (Ok tt) s) (sym is))

-- ---- what is told

pub tells_ok : {A X : Type 0} {v : X → A} {told : Result A Refusal} {x : X} → told ≡ Ok (v x) → Tells v told (Ok x)
tells_ok is = WasTold is

tells_err_is : {A X : Type 0} (v : X → A) (told : Result A Refusal) (e : Refusal) → ends_early e ≡ false → is_of_tables e ≡ false → told ≡ Err e → IsTold v told (Err e)
tells_err_is v told Memory early apart is = tt
tells_err_is v told e early apart is = (is, (early, apart))

pub tells_err : {A X : Type 0} {v : X → A} {told : Result A Refusal} {e : Refusal} → ends_early e ≡ false → is_of_tables e ≡ false → told ≡ Err e → Tells v told (Err e)
tells_err {v = v} {told = told} {e = e} early apart is = WasTold (tells_err_is v told e early apart is)

pub tells_lost : {A X : Type 0} {v : X → A} {told : Result A Refusal} → Tells v told (Err Memory)
tells_lost = WasTold tt

asked_by : {S A X : Type 0} (v : X → A) (question : S → Result A Refusal) (s : S) (r : Result X Refusal) → IsTold v (question s) r → Runs alone v (ask question) s r s
asked_by v question s (Ok x) p = asked_ok question p
asked_by v question s (Err Memory) p = alone_lost
asked_by v question s (Err e) p = asked_err question p.1.0 p.1.1 p.0

-- a question that was answered
pub asked_tells : {S A X : Type 0} {v : X → A} (question : S → Result A Refusal) {s : S} {r : Result X Refusal} → Tells v (question s) r → Runs alone v (ask question) s r s
asked_tells {v = v} question {s = s} {r = r} (WasTold p) = asked_by v question s r p

pub tells_memory : {A X : Type 0} {v : X → A} {told : Result A Refusal} {e : Refusal} → e ≡ Memory → Tells v told (Err e)
tells_memory {v = v} {told = told} is = subst (λ (d : Refusal). Tells v told (Err d)) (sym is) tells_lost

-- ---- what became of a value

pub turns_ok : {S X : Type 0} {told : Result S Refusal} {old new : S} {x : X} → told ≡ Ok new → Turns told old (Ok x) new
turns_ok is = Turned is

turns_err_is : {S : Type 0} (X : Type 0) (told : Result S Refusal) (old : S) (e : Refusal) → ends_early e ≡ false → is_of_tables e ≡ false → told ≡ Err e → IsTurned {X = X} told old (Err e) old
turns_err_is X told old Memory early apart is = tt
turns_err_is X told old e early apart is = (is, refl, (early, apart))

pub turns_err : {S X : Type 0} {told : Result S Refusal} {old : S} {e : Refusal} → ends_early e ≡ false → is_of_tables e ≡ false → told ≡ Err e → Turns {X = X} told old (Err e) old
turns_err {X = X} {told = told} {old = old} {e = e} early apart is = Turned (turns_err_is X told old e early apart is)

pub turns_lost : {S X : Type 0} {told : Result S Refusal} {old new : S} → Turns {X = X} told old (Err Memory) new
turns_lost = Turned tt

-- ---- beside a keeper

abbrev size : Log → ℕ
size log = length log.sent + length log.written

size_after : (log : Log) (e : Event) → size (after_event log e) ≡ size log + 1
size_after log (Sends s t) = grind (arith, length-append)
size_after log (Writes b) = grind (arith, length-append)

size_events : (log : Log) (es : List Event) → size (after_events log es) ≡ size log + length es
unfolding after_events
size_events log [] = omega arith
size_events log (e ∷ es) = omega (arith, size_events (after_event log e) es, size_after log e)

-- where nothing was seen there was no event
no_events : (es : List Event) → no_log ≡ after_events no_log es → [] ≡ es
no_events [] is = refl
no_events (e ∷ es) is = absurd (omega (arith, ap size is, size_events no_log (e ∷ es)))

stops_beside : {S A : Type 0} (run : Run S A) (own now : S) (t : Told Store) (e : Refusal) (b : Bool)
    → MatchBool b (IsCutOff run no_log (record { world = now; log = no_log })) (IsRun run no_log (Err e) (record { world = now; log = no_log }))
    → MatchBool b (IsCutOff (quiet_run t.world run) t.log (record { world = record { own = now; store = t.world }; log = t.log }))
    (IsRun (quiet_run t.world run) t.log (Err e) (record { world = record { own = now; store = t.world }; log = t.log }))
unfolding after_events
stops_beside run own now t e true p = record { prefix = []; rest = run.events; events = refl; log = refl }
stops_beside run own now t e false p = record {
  answer = p.answer;
  world = ap (λ s. record { own = s; store = t.world }) p.world;
  log = ap (after_events t.log) (no_events run.events p.log);
}

pub told_alone : {S A X : Type 0} (v : X → A) (m : S → Run S A) (own now : S) (told : Option (Told Store)) (r : Result X Refusal)
    → AsTold v m (alone own).told r (alone now).told → AsTold v (on_own m) (told_beside own told) r (told_beside now told)
unfolding alone on_own after_events
told_alone v m own now None r p = tt
told_alone v m own now (Some t) (Ok x) p = record {
  answer = p.answer;
  world = ap (λ s. record { own = s; store = t.world }) p.world;
  log = ap (after_events t.log) (no_events (m own).events p.log);
}
told_alone v m own now (Some t) (Err e) p = stops_beside (m own) own now t e (ends_early e) p

abbrev uncounted : Counters
uncounted = record { faults = 0; refusals = 0; last = None; target = None; attached = false; tells = true }

-- what a call alone keeps is kept whatever was counted before
keeps_alone : {X : Type 0} (r : Result X Refusal) (c : Counters) → Keeps uncounted r uncounted → Keeps c r c
keeps_alone (Ok x) c p = keeps_answer
keeps_alone (Err e) c p = record {
  faults = fault (is_fault e) p.faults;
  refusals = omega arith;
  shown = last (is_of_tables e) p.shown;
  calm = tt;
  target = refl;
  attached = refl;
  tells = refl;
}
  where
    fault : (b : Bool) → MatchBool b ((uncounted.faults ≤ uncounted.faults) × Rose uncounted.faults uncounted.faults) (uncounted.faults ≡ uncounted.faults)
        → MatchBool b ((c.faults ≤ c.faults) × Rose c.faults c.faults) (c.faults ≡ c.faults)
    fault true q = absurd (omega (arith, q.1))
    fault false q = refl

    last : (b : Bool) → MatchBool b (Rose uncounted.refusals uncounted.refusals × (statement : Sent) × (uncounted.last ≡ Some (record { statement = statement; refusal = e }))) (Unit {0})
        → MatchBool b (Rose c.refusals c.refusals × (statement : Sent) × (c.last ≡ Some (record { statement = statement; refusal = e }))) (Unit {0})
    last true q = absurd (omega (arith, q.0))
    last false q = tt

-- what stands alone does the same beside a keeper, and leaves the keeper
pub beside_alone : {S K A X : Type 0} (moment : K → Moment Store) {v : X → A} {m : S → Run S A} {own now : S} {keeper : K} {r : Result X Refusal}
    → Runs alone v m own r now → Runs (moment_beside moment) v (on_own m) (own, keeper) r (now, keeper)
unfolding alone moment_beside
beside_alone moment {v = v} {m = m} {own = own} {now = now} {keeper = keeper} {r = r} (Ran p) =
    Ran (record { told = told_alone v m own now (moment keeper).told r p.told; keeps = keeps_alone r (counters (moment keeper)) p.keeps })

-- the same, where refusals are answered
pub answering_alone : {S K A X : Type 0} (moment : K → Moment Store) {v : X → A} {m : S → Run S A} {own now : S} {keeper : K} {r : Result X Refusal}
    → Runs alone v m own r now → Runs (moment_answering moment) v (on_own m) (own, keeper) r (now, keeper)
unfolding alone moment_answering
answering_alone moment {v = v} {m = m} {own = own} {now = now} {keeper = keeper} {r = r} (Ran p) =
    Ran (record { told = told_alone v m own now (moment keeper).told r p.told; keeps = keeps_alone r (counters (moment_answering moment (own, keeper))) p.keeps })

-- memory ran out
pub lost_alone : {S A X : Type 0} {v : X → A} {m : S → Run S A} {own now : S} {e : Refusal} → e ≡ Memory → Runs alone v m own (Err e) now
lost_alone {v = v} {m = m} {own = own} {now = now} is = subst (λ (d : Refusal). Runs alone v m own (Err d) now) (sym is) alone_lost

-- a program that does what another does here
pub alone_same : {S A X : Type 0} {v : X → A} (m m' : S → Run S A) {own now : S} {r : Result X Refusal} → m own ≡ m' own → Runs alone v m own r now → Runs alone v m' own r now
unfolding alone
alone_same {v = v} m m' {own = own} {now = now} {r = r} same (Ran p) =
    Ran (record { told = subst (λ run. Outcome v run no_log r (record { world = now; log = no_log })) same p.told; keeps = p.keeps })

-- a call alone that sends nothing
pub quietly_alone : {S A X : Type 0} {v : X → A} (m : S → Run S A) {own now : S} {r : Result X Refusal} → IsQuiet v (m own) r now → Runs alone v m own r now
quietly_alone {v = v} m {r = Ok x} is = alone_ok {v = v} m is
quietly_alone m {r = Err Memory} is = alone_lost
quietly_alone {v = v} m {r = Err e} is = alone_err {v = v} m is.1.0 is.1.1 is.0

-- ---- calls in a row

-- a call alone, and what goes on from its answer
pub then_own_ok : {S K A B X Y : Type 0} (moment : K → Moment Store) {v : X → A} {v' : Y → B} {m : S → Run S A} (next : A → Beside S → Run (Beside S) B) {own mid now : S} {old new : K} {x : X} {r : Result Y Refusal}
    → Runs alone v m own (Ok x) mid → Runs (moment_beside moment) v' (next (v x)) (mid, old) r (now, new) → Runs (moment_beside moment) v' (on_own m >>= next) (own, old) r (now, new)
then_own_ok moment next p q = then_ok next (beside_alone moment p) q

-- a call alone that was refused
pub then_own_err : {S K A B X Y : Type 0} (moment : K → Moment Store) {v : X → A} {v' : Y → B} {m : S → Run S A} (next : A → Beside S → Run (Beside S) B) {own now : S} {keeper : K} {e : Refusal}
    → Runs alone v m own (Err e) now → Runs (moment_beside moment) v' (on_own m >>= next) (own, keeper) (Err e) (now, keeper)
then_own_err moment next p = then_err next (beside_alone moment p)

-- an answer or a refusal of what stands alone, as the answer of the call around it
pub ruleset standing = (asked_ok, asked_err, asked_tells, becomes_ok, becomes_err, change_ok, alone_lost, tells_ok, tells_err, tells_lost, tells_memory, turns_ok, turns_err, turns_lost)
