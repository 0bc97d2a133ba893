-- Calls whose refusals are answered.
use Rattle.std.proofs.Common.{◌≡◌, true, false, List, [], ◌++◌, Option, None, Some, Result, Ok, Err, IfErr, MatchBool, refl, sym, ap, ◌∙◌, subst, append-nil, arith}
use Rattle.base_core.specs.declared.refusal.Refusal.{Refusal}
use Rattle.keeper_core.specs.Store.{Store}
use Rattle.keeper_core.specs.Programs.{Event, Run, handle_refusal, ends_early, with_events_before, recover_from}
use Rattle.keeper_core.specs.Moment.{AsTold, Counters, IsCutOff, IsRun, Keeps, Moment, Outcome, Ran, Runs, Told, counters}
use Rattle.keeper_core.specs.Beside.{Beside, moment_answering, moment_beside, told_beside}
use Rattle.keeper_core.proofs.Counts.{count_stands, early_is_apart, faults_after, own_is_no_fault, shown_apart}
use Rattle.keeper_core.proofs.Sequence.{joined_outcome, longer_cut}

caught_answer : {W A : Type 0} (instead : Refusal → W → Run W A) (m : W → Run W A) (w : W) (a : A) → (m w).answer ≡ Ok a
    → record { events = (m w).events; answer = Ok a; after = (m w).after } ≡ handle_refusal instead m w
unfolding handle_refusal
caught_answer instead m w a is = sym (ap (λ r. recover_from (m w).events (m w).after r instead) is)

caught_refusal : {W A : Type 0} (instead : Refusal → W → Run W A) (m : W → Run W A) (w u : W) (e : Refusal) → (m w).answer ≡ Err e → u ≡ (m w).after
    → with_events_before (m w).events (instead e u) ≡ handle_refusal instead m w
unfolding handle_refusal
caught_refusal instead m w u e is after = ap (λ x. with_events_before (m w).events (instead e x)) after ∙ sym (ap (λ r. recover_from (m w).events (m w).after r instead) is)

recovered_events : {W A : Type 0} (events : List Event) (w : W) (r : Result A Refusal) (instead : Refusal → W → Run W A)
    → (rest : List Event) × (events ++ rest ≡ (recover_from events w r instead).events)
recovered_events events w (Ok a) instead = ([], append-nil events)
recovered_events events w (Err e) instead = ((instead e w).events, refl)

caught_events : {W A : Type 0} (instead : Refusal → W → Run W A) (m : W → Run W A) (w : W)
    → (rest : List Event) × ((m w).events ++ rest ≡ (handle_refusal instead m w).events)
unfolding handle_refusal
caught_events instead m w = recovered_events (m w).events (m w).after (m w).answer instead

told_ok : {W A X Y : Type 0} (instead : Refusal → W → Run W A) (v : X → A) (v' : Y → A) (m : W → Run W A) (old new : Option (Told W)) (x : X) (y : Y)
    → v x ≡ v' y → AsTold v m old (Ok x) new → AsTold v' (handle_refusal instead m) old (Ok y) new
told_ok instead v v' m None new x y same p = tt
told_ok instead v v' m (Some t) None x y same p = absurd p
told_ok instead v v' m (Some t) (Some n) x y same p =
    subst (λ run. IsRun run t.log (Ok (v' y)) n) (caught_answer instead m t.world (v x) p.answer) (record { answer = ap Ok same; world = p.world; log = p.log })

told_early : {W A X Y : Type 0} (instead : Refusal → W → Run W A) (v : X → A) (v' : Y → A) (m : W → Run W A) (old new : Option (Told W)) (e : Refusal) → ends_early e ≡ true
    → AsTold v m old (Err e) new → AsTold v' (handle_refusal instead m) old (Err e) new
told_early instead v v' m None new e early p = tt
told_early instead v v' m (Some t) None e early p = absurd p
told_early instead v v' m (Some t) (Some n) e early p =
    let cut : IsCutOff (m t.world) t.log n = subst (λ b. MatchBool b (IsCutOff (m t.world) t.log n) (IsRun (m t.world) t.log (Err e) n)) early p in
    let more = caught_events instead m t.world in
    subst (λ b. MatchBool b (IsCutOff (handle_refusal instead m t.world) t.log n) (IsRun (handle_refusal instead m t.world) t.log (Err e) n)) (sym early)
    (longer_cut t.log n (m t.world) (handle_refusal instead m t.world) more.0 more.1 cut)

told_refused : {W A X Y : Type 0} (instead : Refusal → W → Run W A) (v : X → A) (v' : Y → A) (m : W → Run W A) (old mid new : Option (Told W)) (e : Refusal) (r : Result Y Refusal)
    → ends_early e ≡ false → AsTold v m old (Err e) mid → AsTold v' (instead e) mid r new → AsTold v' (handle_refusal instead m) old r new
told_refused instead v v' m None mid new e r own p q = tt
told_refused instead v v' m (Some t) None new e r own p q = absurd p
told_refused instead v v' m (Some t) (Some k) None e r own p q = absurd q
told_refused instead v v' m (Some t) (Some k) (Some n) e r own p q =
    let ran : IsRun (m t.world) t.log (Err e) k = subst (λ b. MatchBool b (IsCutOff (m t.world) t.log k) (IsRun (m t.world) t.log (Err e) k)) own p in
    subst (λ run. Outcome v' run t.log r n) (caught_refusal instead m t.world k.world e ran.answer ran.world)
    (joined_outcome t.log k.log n v' (m t.world).events (instead e k.world) r ran.log q)

-- ---- what is kept where refusals are not counted

abbrev uncounted : Counters → Counters
uncounted c = record c { refusals = 0; last = None }

uncounted_ok : {X Y : Type 0} {old new : Counters} {x : X} {y : Y} → Keeps old (Ok x) new → Keeps (uncounted old) (Ok y) (uncounted new)
uncounted_ok p = record { faults = p.faults; refusals = omega arith; shown = tt; calm = (refl, refl); target = p.target; attached = p.attached; tells = p.tells }

uncounted_early : {X Y : Type 0} {old new : Counters} (e : Refusal) → ends_early e ≡ true → Keeps {X = X} old (Err e) new → Keeps {X = Y} (uncounted old) (Err e) (uncounted new)
uncounted_early {old = old} {new = new} e early p = record {
  faults = p.faults;
  refusals = omega arith;
  shown = shown_apart e (uncounted old) (uncounted new) (early_is_apart e early);
  calm = tt;
  target = p.target;
  attached = p.attached;
  tells = p.tells;
}

uncounted_refused : {X Y : Type 0} (old mid new : Counters) (e : Refusal) {r : Result Y Refusal} → ends_early e ≡ false
    → Keeps {X = X} old (Err e) mid → Keeps (uncounted mid) r (uncounted new) → Keeps (uncounted old) r (uncounted new)
uncounted_refused old mid new e {r = r} own p q = record {
  faults = faults_after r old.faults mid.faults new.faults (count_stands e old.faults mid.faults (own_is_no_fault e own) p.faults) q.faults;
  refusals = omega arith;
  shown = q.shown;
  calm = q.calm;
  target = q.target ∙ p.target;
  attached = q.attached ∙ p.attached;
  tells = q.tells ∙ p.tells;
}

-- ---- a call whose refusals are answered

-- the call answered
pub caught_ok : {S K A X Y : Type 0} (moment : K → Moment Store) {v : X → A} {v' : Y → A} {m : Beside S → Run (Beside S) A} (instead : Refusal → Beside S → Run (Beside S) A) {old new : S × K} {x : X} {y : Y}
    → v x ≡ v' y → Runs (moment_beside moment) v m old (Ok x) new → Runs (moment_answering moment) v' (handle_refusal instead m) old (Ok y) new
unfolding moment_beside moment_answering
caught_ok moment {v = v} {v' = v'} {m = m} instead {old = old} {new = new} {x = x} {y = y} same (Ran p) = Ran (record {
  told = told_ok instead v v' m (told_beside old.0 (moment old.1).told) (told_beside new.0 (moment new.1).told) x y same p.told;
  keeps = uncounted_ok p.keeps;
})

-- the call was ended early
pub caught_early : {S K A X Y : Type 0} (moment : K → Moment Store) {v : X → A} {v' : Y → A} {m : Beside S → Run (Beside S) A} (instead : Refusal → Beside S → Run (Beside S) A) {old new : S × K} {e : Refusal}
    → ends_early e ≡ true → Runs (moment_beside moment) v m old (Err e) new → Runs (moment_answering moment) v' (handle_refusal instead m) old (Err e) new
unfolding moment_beside moment_answering
caught_early moment {v = v} {v' = v'} {m = m} instead {old = old} {new = new} {e = e} early (Ran p) = Ran (record {
  told = told_early instead v v' m (told_beside old.0 (moment old.1).told) (told_beside new.0 (moment new.1).told) e early p.told;
  keeps = uncounted_early e early p.keeps;
})

-- the call was refused, and something was done about it
pub caught_refused : {S K A X Y : Type 0} (moment : K → Moment Store) {v : X → A} {v' : Y → A} {m : Beside S → Run (Beside S) A} (instead : Refusal → Beside S → Run (Beside S) A) {old mid new : S × K} {e : Refusal} {r : Result Y Refusal}
    → ends_early e ≡ false → Runs (moment_beside moment) v m old (Err e) mid → Runs (moment_answering moment) v' (instead e) mid r new
    → Runs (moment_answering moment) v' (handle_refusal instead m) old r new
unfolding moment_beside moment_answering
caught_refused moment {v = v} {v' = v'} {m = m} instead {old = old} {mid = mid} {new = new} {e = e} {r = r} own (Ran p) (Ran q) = Ran (record {
  told = told_refused instead v v' m (told_beside old.0 (moment old.1).told) (told_beside mid.0 (moment mid.1).told) (told_beside new.0 (moment new.1).told) e r own p.told q.told;
  keeps = uncounted_refused (counters (moment old.1)) (counters (moment mid.1)) (counters (moment new.1)) e own p.keeps q.keeps;
})

-- a call that is refused by an early end alone, where refusals are answered
pub answering_ends : {S K A X : Type 0} (moment : K → Moment Store) {v : X → A} {m : Beside S → Run (Beside S) A} {old new : S × K} {r : Result X Refusal}
    → IfErr r (λ e. ends_early e ≡ true) → Runs (moment_beside moment) v m old r new → Runs (moment_answering moment) v m old r new
unfolding moment_beside moment_answering
answering_ends moment {old = old} {new = new} {r = r} early (Ran p) = Ran (record { told = p.told; keeps = by r early p.keeps })
  where
    by : {X : Type 0} (r : Result X Refusal) → IfErr r (λ e. ends_early e ≡ true) → Keeps (counters (moment old.1)) r (counters (moment new.1))
        → Keeps (uncounted (counters (moment old.1))) r (uncounted (counters (moment new.1)))
    by (Ok x) early p = uncounted_ok p
    by (Err e) early p = uncounted_early e early p

pub ruleset answering = (caught_ok, caught_early, caught_refused)
