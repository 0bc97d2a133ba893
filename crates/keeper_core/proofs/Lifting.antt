-- Calls of a keeper, and changes of what stands beside it, as runs of the world that has both.
use Rattle.std.proofs.Common.{◌≡◌, Bool, true, false, List, [], Option, None, Some, Result, Ok, Err, IfErr, OnOk, MatchBool, refl, sym, ap, ◌∙◌, subst}
use Rattle.base_core.specs.declared.refusal.Refusal.{Refusal}
use Rattle.base_core.specs.declared.refusal.Refusal.TheVariants.{Memory}
use Rattle.keeper_core.specs.Store.{Store}
use Rattle.keeper_core.specs.Programs.{Event, Log, Run, ◌>>=◌, after_events, ends_early, is_of_tables, quiet}
use Rattle.keeper_core.specs.Moment.{Acted, Acts, AsTold, IsCutOff, IsRun, Moment, Outcome, Ran, Runs, Told}
use Rattle.keeper_core.specs.Beside.{Beside, IsNoted, IsNotedAs, Noted, beside_run, by_own, changes, moment_answering, moment_beside, on_own, on_store, quiet_run, told_beside, no_note}
use Rattle.keeper_core.specs.Alone.{IsQuiet}
use Rattle.keeper_core.proofs.Counts.{keeps_answer, keeps_memory, keeps_refusal}
use Rattle.keeper_core.proofs.Sequence.{no_memory, then_err, then_ok}

-- ---- a call of the keeper

stops_beside : {S A : Type 0} (own now : S) (run : Run Store A) (events : List Event → S → S) (before : Log) (e : Refusal) (n : Told Store) (b : Bool)
    → MatchBool b (Unit {0}) (now ≡ events run.events own)
    → MatchBool b (IsCutOff run before n) (IsRun run before (Err e) n)
    → MatchBool b (IsCutOff (beside_run (events run.events own) run) before (record { world = record { own = now; store = n.world }; log = n.log }))
    (IsRun (beside_run (events run.events own) run) before (Err e) (record { world = record { own = now; store = n.world }; log = n.log }))
stops_beside own now run note before e n true is p = record { prefix = p.prefix; rest = p.rest; events = p.events; log = p.log }
stops_beside own now run note before e n false is p = record {
  answer = p.answer;
  world = ap (λ s. record { own = s; store = n.world }) is ∙ ap (λ w. record { own = note run.events own; store = w }) p.world;
  log = p.log;
}

refusal_noted : {S A : Type 0} (note : List Event → S → S) (m : Store → Run Store A) (own now : S) (e : Refusal) (before : Log) (t : Store) (n : Told Store) (b : Bool)
    → MatchBool b (Unit {0}) ((w : Store) → (m w).answer ≡ Err e → now ≡ note (m w).events own)
    → MatchBool b (IsCutOff (m t) before n) (IsRun (m t) before (Err e) n)
    → MatchBool b (Unit {0}) (now ≡ note (m t).events own)
refusal_noted note m own now e before t n true noted p = tt
refusal_noted note m own now e before t n false noted p = noted t p.answer

told_on_store : {S A X : Type 0} (note : List Event → S → S) (v : X → A) (m : Store → Run Store A) (own now : S) (old new : Option (Told Store)) (r : Result X Refusal)
    → IsNotedAs note v m own r now → AsTold v m old r new → AsTold v (on_store note m) (told_beside own old) r (told_beside now new)
unfolding on_store
told_on_store note v m own now None new r noted p = tt
told_on_store note v m own now (Some t) None r noted p = absurd p
told_on_store note v m own now (Some t) (Some n) (Ok x) noted p = record {
  answer = p.answer;
  world = ap (λ s. record { own = s; store = n.world }) (noted t.world p.answer) ∙ ap (λ w. record { own = note (m t.world).events own; store = w }) p.world;
  log = p.log;
}
told_on_store note v m own now (Some t) (Some n) (Err e) noted p =
    stops_beside own now (m t.world) note t.log e n (ends_early e) (refusal_noted note m own now e t.log t.world n (ends_early e) noted p) p

-- a call of the keeper, whose events are noted beside it
pub on_keeper_noted : {S K A X : Type 0} {moment : K → Moment Store} {note : List Event → S → S} {v : X → A} {m : Store → Run Store A} {own now : S} {old new : K} {r : Result X Refusal}
    → IsNoted note v m own r now → Runs moment v m old r new → Runs (moment_beside moment) v (on_store note m) (own, old) r (now, new)
unfolding moment_beside
on_keeper_noted {moment = moment} {note = note} {v = v} {m = m} {own = own} {now = now} {old = old} {new = new} {r = r} (Noted noted) (Ran p) =
    Ran (record { told = told_on_store note v m own now (moment old).told (moment new).told r noted p.told; keeps = p.keeps })

nothing_noted : {S A X : Type 0} (v : X → A) (m : Store → Run Store A) (own : S) (r : Result X Refusal) → IsNotedAs no_note v m own r own
nothing_noted v m own (Ok x) = λ w is. refl
nothing_noted {S = S} v m own (Err e) = by (ends_early e)
  where
    by : (b : Bool) → MatchBool b (Unit {0}) ((w : Store) → (m w).answer ≡ Err e → own ≡ own)
    by true = tt
    by false = λ w is. refl

-- a call of the keeper leaves what stands beside it and notes nothing
pub on_keeper : {S K A X : Type 0} {moment : K → Moment Store} {v : X → A} {m : Store → Run Store A} {own : S} {old new : K} {r : Result X Refusal}
    → Runs moment v m old r new → Runs (moment_beside {S = S} moment) v (on_store no_note m) (own, old) r (own, new)
on_keeper {S = S} {v = v} {m = m} {own = own} {r = r} p = on_keeper_noted {note = no_note} (Noted (nothing_noted v m own r)) p

-- ---- a change of what stands beside it

told_on_own : {S A X : Type 0} (v : X → A) (m : S → Run S A) (own now : S) (told : Option (Told Store)) (x : X)
    → m own ≡ quiet (Ok (v x)) now → AsTold v (on_own m) (told_beside own told) (Ok x) (told_beside now told)
unfolding on_own after_events
told_on_own v m own now None x is = tt
told_on_own v m own now (Some t) x is =
    subst (λ run. IsRun (quiet_run t.world run) t.log (Ok (v x)) (record { world = record { own = now; store = t.world }; log = t.log })) (sym is)
    (record { answer = refl; world = refl; log = refl })

-- a change that sends nothing leaves the keeper
pub on_own_ok : {S K A X : Type 0} (moment : K → Moment Store) {v : X → A} (m : S → Run S A) {own now : S} {keeper : K} {x : X}
    → m own ≡ quiet (Ok (v x)) now → Runs (moment_beside moment) v (on_own m) (own, keeper) (Ok x) (now, keeper)
unfolding moment_beside
on_own_ok moment {v = v} m {own = own} {now = now} {keeper = keeper} {x = x} is = Ran (record { told = told_on_own v m own now (moment keeper).told x is; keeps = keeps_answer })

told_changed : {S X : Type 0} (f : S → S) (own now : S) (told : Option (Told Store)) (x : X)
    → now ≡ f own → AsTold (λ (_ : X). tt) (changes f) (told_beside own told) (Ok x) (told_beside now told)
unfolding changes after_events
told_changed f own now None x is = tt
told_changed f own now (Some t) x is = record { answer = refl; world = ap (λ s. record { own = s; store = t.world }) is; log = refl }

-- a change of what stands beside the keeper
pub changed : {S K X : Type 0} (moment : K → Moment Store) (f : S → S) {own now : S} {keeper : K} {x : X}
    → now ≡ f own → Runs (moment_beside moment) (λ (_ : X). tt) (changes f) (own, keeper) (Ok x) (now, keeper)
unfolding moment_beside
changed moment f {own = own} {now = now} {keeper = keeper} {x = x} is = Ran (record { told = told_changed f own now (moment keeper).told x is; keeps = keeps_answer })

told_on_own_err : {S A X : Type 0} (v : X → A) (m : S → Run S A) (own now : S) (told : Option (Told Store)) (e : Refusal)
    → ends_early e ≡ false → m own ≡ quiet (Err e) now → AsTold v (on_own m) (told_beside own told) (Err e) (told_beside now told)
unfolding on_own after_events
told_on_own_err v m own now None e early is = tt
told_on_own_err {S = S} {A = A} v m own now (Some t) e early is =
    let then : Told (Beside S) = record { world = record { own = now; store = t.world }; log = t.log } in
    let whole : IsRun (quiet_run t.world (m own)) t.log (Err e) then =
    subst (λ run. IsRun (quiet_run t.world run) t.log (Err e) then) (sym is) (record { answer = refl; world = refl; log = refl }) in
    subst (λ b. MatchBool b (IsCutOff (quiet_run t.world (m own)) t.log then) (IsRun (quiet_run t.world (m own)) t.log (Err e) then)) (sym early) whole

-- a refusal of what stands beside the keeper
pub on_own_err : {S K A X : Type 0} (moment : K → Moment Store) {v : X → A} (m : S → Run S A) {own now : S} {keeper : K} {e : Refusal}
    → ends_early e ≡ false → is_of_tables e ≡ false → m own ≡ quiet (Err e) now → Runs (moment_beside moment) v (on_own m) (own, keeper) (Err e) (now, keeper)
unfolding moment_beside
on_own_err moment {v = v} m {own = own} {now = now} {keeper = keeper} {e = e} early apart is =
    Ran (record { told = told_on_own_err v m own now (moment keeper).told e early is; keeps = keeps_refusal e early apart })

-- memory ran out, whatever became of what stands beside the keeper
told_spoiled : {S A X : Type 0} (v : X → A) (m : Beside S → Run (Beside S) A) (own now : S) (told : Option (Told Store))
    → AsTold v m (told_beside own told) (Err Memory) (told_beside now told)
unfolding after_events
told_spoiled v m own now None = tt
told_spoiled v m own now (Some t) = record { prefix = []; rest = (m (record { own = own; store = t.world })).events; events = refl; log = refl }

pub spoiled : {S K A X : Type 0} (moment : K → Moment Store) {v : X → A} {m : Beside S → Run (Beside S) A} {own now : S} {keeper : K}
    → Runs (moment_beside moment) v m (own, keeper) (Err Memory) (now, keeper)
unfolding moment_beside
spoiled moment {v = v} {m = m} {own = own} {now = now} {keeper = keeper} = Ran (record { told = told_spoiled v m own now (moment keeper).told; keeps = keeps_memory })

-- the same, where the refusal is known to be of memory
pub lost : {S K A X : Type 0} (moment : K → Moment Store) {v : X → A} {m : Beside S → Run (Beside S) A} {own now : S} {keeper : K} {e : Refusal}
    → e ≡ Memory → Runs (moment_beside moment) v m (own, keeper) (Err e) (now, keeper)
lost moment {v = v} {m = m} {own = own} {now = now} {keeper = keeper} is =
    subst (λ (d : Refusal). Runs (moment_beside moment) v m (own, keeper) (Err d) (now, keeper)) (sym is) (spoiled moment)

-- memory ran out before anything was done
pub no_room : {W A X S : Type 0} {tell : S → Moment W} {v : X → A} {m : W → Run W A} {s : S} {e : Refusal} → e ≡ Memory → Runs tell v m s (Err e) s
no_room {tell = tell} {v = v} {m = m} {s = s} is = subst (λ (d : Refusal). Runs tell v m s (Err d) s) (sym is) no_memory

-- a call that sends nothing is a run of the world that has the keeper too
pub quietly : {S K A X : Type 0} (moment : K → Moment Store) {v : X → A} (m : S → Run S A) {own now : S} {keeper : K} {r : Result X Refusal}
    → IsQuiet v (m own) r now → Runs (moment_beside moment) v (on_own m) (own, keeper) r (now, keeper)
quietly moment m {r = Ok x} is = on_own_ok moment m is
quietly moment m {r = Err Memory} is = spoiled moment
quietly moment m {r = Err e} is = on_own_err moment m is.1.0 is.1.1 is.0

-- a change of what stands beside the keeper, unless memory ran out
pub ends : {S K : Type 0} (moment : K → Moment Store) (f : S → S) {own now : S} {keeper : K} {r : Result (Unit {0}) Refusal}
    → OnOk r (now ≡ f own) → IfErr r (λ e. e ≡ Memory) → Runs (moment_beside moment) (λ u. u) (changes f) (own, keeper) r (now, keeper)
ends moment f {r = Ok u} is cause = changed moment f is
ends moment f {r = Err e} is cause = lost moment cause

-- a run, and then a change of what stands beside the keeper
pub then_ends : {S K A X : Type 0} (moment : K → Moment Store) {v : X → A} {m : Beside S → Run (Beside S) A} (f : A → S → S) {own mid now : S} {old keeper : K} {x : X} {r : Result (Unit {0}) Refusal}
    → Runs (moment_beside moment) v m (own, old) (Ok x) (mid, keeper) → OnOk r (now ≡ f (v x) mid) → IfErr r (λ e. e ≡ Memory)
    → Runs (moment_beside moment) (λ u. u) (m >>= λ a. changes (f a)) (own, old) r (now, keeper)
then_ends moment {v = v} f {x = x} p is cause = then_ok (λ a. changes (f a)) p (ends moment (f (v x)) is cause)

-- ---- calls of the keeper in a row

-- a call of the keeper, and what goes on from its answer
pub then_store_ok : {S K A B X Y : Type 0} {moment : K → Moment Store} {v : X → A} {v' : Y → B} {m : Store → Run Store A} (next : A → Beside S → Run (Beside S) B) {own now : S} {old mid new : K} {x : X} {r : Result Y Refusal}
    → Runs moment v m old (Ok x) mid → Runs (moment_beside moment) v' (next (v x)) (own, mid) r (now, new) → Runs (moment_beside moment) v' (on_store no_note m >>= next) (own, old) r (now, new)
then_store_ok next p q = then_ok next (on_keeper p) q

-- a call of the keeper that was refused
pub then_store_err : {S K A B X Y : Type 0} {moment : K → Moment Store} {v : X → A} {v' : Y → B} {m : Store → Run Store A} (next : A → Beside S → Run (Beside S) B) {own : S} {old new : K} {e : Refusal}
    → Runs moment v m old (Err e) new → Runs (moment_beside moment) v' (on_store no_note m >>= next) (own, old) (Err e) (own, new)
then_store_err next p = then_err next (on_keeper p)

-- ---- programs that do the same here

told_same : {S A X : Type 0} (v : X → A) (m m' : Beside S → Run (Beside S) A) (own : S) (old : Option (Told Store)) (r : Result X Refusal) (new : Option (Told (Beside S)))
    → ((store : Store) → m (record { own = own; store = store }) ≡ m' (record { own = own; store = store })) → AsTold v m (told_beside own old) r new → AsTold v m' (told_beside own old) r new
told_same v m m' own None r new same p = tt
told_same v m m' own (Some t) r None same p = p
told_same v m m' own (Some t) r (Some n) same p = subst (λ run. Outcome v run t.log r n) (same t.world) p

-- a program that does what another does, with what stands beside the store now
pub same_beside : {S K A X : Type 0} (moment : K → Moment Store) {v : X → A} (m m' : Beside S → Run (Beside S) A) {own now : S} {old new : K} {r : Result X Refusal}
    → ((store : Store) → m (record { own = own; store = store }) ≡ m' (record { own = own; store = store }))
    → Runs (moment_beside moment) v m (own, old) r (now, new) → Runs (moment_beside moment) v m' (own, old) r (now, new)
unfolding moment_beside
same_beside moment {v = v} m m' {own = own} {now = now} {old = old} {new = new} {r = r} same (Ran p) =
    Ran (record { told = told_same v m m' own (moment old).told r (told_beside now (moment new).told) same p.told; keeps = p.keeps })

-- a program chosen by what stands beside it
pub chosen : {S K A X : Type 0} (moment : K → Moment Store) {v : X → A} (choose : S → Beside S → Run (Beside S) A) {own now : S} {old new : K} {r : Result X Refusal}
    → Runs (moment_beside moment) v (choose own) (own, old) r (now, new) → Runs (moment_beside moment) v (by_own choose) (own, old) r (now, new)
unfolding by_own
chosen moment choose {own = own} p = same_beside moment (choose own) (by_own choose) (λ store. refl) p

-- ---- what such a run keeps of the keeper

pub acts_beside : {S K A X : Type 0} (moment : K → Moment Store) {v : X → A} {m : Beside S → Run (Beside S) A} {own now : S} {old new : K} {r : Result X Refusal}
    → Runs (moment_beside moment) v m (own, old) r (now, new) → Acts (moment old) r (moment new)
unfolding moment_beside
acts_beside moment (Ran p) = Acted (record { faults = p.keeps.faults; kept = p.keeps.target; attached = p.keeps.attached; tells = p.keeps.tells })

pub acts_answering : {S K A X : Type 0} (moment : K → Moment Store) {v : X → A} {m : Beside S → Run (Beside S) A} {own now : S} {old new : K} {r : Result X Refusal}
    → Runs (moment_answering moment) v m (own, old) r (now, new) → Acts (moment old) r (moment new)
unfolding moment_answering
acts_answering moment (Ran p) = Acted (record { faults = p.keeps.faults; kept = p.keeps.target; attached = p.keeps.attached; tells = p.keeps.tells })

pub ruleset lifting = (on_keeper, on_own_ok, on_own_err, changed, spoiled, chosen)
