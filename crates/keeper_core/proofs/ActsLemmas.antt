-- What acting calls in a row keep.
use Rattle.std.proofs.Common.{◌≡◌, false, Result, Ok, Err, IfErr, IsErrAnd, refl, sym, ◌∙◌, subst}
use Rattle.base_core.specs.declared.refusal.Refusal.{Refusal}
use Rattle.base_core.specs.declared.refusal.Refusal.TheVariants.{Memory}
use Rattle.keeper_core.specs.Programs.{Run, ends_early}
use Rattle.keeper_core.specs.Moment.{Acts, Acted, IsFaultCount, Moment, Ran, Runs}
use Rattle.keeper_core.proofs.Counts.{count_stands, faults_after, no_fault, own_is_no_fault}

-- a run is such a call
pub acts_runs : {W A X S : Type 0} {tell : S → Moment W} {v : X → A} {m : W → Run W A} {old new : S} {r : Result X Refusal} → Runs tell v m old r new → Acts (tell old) r (tell new)
acts_runs (Ran p) = Acted (record { faults = p.keeps.faults; kept = p.keeps.target; attached = p.keeps.attached; tells = p.keeps.tells })

-- one call and then another
pub acts_then : {W X Y : Type 0} {old mid new : Moment W} {x : X} {r : Result Y Refusal} → Acts old (Ok x) mid → Acts mid r new → Acts old r new
acts_then {old = old} {mid = mid} {new = new} {r = r} (Acted p) (Acted q) = Acted (record {
  faults = faults_after r old.faults mid.faults new.faults p.faults q.faults;
  kept = q.kept ∙ p.kept;
  attached = q.attached ∙ p.attached;
  tells = q.tells ∙ p.tells;
})

passed : {W X Y : Type 0} (old new : Moment W) (e : Refusal) (r : Result Y Refusal) → IsErrAnd r (λ d. d ≡ e) → Acts {X = X} old (Err e) new → Acts old r new
passed old new e (Ok y) is p = absurd is
passed old new e (Err d) is (Acted p) = Acted (record {
  faults = subst (λ (c : Refusal). IsFaultCount {X = Unit {0}} old.faults (Err c) new.faults) (sym is) p.faults;
  kept = p.kept;
  attached = p.attached;
  tells = p.tells;
})

-- a refused call, whose refusal is passed on
pub acts_passed : {W X Y : Type 0} {old new : Moment W} {e : Refusal} {r : Result Y Refusal} → IsErrAnd r (λ d. d ≡ e) → Acts {X = X} old (Err e) new → Acts old r new
acts_passed {X = X} {old = old} {new = new} {e = e} {r = r} is p = passed {X = X} old new e r is p

-- the same refusal as the answer of another kind
pub acts_err : {W X Y : Type 0} {old new : Moment W} {e : Refusal} → Acts {X = X} old (Err e) new → Acts {X = Y} old (Err e) new
acts_err (Acted p) = Acted (record { faults = p.faults; kept = p.kept; attached = p.attached; tells = p.tells })

-- an answer with the keeper untouched
pub acts_done : {W X : Type 0} {moment : Moment W} {x : X} → Acts moment (Ok x) moment
acts_done = Acted (record { faults = refl; kept = refl; attached = refl; tells = refl })

-- a refusal that is no failure of the store, with the keeper untouched
pub acts_refused : {W X : Type 0} {moment : Moment W} {e : Refusal} → ends_early e ≡ false → Acts {X = X} moment (Err e) moment
acts_refused {moment = moment} {e = e} own = Acted (record { faults = no_fault e moment.faults (own_is_no_fault e own); kept = refl; attached = refl; tells = refl })

-- memory ran out
pub acts_memory : {W X : Type 0} {moment : Moment W} → Acts {X = X} moment (Err Memory) moment
acts_memory = Acted (record { faults = refl; kept = refl; attached = refl; tells = refl })

-- memory ran out after a call
pub acts_ran_out : {W X Y : Type 0} {old new : Moment W} {x : X} → Acts old (Ok x) new → Acts {X = Y} old (Err Memory) new
acts_ran_out (Acted p) = Acted (record { faults = p.faults; kept = p.kept; attached = p.attached; tells = p.tells })

-- a refused call, and then another whose refusal is answered in its place
pub acts_undone : {W X Y : Type 0} {old mid new : Moment W} {e : Refusal} {r : Result Y Refusal} → ends_early e ≡ false → Acts {X = X} old (Err e) mid → Acts mid r new → Acts old r new
acts_undone {old = old} {mid = mid} {new = new} {e = e} {r = r} own (Acted p) (Acted q) = Acted (record {
  faults = faults_after r old.faults mid.faults new.faults (count_stands e old.faults mid.faults (own_is_no_fault e own) p.faults) q.faults;
  kept = q.kept ∙ p.kept;
  attached = q.attached ∙ p.attached;
  tells = q.tells ∙ p.tells;
})

-- a refusal was told in place of being answered
pub acts_told : {W X Y : Type 0} {old new : Moment W} {e : Refusal} {r : Result Y Refusal} → ends_early e ≡ false → Acts {X = X} old (Err e) new → IfErr r (λ d. d ≡ Memory) → Acts old r new
acts_told {old = old} {new = new} {e = e} {r = Ok y} own (Acted p) cause = Acted (record {
  faults = count_stands e old.faults new.faults (own_is_no_fault e own) p.faults;
  kept = p.kept;
  attached = p.attached;
  tells = p.tells;
})
acts_told {old = old} {new = new} {e = e} {r = Err d} own (Acted p) cause = Acted (record {
  faults = subst (λ (c : Refusal). IsFaultCount {X = Unit {0}} old.faults (Err c) new.faults) (sym cause) (count_stands e old.faults new.faults (own_is_no_fault e own) p.faults);
  kept = p.kept;
  attached = p.attached;
  tells = p.tells;
})

pub ruleset acting = (acts_runs, acts_then, acts_passed, acts_err, acts_done, acts_refused, acts_memory, acts_ran_out, acts_undone)
