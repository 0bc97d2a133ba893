-- What calls in a row keep, whatever is told.
use Rattle.std.proofs.Common.{◌≡◌, ℕ, ◌≤◌, Bool, true, false, Some, Result, Ok, Err, IfErr, OnOk, MatchBool, refl, sym, ◌∙◌, subst, arith}
use Rattle.base_core.specs.Counts.{Rose}
use Rattle.base_core.specs.declared.refusal.Refusal.{Refusal}
use Rattle.base_core.specs.declared.refusal.Refusal.TheVariants.{Memory, KeeperFault}
use Rattle.keeper_core.specs.declared.sent.Sent.{Sent}
use Rattle.keeper_core.specs.Programs.{ends_early, is_fault, is_of_tables}
use Rattle.keeper_core.specs.Moment.{Counters, IsCalm, IsFaultCount, IsShown, Keeps}

-- ---- faults

-- what does not end a run early is no failure of the store
pub own_is_no_fault : (e : Refusal) → ends_early e ≡ false → is_fault e ≡ false
own_is_no_fault KeeperFault early = cc
own_is_no_fault e early = refl

-- what ends a run early does not come of the tables
pub early_is_apart : (e : Refusal) → ends_early e ≡ true → is_of_tables e ≡ false
early_is_apart Memory early = refl
early_is_apart KeeperFault early = refl
early_is_apart e early = cc

-- no fault, and the count stands
pub no_fault : (e : Refusal) (n : ℕ) → is_fault e ≡ false → IsFaultCount {X = Unit {0}} n (Err e) n
no_fault e n own = subst (λ b. MatchBool b ((n ≤ n) × Rose n n) (n ≡ n)) (sym own) refl

-- the count where the refusal is no fault
pub count_stands : (e : Refusal) (before now : ℕ) → is_fault e ≡ false → IsFaultCount {X = Unit {0}} before (Err e) now → now ≡ before
count_stands e before now own p = subst (λ b. MatchBool b ((before ≤ now) × Rose before now) (now ≡ before)) own p

-- a count that stood, and then a call
pub faults_after : {X : Type 0} (r : Result X Refusal) (before mid now : ℕ) → mid ≡ before → IsFaultCount mid r now → IsFaultCount before r now
faults_after r before mid now is p = subst (λ n. IsFaultCount n r now) is p

-- the count of faults never falls
pub faults_rise : {X : Type 0} (r : Result X Refusal) (before now : ℕ) → IsFaultCount before r now → before ≤ now
faults_rise (Ok x) before now p = omega arith
faults_rise (Err e) before now p = by (is_fault e) p
  where
    by : (b : Bool) → MatchBool b ((before ≤ now) × Rose before now) (now ≡ before) → before ≤ now
    by true q = q.0
    by false q = omega arith

-- a fault that is answered was counted
pub fault_is_counted : {X : Type 0} (r : Result X Refusal) (before now : ℕ) → IsFaultCount before r now → IfErr r (λ e. e ≡ KeeperFault → Rose before now)
fault_is_counted (Ok x) before now p = tt
fault_is_counted (Err e) before now p = λ is. by is p
  where
    by : e ≡ KeeperFault → IsFaultCount {X = Unit {0}} before (Err e) now → Rose before now
    by is q = (subst (λ (d : Refusal). IsFaultCount {X = Unit {0}} before (Err d) now) is q).1

-- ---- refusals

abbrev IsLast : ℕ → ℕ → Refusal → Counters → Type 0
IsLast before now e new = Rose before now × (statement : Sent) × (new.last ≡ Some (record { statement = statement; refusal = e }))

shown_later_by : (b : Bool) (e : Refusal) (old mid new : Counters) → old.refusals ≤ mid.refusals
    → MatchBool b (IsLast mid.refusals new.refusals e new) (Unit {0}) → MatchBool b (IsLast old.refusals new.refusals e new) (Unit {0})
shown_later_by true e old mid new le p = (omega (arith, le, p.0), p.1, p.2)
shown_later_by false e old mid new le p = tt

shown_later : {X : Type 0} (r : Result X Refusal) (old mid new : Counters) → old.refusals ≤ mid.refusals → IfErr r (λ e. IsShown e mid new) → IfErr r (λ e. IsShown e old new)
shown_later (Ok x) old mid new le p = tt
shown_later (Err e) old mid new le p = shown_later_by (is_of_tables e) e old mid new le p

shown_still_by : (b : Bool) (e : Refusal) (old mid new : Counters) → IsCalm mid new
    → MatchBool b (IsLast old.refusals mid.refusals e mid) (Unit {0}) → MatchBool b (IsLast old.refusals new.refusals e new) (Unit {0})
shown_still_by true e old mid new calm p = (subst (λ n. Rose old.refusals n) (sym calm.0) p.0, p.1, calm.1 ∙ p.2)
shown_still_by false e old mid new calm p = tt

-- a refusal that does not come of the tables need not be shown
pub shown_apart : (e : Refusal) (old new : Counters) → is_of_tables e ≡ false → IsShown e old new
shown_apart e old new apart = subst (λ b. MatchBool b (IsLast old.refusals new.refusals e new) (Unit {0})) (sym apart) tt

calm_later : {X : Type 0} (r : Result X Refusal) (old mid new : Counters) → IsCalm old mid → OnOk r (IsCalm mid new) → OnOk r (IsCalm old new)
calm_later (Ok x) old mid new p q = (q.0 ∙ p.0, q.1 ∙ p.1)
calm_later (Err e) old mid new p q = tt

-- ---- calls

-- an answer with nothing done
pub keeps_answer : {X : Type 0} {c : Counters} {x : X} → Keeps c (Ok x) c
keeps_answer = record { faults = refl; refusals = omega arith; shown = tt; calm = (refl, refl); target = refl; attached = refl; tells = refl }

-- a refusal of its own with nothing done
pub keeps_refusal : {X : Type 0} {c : Counters} (e : Refusal) → ends_early e ≡ false → is_of_tables e ≡ false → Keeps {X = X} c (Err e) c
keeps_refusal {c = c} e own apart = record {
  faults = no_fault e c.faults (own_is_no_fault e own);
  refusals = omega arith;
  shown = shown_apart e c c apart;
  calm = tt;
  target = refl;
  attached = refl;
  tells = refl;
}

-- memory ran out with nothing done
pub keeps_memory : {X : Type 0} {c : Counters} → Keeps {X = X} c (Err Memory) c
keeps_memory = record { faults = refl; refusals = omega arith; shown = tt; calm = tt; target = refl; attached = refl; tells = refl }

-- memory ran out after a call that answered
pub keeps_ran_out : {X Y : Type 0} {old new : Counters} {x : X} → Keeps old (Ok x) new → Keeps {X = Y} old (Err Memory) new
keeps_ran_out p = record { faults = p.faults; refusals = p.refusals; shown = tt; calm = tt; target = p.target; attached = p.attached; tells = p.tells }

-- memory ran out after a call that was refused
pub keeps_ran_out_refused : {X Y : Type 0} {old new : Counters} {e : Refusal} → ends_early e ≡ false → Keeps {X = X} old (Err e) new → Keeps {X = Y} old (Err Memory) new
keeps_ran_out_refused {old = old} {new = new} {e = e} own p = record {
  faults = count_stands e old.faults new.faults (own_is_no_fault e own) p.faults;
  refusals = p.refusals;
  shown = tt;
  calm = tt;
  target = p.target;
  attached = p.attached;
  tells = p.tells;
}

-- the same refusal as the answer of another kind
pub keeps_err : {X Y : Type 0} {old new : Counters} {e : Refusal} → Keeps {X = X} old (Err e) new → Keeps {X = Y} old (Err e) new
keeps_err p = record { faults = p.faults; refusals = p.refusals; shown = p.shown; calm = tt; target = p.target; attached = p.attached; tells = p.tells }

-- another answer
pub keeps_ok : {X Y : Type 0} {old new : Counters} {x : X} {y : Y} → Keeps old (Ok x) new → Keeps old (Ok y) new
keeps_ok p = record { faults = p.faults; refusals = p.refusals; shown = tt; calm = p.calm; target = p.target; attached = p.attached; tells = p.tells }

-- a call that answered, and then another
pub keeps_then : {X Y : Type 0} {old mid new : Counters} {x : X} {r : Result Y Refusal} → Keeps old (Ok x) mid → Keeps mid r new → Keeps old r new
keeps_then {old = old} {mid = mid} {new = new} {r = r} p q = record {
  faults = faults_after r old.faults mid.faults new.faults p.faults q.faults;
  refusals = omega (arith, p.refusals, q.refusals);
  shown = shown_later r old mid new p.refusals q.shown;
  calm = calm_later r old mid new p.calm q.calm;
  target = q.target ∙ p.target;
  attached = q.attached ∙ p.attached;
  tells = q.tells ∙ p.tells;
}

-- a refused call, and then one that answered: the refusal is told
pub keeps_undone : {X Y Z : Type 0} {old mid new : Counters} {e : Refusal} {z : Z} → ends_early e ≡ false → Keeps {X = X} old (Err e) mid → Keeps mid (Ok z) new → Keeps {X = Y} old (Err e) new
keeps_undone {old = old} {mid = mid} {new = new} {e = e} own p q = record {
  faults = subst (λ n. IsFaultCount {X = Unit {0}} old.faults (Err e) n) (sym q.faults) p.faults;
  refusals = omega (arith, p.refusals, q.refusals);
  shown = shown_still_by (is_of_tables e) e old mid new q.calm p.shown;
  calm = tt;
  target = q.target ∙ p.target;
  attached = q.attached ∙ p.attached;
  tells = q.tells ∙ p.tells;
}

-- a refused call, and then another that was refused, whose refusal is told
pub keeps_lost : {X Y Z : Type 0} {old mid new : Counters} {e d : Refusal} → ends_early e ≡ false → Keeps {X = X} old (Err e) mid → Keeps {X = Z} mid (Err d) new → Keeps {X = Y} old (Err d) new
keeps_lost {old = old} {mid = mid} {new = new} {e = e} {d = d} own p q = record {
  faults = faults_after {X = Unit {0}} (Err d) old.faults mid.faults new.faults (count_stands e old.faults mid.faults (own_is_no_fault e own) p.faults) q.faults;
  refusals = omega (arith, p.refusals, q.refusals);
  shown = shown_later_by (is_of_tables d) d old mid new p.refusals q.shown;
  calm = tt;
  target = q.target ∙ p.target;
  attached = q.attached ∙ p.attached;
  tells = q.tells ∙ p.tells;
}
