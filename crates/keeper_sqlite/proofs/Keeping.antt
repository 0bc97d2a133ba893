-- What a keeper that tells nothing makes of itself is what each call ensures.
use Rattle.std.proofs.Common.{◌≡◌, ℕ, ◌^◌, ◌<◌, Bool, true, false, Option, None, Some, Result, Ok, Err, IfErr, MatchBool, if◌then◌else◌, refl, sym, ap, ◌∙◌, subst, arith}
use Rattle.base_core.specs.Counts.{Rose, one_more}
use Rattle.base_core.specs.declared.refusal.Refusal.{Refusal}
use Rattle.base_core.specs.declared.refusal.Refusal.TheVariants.{Memory, KeeperFault}
use Rattle.keeper_core.specs.declared.sent.Sent.{Sent}
use Rattle.keeper_core.specs.declared.target.Target.{Target}
use Rattle.keeper_core.specs.declared.target.Target.TheVariants as targets
use Rattle.keeper_core.specs.Programs.{Run, as_refusal, ends_early, is_of_tables}
use Rattle.keeper_core.specs.Moment.{Ran, Refused}
use Rattle.keeper_core.specs.Store.{Store}
use Rattle.keeper_core.proofs.Counts.{no_fault, own_is_no_fault}
use Rattle.keeper_core.specs.declared.keeper.KeeperStop.{KeeperStop}
use Rattle.keeper_core.specs.declared.keeper.KeeperStop.TheVariants as stops
use Rattle.keeper_core.specs.Calls.{stop_refusal}
use Rattle.keeper_core.specs.Keeping.{IsAttached, IsCall, IsStatement, IsToldAnew, IsUndone}
use Rattle.keeper_sqlite.specs.Counted.{Counted, Ends, Settles, Stops, at_depth, call_ended, call_failed, moment_of, refused_by, target_given}

-- ---- calls that nothing refuses

-- the call was done
pub done_call : {A : Type 0} {m : Store → Run Store A} {n : ℕ} {x : A} {old new : Counted} → new ≡ at_depth old n → IsCall moment_of m n old (Ok x) new
done_call {m = m} {n = n} {x = x} {old = old} is = subst (IsCall moment_of m n old (Ok x)) (sym is) (record {
  step = Ran (record { told = tt; keeps = record { faults = refl; refusals = omega arith; shown = tt; calm = (refl, refl); target = refl; attached = refl; tells = refl } });
  depth = refl;
  stops = tt;
  undone = tt;
})

failed_call : {A : Type 0} (m : Store → Run Store A) (n : ℕ) (old : Counted) → old.faults < 2 ^ 64 → IsCall moment_of m n old (Err KeeperFault) (call_failed old)
failed_call m n old small = record {
  step = Ran (record { told = tt; keeps = record { faults = (omega arith, omega arith); refusals = omega arith; shown = tt; calm = tt; target = refl; attached = refl; tells = refl } });
  depth = refl;
  stops = refl;
  undone = ((refl, refl), tt);
}

ended_call : {A : Type 0} (m : Store → Run Store A) (n : ℕ) (old : Counted) → IsCall moment_of m n old (Err Memory) (call_ended old)
ended_call m n old = record {
  step = Ran (record { told = tt; keeps = record { faults = refl; refusals = omega arith; shown = tt; calm = tt; target = refl; attached = refl; tells = refl } });
  depth = refl;
  stops = refl;
  undone = ((refl, refl), tt);
}

-- the call was ended early
pub stopped_call : {A : Type 0} {m : Store → Run Store A} {n : ℕ} (stop : KeeperStop) {old new : Counted} → Stops old stop new → IsCall moment_of m n old (Err (stop_refusal stop)) new
stopped_call {m = m} {n = n} stops.Fault {old = old} s = subst (IsCall moment_of m n old (Err KeeperFault)) (sym s.1) (failed_call m n old s.0)
stopped_call {m = m} {n = n} stops.Memory {old = old} s = subst (IsCall moment_of m n old (Err Memory)) (sym s) (ended_call m n old)

-- the call was done, or ended early
pub ends_call : {A : Type 0} {m : Store → Run Store A} {n d : ℕ} (r : Result A KeeperStop) {old new : Counted} → d ≡ n → Ends old d r new → IsCall moment_of m n old (as_refusal stop_refusal r) new
ends_call {m = m} {n = n} (Ok x) {old = old} {new = new} same e = done_call (subst (λ k. new ≡ at_depth old k) same e)
ends_call (Err stop) same e = stopped_call stop e

pub ruleset ending = (done_call, stopped_call, ends_call)

-- ---- a target is given

told_anew : (target : Target) → IsToldAnew target None (Ok tt) None
told_anew targets.Memory = tt
told_anew (targets.File name) = tt

not_anew : (target : Target) (e : Refusal) → IsToldAnew target None (Err e) None
not_anew targets.Memory e = refl
not_anew (targets.File name) e = refl

-- the target was taken
pub took : {target : Target} {old new : Counted} → new ≡ target_given old target true → IsAttached (moment_of old) target (Ok tt) (moment_of new)
took {target = target} {old = old} is = subst (λ n. IsAttached (moment_of old) target (Ok tt) (moment_of n)) (sym is) (record {
  told = told_anew target;
  faults = refl;
  calm = (refl, refl);
  depth = refl;
  given = refl;
  attached = refl;
})

-- the target was not taken
pub left : {target : Target} (stop : KeeperStop) {old : Counted} (mid : Counted) {new : Counted} → Stops old stop mid → new ≡ target_given mid target false → IsAttached (moment_of old) target (Err (stop_refusal stop)) (moment_of new)
left {target = target} stops.Fault {old = old} mid s is = subst (λ n. IsAttached (moment_of old) target (Err KeeperFault) (moment_of n)) (sym (is ∙ ap (λ k. target_given k target false) s.1)) (record {
  told = not_anew target KeeperFault;
  faults = (omega (arith, s.0), omega (arith, s.0));
  calm = (refl, refl);
  depth = refl;
  given = refl;
  attached = refl;
})
left {target = target} stops.Memory {old = old} mid s is = subst (λ n. IsAttached (moment_of old) target (Err Memory) (moment_of n)) (sym (is ∙ ap (λ k. target_given k target false) s)) (record {
  told = not_anew target Memory;
  faults = refl;
  calm = (refl, refl);
  depth = refl;
  given = refl;
  attached = refl;
})

pub ruleset attaching = (took, left)

-- ---- statements

shown_last : (b : Bool) (statement : Sent) (e : Refusal) (n : ℕ) → n < 2 ^ 64
    → MatchBool b (Rose n (one_more n) × (s : Sent) × (◌≡◌ {A = Option Refused} (Some (record { statement = statement; refusal = e })) (Some (record { statement = s; refusal = e })))) (Unit {0})
shown_last true statement e n small = (omega arith, statement, refl)
shown_last false statement e n small = tt

refused_statement : {A : Type 0} (m : Store → Run Store A) (statement : Sent) (May : Refusal → Type 0) (e : Refusal) (old : Counted) → ends_early e ≡ false → May e → old.refusals < 2 ^ 64
    → IsStatement moment_of m statement May old (Err e) (refused_by old statement e)
refused_statement m statement May e old own may small =
    let kept : Counted = refused_by old statement e in
    let last : Option Refused = Some (record { statement = statement; refusal = e }) in
    record {
      step = Ran (record {
        told = tt;
        keeps = record {
          faults = no_fault e old.faults (own_is_no_fault e own);
          refusals = omega (arith, small);
          shown = shown_last (is_of_tables e) statement e old.refusals small;
          calm = tt;
          target = refl;
          attached = refl;
          tells = refl;
        };
      });
      depth = sym (ap (λ b. if b then 0 else old.depth) own);
      refuses = may;
      left = subst (λ (b : Bool). MatchBool b (IsUndone (moment_of old) (moment_of kept)) (Rose old.refusals (one_more old.refusals) × (last ≡ last))) (sym own) (omega arith, refl);
    }

failed_statement : {A : Type 0} (m : Store → Run Store A) (statement : Sent) (May : Refusal → Type 0) (old : Counted) → May KeeperFault → old.faults < 2 ^ 64
    → IsStatement moment_of m statement May old (Err KeeperFault) (call_failed old)
failed_statement m statement May old may small = record {
  step = Ran (record { told = tt; keeps = record { faults = (omega arith, omega arith); refusals = omega arith; shown = tt; calm = tt; target = refl; attached = refl; tells = refl } });
  depth = refl;
  refuses = may;
  left = ((refl, refl), tt);
}

ended_statement : {A : Type 0} (m : Store → Run Store A) (statement : Sent) (May : Refusal → Type 0) (old : Counted) → May Memory
    → IsStatement moment_of m statement May old (Err Memory) (call_ended old)
ended_statement m statement May old may = record {
  step = Ran (record { told = tt; keeps = record { faults = refl; refusals = omega arith; shown = tt; calm = tt; target = refl; attached = refl; tells = refl } });
  depth = refl;
  refuses = may;
  left = ((refl, refl), tt);
}

stopped_statement : {A : Type 0} (m : Store → Run Store A) (statement : Sent) (May : Refusal → Type 0) (stop : KeeperStop) (old new : Counted) → May (stop_refusal stop) → Stops old stop new
    → IsStatement moment_of m statement May old (Err (stop_refusal stop)) new
stopped_statement m statement May stops.Fault old new may s = subst (IsStatement moment_of m statement May old (Err KeeperFault)) (sym s.1) (failed_statement m statement May old may s.0)
stopped_statement m statement May stops.Memory old new may s = subst (IsStatement moment_of m statement May old (Err Memory)) (sym s) (ended_statement m statement May old may)

done_statement : {A : Type 0} (m : Store → Run Store A) (statement : Sent) (May : Refusal → Type 0) (x : A) (old : Counted) → IsStatement moment_of m statement May old (Ok x) old
done_statement m statement May x old = record {
  step = Ran (record { told = tt; keeps = record { faults = refl; refusals = omega arith; shown = tt; calm = (refl, refl); target = refl; attached = refl; tells = refl } });
  depth = refl;
  refuses = tt;
  left = tt;
}

-- a statement was done, ended early, or refused
pub settled : {A : Type 0} {m : Store → Run Store A} {statement : Sent} {May : Refusal → Type 0} {r : Result A Refusal} {old new : Counted} → IfErr r May → Settles statement old r new
    → IsStatement moment_of m statement May old r new
settled {m = m} {statement = statement} {May = May} {r = Ok x} {old = old} may s = subst (IsStatement moment_of m statement May old (Ok x)) (sym s) (done_statement m statement May x old)
settled {A = A} {m = m} {statement = statement} {May = May} {r = Err e} {old = old} {new = new} may s = by (ends_early e) refl s
  where
    by : (b : Bool) → ends_early e ≡ b → MatchBool b ((stop : KeeperStop) × (e ≡ stop_refusal stop) × Stops old stop new) ((old.refusals < 2 ^ 64) × (new ≡ refused_by old statement e))
        → IsStatement moment_of m statement May old (Err e) new
    by true early q = subst (λ (d : Refusal). IsStatement moment_of m statement May old (Err d) new) (sym q.1) (stopped_statement m statement May q.0 old new (subst May q.1 may) q.2)
    by false own q = subst (IsStatement moment_of m statement May old (Err e)) (sym q.1) (refused_statement m statement May e old own may q.0)
