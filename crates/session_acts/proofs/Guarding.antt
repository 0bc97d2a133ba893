-- A call of the session that is given up where it is refused.
use Rattle.std.proofs.Common.{◌≡◌, true, false, Ok, Err}
use Rattle.base_core.specs.declared.refusal.Refusal.{Refusal}
use Rattle.keeper_core.specs.Store.{Store}
use Rattle.keeper_core.specs.Programs.{Run, ends_early, with_undo}
use Rattle.keeper_core.specs.Moment.{Moment}
use Rattle.keeper_core.proofs.Sequence.{guard_early, guard_lost, guard_ok, guard_refused}
use Rattle.session_scopes.specs.SessionState.{SessionState}
use Rattle.session_calls.specs.Calling.{IsSessionCall}
use Rattle.session_calls.specs.Parts.{World}
use Rattle.session_scopes.proofs.SessionLemmas.{goes_more}

-- the call answered
pub answers : {A X K : Type 0} {moment : K → Moment Store} {v : X → A} {m : World → Run World A} (undo : World → Run World (Unit {0})) {old new : SessionState × K} {x : X}
    → IsSessionCall moment v m old (Ok x) new → IsSessionCall moment v (with_undo m undo) old (Ok x) new
answers undo p = record { step = guard_ok undo p.step; kept = p.kept }

-- it was ended early: nothing is undone
pub ended : {A X K : Type 0} {moment : K → Moment Store} {v : X → A} {m : World → Run World A} (undo : World → Run World (Unit {0})) {old new : SessionState × K} {e : Refusal} → ends_early e ≡ true
    → IsSessionCall moment v m old (Err e) new → IsSessionCall moment v (with_undo m undo) old (Err e) new
ended {v = v} undo early p = record { step = guard_early {v = v} undo early p.step; kept = p.kept }

-- it was refused, and what it did was undone
pub undone : {A X K : Type 0} {moment : K → Moment Store} {v : X → A} {m : World → Run World A} {undo : World → Run World (Unit {0})} {old mid new : SessionState × K} {e : Refusal} → ends_early e ≡ false
    → IsSessionCall moment v m old (Err e) mid → IsSessionCall moment (λ (u : Unit {0}). u) undo mid (Ok tt) new → IsSessionCall moment v (with_undo m undo) old (Err e) new
undone own p q = record {
  step = guard_refused own p.step q.step;
  kept = record { same = goes_more p.kept.same q.kept.same; in_step = λ h. q.kept.in_step };
}

-- it was refused, and the undoing ended early
pub lost_undo : {A X K : Type 0} {moment : K → Moment Store} {v : X → A} {m : World → Run World A} {undo : World → Run World (Unit {0})} {old mid new : SessionState × K} {e d : Refusal} → ends_early e ≡ false
    → IsSessionCall moment v m old (Err e) mid → IsSessionCall moment (λ (u : Unit {0}). u) undo mid (Err d) new → IsSessionCall moment v (with_undo m undo) old (Err d) new
lost_undo own p q = record {
  step = guard_lost own p.step q.step;
  kept = record { same = goes_more p.kept.same q.kept.same; in_step = q.kept.in_step };
}
