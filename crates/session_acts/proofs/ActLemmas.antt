-- Calls that flush between what they ask and what they do.
use Rattle.std.proofs.Common.{◌≡◌, ℕ, ◌+◌, ◌<◌, ◌≤◌, List, length, Result, Ok, Err, OnOk, ap, arith}
use Rattle.std.specs.Prelude.{IfOk}
use Rattle.base_core.specs.declared.refusal.Refusal.{Refusal}
use Rattle.keeper_core.specs.Store.{Store}
use Rattle.keeper_core.specs.Programs.{Run, ◌>>=◌}
use Rattle.keeper_core.specs.Moment.{Moment}
use Rattle.savepoints.specs.declared.scope.Scope.{Scope}
use Rattle.session_scopes.specs.SessionState.{SessionState}
use Rattle.session_calls.specs.Calling.{IsSessionCall}
use Rattle.session_calls.specs.Parts.{World}
use Rattle.session_calls.proofs.Joining.{err_call, then_call}
use Rattle.session_acts.specs.Flush.{flush}
use Rattle.session_acts.specs.Steps.{flushing}

-- what is asked was refused
pub asking_refused : {A Y K : Type 0} (moment : K → Moment Store) {v : Y → A} {asked : World → Run World (Unit {0})} (act : World → Run World A) {old new : SessionState × K} {e : Refusal}
    → IsSessionCall moment (λ (u : Unit {0}). u) asked old (Err e) new → IsSessionCall moment v (flushing asked act) old (Err e) new
asking_refused moment act p = err_call (λ u. flush >>= λ u. act) p

-- the flush was refused
pub flush_refused : {A Y K : Type 0} (moment : K → Moment Store) {v : Y → A} {asked : World → Run World (Unit {0})} (act : World → Run World A) {old mid new : SessionState × K} {x : Unit {0}} {e : Refusal}
    → IsSessionCall moment (λ (u : Unit {0}). u) asked old (Ok x) mid → IsSessionCall moment (λ (u : Unit {0}). u) flush mid (Err e) new → IsSessionCall moment v (flushing asked act) old (Err e) new
flush_refused moment act p q = then_call (λ u. flush >>= λ u. act) p (err_call (λ u. act) q)

-- all was written, and the act answered or was refused
pub flushed_then : {A Y K : Type 0} (moment : K → Moment Store) {v : Y → A} {asked : World → Run World (Unit {0})} (act : World → Run World A) {old mid late new : SessionState × K} {x y : Unit {0}} {r : Result Y Refusal}
    → IsSessionCall moment (λ (u : Unit {0}). u) asked old (Ok x) mid → IsSessionCall moment (λ (u : Unit {0}). u) flush mid (Ok y) late → IsSessionCall moment v act late r new → IsSessionCall moment v (flushing asked act) old r new
flushed_then moment act p q s = then_call (λ u. flush >>= λ u. act) p (then_call (λ u. act) q s)

-- some scope is in progress still
pub deep_still : (old new : List Scope) (r : Result (Unit {0}) Refusal) → OnOk r (new ≡ old) → 0 < length old → OnOk r (0 < length new)
deep_still old new (Ok u) same inside = omega (arith, inside, ap length same)
deep_still old new (Err e) same inside = tt

-- ---- handles

-- a handle that is the next one, and the last one drawn
pub next_drawn : (r : Result ℕ Refusal) (before now : ℕ) → IfOk r (λ handle. handle ≡ before + 1) → IfOk r (λ handle. handle ≡ now) → IfOk r (λ handle. (0 < handle) × (handle ≤ now))
next_drawn (Ok handle) before now next last = (omega arith, omega arith)
next_drawn (Err e) before now next last = tt
