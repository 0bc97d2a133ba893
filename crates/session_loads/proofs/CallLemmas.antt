-- Calls of a session that read rows, put together of their parts.
use Rattle.std.proofs.Common.{◌≡◌, ◌<◌, Bool, true, false, List, length, Option, None, Some, Result, Ok, Err, OnOk, ⊎_elim, refl, sym, ap, subst, arith, if◌then◌else◌}
use Rattle.base_core.specs.declared.ids.ObjId.{ObjId}
use Rattle.base_core.specs.declared.ids.ClassId.{ClassId}
use Rattle.base_core.specs.declared.refusal.Refusal.{Refusal}
use Rattle.base_core.specs.declared.refusal.Refusal.TheVariants.{Memory}
use Rattle.keeper_core.specs.Alone.{IsOwn}
use Rattle.keeper_core.specs.Store.{Store}
use Rattle.keeper_core.specs.Programs.{Run, ◌>>=◌, give}
use Rattle.keeper_core.specs.Moment.{Moment}
use Rattle.keeper_core.specs.Beside.{by_own}
use Rattle.relations.specs.Mirror.{is_of}
use Rattle.savepoints.specs.declared.scope.Scope.{Scope}
use Rattle.session_scopes.specs.SessionState.{IsInStep, SessionState}
use Rattle.session_calls.specs.Calling.{IsSessionCall}
use Rattle.session_calls.specs.Parts.{World, checked}
use Rattle.session_calls.proofs.Joining.{chosen_call, err_call, fails, passes, same_itself, still_call, then_call}
use Rattle.session_objects.specs.Steps.{IsDoneInside}
use Rattle.session_objects.proofs.Acting.{runs_out}
use Rattle.session_loads.specs.Reads.{fill_key, found_under, if_asked}

-- ---- what is asked for, or is not

pub asked : {K : Type 0} (moment : K → Moment Store) (test : SessionState → Bool) (m : World → Run World (Unit {0})) {own now : SessionState} {old new : K} {r : Result (Unit {0}) Refusal} → test own ≡ true
    → IsSessionCall moment (λ (u : Unit {0}). u) m (own, old) r (now, new) → IsSessionCall moment (λ (u : Unit {0}). u) (by_own (λ session. if_asked (test session) m)) (own, old) r (now, new)
asked moment test m {own = own} {now = now} {old = old} {new = new} {r = r} is p =
    chosen_call moment (λ session. if_asked (test session) m) (subst (λ (b : Bool). IsSessionCall moment (λ (u : Unit {0}). u) (if_asked b m) (own, old) r (now, new)) (sym is) p)

pub unasked : {K : Type 0} (moment : K → Moment Store) (test : SessionState → Bool) (m : World → Run World (Unit {0})) {own : SessionState} {keeper : K} → test own ≡ false → IsInStep own (moment keeper)
    → IsSessionCall moment (λ (u : Unit {0}). u) (by_own (λ session. if_asked (test session) m)) (own, keeper) (Ok tt) (own, keeper)
unasked moment test m {own = own} {keeper = keeper} is in_step =
    chosen_call moment (λ session. if_asked (test session) m)
    (subst (λ (b : Bool). IsSessionCall moment (λ (u : Unit {0}). u) (if_asked b m) (own, keeper) (Ok tt) (own, keeper)) (sym is) (still_call moment {v = λ (u : Unit {0}). u} refl in_step))

-- ---- what is checked

-- there is the fault
pub faulted : {A X K : Type 0} (moment : K → Moment Store) (fault : SessionState → Option Refusal) (next : Unit {0} → World → Run World A) {v : X → A} {own : SessionState} {keeper : K} {e : Refusal} → Some e ≡ fault own → IsOwn e → IsInStep own (moment keeper)
    → IsSessionCall moment v (checked fault >>= next) (own, keeper) (Err e) (own, keeper)
faulted moment fault next is own in_step = err_call next (fails moment fault {v = λ (u : Unit {0}). u} (sym is) own in_step)

-- there is none
pub cleared : {A X K : Type 0} (moment : K → Moment Store) (fault : SessionState → Option Refusal) (next : Unit {0} → World → Run World A) {v : X → A} {own now : SessionState} {old new : K} {r : Result X Refusal} → fault own ≡ None → IsInStep own (moment old)
    → IsSessionCall moment v (next tt) (own, old) r (now, new) → IsSessionCall moment v (checked fault >>= next) (own, old) r (now, new)
cleared moment fault next none in_step p = then_call next (passes moment fault none in_step) p

-- ---- what is told

-- of the session as it stands
pub tells : {A X K : Type 0} (moment : K → Moment Store) (f : SessionState → A) {v : X → A} {x : X} {own : SessionState} {keeper : K} → v x ≡ f own → IsInStep own (moment keeper) → IsSessionCall moment v (by_own (λ session. give (f session))) (own, keeper) (Ok x) (own, keeper)
tells moment f is in_step = chosen_call moment (λ session. give (f session)) (still_call moment (sym is) in_step)

-- ---- an object that was found

-- it is of the class or of one under it
pub found_here : {K : Type 0} (moment : K → Moment Store) (class : ClassId) (object : ObjId) {own now : SessionState} {old new : K} {r : Result (Option ObjId) Refusal} → is_of own.graph own.mapping class object ≡ true
    → IsSessionCall moment (λ (found : Option ObjId). found) (fill_key object >>= λ u. give (Some object)) (own, old) r (now, new)
    → IsSessionCall moment (λ (found : Option ObjId). found) (found_under class object) (own, old) r (now, new)
found_here moment class object {own = own} {now = now} {old = old} {new = new} {r = r} is p =
    chosen_call moment (λ session. let m : World → Run World (Option ObjId) = if is_of session.graph session.mapping class object then (fill_key object >>= λ u. give (Some object)) else give None in m)
    (subst (λ (b : Bool). IsSessionCall moment (λ (found : Option ObjId). found) (let m : World → Run World (Option ObjId) = if b then (fill_key object >>= λ u. give (Some object)) else give None in m) (own, old) r (now, new)) (sym is) p)

-- it is of another
pub found_beside : {K : Type 0} (moment : K → Moment Store) (class : ClassId) (object : ObjId) {own : SessionState} {keeper : K} → is_of own.graph own.mapping class object ≡ false → IsInStep own (moment keeper)
    → IsSessionCall moment (λ (found : Option ObjId). found) (found_under class object) (own, keeper) (Ok None) (own, keeper)
found_beside moment class object {own = own} {keeper = keeper} is in_step =
    chosen_call moment (λ session. let m : World → Run World (Option ObjId) = if is_of session.graph session.mapping class object then (fill_key object >>= λ u. give (Some object)) else give None in m)
    (subst (λ (b : Bool). IsSessionCall moment (λ (found : Option ObjId). found) (let m : World → Run World (Option ObjId) = if b then (fill_key object >>= λ u. give (Some object)) else give None in m) (own, keeper) (Ok None) (own, keeper)) (sym is)
    (still_call moment {v = λ (found : Option ObjId). found} refl in_step))

-- ---- scopes

pub deep_after : (old new : List Scope) → new ≡ old → 0 < length old → 0 < length new
deep_after old new same inside = omega (arith, inside, ap length same)

-- ---- what holds in any case

pub ok_holds : {X E P : Type 0} (r : Result X E) → P → OnOk r P
ok_holds (Ok x) p = p
ok_holds (Err e) p = tt

-- ---- memory ran out

-- and nothing has happened
pub no_room : {A X K : Type 0} (moment : K → Moment Store) {v : X → A} {m : World → Run World A} {own : SessionState} {keeper : K} {e : Refusal} → e ≡ Memory → IsSessionCall moment v m (own, keeper) (Err e) (own, keeper)
no_room moment {own = own} cause = runs_out moment cause (same_itself own)

-- ---- what is asked, where it may want memory

-- nothing is against it
pub asks : {A X K : Type 0} (moment : K → Moment Store) (fault : SessionState → Option Refusal) (next : Unit {0} → World → Run World A) {v : X → A} {own now : SessionState} {old new : K} {r : Result X Refusal} → fault own ≡ None → IsInStep own (moment old)
    → IsSessionCall moment v (next tt) (own, old) r (now, new) → IsSessionCall moment v (checked fault >>= next) (own, old) r (now, new)
asks moment fault next none in_step p = cleared moment fault next none in_step p

-- something is, or memory ran out
pub asks_not : {A X K : Type 0} (moment : K → Moment Store) (fault : SessionState → Option Refusal) (next : Unit {0} → World → Run World A) {v : X → A} {own : SessionState} {keeper : K} {e : Refusal} → IsDoneInside (fault own) own own (Err e) own → IsInStep own (moment keeper)
    → IsSessionCall moment v (checked fault >>= next) (own, keeper) (Err e) (own, keeper)
asks_not moment fault next {own = own} {e = e} done in_step =
    ⊎_elim
    (λ (memory : e ≡ Memory). no_room moment memory)
    (λ (refused : (fault own ≡ Some e) × (own ≡ own) × IsOwn e). faulted moment fault next (sym refused.0) refused.2 in_step)
    done
