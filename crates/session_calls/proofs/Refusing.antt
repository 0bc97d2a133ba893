-- Why a call of the session is refused, and what is left then, from one call to the one around it.
use Rattle.std.proofs.Common.{◌≡◌, Bool, true, false, Option, None, Some, Result, Ok, Err, IfErr, IsErrAnd, OnOk, if◌then◌else◌, refl, sym, ap, ◌∙◌, subst}
use Rattle.std.proofs.lemmas.Result.{IfErr-weaker}
use Rattle.base_core.specs.declared.ids.AttrNo.{AttrNo}
use Rattle.base_core.specs.declared.ids.ObjId.{ObjId}
use Rattle.base_core.specs.declared.refusal.Refusal.{Refusal}
use Rattle.base_core.specs.declared.refusal.Refusal.TheVariants.{Memory, PendingRollbackError}
use Rattle.base_core.specs.declared.value.Value.{Value}
use Rattle.object_arena.specs.Graph.{Graph, object_at, with_object, with_value}
use Rattle.keeper_core.specs.Alone.{IsQuiet}
use Rattle.keeper_core.specs.Store.{Store}
use Rattle.keeper_core.specs.Programs.{Run, ends_early, quiet}
use Rattle.keeper_core.specs.Moment.{IsCalm, Moment, counters, parts}
use Rattle.keeper_core.specs.Beside.{moment_beside}
use Rattle.session_scopes.specs.Changes.{changed_unless, deletion_marked, value_put}
use Rattle.session_scopes.specs.Scoping.{session_begun}
use Rattle.session_scopes.specs.SessionState.{AreAlikeButNotes, SessionState, in_transaction}
use Rattle.session_calls.specs.Calling.{IsSessionCall}
use Rattle.session_calls.specs.Parts.{World, fault_if}
use Rattle.session_calls.specs.Refusals.{Before, Early, Inside, IsRefused, entered, fault_in, kept_fault, mark_fault}
use Rattle.session_calls.specs.Steps.{pending_fault}

-- what holds of a refusal holds of it as the answer of the call around
pub passed_on : {X : Type 0} (P : Refusal → Type 0) {e : Refusal} (r : Result X Refusal) → IsErrAnd r (λ d. d ≡ e) → P e → IfErr r P
passed_on P (Ok x) is p = absurd is
passed_on P (Err d) is p = subst P (sym is) p

-- a call that answered had nothing refused
pub call_calm : {A X K : Type 0} {moment : K → Moment Store} {v : X → A} {m : World → Run World A} {old new : SessionState × K} {x : X} → IsSessionCall moment v m old (Ok x) new → IsCalm (counters (moment old.1)) (counters (moment new.1))
unfolding moment_beside
call_calm p = (parts p.step).keeps.calm

-- ---- the session in the transaction

-- it was there already
pub entered_still : (own : SessionState) → in_transaction own ≡ true → AreAlikeButNotes (entered own) own
entered_still own inside = ap (λ (b : Bool). record own { frames = if b then own.frames else (session_begun own).frames }) (sym inside)

-- the transaction has begun
pub entered_begun : (own now : SessionState) (r : Result (Unit {0}) Refusal) → in_transaction own ≡ false → OnOk r (AreAlikeButNotes (session_begun own) now) → OnOk r (AreAlikeButNotes (entered own) now)
entered_begun own now (Ok u) outside begun = begun ∙ ap (λ (b : Bool). record own { frames = if b then own.frames else (session_begun own).frames; notes = now.notes }) (sym outside)
entered_begun own now (Err e) outside begun = tt

pub begun_alike : (own mid now : SessionState) → AreAlikeButNotes own mid → now ≡ session_begun mid → AreAlikeButNotes (session_begun own) now
begun_alike own mid now alike is =
    subst (λ (s : SessionState). AreAlikeButNotes (session_begun s) now) alike (is ∙ ap (λ (s : SessionState). record (session_begun mid) { notes = s.notes }) (sym is))

-- no rollback was awaited before
pub none_awaited : (own mid : SessionState) → AreAlikeButNotes (entered own) mid → mid.failed ≡ false → pending_fault own ≡ None
none_awaited own mid alike well = ap (λ (b : Bool). fault_if b PendingRollbackError) (sym (ap (λ (s : SessionState). s.failed) alike) ∙ well)

-- ---- refusals

-- of a call that nothing else refuses
pub early_refused : {X : Type 0} (before inside : Option Refusal) (old new : SessionState) (r : Result X Refusal) → IfErr r (λ e. ends_early e ≡ true) → IfErr r (λ e. IsRefused before inside old e new)
early_refused before inside old new r stops = IfErr-weaker r (λ e. ends_early e ≡ true) (λ e. IsRefused before inside old e new) (λ e early. Early early) stops

-- of the call by which the transaction is entered
pub refused_entering : {before inside : Option Refusal} {old new : SessionState} {e : Refusal} → IsRefused before None old e new → IsRefused before inside old e new
refused_entering (Early early) = Early early
refused_entering (Before is same) = Before is same
refused_entering (Inside none is alike) = absurd cc

-- of what is done in the transaction, where it changed nothing
pub refused_inside : (fault : SessionState → Option Refusal) (own mid now : SessionState) {e : Refusal} → AreAlikeButNotes (entered own) mid → mid.failed ≡ false → fault mid ≡ Some e → now ≡ mid
    → IsRefused (pending_fault own) (fault (record (entered own) { notes = mid.notes })) own e now
refused_inside fault own mid now {e = e} alike well is same =
    Inside (none_awaited own mid alike well) (subst (λ (s : SessionState). fault s ≡ Some e) alike is) (subst (λ (s : SessionState). AreAlikeButNotes (entered own) s) (sym same) alike)

-- ---- what the session does alone

-- in the transaction
quietly_refused : {A X : Type 0} (v : X → A) (run : Run SessionState A) (fault : SessionState → Option Refusal) (own mid now : SessionState) (r : Result X Refusal) → AreAlikeButNotes (entered own) mid → mid.failed ≡ false
    → ((e : Refusal) → run ≡ quiet (Err e) now → (fault mid ≡ Some e) × (now ≡ mid)) → IsQuiet v run r now → IfErr r (λ e. IsRefused (pending_fault own) (fault (record (entered own) { notes = mid.notes })) own e now)
quietly_refused v run fault own mid now (Ok x) alike well told p = tt
quietly_refused v run fault own mid now (Err Memory) alike well told p = Early refl
quietly_refused v run fault own mid now (Err e) alike well told p = let by = told e p.0 in refused_inside fault own mid now alike well by.0 by.1

changed_not : (fault : Option Refusal) (graph : Graph) (mid now : SessionState) (e : Refusal) → changed_unless fault graph mid ≡ quiet (Err e) now → (fault ≡ Some e) × (now ≡ mid)
changed_not None graph mid now e is = let none : None ≡ Some e = ap (λ (r : Run SessionState (Unit {0})). fault_in r.answer) is in absurd cc
changed_not (Some fault) graph mid now e is = (ap (λ (r : Run SessionState (Unit {0})). fault_in r.answer) is, sym (ap (λ (r : Run SessionState (Unit {0})). r.after) is))

-- a cell is not set
pub set_refused : (object : ObjId) (attr : AttrNo) (value : Value) (own mid now : SessionState) (r : Result (Unit {0}) Refusal) → AreAlikeButNotes (entered own) mid → mid.failed ≡ false → IsQuiet (λ (u : Unit {0}). u) (value_put object attr value mid) r now
    → IfErr r (λ e. IsRefused (pending_fault own) (kept_fault object attr own) own e now)
unfolding value_put
set_refused object attr value own mid now r alike well step =
    quietly_refused (λ (u : Unit {0}). u) (value_put object attr value mid) (kept_fault object attr) own mid now r alike well
    (λ e is. changed_not (kept_fault object attr mid) (with_value mid.graph object attr value) mid now e is) step

-- an object is not marked
pub mark_refused : (object : ObjId) (own mid now : SessionState) (r : Result (Unit {0}) Refusal) → AreAlikeButNotes (entered own) mid → mid.failed ≡ false → IsQuiet (λ (u : Unit {0}). u) (deletion_marked object mid) r now
    → IfErr r (λ e. IsRefused (pending_fault own) (mark_fault object own) own e now)
unfolding deletion_marked
mark_refused object own mid now r alike well step =
    quietly_refused (λ (u : Unit {0}). u) (deletion_marked object mid) (mark_fault object) own mid now r alike well
    (λ e is. changed_not (mark_fault object mid) (with_object mid.graph object (record (object_at mid.graph object) { marked = true })) mid now e is) step
