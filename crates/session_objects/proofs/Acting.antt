-- The calls that bring objects into a session, put together of their parts.
use Rattle.std.proofs.Common.{◌≡◌, ℕ, false, length, Some, Option, List, Result, Ok, Err, IfErr, IsErrAnd, OnOk, inl, sym, ap, subst, ◌∙◌, ⊎_elim}
use Rattle.base_core.specs.Counts.{one_more}
use Rattle.base_core.specs.declared.ids.ObjId.{ObjId}
use Rattle.base_core.specs.declared.refusal.Refusal.{Refusal}
use Rattle.base_core.specs.declared.refusal.Refusal.TheVariants.{InvalidRequestError, Memory}
use Rattle.base_core.specs.declared.refusal.RequestKind.TheVariants as requests
use Rattle.object_arena.specs.declared.object.Object.{Object}
use Rattle.object_arena.specs.declared.object.State.{State}
use Rattle.object_arena.specs.Graph.{either_fault, object_at, with_object}
use Rattle.object_arena.specs.Identity.{IsGraph}
use Rattle.keeper_core.specs.Alone.{IsOwn}
use Rattle.keeper_core.specs.Store.{Store}
use Rattle.keeper_core.specs.Programs.{Run, ◌>>=◌, ends_early}
use Rattle.keeper_core.specs.Moment.{Moment}
use Rattle.keeper_core.specs.Beside.{changes}
use Rattle.keeper_core.proofs.Lifting.{lost}
use Rattle.session_parts.specs.Depths.{HasDepth}
use Rattle.session_scopes.specs.SessionState.{AreAlikeButNotes, IsInStep, SameObjects, SessionState, with_graph}
use Rattle.session_calls.specs.Calling.{IsSessionCall}
use Rattle.session_calls.specs.Parts.{World, checked, fault_if}
use Rattle.session_calls.specs.Refusals.{Early, IsRefused, entered}
use Rattle.session_calls.specs.Steps.{enter, pending_fault}
use Rattle.session_calls.proofs.Refusing.{refused_inside}
use Rattle.session_calls.proofs.Joining.{change_call, err_call, fails, memory_early, passes, stays_early, then_call}
use Rattle.session_objects.specs.Conflicts.{add_fault, add_fault_among, is_deleted}
use Rattle.session_objects.specs.Steps.{IsDoneInside, add, add_inside}
use Rattle.session_objects.specs.Taking.{added_then, coming_objects, outsiders, session_added, session_joined, object_taken, session_taken, session_unmarked, taken_under}
use Rattle.session_objects.proofs.OutsiderLemmas.{outsiders_conflict, outsiders_join}
use Rattle.session_scopes.proofs.SessionLemmas.{goes_on}

-- ---- the calls

pub adds : {K : Type 0} (moment : K → Moment Store) (object : ObjId) {own mid now : SessionState} {old between new : K} {r : Result (Unit {0}) Refusal} → IsSessionCall moment (λ (u : Unit {0}). u) enter (own, old) (Ok tt) (mid, between)
    → IsSessionCall moment (λ u. u) (add_inside object) (mid, between) r (now, new) → IsSessionCall moment (λ u. u) (add object) (own, old) r (now, new)
unfolding add
adds moment object p q = then_call (λ u. add_inside object) p q

pub adds_not : {Y K : Type 0} (moment : K → Moment Store) (object : ObjId) {v : Y → Unit {0}} {own now : SessionState} {old new : K} {e : Refusal} → IsSessionCall moment (λ (u : Unit {0}). u) enter (own, old) (Err e) (now, new)
    → IsSessionCall moment v (add object) (own, old) (Err e) (now, new)
unfolding add
adds_not moment object p = err_call (λ u. add_inside object) p

-- memory ran out, and the objects are the same still
pub runs_out : {A X K : Type 0} (moment : K → Moment Store) {v : X → A} {m : World → Run World A} {own now : SessionState} {keeper : K} {e : Refusal} → e ≡ Memory → SameObjects own now → IsSessionCall moment v m (own, keeper) (Err e) (now, keeper)
runs_out {X = X} moment {now = now} {keeper = keeper} {e = e} cause same = record {
  step = lost moment cause;
  kept = record { same = goes_on same; in_step = stays_early X e (length now.frames.scopes) (moment keeper) (memory_early e cause) };
}

-- the objects that come in with one, but for those that are in the session
abbrev AreComing : ObjId → SessionState → List ObjId → Type 0
AreComing object own objects = objects ≡ outsiders own.graph (coming_objects own.mapping own.graph object)

pub fault_here : (object : ObjId) (objects : List ObjId) (own : SessionState) (fault : Option Refusal) → IsGraph own.graph.objects own.graph.roots → AreComing object own objects → fault ≡ add_fault_among object objects own → add_fault object own ≡ fault
fault_here object objects own fault graph is told =
    sym (told ∙ ap (λ (os : List ObjId). add_fault_among object os own) is
    ∙ ap (either_fault (fault_if (is_deleted (object_at own.graph object).state) (InvalidRequestError requests.Deleted))) (outsiders_conflict own.graph (coming_objects own.mapping own.graph object) graph))

pub in_step_at : (r : Result (Unit {0}) Refusal) (own now : SessionState) (moment : Moment Store) → IsInStep own moment → length now.frames.scopes ≡ length own.frames.scopes → OnOk r (HasDepth (length now.frames.scopes) moment)
in_step_at (Ok u) own now moment in_step long = (in_step.0, in_step.1 ∙ sym long)
in_step_at (Err e) own now moment in_step long = tt

pub added_as : (object : ObjId) (objects : List ObjId) (own now : SessionState) → AreComing object own objects → now ≡ session_unmarked object (session_joined objects own) → now ≡ session_added object own
added_as object objects own now is put =
    put ∙ ap (λ (os : List ObjId). session_unmarked object (session_joined os own)) is
    ∙ ap (session_unmarked object) (outsiders_join own.graph (coming_objects own.mapping own.graph object) own (λ other inside. inside))

-- ---- what the session alone does in the transaction

-- memory ran out
pub memory_done : (fault : Option Refusal) (after own now : SessionState) (r : Result (Unit {0}) Refusal) → IsErrAnd r (λ d. d ≡ Memory) → IsDoneInside fault after own r now
memory_done fault after own now (Ok u) cause = absurd cause
memory_done fault after own now (Err e) cause = inl cause

-- it is a call
pub inside_call : {K : Type 0} (moment : K → Moment Store) (fault : SessionState → Option Refusal) (f : SessionState → SessionState) (own now : SessionState) (keeper : K) (r : Result (Unit {0}) Refusal) → IsDoneInside (fault own) (f own) own r now → SameObjects own now
    → length now.frames.scopes ≡ length own.frames.scopes → IsInStep own (moment keeper) → IsSessionCall moment (λ u. u) (checked fault >>= λ u. changes f) (own, keeper) r (now, keeper)
inside_call moment fault f own now keeper (Ok u) done same long in_step =
    then_call (λ u. changes f) (passes moment fault done.0 in_step) (change_call moment f {own = own} done.1 tt same (in_step_at (Ok u) own now (moment keeper) in_step long))
inside_call moment fault f own now keeper (Err e) done same long in_step =
    ⊎_elim
    (λ (memory : e ≡ Memory). runs_out moment memory same)
    (λ (refused : (fault own ≡ Some e) × (now ≡ own) × IsOwn e).
    subst (λ (s : SessionState). IsSessionCall moment (λ (u : Unit {0}). u) (checked fault >>= λ u. changes f) (own, keeper) (Err e) (s, keeper)) (sym refused.1)
    (err_call (λ u. changes f) (fails moment fault {v = λ (u : Unit {0}). u} refused.0 refused.2 in_step)))
    done

-- what refuses it refuses the call
pub inside_refused : (fault : SessionState → Option Refusal) (after own mid now : SessionState) (r : Result (Unit {0}) Refusal) → AreAlikeButNotes (entered own) mid → mid.failed ≡ false → IsDoneInside (fault mid) after mid r now
    → IfErr r (λ e. IsRefused (pending_fault own) (fault (record (entered own) { notes = mid.notes })) own e now)
inside_refused fault after own mid now (Ok u) alike well done = tt
inside_refused fault after own mid now (Err e) alike well done =
    ⊎_elim
    (λ (memory : e ≡ Memory). Early (ap ends_early memory))
    (λ (here : (fault mid ≡ Some e) × (now ≡ mid) × IsOwn e). refused_inside fault own mid now alike well here.0 here.1)
    done

-- ---- one object

-- only a transient object has a number given
pub taken_without : (o : Object) (state : State) (n m : ℕ) → o.state ≡ state → object_taken state n o ≡ object_taken state m o → taken_under n o ≡ taken_under m o
taken_without o state n m is same = ap (λ (s : State). object_taken s n o) is ∙ same ∙ sym (ap (λ (s : State). object_taken s m o) is)

pub taken_is : (own drawn : SessionState) (object : ObjId) (number : ℕ) → drawn ≡ record own { added = added_then (object_at own.graph object).state own.added }
    → taken_under number (object_at own.graph object) ≡ taken_under (one_more own.added) (object_at own.graph object)
    → with_graph (with_object drawn.graph object (taken_under number (object_at drawn.graph object))) drawn ≡ session_taken object own
taken_is own drawn object number is same =
    ap (λ (s : SessionState). with_graph (with_object s.graph object (taken_under number (object_at s.graph object))) s) is
    ∙ ap (λ (o : Object). with_graph (with_object own.graph object o) (record own { added = added_then (object_at own.graph object).state own.added })) same
