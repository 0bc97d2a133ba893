-- A plan is asked for: it is answered, or its cycle is the refusal.
use Rattle.std.proofs.Common.{◌≡◌, ℕ, List, map, Result, Ok, Err, MatchBool, refl, ap, subst}
use Rattle.base_core.specs.Answers.{is_memory}
use Rattle.base_core.specs.declared.refusal.Refusal.{Refusal}
use Rattle.base_core.specs.declared.refusal.Refusal.TheVariants.{CircularDependencyError, Memory}
use Rattle.schema_core.specs.declared.changes.Planned.{Planned}
use Rattle.schema_core.specs.declared.changes.RowChanges.{RowChanges}
use Rattle.schema_core.specs.Catalog.{Catalog}
use Rattle.flush_order.specs.Cells.{new_at}
use Rattle.flush_order.specs.Orders.{delete_order, gone_at, gone_rows, insert_order}
use Rattle.flush_plan.specs.Planning.{plan, unless_gone_cycle, unless_new_cycle}
use Rattle.keeper_core.specs.Alone.{IsOwn, IsQuiet}
use Rattle.keeper_core.specs.Store.{Store}
use Rattle.keeper_core.specs.Programs.{ask, quiet}
use Rattle.keeper_core.specs.Moment.{Moment}
use Rattle.keeper_core.specs.Beside.{on_own}
use Rattle.session_scopes.specs.SessionState.{IsInStep, SessionState}
use Rattle.session_calls.specs.Calling.{IsSessionCall}
use Rattle.session_calls.proofs.Joining.{own_call, same_itself}

own_gone : (schema : Catalog) (rows : RowChanges) (order : List ℕ) (r : Result (List ℕ) (List ℕ)) (e : Refusal) → unless_gone_cycle schema rows order r ≡ Err e → IsOwn e
own_gone schema rows order (Ok gone) e is = absurd cc
own_gone schema rows order (Err cycle) e is = let same : CircularDependencyError (map (λ place. (gone_at (gone_rows schema rows) place).name) cycle) ≡ e = cc in subst IsOwn same (refl, refl)

own_new : (schema : Catalog) (rows : RowChanges) (r : Result (List ℕ) (List ℕ)) (e : Refusal) → unless_new_cycle schema rows r ≡ Err e → IsOwn e
own_new schema rows (Ok order) e is = own_gone schema rows order (delete_order schema rows (gone_rows schema rows)) e is
own_new schema rows (Err cycle) e is = let same : CircularDependencyError (map (λ place. (new_at rows place).name) cycle) ≡ e = cc in subst IsOwn same (refl, refl)

-- the refusal of a plan is its own
own_plan : (schema : Catalog) (rows : RowChanges) (e : Refusal) → plan schema rows ≡ Err e → IsOwn e
unfolding plan
own_plan schema rows e is = own_new schema rows (insert_order schema rows) e is

quiet_refusal : {X : Type 0} (v : X → List Planned) (told : Result (List Planned) Refusal) (session : SessionState) (e : Refusal) → MatchBool (is_memory e) (Unit {0}) (told ≡ Err e) → (told ≡ Err e → IsOwn e) → IsQuiet v (quiet told session) (Err e) session
quiet_refusal v told session Memory refuses own = tt
quiet_refusal v told session e refuses own = (ap (λ (r : Result (List Planned) Refusal). quiet r session) refuses, own refuses)

-- the statements of a plan
pub planned : {K : Type 0} (moment : K → Moment Store) (rows : RowChanges) {own : SessionState} {keeper : K} (statements : List Planned) → plan own.mapping.schema rows ≡ Ok statements → IsInStep own (moment keeper)
    → IsSessionCall moment (λ (p : List Planned). p) (on_own (ask (λ (session : SessionState). plan session.mapping.schema rows))) (own, keeper) (Ok statements) (own, keeper)
unfolding ask
planned moment rows {own = own} statements is in_step =
    own_call moment (ask (λ (session : SessionState). plan session.mapping.schema rows)) (ap (λ (r : Result (List Planned) Refusal). quiet r own) is) (same_itself own) refl in_step

-- its cycle, or memory ran out
pub not_planned : {X K : Type 0} (moment : K → Moment Store) (v : X → List Planned) (rows : RowChanges) {own : SessionState} {keeper : K} {e : Refusal} → MatchBool (is_memory e) (Unit {0}) (plan own.mapping.schema rows ≡ Err e) → IsInStep own (moment keeper)
    → IsSessionCall moment v (on_own (ask (λ (session : SessionState). plan session.mapping.schema rows))) (own, keeper) (Err e) (own, keeper)
unfolding ask
not_planned moment v rows {own = own} {e = e} refuses in_step =
    own_call moment (ask (λ (session : SessionState). plan session.mapping.schema rows)) {r = Err e}
    (quiet_refusal v (plan own.mapping.schema rows) own e refuses (own_plan own.mapping.schema rows e)) (same_itself own) refl in_step
