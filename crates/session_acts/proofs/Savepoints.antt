-- Savepoints that begin and end, and the end of the transaction, put together of their parts.
use Rattle.std.proofs.Common.{◌≡◌, ℕ, ◌+◌, ◌-◌, ◌<◌, ◌≤◌, suc, Bool, true, false, cond, not, length, Option, None, Some, Result, Ok, Err, IfErr, IfOk, OnOk, refl, sym, ap, ◌∙◌, subst, add-one, arith}
use Rattle.std.proofs.lemmas.Bool.Decides.{nat_tests}
use Rattle.std.specs.Prelude.{is_none, nat_lt}
use Rattle.base_core.specs.declared.refusal.Refusal.{Refusal}
use Rattle.base_core.specs.declared.refusal.LimitKind.TheVariants.{Savepoints}
use Rattle.base_core.specs.declared.refusal.Refusal.TheVariants.{LimitReached, Memory, PendingRollbackError, ResourceClosedError}
use Rattle.keeper_core.specs.Alone.{IsOwn}
use Rattle.keeper_core.specs.Calls as call
use Rattle.keeper_core.specs.Store.{Store}
use Rattle.keeper_core.specs.Programs.{Run, ◌>>=◌, give}
use Rattle.keeper_core.specs.Moment.{Moment, Reaches, Runs}
use Rattle.keeper_core.specs.Beside.{by_own, changes}
use Rattle.keeper_core.proofs.Lifting.{chosen, ends, lost}
use Rattle.keeper_core.proofs.Sequence.{done, reaches_end, reaches_more, then_err, then_ok}
use Rattle.object_arena.specs.Graph.{either_fault}
use Rattle.savepoints.specs.Scopes.{scope_limit}
use Rattle.session_scopes.specs.Handles.{place_of_handle}
use Rattle.session_scopes.specs.Scoping.{session_committed, session_nested, session_released}
use Rattle.session_scopes.specs.SessionState.{IsInStep, SameObjects, SessionState}
use Rattle.session_scopes.proofs.SessionLemmas.{goes_on}
use Rattle.session_calls.specs.Calling.{IsNotedCall, IsSessionCall}
use Rattle.session_calls.specs.Parts.{World, checked, fault_if}
use Rattle.session_calls.specs.Steps.{enter, pending_fault}
use Rattle.session_calls.proofs.Acting.{alike_scopes}
use Rattle.session_calls.proofs.Joining.{chosen_call, err_call, fails, memory_early, noted_err, noted_then, passes, same_alike, same_more, stays_early, still_call, then_call}
use Rattle.session_acts.specs.Savepoints.{begin_savepoint, check_handle, commit_transaction, commit_whole, enter_nested, handle_fault, limit_fault, release_handle, release_many, release_one, release_place}

-- ---- a savepoint begins

-- a number is answered by what the session is then
abbrev next_handle : Unit {0} → World → Run World ℕ
next_handle u = by_own (λ session. give session.drawn.drawn)

-- it began, under the handle that is answered, unless memory ran out
pub nests : {K : Type 0} (moment : K → Moment Store) {own mid now : SessionState} {old new : K} (r : Result ℕ Refusal) → IsNotedCall moment call.savepoint (length own.frames.scopes + 1) (own, old) (Ok tt) (mid, new)
    → OnOk r (now ≡ session_nested mid) → IfOk r (λ handle. handle ≡ mid.drawn.drawn + 1) → IfErr r (λ e. e ≡ Memory) → SameObjects mid now → IsSessionCall moment (λ handle. handle) begin_savepoint (own, old) r (now, new)
unfolding begin_savepoint
nests moment {own = own} {mid = mid} {now = now} {new = new} (Ok number) p is named cause same = record {
  step = then_ok (λ u. changes session_nested >>= next_handle) p.step (then_ok next_handle (ends moment session_nested {r = Ok tt} is tt) (chosen moment (λ session. give session.drawn.drawn) (done (ap (λ (s : SessionState). s.drawn.drawn) is ∙ sym named))));
  kept = record {
    same = goes_on (same_more (same_alike own mid p.alike) same);
    in_step = (p.scopes.0, p.scopes.1 ∙ ap (λ (n : ℕ). n + 1) (sym (alike_scopes own mid p.alike)) ∙ add-one (length mid.frames.scopes) ∙ sym (ap (λ (s : SessionState). length s.frames.scopes) is));
  };
}
nests moment {own = own} {mid = mid} {now = now} {new = new} (Err e) p none named cause same = record {
  step = then_ok (λ u. changes session_nested >>= next_handle) p.step (lost moment cause);
  kept = record { same = goes_on (same_more (same_alike own mid p.alike) same); in_step = stays_early ℕ e (length now.frames.scopes) (moment new) (memory_early e cause) };
}

-- the store ended it early
pub nests_not : {K : Type 0} (moment : K → Moment Store) (depth : ℕ) {own now : SessionState} {old new : K} {e : Refusal} → IsNotedCall moment call.savepoint depth (own, old) (Err e) (now, new) → IsSessionCall moment (λ (handle : ℕ). handle) begin_savepoint (own, old) (Err e) (now, new)
unfolding begin_savepoint
nests_not moment depth p = noted_err moment (λ u. changes session_nested >>= next_handle) depth p

-- ---- savepoints end

pub releases : {K : Type 0} (moment : K → Moment Store) (depth : ℕ) {own mid now : SessionState} {old new : K} → IsNotedCall moment call.release depth (own, old) (Ok tt) (mid, new) → now ≡ session_released mid → SameObjects mid now → length now.frames.scopes ≡ depth
    → IsSessionCall moment (λ (u : Unit {0}). u) release_one (own, old) (Ok tt) (now, new)
unfolding release_one
releases moment depth p is same long = noted_then moment session_released depth {r = Ok tt} p is tt same long

pub releases_not : {Y K : Type 0} (moment : K → Moment Store) (depth : ℕ) {v : Y → Unit {0}} {own now : SessionState} {old new : K} {e : Refusal} → IsNotedCall moment call.release depth (own, old) (Err e) (now, new) → IsSessionCall moment v release_one (own, old) (Err e) (now, new)
unfolding release_one
releases_not moment depth p = noted_err moment (λ u. changes session_released) depth p

left_one : (n k : ℕ) → n ≡ suc k → release_many n ≡ (release_one >>= λ u. release_many k)
unfolding release_many
left_one n k is = ap release_many is

left_none : (n : ℕ) → n ≡ 0 → release_many n ≡ give tt
unfolding release_many
left_none n is = ap release_many is

-- one of those that are left ends
pub release_turn : {S : Type 0} {tell : S → Moment World} {whole : World → Run World (Unit {0})} {old mid new : S} (n k : ℕ) → n ≡ suc k → Reaches tell whole old (release_many n) mid → Runs tell (λ (u : Unit {0}). u) release_one mid (Ok tt) new → Reaches tell whole old (release_many k) new
release_turn {tell = tell} {whole = whole} {old = old} {mid = mid} n k is p q =
    reaches_more (λ u. release_many k) (subst (λ m. Reaches tell whole old m mid) (left_one n k is) p) q

-- it was ended early
pub release_stopped : {Y S : Type 0} {tell : S → Moment World} {v : Y → Unit {0}} {whole : World → Run World (Unit {0})} {old mid new : S} {e : Refusal} (n k : ℕ) → n ≡ suc k → Reaches tell whole old (release_many n) mid → Runs tell (λ (u : Unit {0}). u) release_one mid (Err e) new → Runs tell v whole old (Err e) new
release_stopped {tell = tell} {v = v} {whole = whole} {old = old} {mid = mid} n k is p q =
    reaches_end {v = v} (subst (λ m. Reaches tell whole old m mid) (left_one n k is) p) (then_err (λ u. release_many k) q)

-- none is left
pub release_ended : {S : Type 0} {tell : S → Moment World} {whole : World → Run World (Unit {0})} {old mid : S} (n : ℕ) → n ≡ 0 → Reaches tell whole old (release_many n) mid → Runs tell (λ (u : Unit {0}). u) whole old (Ok tt) mid
release_ended {tell = tell} {whole = whole} {old = old} {mid = mid} n is p =
    reaches_end {v = λ (u : Unit {0}). u} (subst (λ m. Reaches tell whole old m mid) (left_none n is) p) (done {v = λ (u : Unit {0}). u} {x = tt} refl)

-- ---- the transaction ends

pub commits : {K : Type 0} (moment : K → Moment Store) {own mid now : SessionState} {old new : K} → IsNotedCall moment call.commit 0 (own, old) (Ok tt) (mid, new) → now ≡ session_committed mid → SameObjects mid now
    → IsSessionCall moment (λ (u : Unit {0}). u) commit_transaction (own, old) (Ok tt) (now, new)
unfolding commit_transaction
commits moment p is same = noted_then moment session_committed 0 {r = Ok tt} p is tt same (ap (λ (s : SessionState). length s.frames.scopes) is)

pub commits_not : {Y K : Type 0} (moment : K → Moment Store) {v : Y → Unit {0}} {own now : SessionState} {old new : K} {e : Refusal} → IsNotedCall moment call.commit 0 (own, old) (Err e) (now, new) → IsSessionCall moment v commit_transaction (own, old) (Err e) (now, new)
unfolding commit_transaction
commits_not moment p = noted_err moment (λ u. changes session_committed) 0 p

-- ---- what is asked first

more_fit : (n : ℕ) → n < scope_limit → nat_lt n scope_limit ≡ true
more_fit n less = grind (arith, nat_tests)

no_more_fit : (n : ℕ) → scope_limit ≤ n → nat_lt n scope_limit ≡ false
no_more_fit n full = grind (arith, nat_tests)

-- there is room for a savepoint
pub enters_nested : {K : Type 0} (moment : K → Moment Store) {own mid : SessionState} {old new : K} → length mid.frames.scopes < scope_limit
    → IsSessionCall moment (λ (u : Unit {0}). u) enter (own, old) (Ok tt) (mid, new) → IsSessionCall moment (λ (u : Unit {0}). u) enter_nested (own, old) (Ok tt) (mid, new)
unfolding enter_nested
enters_nested moment {mid = mid} room p =
    then_call (λ u. checked limit_fault) p (passes moment limit_fault (ap (λ (b : Bool). fault_if (not b) (LimitReached Savepoints)) (more_fit (length mid.frames.scopes) room)) p.kept.in_step)

-- the session is told it
pub limit_told : (session : SessionState) → scope_limit ≤ length session.frames.scopes → limit_fault session ≡ Some (LimitReached Savepoints)
limit_told session full = ap (λ (b : Bool). fault_if (not b) (LimitReached Savepoints)) (no_more_fit (length session.frames.scopes) full)

-- there are as many as there may be
pub is_full : {K : Type 0} (moment : K → Moment Store) {own mid : SessionState} {old new : K} → scope_limit ≤ length mid.frames.scopes
    → IsSessionCall moment (λ (u : Unit {0}). u) enter (own, old) (Ok tt) (mid, new) → IsSessionCall moment (λ (u : Unit {0}). u) enter_nested (own, old) (Err (LimitReached Savepoints)) (mid, new)
unfolding enter_nested
is_full moment {mid = mid} full p =
    then_call (λ u. checked limit_fault) p
    (fails moment limit_fault {v = λ (u : Unit {0}). u} (limit_told mid full) (refl, refl) p.kept.in_step)

pub enters_not : {Y K : Type 0} (moment : K → Moment Store) {v : Y → Unit {0}} {own now : SessionState} {old new : K} {e : Refusal} → IsSessionCall moment (λ (u : Unit {0}). u) enter (own, old) (Err e) (now, new) → IsSessionCall moment v enter_nested (own, old) (Err e) (now, new)
unfolding enter_nested
enters_not moment p = err_call (λ u. checked limit_fault) p

-- one of two checks refuses
one_fails : {X K : Type 0} (moment : K → Moment Store) (f g : SessionState → Option Refusal) {v : X → Unit {0}} {own : SessionState} {keeper : K} {e : Refusal} (first : Option Refusal) → first ≡ f own → either_fault first (g own) ≡ Some e → IsOwn e → IsInStep own (moment keeper)
    → IsSessionCall moment v (checked f >>= λ u. checked g) (own, keeper) (Err e) (own, keeper)
one_fails moment f g (Some d) is fault own in_step = err_call (λ u. checked g) (fails moment f {v = λ (u : Unit {0}). u} (sym is ∙ fault) own in_step)
one_fails moment f g {v = v} None is fault own in_step = then_call (λ u. checked g) (passes moment f (sym is) in_step) (fails moment g {v = v} fault own in_step)

-- both pass
both_pass : {K : Type 0} (moment : K → Moment Store) (f g : SessionState → Option Refusal) {own : SessionState} {keeper : K} (first : Option Refusal) → first ≡ f own → either_fault first (g own) ≡ None → IsInStep own (moment keeper)
    → IsSessionCall moment (λ (u : Unit {0}). u) (checked f >>= λ u. checked g) (own, keeper) (Ok tt) (own, keeper)
both_pass moment f g (Some d) is none in_step = absurd cc
both_pass moment f g None is none in_step = then_call (λ u. checked g) (passes moment f (sym is) in_step) (passes moment g none in_step)

own_fault : (failed gone : Bool) (e : Refusal) → either_fault (fault_if failed PendingRollbackError) (fault_if gone ResourceClosedError) ≡ Some e → IsOwn e
own_fault true gone e is = let same : PendingRollbackError ≡ e = cc in subst IsOwn same (refl, refl)
own_fault false true e is = let same : ResourceClosedError ≡ e = cc in subst IsOwn same (refl, refl)
own_fault false false e is = absurd cc

-- a rollback is awaited, or the handle's savepoint has ended
pub handle_refused : {K : Type 0} (moment : K → Moment Store) (handle : ℕ) {own : SessionState} {keeper : K} {e : Refusal} → either_fault (pending_fault own) (handle_fault handle own) ≡ Some e → IsInStep own (moment keeper)
    → IsSessionCall moment (λ (u : Unit {0}). u) (check_handle handle) (own, keeper) (Err e) (own, keeper)
unfolding check_handle
handle_refused moment handle {own = own} {e = e} is in_step =
    one_fails moment pending_fault (handle_fault handle) {v = λ (u : Unit {0}). u} (pending_fault own) refl is (own_fault own.failed (is_none (place_of_handle own.drawn handle)) e is) in_step

-- it is in progress
pub handle_open : {K : Type 0} (moment : K → Moment Store) (handle : ℕ) {own : SessionState} {keeper : K} → either_fault (pending_fault own) (handle_fault handle own) ≡ None → IsInStep own (moment keeper)
    → IsSessionCall moment (λ (u : Unit {0}). u) (check_handle handle) (own, keeper) (Ok tt) (own, keeper)
unfolding check_handle
handle_open moment handle {own = own} none in_step = both_pass moment pending_fault (handle_fault handle) (pending_fault own) refl none in_step

-- ---- a handle's savepoint ends

releases_by : {X K : Type 0} (moment : K → Moment Store) {v : X → Unit {0}} {own now : SessionState} {old new : K} {r : Result X Refusal} (handle : ℕ) (found : Option ℕ) → found ≡ place_of_handle own.drawn handle
    → IsSessionCall moment v (release_place found) (own, old) r (now, new) → IsSessionCall moment v (release_handle handle) (own, old) r (now, new)
unfolding release_handle
releases_by moment {v = v} {own = own} {now = now} {old = old} {new = new} {r = r} handle found is p =
    chosen_call moment (λ session. release_place (place_of_handle session.drawn handle))
    (subst (λ (f : Option ℕ). IsSessionCall moment v (release_place f) (own, old) r (now, new)) is p)

-- with those inside it
pub releases_place : {K : Type 0} (moment : K → Moment Store) {own now : SessionState} {old new : K} {r : Result (Unit {0}) Refusal} (handle place : ℕ) → Some place ≡ place_of_handle own.drawn handle
    → IsSessionCall moment (λ u. u) (release_many (place + 1)) (own, old) r (now, new) → IsSessionCall moment (λ u. u) (release_handle handle) (own, old) r (now, new)
releases_place moment handle place is p = releases_by moment handle (Some place) is p

-- none has the handle
pub releases_none : {K : Type 0} (moment : K → Moment Store) {own : SessionState} {keeper : K} (handle : ℕ) → None ≡ place_of_handle own.drawn handle → IsInStep own (moment keeper)
    → IsSessionCall moment (λ (u : Unit {0}). u) (release_handle handle) (own, keeper) (Ok tt) (own, keeper)
releases_none moment handle is in_step = releases_by moment handle None is (still_call moment {v = λ (u : Unit {0}). u} refl in_step)

-- there are fewer savepoints than scopes
pub fewer_than_scopes : (failed : Bool) (scopes handles count : ℕ) → failed ≡ false → handles ≡ cond failed (scopes + 1) scopes - 1 → count < handles → count + 1 < scopes
fewer_than_scopes true scopes handles count well is less = absurd cc
fewer_than_scopes false scopes handles count well is less = omega arith

-- each scope but the transaction's is a savepoint's
pub one_fewer : (failed : Bool) (scopes handles : ℕ) → failed ≡ false → handles ≡ cond failed (scopes + 1) scopes - 1 → 0 < scopes → handles + 1 ≡ scopes
one_fewer true scopes handles well is inside = absurd cc
one_fewer false scopes handles well is inside = omega arith

-- ---- all ends

commits_by : {X K : Type 0} (moment : K → Moment Store) {v : X → Unit {0}} {own now : SessionState} {old new : K} {r : Result X Refusal} (count : ℕ) → count ≡ length own.drawn.handles
    → IsSessionCall moment v (release_many count >>= λ u. commit_transaction) (own, old) r (now, new) → IsSessionCall moment v commit_whole (own, old) r (now, new)
unfolding commit_whole
commits_by moment {v = v} {own = own} {now = now} {old = old} {new = new} {r = r} count is p =
    chosen_call moment (λ session. release_many (length session.drawn.handles) >>= λ u. commit_transaction)
    (subst (λ (n : ℕ). IsSessionCall moment v (release_many n >>= λ u. commit_transaction) (own, old) r (now, new)) is p)

pub commits_whole : {K : Type 0} (moment : K → Moment Store) {own mid now : SessionState} {old between new : K} {r : Result (Unit {0}) Refusal} (count : ℕ) → count ≡ length own.drawn.handles → IsSessionCall moment (λ (u : Unit {0}). u) (release_many count) (own, old) (Ok tt) (mid, between)
    → IsSessionCall moment (λ u. u) commit_transaction (mid, between) r (now, new) → IsSessionCall moment (λ u. u) commit_whole (own, old) r (now, new)
commits_whole moment count is p q = commits_by moment count is (then_call (λ u. commit_transaction) p q)

pub commits_whole_not : {Y K : Type 0} (moment : K → Moment Store) {v : Y → Unit {0}} {own now : SessionState} {old new : K} {e : Refusal} (count : ℕ) → count ≡ length own.drawn.handles → IsSessionCall moment (λ (u : Unit {0}). u) (release_many count) (own, old) (Err e) (now, new)
    → IsSessionCall moment v commit_whole (own, old) (Err e) (now, new)
commits_whole_not moment count is p = commits_by moment count is (err_call (λ u. commit_transaction) p)
