-- The calls that flush answer where what is stated can be written.
use Rattle.std.proofs.Common.{◌≡◌, ℕ, zero, suc, ◌+◌, ◌<◌, Bool, true, false, not, List, length, None, Option, Result, Ok, refl, sym, ap, ◌∙◌, subst, arith}
use Rattle.std.specs.Prelude.{nat_lt}
use Rattle.std.proofs.lemmas.Bool.Decides.{nat_tests}
use Rattle.base_core.specs.declared.refusal.LimitKind.TheVariants.{Savepoints}
use Rattle.base_core.specs.declared.refusal.Refusal.{Refusal}
use Rattle.base_core.specs.declared.refusal.Refusal.TheVariants.{LimitReached, PendingRollbackError}
use Rattle.schema_core.specs.Tables.{Tables}
use Rattle.keeper_core.specs.Calls as call
use Rattle.keeper_core.specs.Programs.{Event, Run, ◌>>=◌, continue_from, give, refuse}
use Rattle.keeper_core.specs.Beside.{by_own, changes, on_store}
use Rattle.savepoints.specs.declared.scope.Scope.{Scope}
use Rattle.savepoints.specs.Scopes.{scope_limit}
use Rattle.session_scopes.specs.SessionState.{SessionState, in_transaction}
use Rattle.session_calls.specs.Parts.{World, checked, fault_if, unless}
use Rattle.session_calls.specs.Steps.{begin_unless, enter}
use Rattle.session_calls.proofs.Acting.{no_scope_open}
use Rattle.session_acts.specs.Savepoints.{begin_savepoint, commit_transaction, commit_whole, enter_nested, limit_fault, release_many, release_one}
use Rattle.session_acts.specs.Flush.{flush, prepare}
use Rattle.session_acts.specs.Steps as acts
use Rattle.session_acts.specs.Steps.{flush_now}
use Rattle.session_laws.proofs.Sound.Programs.{checked_same}
use Rattle.session_laws.specs.Stating.{AnswersWhereStated}
use Rattle.session_laws.specs.Sendable.{ChangesFit, FitPlansAreSendable}
use Rattle.session_laws.specs.Preparing.{IsReadable}
use Rattle.session_laws.specs.Sound.{IsSound}
use Rattle.session_laws.specs.Complete.{CanBeWritten, CommitsAnswer, FlushesAnswer, IsWritable, SavepointsAnswer}
use Rattle.session_laws.proofs.Complete.Written.{IsReady, flush_written, world_read}

-- ---- programs that answer

-- a run answers this, and leaves these tables
pub record IsAnswered {A : Type 0} (run : Run World A) (a : A) (tables : Tables) : Type 0 where
  pub answer : run.answer ≡ Ok a
  pub left : run.after.store.tables ≡ tables

goes_from : {A B : Type 0} (events : List Event) (v : World) (r : Result A Refusal) (next : A → World → Run World B) (a : A) (b : B) (tables : Tables) → r ≡ Ok a → IsAnswered (next a v) b tables → IsAnswered (continue_from events v r next) b tables
goes_from {A} events v r next a b tables is done = subst (λ (found : Result A Refusal). IsAnswered (continue_from events v found next) b tables) (sym is) (record { answer = done.answer; left = done.left })

pub goes : {A B : Type 0} (m : World → Run World A) (next : A → World → Run World B) (w : World) (a : A) (b : B) (tables : Tables) → (m w).answer ≡ Ok a → IsAnswered (next a (m w).after) b tables → IsAnswered ((m >>= next) w) b tables
unfolding ◌>>=◌
goes m next w a b tables is done = goes_from (m w).events (m w).after (m w).answer next a b tables is done

then_after : {A B : Type 0} (m : World → Run World A) (next : A → World → Run World B) (w : World) (a : A) → (m w).answer ≡ Ok a → ((m >>= next) w).after ≡ (next a (m w).after).after
unfolding ◌>>=◌
then_after {A} m next w a is = subst (λ (found : Result A Refusal). (continue_from (m w).events (m w).after found next).after ≡ (next a (m w).after).after) (sym is) refl

pub passes : (fault : SessionState → Option Refusal) (w : World) → fault w.own ≡ None → (checked fault w).answer ≡ Ok tt
unfolding checked by_own give
passes fault w none = ap (λ (f : Option Refusal). (unless f w).answer) none

-- ---- the transaction

begin_answers : (begun : Bool) (w : World) → (begin_unless begun w).answer ≡ Ok tt
unfolding ◌>>=◌ give changes on_store call.begin
begin_answers true w = refl
begin_answers false w = refl

unless_answers : (failed : Bool) (w : World) → failed ≡ false → ((unless (fault_if failed PendingRollbackError) >>= λ u. by_own (λ session. begin_unless (in_transaction session))) w).answer ≡ Ok tt
unfolding ◌>>=◌ give by_own
unless_answers true w well = absurd cc
unless_answers false w well = begin_answers (in_transaction w.own) w

pub enter_answers : (w : World) → w.own.failed ≡ false → (enter w).answer ≡ Ok tt
unfolding enter checked by_own ◌>>=◌
enter_answers w well = unless_answers w.own.failed w well

begin_few : (begun : Bool) (w : World) → in_transaction w.own ≡ begun → length w.own.frames.scopes < scope_limit → length (begin_unless begun w).after.own.frames.scopes < scope_limit
unfolding ◌>>=◌ give changes on_store call.begin
begin_few true w is few = few
begin_few false w is few =
    let none : length w.own.frames.scopes ≡ 0 = ap (λ (scopes : List Scope). length scopes) (no_scope_open w.own.frames.scopes is) in
    omega (arith, none)

unless_few : (failed : Bool) (w : World) → length w.own.frames.scopes < scope_limit
    → length ((unless (fault_if failed PendingRollbackError) >>= λ u. by_own (λ session. begin_unless (in_transaction session))) w).after.own.frames.scopes < scope_limit
unfolding ◌>>=◌ give refuse by_own
unless_few true w few = few
unless_few false w few = begin_few (in_transaction w.own) w refl few

entered_few : (w : World) → length w.own.frames.scopes < scope_limit → length (enter w).after.own.frames.scopes < scope_limit
unfolding enter checked by_own ◌>>=◌
entered_few w few = unless_few w.own.failed w few

room : (n : ℕ) → n < scope_limit → fault_if (not (nat_lt n scope_limit)) (LimitReached Savepoints) ≡ None
room n few = let less : nat_lt n scope_limit ≡ true = grind (arith, nat_tests) in ap (λ (b : Bool). fault_if (not b) (LimitReached Savepoints)) less

-- ---- the acts

one_released : (w : World) → IsAnswered (release_one w) tt w.store.tables
unfolding release_one ◌>>=◌ on_store changes call.release
one_released w = record { answer = refl; left = refl }

many_released : (count : ℕ) (w : World) → IsAnswered (release_many count w) tt w.store.tables
unfolding release_many give
many_released zero w = record { answer = refl; left = refl }
many_released (suc count) w =
    let one = one_released w in
    let rest = many_released count (release_one w).after in
    goes release_one (λ u. release_many count) w tt tt w.store.tables one.answer (record { answer = rest.answer; left = rest.left ∙ one.left })

committed : (w : World) → IsAnswered (commit_transaction w) tt w.store.tables
unfolding commit_transaction ◌>>=◌ on_store changes call.commit
committed w = record { answer = refl; left = refl }

pub whole_committed : (w : World) → IsAnswered (commit_whole w) tt w.store.tables
unfolding commit_whole by_own
whole_committed w =
    let count : ℕ = length w.own.drawn.handles in
    let released = many_released count w in
    let last = committed (release_many count w).after in
    goes (release_many count) (λ u. commit_transaction) w tt tt w.store.tables released.answer (record { answer = last.answer; left = last.left ∙ released.left })

-- the beginning of a savepoint tells its handle
pub record IsBegun (w : World) : Type 0 where
  pub handle : ℕ
  pub answered : IsAnswered (begin_savepoint w) handle w.store.tables

pub begun : (w : World) → IsBegun w
unfolding begin_savepoint ◌>>=◌ on_store changes by_own give call.savepoint
begun w = record { handle = w.own.drawn.drawn + 1; answered = record { answer = refl; left = refl } }

-- ---- the flush

-- no rollback is awaited, and once the transaction has begun and all is read the objects can be written
pub record IsOpened (w : World) (after : Tables) : Type 0 where
  pub well : w.own.failed ≡ false
  pub prepared : (prepare (enter w).after).answer ≡ Ok tt
  pub ready : IsReady (world_read w).own.mapping (world_read w).own.graph (world_read w).store.tables
  pub writable : IsWritable (world_read w).own.mapping (world_read w).own.graph (world_read w).store.tables after

module _ (answers : AnswersWhereStated) (sendable : FitPlansAreSendable) (fits : ChangesFit) where
  flush_done : (w : World) (after : Tables) → IsOpened w after → IsAnswered (flush (enter w).after) tt after
  flush_done w after opening = let done = flush_written answers sendable fits (enter w).after after opening.prepared opening.ready opening.writable in record { answer = done.0; left = done.1 }

  now_done : (w : World) (after : Tables) → IsOpened w after → IsAnswered (flush_now w) tt after
  unfolding flush_now
  now_done w after opening = goes enter (λ u. flush) w tt tt after (enter_answers w opening.well) (flush_done w after opening)

  module _ (opened : (w : World) (after : Tables) → IsReadable w → IsSound w → CanBeWritten w after → IsOpened w after) where
    pub flush_answers : FlushesAnswer
    flush_answers w after readable sound can = let done = now_done w after (opened w after readable sound can) in (done.answer, done.left)

    pub commit_answers : CommitsAnswer
    unfolding acts.commit
    commit_answers w after readable sound can =
        let done = now_done w after (opened w after readable sound can) in
        let last = whole_committed (flush_now w).after in
        let all = goes flush_now (λ u. commit_whole) w tt tt after done.answer (record { answer = last.answer; left = last.left ∙ done.left }) in
        (all.answer, all.left)

    pub savepoint_answers : SavepointsAnswer
    unfolding acts.begin_nested enter_nested
    savepoint_answers w after readable sound can few =
        let opening : IsOpened w after = opened w after readable sound can in
        let v : World = (enter w).after in
        let entered : (enter w).answer ≡ Ok tt = enter_answers w opening.well in
        let passed : ((enter >>= λ u. checked limit_fault) w).answer ≡ Ok tt = (goes enter (λ u. checked limit_fault) w tt tt _ entered (record { answer = passes limit_fault v (room (length v.own.frames.scopes) (entered_few w few)); left = refl })).answer in
        let same : ((enter >>= λ u. checked limit_fault) w).after ≡ v = then_after enter (λ u. checked limit_fault) w tt entered ∙ checked_same limit_fault v in
        let flushed : IsAnswered (flush ((enter >>= λ u. checked limit_fault) w).after) tt after = subst (λ (x : World). IsAnswered (flush x) tt after) (sym same) (flush_done w after opening) in
        let last = begun (flush ((enter >>= λ u. checked limit_fault) w).after).after in
        let acted = goes flush (λ u. begin_savepoint) ((enter >>= λ u. checked limit_fault) w).after tt last.handle after flushed.answer (record { answer = last.answered.answer; left = last.answered.left ∙ flushed.left }) in
        let all = goes (enter >>= λ u. checked limit_fault) (λ u. flush >>= λ u. begin_savepoint) w tt last.handle after passed acted in
        (last.handle, all.answer, all.left)
