-- What a session does to its savepoints and its transaction once all that was to be written is written.
use Rattle.std.specs.Prelude.{ℕ, ◌+◌, zero, suc, not, length, nat_lt, Option, None, Some, is_none}
use Rattle.base_core.specs.declared.refusal.LimitKind.TheVariants.{Savepoints}
use Rattle.base_core.specs.declared.refusal.Refusal.{Refusal}
use Rattle.base_core.specs.declared.refusal.Refusal.TheVariants.{LimitReached, ResourceClosedError}
use Rattle.keeper_core.specs.Programs.{Run, ◌>>=◌, give}
use Rattle.keeper_core.specs.Beside.{by_own, changes, on_store}
use Rattle.keeper_core.specs.Calls as call
use Rattle.savepoints.specs.Scopes.{scope_limit}
use Rattle.session_scopes.specs.Handles.{place_of_handle}
use Rattle.session_scopes.specs.Scoping.{session_committed, session_nested, session_released}
use Rattle.session_scopes.specs.SessionState.{SessionState, with_notes}
use Rattle.session_calls.specs.Parts.{World, checked, fault_if}
use Rattle.session_calls.specs.Steps.{enter, pending_fault}

-- ---- what is asked before the flush

-- as many savepoints are in progress as there may be
abbrev pub limit_fault : SessionState → Option Refusal
limit_fault session = fault_if (not (nat_lt (length session.frames.scopes) scope_limit)) (LimitReached Savepoints)

-- a transaction begins where none is in progress, and there is room for one savepoint more
unfoldable pub enter_nested : World → Run World (Unit {0})
enter_nested = enter >>= λ u. checked limit_fault

-- the handle's savepoint has ended, or none had it
abbrev pub handle_fault : ℕ → SessionState → Option Refusal
handle_fault handle session = fault_if (is_none (place_of_handle session.drawn handle)) ResourceClosedError

-- no rollback is awaited, and the handle's savepoint is in progress
unfoldable pub check_handle : ℕ → World → Run World (Unit {0})
check_handle handle = checked pending_fault >>= λ u. checked (handle_fault handle)

-- ---- what is done behind it

-- a savepoint begins, and its handle is answered
unfoldable pub begin_savepoint : World → Run World ℕ
begin_savepoint = on_store with_notes call.savepoint >>= λ u. (changes session_nested >>= λ u. by_own (λ session. give session.drawn.drawn))

-- the innermost savepoint ends, and what was done inside stays
unfoldable pub release_one : World → Run World (Unit {0})
release_one = on_store with_notes call.release >>= λ u. changes session_released

-- so many of the innermost savepoints end, one after another
unfoldable pub release_many : ℕ → World → Run World (Unit {0})
release_many zero = give tt
release_many (suc count) = release_one >>= λ u. release_many count

abbrev pub release_place : Option ℕ → World → Run World (Unit {0})
release_place None = give tt
release_place (Some place) = release_many (place + 1)

-- the handle's savepoint ends, and before it those inside it
unfoldable pub release_handle : ℕ → World → Run World (Unit {0})
release_handle handle = by_own (λ session. release_place (place_of_handle session.drawn handle))

-- the transaction is committed, and every persistent object is to be read again
unfoldable pub commit_transaction : World → Run World (Unit {0})
commit_transaction = on_store with_notes call.commit >>= λ u. changes session_committed

-- all savepoints end, and the transaction is committed
unfoldable pub commit_whole : World → Run World (Unit {0})
commit_whole = by_own (λ session. release_many (length session.drawn.handles) >>= λ u. commit_transaction)
