-- The session's calls that write no row, each as a program of the store and of the session beside it.
use Rattle.std.specs.Prelude.{ℕ, ◌+◌, ◌-◌, ◌==◌, Bool, true, false, not, ◌&&◌, length, Option, None, Some}
use Rattle.base_core.specs.declared.ids.AttrNo.{AttrNo}
use Rattle.base_core.specs.declared.ids.ObjId.{ObjId}
use Rattle.base_core.specs.declared.value.Value.{Value}
use Rattle.base_core.specs.declared.refusal.Refusal.{Refusal}
use Rattle.base_core.specs.declared.refusal.Refusal.TheVariants.{PendingRollbackError, ResourceClosedError}
use Rattle.keeper_core.specs.Programs.{Run, ◌>>=◌, give, refuse}
use Rattle.keeper_core.specs.Beside.{by_own, changes, on_own, on_store}
use Rattle.keeper_core.specs.Calls as call
use Rattle.object_arena.specs.Graph.{object_at, value_fault}
use Rattle.session_scopes.specs.Changes.{deletion_marked, value_put}
use Rattle.session_scopes.specs.Handles.{place_of_handle}
use Rattle.session_scopes.specs.Scoping.{session_begun, session_closed, session_rolled_back}
use Rattle.session_scopes.specs.SessionState.{SessionState, in_transaction, with_notes}
use Rattle.session_calls.specs.Parts.{World, checked, fault_if, go_back}

-- ---- the transaction begins

-- a flush failed that was not rolled back
abbrev pub pending_fault : SessionState → Option Refusal
pending_fault session = fault_if session.failed PendingRollbackError

-- a transaction begins, unless one is in progress
abbrev pub begin_unless : Bool → World → Run World (Unit {0})
begin_unless true = give tt
begin_unless false = on_store with_notes call.begin >>= λ u. changes session_begun

-- refused while a failed flush waits for its rollback; else a transaction begins where none is in progress
unfoldable pub enter : World → Run World (Unit {0})
enter = checked pending_fault >>= λ u. by_own (λ session. begin_unless (in_transaction session))

-- ---- objects

-- a value of the attribute's kind, or NULL, goes into a cell, unless it is to stay as it is
abbrev pub set_fitting : ObjId → AttrNo → Value → World → Run World (Unit {0})
set_fitting object attr value = enter >>= λ u. on_own (value_put object attr value)

-- a value goes into a cell: its kind is judged before anything is sent, and whether the cell stays as it is in the transaction
unfoldable pub set_cell : ObjId → AttrNo → Value → World → Run World (Unit {0})
set_cell object attr value = checked (λ session. value_fault session.mapping (object_at session.graph object) attr value) >>= λ u. set_fitting object attr value

-- the next flush deletes the object
unfoldable pub delete : ObjId → World → Run World (Unit {0})
delete object = enter >>= λ u. on_own (deletion_marked object)

-- ---- the ends of scopes

-- a scope is gone back to, and with it so many savepoints have ended; no rollback is awaited then
abbrev pub go_back_by : ℕ → ℕ → World → Run World (Unit {0})
go_back_by depth count = go_back depth >>= λ u. changes (session_rolled_back count)

abbrev pub go_back_if : Bool → ℕ → World → Run World (Unit {0})
go_back_if true depth = go_back depth
go_back_if false depth = give tt

-- the transaction ends, and each object stands where it stood at its start; no rollback is awaited then
unfoldable pub rollback : World → Run World (Unit {0})
rollback = by_own (λ session. go_back_if (in_transaction session) 1 >>= λ u. changes (session_rolled_back (length session.drawn.handles)))

-- Of so many savepoints the one at a place ends with those inside it, and each object stands where it stood at its start. The
-- innermost one of a failed flush was rolled back already.
abbrev pub roll_back_place : Bool → ℕ → Option ℕ → World → Run World (Unit {0})
roll_back_place failed count None = refuse ResourceClosedError
roll_back_place failed count (Some place) = go_back_if (not (failed && (place == 0))) (count - place + 1) >>= λ u. changes (session_rolled_back (place + 1))

-- refused where the handle's savepoint has ended; no rollback is awaited once it was rolled back
unfoldable pub rollback_handle : ℕ → World → Run World (Unit {0})
rollback_handle handle = by_own (λ session. roll_back_place session.failed (length session.drawn.handles) (place_of_handle session.drawn handle))

abbrev pub roll_back_if : Bool → World → Run World (Unit {0})
roll_back_if true = on_store with_notes call.rollback
roll_back_if false = give tt

-- the transaction is rolled back, and all objects leave the session
abbrev pub close_inside : World → Run World (Unit {0})
close_inside = roll_back_if true >>= λ u. changes session_closed

-- the transaction ends without its rows, and all objects leave the session
unfoldable pub close : World → Run World (Unit {0})
close = by_own (λ session. roll_back_if (in_transaction session) >>= λ u. changes session_closed)
