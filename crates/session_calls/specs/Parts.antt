-- Parts of the session's calls: what is checked before anything is sent, and the calls of the store that end scopes.
use Rattle.std.specs.Prelude.{ℕ, ◌-◌, ◌==◌, Bool, true, false, Option, None, Some, if◌then◌else◌}
use Rattle.base_core.specs.declared.refusal.Refusal.{Refusal}
use Rattle.keeper_core.specs.Store.{Store}
use Rattle.keeper_core.specs.Programs.{Run, ◌>>=◌, give, refuse}
use Rattle.keeper_core.specs.Beside.{Beside, by_own, changes, on_store}
use Rattle.keeper_core.specs.Calls as call
use Rattle.session_scopes.specs.Scoping.{session_restored}
use Rattle.session_scopes.specs.SessionState.{SessionState, with_notes}

-- the world of a session's calls
abbrev pub World : Type 0
World = Beside SessionState

-- ---- checks

-- refused where there is a fault
abbrev pub unless : {W : Type 0} → Option Refusal → W → Run W (Unit {0})
unless None = give tt
unless (Some fault) = refuse fault

-- refused where the session has a fault
unfoldable pub checked : {S : Type 0} → (S → Option Refusal) → Beside S → Run (Beside S) (Unit {0})
checked fault = by_own (λ own. unless (fault own))

abbrev pub fault_if : Bool → Refusal → Option Refusal
fault_if true fault = Some fault
fault_if false fault = None

-- ---- scopes

-- the scope at a depth is rolled back in the store: the transaction, or a savepoint by its number
abbrev pub roll_back_scope : ℕ → Store → Run Store (Unit {0})
roll_back_scope depth = if depth == 1 then call.rollback else call.rollback_to (depth - 1)

-- the scope at a depth is rolled back, in the store and in the session
abbrev pub go_back : ℕ → World → Run World (Unit {0})
go_back depth = on_store with_notes (roll_back_scope depth) >>= λ u. changes (session_restored depth)
