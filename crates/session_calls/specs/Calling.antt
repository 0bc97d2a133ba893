-- What every call of the session ensures: its program, and what it keeps.
use Rattle.std.specs.Prelude.{◌≡◌, ℕ, true, Result, IfErr, OnOk}
use Rattle.base_core.specs.declared.refusal.Refusal.{Refusal}
use Rattle.keeper_core.specs.Store.{Store}
use Rattle.keeper_core.specs.Programs.{Run, ends_early}
use Rattle.keeper_core.specs.Moment.{Moment, Runs}
use Rattle.keeper_core.specs.Beside.{moment_beside, on_store}
use Rattle.session_parts.specs.Depths.{HasDepth}
use Rattle.session_scopes.specs.SessionState.{AreAlikeButNotes, IsKept, SessionState, with_notes}
use Rattle.session_calls.specs.Parts.{World}

-- the call ran its program, and kept the mapping, the objects and, unless it ended early, the keeper in step
pub record IsSessionCall {A X K : Type 0} (moment : K → Moment Store) (view : X → A) (m : World → Run World A) (old : SessionState × K) (result : Result X Refusal) (new : SessionState × K) : Type 0 where
  pub step : Runs (moment_beside moment) view m old result new
  pub kept : IsKept result old.0 new.0 (moment new.1)

-- A call of the store that nothing refuses, noted by the session, which stays as it is otherwise: it left so many scopes open, or
-- memory or the store ended it early.
pub record IsNotedCall {K : Type 0} (moment : K → Moment Store) (m : Store → Run Store (Unit {0})) (depth : ℕ) (old : SessionState × K) (result : Result (Unit {0}) Refusal) (new : SessionState × K) : Type 0 where
  pub step : Runs (moment_beside moment) (λ u. u) (on_store with_notes m) old result new
  pub alike : AreAlikeButNotes old.0 new.0
  pub scopes : OnOk result (HasDepth depth (moment new.1))
  pub stops : IfErr result (λ e. ends_early e ≡ true)
