-- What a call of the shell did, and what it kept: the contract of every step of a line.
use Rattle.std.specs.Prelude.{◌≡◌, Result}
use Rattle.base_core.specs.declared.refusal.Refusal.{Refusal}
use Rattle.keeper_core.specs.Alone.{alone}
use Rattle.keeper_core.specs.Beside.{moment_beside}
use Rattle.keeper_core.specs.Moment.{Moment, Runs}
use Rattle.keeper_core.specs.Programs.{Run}
use Rattle.keeper_core.specs.Store.{Store}
use Rattle.shell_steps.specs.ShellState.{ShellState, StaysReady}
use Rattle.shell_steps.specs.Step.{World}

-- a call over the keeper: it ran its program, and the keeper is ready for the next line
pub record IsShellCall {A K : Type 0} (moment : K → Moment Store) (m : World → Run World A) (old : ShellState × K) (result : Result A Refusal) (new : ShellState × K) : Type 0 where
  pub step : Runs (moment_beside moment) (λ x. x) m old result new
  pub ready : StaysReady result new.0.stage (moment new.1)

-- a call of the shell alone, which stays at its stage
pub record IsShellCallAlone {A : Type 0} (m : ShellState → Run ShellState A) (old : ShellState) (result : Result A Refusal) (new : ShellState) : Type 0 where
  pub step : Runs alone (λ x. x) m old result new
  pub stage : new.stage ≡ old.stage
