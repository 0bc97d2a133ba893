-- What a command of the session did, and what a stage became.
use Rattle.std.specs.Prelude.{length, Result, IfOk}
use Rattle.base_core.specs.declared.refusal.Refusal.{Refusal}
use Rattle.keeper_core.specs.Alone.{Turns}
use Rattle.keeper_core.specs.Beside.{Beside, moment_beside}
use Rattle.keeper_core.specs.Moment.{Moment, Runs}
use Rattle.keeper_core.specs.Programs.{Run}
use Rattle.keeper_core.specs.Store.{Store}
use Rattle.session_parts.specs.Depths.{StaysAt}
use Rattle.session_scopes.specs.SessionState.{SessionState}
use Rattle.command_resolve.specs.declared.answer.Answer.{Answer}
use Rattle.command_resolve.specs.Standing.{IsAnswer}
use Rattle.command_names.specs.Terms.{Bindings}
use Rattle.shell_stage.specs.declared.stage.Stage.{Stage}
use Rattle.shell_stage.specs.declared.stage.Stage.TheVariants.{Configured}
use Rattle.shell_stage.specs.Stages.{AreBound, IsKept}

-- A command of the session: it ran its program, what names stand for is there still, and unless it ended early the keeper is in step.
-- What is to be bound or shown is there.
pub record IsCommandCall {K : Type 0} (moment : K → Moment Store) (m : Beside SessionState → Run (Beside SessionState) Answer) (old : SessionState × K) (result : Result Answer Refusal) (new : SessionState × K) : Type 0 where
  pub step : Runs (moment_beside moment) (λ a. a) m old result new
  pub bound : (names : Bindings) → AreBound (Configured old.0) names → AreBound (Configured new.0) names
  pub in_step : StaysAt result (length new.0.frames.scopes) (moment new.1)
  pub answer : IfOk result (IsAnswer new.0.mapping new.0.graph new.0.drawn.drawn)

-- the stage became what is told, or was refused and left
pub record IsStageTurn {X : Type 0} (told : Stage → Result Stage Refusal) (old : Stage) (result : Result X Refusal) (new : Stage) : Type 0 where
  pub step : Turns (told old) old result new
  pub kept : IsKept old new
