use Rattle.keeper_core.proofs.AloneLemmas.{alone_lost}
use Rattle.keeper_core.proofs.Sequence.{passed_on}
use Rattle.shell_steps.proofs.Replying.{closed_ok, early_memory}
use Rattle.shell_steps.proofs.shell.Shell.close.Goals as goal

pub returns-in_err-tell_notes-clause-step : goal.returns-in_err-tell_notes-clause-step
returns-in_err-tell_notes-clause-step g c =
    passed_on c.from_residual-in_err-tell_notes.ensures.1 (closed_ok g.K.Keeper.moment c.new-nothing.ensures c.in_ok-close_stage.ensures.step alone_lost)

pub returns-in_err-tell_notes-clause-stops : goal.returns-in_err-tell_notes-clause-stops
returns-in_err-tell_notes-clause-stops g c = early_memory c.from_residual-in_err-tell_notes.result c.from_residual-in_err-tell_notes.ensures.1

pub returns-clause-step : goal.returns-clause-step
returns-clause-step g c = closed_ok g.K.Keeper.moment c.new-nothing.ensures c.in_ok-close_stage.ensures.step c.in_ok-tell_notes.ensures.step
