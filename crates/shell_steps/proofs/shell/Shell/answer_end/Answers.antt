use Rattle.shell_steps.proofs.Replying.{end_told}
use Rattle.shell_steps.proofs.shell.Shell.answer_end.Goals as goal

pub returns-clause-step : goal.returns-clause-step
returns-clause-step g c = end_told g.K.Keeper.moment c.tell_end.result c.tell_end.ensures.call
