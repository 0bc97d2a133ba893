use Rattle.std.proofs.Common.{ap}
use Rattle.shell_steps.specs.ShellState.{ShellState}
use Rattle.shell_steps.proofs.shell.Shell.tell.Goals as goal

pub returns-in_err-put-clause-stage : goal.returns-in_err-put-clause-stage
returns-in_err-put-clause-stage c = ap (λ (s : ShellState). s.stage) c.self.view_is

pub returns-clause-stage : goal.returns-clause-stage
returns-clause-stage c = ap (λ (s : ShellState). s.stage) c.self.view_is
