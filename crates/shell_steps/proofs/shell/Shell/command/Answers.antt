use Rattle.base_core.specs.declared.refusal.Refusal.TheVariants.{Memory}
use Rattle.class_types.specs.Shown.{rules_of}
use Rattle.shell_steps.proofs.Commands.{does_command, tells_lost}
use Rattle.shell_steps.proofs.Lines.{call_as}
use Rattle.shell_steps.proofs.shell.Shell.command.Goals as goal

pub returns-in_err-tell_answer : goal.returns-in_err-tell_answer
returns-in_err-tell_answer g c =
    call_as Memory c.from_residual-in_err-tell_answer.result c.from_residual-in_err-tell_answer.ensures.1
    (does_command g.K.Keeper.moment (rules_of c.args.hooks.now) c.args.command.now c.in_ok-answer.ensures.call (tells_lost c.in_ok-answer.answer c.perform.new.self c.tell_answer.new.self c.in_err-tell_answer.ensures.stage))

pub returns : goal.returns
returns g c = does_command g.K.Keeper.moment (rules_of c.args.hooks.now) c.args.command.now c.in_ok-answer.ensures.call c.in_ok-tell_answer.ensures.call
