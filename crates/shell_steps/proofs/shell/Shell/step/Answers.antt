use Rattle.class_types.specs.Shown.{rules_of}
use Rattle.shell_steps.proofs.Lines.{call_as, steps_not}
use Rattle.shell_steps.proofs.shell.Shell.step.Goals as goal

pub returns-in_err-said : goal.returns-in_err-said
returns-in_err-said g c =
    call_as c.in_err-said.field-0.0 c.from_residual.result c.from_residual.ensures.1 (steps_not g.K.Keeper.moment (rules_of c.args.hooks.now) c.args.line.now c.in_err-said.ensures.call c.requires)
