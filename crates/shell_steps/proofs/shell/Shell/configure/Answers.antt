use Rattle.shell_stage.specs.Step.{opened_stage}
use Rattle.shell_steps.proofs.Turns.{turns, turns_not}
use Rattle.shell_steps.proofs.shell.Shell.configure.Goals as goal

pub returns-in_err-configure : goal.returns-in_err-configure
returns-in_err-configure g c =
    turns_not g.K.Keeper.moment opened_stage (record { options = c.self.inside.options; stage = c.self.inside.stage; names = c.self.inside.names; desk = c.self.inside.desk }) c.args.self.now c.configure.new.self c.args.keeper.now c.in_err-configure.field-0.0 c.from_residual.result c.from_residual.ensures.1 c.self.view_is c.in_err-configure.ensures c.requires.ready

pub returns : goal.returns
returns g c =
    turns g.K.Keeper.moment opened_stage (record { options = c.self.inside.options; stage = c.self.inside.stage; names = c.self.inside.names; desk = c.self.inside.desk }) c.args.self.now c.configure.new.self c.args.keeper.now _ c.self.view_is c.in_ok-configure.ensures c.new.ensures c.requires.ready
