use Rattle.class_types.specs.Shown.{rules_of}
use Rattle.shell_stage.specs.Step.{declared_stage}
use Rattle.shell_steps.proofs.Turns.{turns, turns_not}
use Rattle.shell_steps.proofs.shell.Shell.declare.Goals as goal

pub returns-in_err-declare : goal.returns-in_err-declare
returns-in_err-declare g c =
    turns_not g.K.Keeper.moment (declared_stage (rules_of c.args.hooks.now) c.args.block) (record { options = c.self.inside.options; stage = c.self.inside.stage; names = c.self.inside.names; desk = c.self.inside.desk }) c.args.self.now c.declare.new.self c.args.keeper.now c.in_err-declare.field-0.0 c.from_residual.result c.from_residual.ensures.1 c.self.view_is c.in_err-declare.ensures c.requires.ready

pub returns : goal.returns
returns g c =
    turns g.K.Keeper.moment (declared_stage (rules_of c.args.hooks.now) c.args.block) (record { options = c.self.inside.options; stage = c.self.inside.stage; names = c.self.inside.names; desk = c.self.inside.desk }) c.args.self.now c.declare.new.self c.args.keeper.now _ c.self.view_is c.in_ok-declare.ensures c.new.ensures c.requires.ready
