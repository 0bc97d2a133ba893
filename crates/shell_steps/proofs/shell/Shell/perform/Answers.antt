use Rattle.class_types.specs.Shown.{rules_of}
use Rattle.shell_stage.proofs.Bindings.{bound_after}
use Rattle.shell_steps.proofs.Commands.{performs_view}
use Rattle.shell_steps.proofs.shell.Shell.perform.Goals as goal

pub invariant_of-self-2 : goal.invariant_of-self-2
invariant_of-self-2 g c =
    bound_after c.self.inside.names c.perform_line.new.session c.in-Configured.is c.perform_line.ensures.bound c.self.invariant

pub returns-clause-call : goal.returns-clause-call
returns-clause-call g c =
    performs_view g.K.Keeper.moment (rules_of c.args.hooks.now) c.args.command.now (record { options = c.self.inside.options; stage = c.self.inside.stage; names = c.self.inside.names; desk = c.self.inside.desk }) c.args.self.now
    c.in-Configured.session c.perform_line.new.session c.args.keeper.now c.perform_line.new.keeper c.perform_line.result c.self.view_is c.in-Configured.is c.perform_line.ensures
