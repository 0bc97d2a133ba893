use Rattle.shell_steps.proofs.Lines.{compiles}
use Rattle.shell_steps.proofs.shell.Shell.compile.Goals as goal

pub returns : goal.returns
returns g c =
    compiles g.K.Keeper.moment c.args.command.now (record { options = c.self.inside.options; stage = c.self.inside.stage; names = c.self.inside.names; desk = c.self.inside.desk }) c.args.self.now c.args.keeper.now c.compile.result c.self.view_is c.compile.ensures c.requires.ready
