use Rattle.shell_steps.proofs.Lines.{says}
use Rattle.shell_steps.proofs.shell.Shell.say.Goals as goal

pub returns-clause-call : goal.returns-clause-call
returns-clause-call c =
    says c.args.line.now (record { options = c.self.inside.options; stage = c.self.inside.stage; names = c.self.inside.names; desk = c.self.inside.desk }) c.args.self.now c.say.new.self c.say.result c.self.view_is c.say.ensures.said
