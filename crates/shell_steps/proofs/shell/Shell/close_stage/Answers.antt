use Rattle.shell_stage.proofs.Bindings.{bound_in_session}
use Rattle.shell_steps.proofs.shell.Shell.close_stage.Goals as goal

pub invariant_of-self-2 : goal.invariant_of-self-2
invariant_of-self-2 g c = bound_in_session c.self.inside.names c.close.new.session c.in-Configured.is c.close.ensures.call.kept.same c.self.invariant
