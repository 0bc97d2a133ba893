use Rattle.shell_parts.proofs.DeclaringLemmas.{class_refused}
use Rattle.shell_parts.proofs.block.declare_class.Goals as goal

pub returns-in-Err-clause-cause : goal.returns-in-Err-clause-cause
returns-in-Err-clause-cause g c = class_refused _ c.args.declarations.now c.args.spec c.in-Err.refusal c.in-Err.ensures.step.1
