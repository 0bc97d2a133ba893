use Rattle.shell_parts.proofs.DeclaringLemmas.{table_refused}
use Rattle.shell_parts.proofs.block.declare_table.Goals as goal

pub returns-in-Err-clause-cause : goal.returns-in-Err-clause-cause
returns-in-Err-clause-cause c = table_refused c.args.declarations.now c.args.spec c.in-Err.refusal c.in-Err.ensures.step.1
