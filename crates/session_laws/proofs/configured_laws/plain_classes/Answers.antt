use Rattle.session_laws.proofs.Configured.{plain_next}
use Rattle.session_laws.proofs.configured_laws.plain_classes.Goals as goal

pub loop-number-preserved : goal.loop-number-preserved
loop-number-preserved c = plain_next c.args.mapping.now c.loop-number.number c.loop-number.invariant c.root_table-table.ensures.plain
