use Rattle.cascades.specs.declared.closures.Flag.TheVariants.{SaveUpdate}
use Rattle.cascades.proofs.LeastLemmas.{if_closure}
use Rattle.cascades.proofs.closures.save_closure.Goals as goal

pub returns-clause-is : goal.returns-clause-is
returns-clause-is c = if_closure SaveUpdate c.args.mapping.now c.args.arena.now c.args.object c.closure.result c.closure.ensures
