use Rattle.cascades.specs.declared.closures.Flag.TheVariants.{Delete}
use Rattle.cascades.proofs.LeastLemmas.{if_closure}
use Rattle.cascades.proofs.closures.delete_closure.Goals as goal

pub returns-clause-is : goal.returns-clause-is
returns-clause-is c = if_closure Delete c.args.mapping.now c.args.arena.now c.args.object c.closure.result c.closure.ensures
