use Rattle.cascades.proofs.LeastLemmas.{if_reach}
use Rattle.cascades.proofs.closures.reached.Goals as goal

pub returns-clause-is : goal.returns-clause-is
returns-clause-is c = if_reach c.args.flag c.args.mapping.now c.args.arena.now c.args.starts.now c.reach.result c.reach.ensures
