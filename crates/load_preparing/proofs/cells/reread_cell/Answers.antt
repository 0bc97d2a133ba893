use Rattle.load_preparing.proofs.CellLemmas.{known_stays}
use Rattle.load_preparing.proofs.cells.reread_cell.Goals as goal

pub returns-else-lacks_base-clause-put : goal.returns-else-lacks_base-clause-put
returns-else-lacks_base-clause-put c = known_stays c.args.arena.now c.args.object c.args.attr c.object.result.now c.at.result.now c.lacks_base.result c.object.ensures.is c.at.ensures c.lacks_base.ensures c.if-lacks_base.false
