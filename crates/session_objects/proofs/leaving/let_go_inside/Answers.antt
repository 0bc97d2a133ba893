use Rattle.session_objects.proofs.LeavingLemmas.{leaves_not}
use Rattle.session_objects.proofs.leaving.let_go_inside.Goals as goal

pub returns-else-is_inside-clause-left : goal.returns-else-is_inside-clause-left
returns-else-is_inside-clause-left c = leaves_not c.args.arena.now c.args.object c.state_of.result c.is_inside.result c.state_of.ensures c.is_inside.ensures c.if-is_inside.false
