use Rattle.session_statements.proofs.Along.{IsAlong}
use Rattle.session_statements.proofs.run.send_plan.Given as goal

abbrev pub invariant-loop-planned : goal.invariant-loop-planned
invariant-loop-planned g l = IsAlong g.K.Keeper.moment l.fn.session.mapping.schema l.changes l.plan (l.fn.session, l.fn.keeper) l.planned-index l.known (l.session, l.keeper)
