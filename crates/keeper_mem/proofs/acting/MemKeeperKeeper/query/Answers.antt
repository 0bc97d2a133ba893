-- A fault ends the call; else what was done with the statement is what the call ensures.
use Rattle.keeper_mem.proofs.Keeping.{statement_faulted, statement_ran}
use Rattle.keeper_mem.proofs.acting.MemKeeperKeeper.query.Goals as goal

pub returns-in_default-clause-call : goal.returns-in_default-clause-call
returns-in_default-clause-call c = statement_faulted c.requires.attached c.count_call.ensures.small.0 tt c.in_default.ensures.err.2

pub returns-clause-call : goal.returns-clause-call
returns-clause-call c = statement_ran _ _ _ _ _ _ _ _ c.requires.attached c.count_call.ensures.small.1 c.in-Ok.ensures.ok.1 c.ask.ensures.refuses c.ask.ensures.step
