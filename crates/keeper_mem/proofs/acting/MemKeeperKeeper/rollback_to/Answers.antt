-- A fault ends the call, or the store went back.
use Rattle.keeper_mem.proofs.Keeping.{faulted, went_back_from}
use Rattle.keeper_mem.proofs.acting.MemKeeperKeeper.rollback_to.Goals as goal

pub returns-in_default-clause-call : goal.returns-in_default-clause-call
returns-in_default-clause-call c = faulted c.requires.attached c.count_call.ensures.small.0 c.in_default.ensures.err.2

pub returns-clause-call : goal.returns-clause-call
returns-clause-call c = went_back_from c.args.depth _ c.args.self.now c.count_call.new.self c.undo_scope.new.self c.requires.attached c.requires.inside c.in-Ok.ensures.ok.1 c.undo_scope.ensures
