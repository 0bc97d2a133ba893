use Rattle.session_laws.proofs.Complete.Built.{flush_built}
use Rattle.session_laws.proofs.complete_laws.flushes_are_built.Goals as goal

pub returns : goal.returns
returns c = flush_built c.preparations_keep_sessions_whole.ensures.reread c.preparations_keep_sessions_whole.ensures.known c.fit_plans_are_sendable.ensures c.changes_fit.ensures
