use Rattle.session_laws.proofs.Complete.Leaving.{begin_leaves, commit_leaves, flush_leaves, inside_leaves}
use Rattle.session_laws.proofs.complete_laws.flushes_leave_the_stated_rows.Goals as goal

pub returns-clause-flush : goal.returns-clause-flush
returns-clause-flush c =
    flush_leaves c.preparations_keep_sessions_whole.ensures.reread c.preparations_keep_sessions_whole.ensures.known c.a_flush_sends_its_plan.ensures c.a_flush_leaves_the_stated_rows.ensures

pub returns-clause-commit : goal.returns-clause-commit
returns-clause-commit c =
    commit_leaves c.preparations_keep_sessions_whole.ensures.reread c.preparations_keep_sessions_whole.ensures.known c.a_flush_sends_its_plan.ensures c.a_flush_leaves_the_stated_rows.ensures

pub returns-clause-begin : goal.returns-clause-begin
returns-clause-begin c =
    begin_leaves c.preparations_keep_sessions_whole.ensures.reread c.preparations_keep_sessions_whole.ensures.known c.a_flush_sends_its_plan.ensures c.a_flush_leaves_the_stated_rows.ensures

pub returns-clause-inside : goal.returns-clause-inside
returns-clause-inside c =
    inside_leaves c.preparations_keep_sessions_whole.ensures.reread c.preparations_keep_sessions_whole.ensures.known c.a_flush_sends_its_plan.ensures c.a_flush_leaves_the_stated_rows.ensures
