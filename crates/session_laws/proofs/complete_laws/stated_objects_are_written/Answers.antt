use Rattle.session_laws.proofs.Complete.Answering.{commit_answers, flush_answers, savepoint_answers}
use Rattle.session_laws.proofs.Complete.Opened.{opened}
use Rattle.session_laws.proofs.complete_laws.stated_objects_are_written.Goals as goal

pub returns-clause-flush : goal.returns-clause-flush
returns-clause-flush c =
    flush_answers c.a_flush_of_stated_tables_answers.ensures c.fit_plans_are_sendable.ensures c.changes_fit.ensures
    (opened c.preparations_keep_sessions_whole.ensures.reread c.preparations_keep_sessions_whole.ensures.known)

pub returns-clause-commit : goal.returns-clause-commit
returns-clause-commit c =
    commit_answers c.a_flush_of_stated_tables_answers.ensures c.fit_plans_are_sendable.ensures c.changes_fit.ensures
    (opened c.preparations_keep_sessions_whole.ensures.reread c.preparations_keep_sessions_whole.ensures.known)

pub returns-clause-begin : goal.returns-clause-begin
returns-clause-begin c =
    savepoint_answers c.a_flush_of_stated_tables_answers.ensures c.fit_plans_are_sendable.ensures c.changes_fit.ensures
    (opened c.preparations_keep_sessions_whole.ensures.reread c.preparations_keep_sessions_whole.ensures.known)
