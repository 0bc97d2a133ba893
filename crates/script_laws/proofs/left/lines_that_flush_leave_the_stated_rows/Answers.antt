use Rattle.script_laws.proofs.Answers.Stated.{commit_left, flush_left, savepoint_left}
use Rattle.script_laws.proofs.left.lines_that_flush_leave_the_stated_rows.Goals as goal

pub returns-clause-flush : goal.returns-clause-flush
returns-clause-flush c = flush_left c.flushes_leave_the_stated_rows.ensures.flush c.scripts_stay_whole.ensures

pub returns-clause-commit : goal.returns-clause-commit
returns-clause-commit c = commit_left c.flushes_leave_the_stated_rows.ensures.commit c.scripts_stay_whole.ensures

pub returns-clause-begin : goal.returns-clause-begin
returns-clause-begin c = savepoint_left c.flushes_leave_the_stated_rows.ensures.begin c.scripts_stay_whole.ensures
