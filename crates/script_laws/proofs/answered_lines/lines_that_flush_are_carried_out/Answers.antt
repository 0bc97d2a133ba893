use Rattle.script_laws.proofs.Answers.Carried.{commit_law, flush_law, savepoint_law}
use Rattle.script_laws.proofs.answered_lines.lines_that_flush_are_carried_out.Goals as goal

pub returns-clause-flush : goal.returns-clause-flush
returns-clause-flush c = flush_law c.stated_objects_are_written.ensures.flush c.scripts_stay_whole.ensures

pub returns-clause-commit : goal.returns-clause-commit
returns-clause-commit c = commit_law c.stated_objects_are_written.ensures.commit c.scripts_stay_whole.ensures

pub returns-clause-begin : goal.returns-clause-begin
returns-clause-begin c = savepoint_law c.stated_objects_are_written.ensures.begin c.scripts_stay_whole.ensures
