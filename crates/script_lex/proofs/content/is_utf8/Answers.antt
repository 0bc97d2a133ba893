use Rattle.script_lex.proofs.Capped.{utf8_tested, utf8_refused}
use Rattle.script_lex.proofs.content.is_utf8.Goals as goal

pub returns-in-Ok : goal.returns-in-Ok
returns-in-Ok c = utf8_tested _ c.in-Ok.ensures.cases.1

pub returns-in-Err : goal.returns-in-Err
returns-in-Err c = utf8_refused _ c.in-Err.ensures.cases.0
