use Rattle.session_laws.proofs.Stating.{answers_stated}
use Rattle.session_laws.proofs.stated_flush_laws.a_flush_of_stated_tables_answers.Goals as goal

pub returns : goal.returns
returns c = answers_stated c.flush_prefixes_are_legal.ensures.whole c.an_accepted_flush_answers.ensures
