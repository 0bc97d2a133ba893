use Rattle.script_laws.proofs.Readings.Language.{answers_what_is_said, answers_all_that_is_said, say_one_thing, refuses_by_column}
use Rattle.script_laws.proofs.line_laws.lines_are_answered_as_the_language_says.Goals as goal

pub returns-clause-answers : goal.returns-clause-answers
returns-clause-answers c = answers_what_is_said

pub returns-clause-all : goal.returns-clause-all
returns-clause-all c = answers_all_that_is_said

pub returns-clause-one : goal.returns-clause-one
returns-clause-one c = say_one_thing

pub returns-clause-refuses : goal.returns-clause-refuses
returns-clause-refuses c = refuses_by_column
