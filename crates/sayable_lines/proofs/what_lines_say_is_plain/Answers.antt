use Rattle.sayable_lines.proofs.Plain.{bulks_fit, selects_answer_as_written, selects_are_plain}
use Rattle.sayable_lines.proofs.what_lines_say_is_plain.Goals as goal

pub returns-clause-selects : goal.returns-clause-selects
returns-clause-selects c = selects_are_plain

pub returns-clause-answers : goal.returns-clause-answers
returns-clause-answers c = selects_answer_as_written

pub returns-clause-bulks : goal.returns-clause-bulks
returns-clause-bulks c = bulks_fit
