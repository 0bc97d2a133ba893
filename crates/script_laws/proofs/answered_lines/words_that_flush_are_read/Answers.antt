use Rattle.script_laws.proofs.Answers.Texts.{words_law}
use Rattle.script_laws.proofs.answered_lines.words_that_flush_are_read.Goals as goal

pub returns : goal.returns
returns c = words_law
