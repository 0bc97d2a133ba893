use Rattle.select_laws.proofs.SameAnswers.{answers_same}
use Rattle.select_laws.proofs.plain.same_answer.Goals as goal

pub returns : goal.returns
returns c = answers_same _ _ c.requires
