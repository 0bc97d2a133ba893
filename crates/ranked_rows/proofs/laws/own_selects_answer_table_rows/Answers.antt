use Rattle.ranked_rows.proofs.Classes.{own_answered}
use Rattle.ranked_rows.proofs.laws.own_selects_answer_table_rows.Goals as goal

pub returns : goal.returns
returns c = λ mapped tables query has sound reads. own_answered mapped tables query has sound reads
