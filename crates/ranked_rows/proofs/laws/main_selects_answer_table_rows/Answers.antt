use Rattle.ranked_rows.proofs.Parts.{joined_answered}
use Rattle.ranked_rows.proofs.laws.main_selects_answer_table_rows.Goals as goal

pub returns : goal.returns
returns c = λ mapped tables query has related sound reads. joined_answered mapped tables sound has related query reads
