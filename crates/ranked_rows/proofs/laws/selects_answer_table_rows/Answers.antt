use Rattle.ranked_rows.proofs.Loads.{answer_rows}
use Rattle.ranked_rows.proofs.laws.selects_answer_table_rows.Goals as goal

pub returns : goal.returns
returns c = λ mapped tables has sound. answer_rows mapped tables has sound
