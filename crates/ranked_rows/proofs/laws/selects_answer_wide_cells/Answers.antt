use Rattle.ranked_rows.proofs.Loads.{wide_cells}
use Rattle.ranked_rows.proofs.laws.selects_answer_wide_cells.Goals as goal

pub returns : goal.returns
returns c = λ mapped tables has sound. wide_cells mapped tables has sound
