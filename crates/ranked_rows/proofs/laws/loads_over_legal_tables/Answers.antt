use Rattle.ranked_rows.proofs.Loads.{over_legal}
use Rattle.ranked_rows.proofs.laws.loads_over_legal_tables.Goals as goal

pub returns : goal.returns
returns c = over_legal
