use Rattle.session_strategies.proofs.Again.{flush_same}
use Rattle.session_strategies.proofs.flushes_of_nothing_stay.Goals as goal

pub returns : goal.returns
returns c = flush_same
