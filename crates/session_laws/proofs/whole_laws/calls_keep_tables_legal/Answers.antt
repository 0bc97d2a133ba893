use Rattle.session_laws.proofs.Whole.Legal.{legal_law}
use Rattle.session_laws.proofs.whole_laws.calls_keep_tables_legal.Goals as goal

pub returns : goal.returns
returns c = legal_law
