use Rattle.session_laws.proofs.Loads.Laws.{go_on_law}
use Rattle.session_laws.proofs.load_laws.sessions_go_on_across_loads.Goals as goal

pub returns : goal.returns
returns c = go_on_law
