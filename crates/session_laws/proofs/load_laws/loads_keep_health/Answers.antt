use Rattle.session_laws.proofs.Loads.Laws.{health_law}
use Rattle.session_laws.proofs.load_laws.loads_keep_health.Goals as goal

pub returns : goal.returns
returns c = health_law
