use Rattle.session_laws.proofs.Loads.Laws.{fit_law}
use Rattle.session_laws.proofs.load_laws.loads_keep_objects_fitting.Goals as goal

pub returns : goal.returns
returns c = fit_law
