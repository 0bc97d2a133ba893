use Rattle.session_laws.proofs.Whole.Calls.{fit_law}
use Rattle.session_laws.proofs.whole_laws.calls_keep_objects_fitting.Goals as goal

pub returns : goal.returns
returns c = fit_law c.calls_keep_whole.ensures
