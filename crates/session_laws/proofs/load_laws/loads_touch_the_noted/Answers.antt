use Rattle.session_laws.proofs.Loads.Touched.{touched_law}
use Rattle.session_laws.proofs.load_laws.loads_touch_the_noted.Goals as goal

pub returns : goal.returns
returns c = touched_law
