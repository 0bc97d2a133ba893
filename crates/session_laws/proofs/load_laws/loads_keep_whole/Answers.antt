use Rattle.session_laws.proofs.Loads.Laws.{whole_law}
use Rattle.session_laws.proofs.load_laws.loads_keep_whole.Goals as goal

pub returns : goal.returns
returns g c = λ m world opened load hale. whole_law m world opened load hale
