use Rattle.session_load_laws.proofs.Laws.{whole_law}
use Rattle.session_load_laws.proofs.loads_keep_sessions_whole.Goals as goal

pub returns : goal.returns
returns c = whole_law c.loads_leave_loaded.ensures
