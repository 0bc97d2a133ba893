use Rattle.session_laws.proofs.Whole.Calls.{one_law}
use Rattle.session_laws.proofs.whole_laws.sessions_have_one_object_for_each_key.Goals as goal

pub returns : goal.returns
returns c = one_law c.calls_keep_whole.ensures
