use Rattle.script_laws.proofs.Shells.{one_law}
use Rattle.script_laws.proofs.scripts.scripts_have_one_object_for_each_key.Goals as goal

pub returns : goal.returns
returns c = one_law c.scripts_stay_whole.ensures
