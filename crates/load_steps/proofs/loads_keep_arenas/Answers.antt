use Rattle.load_steps.proofs.Loads.{arenas_kept}
use Rattle.load_steps.proofs.loads_keep_arenas.Goals as goal

pub returns : goal.returns
returns c = arenas_kept
