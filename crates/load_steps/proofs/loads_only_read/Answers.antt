use Rattle.load_steps.proofs.Loads.{only_read}
use Rattle.load_steps.proofs.loads_only_read.Goals as goal

pub returns : goal.returns
returns c = only_read
