use Rattle.load_steps.proofs.Loads.{all_based}
use Rattle.load_steps.proofs.loads_fill_from_rows.Goals as goal

pub returns : goal.returns
returns c = all_based
