use Rattle.load_steps.proofs.Loads.{all_noted}
use Rattle.load_steps.proofs.loads_note_what_they_fill.Goals as goal

pub returns : goal.returns
returns c = all_noted
