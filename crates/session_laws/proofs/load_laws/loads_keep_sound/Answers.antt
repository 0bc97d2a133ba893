use Rattle.session_laws.proofs.Loads.Laws.{sound_law}
use Rattle.session_laws.proofs.load_laws.loads_keep_sound.Goals as goal

pub returns : goal.returns
returns c = sound_law
