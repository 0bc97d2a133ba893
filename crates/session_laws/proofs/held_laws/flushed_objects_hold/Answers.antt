use Rattle.session_laws.proofs.Held.Held.{flushed_held}
use Rattle.session_laws.proofs.held_laws.flushed_objects_hold.Goals as goal

pub returns : goal.returns
returns c = flushed_held
