use Rattle.session_laws.proofs.Held.Held.{new_objects_keyed}
use Rattle.session_laws.proofs.held_laws.new_objects_have_keys.Goals as goal

pub returns : goal.returns
returns c = new_objects_keyed
