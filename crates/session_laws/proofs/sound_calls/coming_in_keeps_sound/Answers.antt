use Rattle.session_laws.proofs.Calls.Adding.{add_sound}
use Rattle.session_laws.proofs.sound_calls.coming_in_keeps_sound.Goals as goal

pub returns : goal.returns
returns c = add_sound
