use Rattle.session_laws.proofs.Calls.Making.{make_sound}
use Rattle.session_laws.proofs.sound_calls.making_keeps_sound.Goals as goal

pub returns : goal.returns
returns c = make_sound
