use Rattle.session_laws.proofs.Sound.Beginning.{enter_sound}
use Rattle.session_laws.proofs.sound_sessions.entering_keeps_sound.Goals as goal

pub returns : goal.returns
returns c = enter_sound
