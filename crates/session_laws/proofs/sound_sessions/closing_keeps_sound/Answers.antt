use Rattle.session_laws.proofs.Sound.Ending.{close_sound}
use Rattle.session_laws.proofs.sound_sessions.closing_keeps_sound.Goals as goal

pub returns : goal.returns
returns c = close_sound
