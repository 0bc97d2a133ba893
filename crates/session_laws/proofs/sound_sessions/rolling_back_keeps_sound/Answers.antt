use Rattle.session_laws.proofs.Sound.Rolling.{go_back_sound, handle_sound, rollback_sound}
use Rattle.session_laws.proofs.sound_sessions.rolling_back_keeps_sound.Goals as goal

pub returns-clause-scope : goal.returns-clause-scope
returns-clause-scope c = go_back_sound

pub returns-clause-rollback : goal.returns-clause-rollback
returns-clause-rollback c = rollback_sound

pub returns-clause-handle : goal.returns-clause-handle
returns-clause-handle c = handle_sound
