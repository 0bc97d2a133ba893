use Rattle.session_laws.proofs.Sound.Objects.{delete_sound, set_sound}
use Rattle.session_laws.proofs.sound_sessions.calls_on_objects_keep_sound.Goals as goal

pub returns-clause-set : goal.returns-clause-set
returns-clause-set c = set_sound

pub returns-clause-delete : goal.returns-clause-delete
returns-clause-delete c = delete_sound
