use Rattle.session_laws.proofs.SoundFlushes.Told.{told_keeps}
use Rattle.session_laws.proofs.sound_flush_laws.a_flush_keeps_a_told_session_sound.Goals as goal

pub returns : goal.returns
returns c = told_keeps c.an_answered_flush_of_a_told_session_leaves_sound.ensures c.a_refused_flush_leaves_sound.ensures
