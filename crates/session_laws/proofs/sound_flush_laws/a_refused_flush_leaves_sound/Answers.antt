use Rattle.session_laws.proofs.SoundFlushes.Refused.{refused_sound}
use Rattle.session_laws.proofs.sound_flush_laws.a_refused_flush_leaves_sound.Goals as goal

pub returns : goal.returns
returns c = refused_sound c.preparations_keep_sessions_whole.ensures.reread
