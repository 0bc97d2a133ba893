use Rattle.session_laws.proofs.Health.Acts.{leaves_sound, writes_all}
use Rattle.session_strategies.proofs.Asking.{asks_more}
use Rattle.session_strategies.proofs.selectins_ask_in_batches.Goals as goal

pub returns : goal.returns
returns c = asks_more c.preparations_keep_sessions_whole.ensures.reread (leaves_sound c.a_flush_keeps_a_told_session_sound.ensures) (writes_all c.an_answered_flush_of_a_told_session_leaves_sound.ensures) c.readings_tell_made_objects.ensures.queries
