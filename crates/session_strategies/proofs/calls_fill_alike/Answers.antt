use Rattle.session_laws.proofs.Health.Acts.{leaves_sound, writes_all}
use Rattle.session_strategies.proofs.Laws.{fill_alike}
use Rattle.session_strategies.proofs.calls_fill_alike.Goals as goal

pub returns : goal.returns
returns c = fill_alike c.preparations_keep_sessions_whole.ensures.reread (leaves_sound c.a_flush_keeps_a_told_session_sound.ensures) (writes_all c.an_answered_flush_of_a_told_session_leaves_sound.ensures)
