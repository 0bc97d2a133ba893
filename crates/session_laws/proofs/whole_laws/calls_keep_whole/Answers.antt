use Rattle.session_laws.proofs.Health.Acts.{leaves_sound, writes_all}
use Rattle.session_laws.proofs.Whole.Calls.{whole_law}
use Rattle.session_laws.proofs.whole_laws.calls_keep_whole.Goals as goal

pub returns : goal.returns
returns c =
    whole_law c.preparations_keep_sessions_whole.ensures.reread
    (leaves_sound c.a_flush_keeps_a_told_session_sound.ensures)
    (writes_all c.an_answered_flush_of_a_told_session_leaves_sound.ensures)
