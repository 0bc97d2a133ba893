use Rattle.session_laws.proofs.Health.Acts.{leaves_sound, writes_all}
use Rattle.session_laws.proofs.Health.Calls.{calls_law}
use Rattle.session_laws.proofs.healthy_laws.calls_keep_health.Goals as goal

pub returns : goal.returns
returns c =
    calls_law c.preparations_keep_sessions_whole.ensures.reread (leaves_sound c.a_flush_keeps_a_told_session_sound.ensures)
    (writes_all c.an_answered_flush_of_a_told_session_leaves_sound.ensures)
