use Rattle.session_laws.proofs.Health.Acts.{commit_healthy, flush_now_healthy, leaves_sound, nested_healthy, writes_all}
use Rattle.session_laws.proofs.healthy_laws.flushing_calls_keep_health.Goals as goal

pub returns-clause-flush : goal.returns-clause-flush
returns-clause-flush c =
    flush_now_healthy c.preparations_keep_sessions_whole.ensures.reread (leaves_sound c.a_flush_keeps_a_told_session_sound.ensures)
    (writes_all c.an_answered_flush_of_a_told_session_leaves_sound.ensures)

pub returns-clause-commit : goal.returns-clause-commit
returns-clause-commit c =
    commit_healthy c.preparations_keep_sessions_whole.ensures.reread (leaves_sound c.a_flush_keeps_a_told_session_sound.ensures)
    (writes_all c.an_answered_flush_of_a_told_session_leaves_sound.ensures)

pub returns-clause-nested : goal.returns-clause-nested
returns-clause-nested c =
    nested_healthy c.preparations_keep_sessions_whole.ensures.reread (leaves_sound c.a_flush_keeps_a_told_session_sound.ensures)
    (writes_all c.an_answered_flush_of_a_told_session_leaves_sound.ensures)
