use Rattle.session_laws.proofs.SoundFlushes.Told.{told_answered}
use Rattle.session_laws.proofs.sound_flush_laws.an_answered_flush_of_a_told_session_leaves_sound.Goals as goal

pub returns : goal.returns
returns c =
    told_answered c.preparations_keep_sessions_whole.ensures.reread c.preparations_keep_sessions_whole.ensures.known c.flushed_objects_hold.ensures c.objects_have_own_rows.ensures
    c.a_flush_leaves_legal_tables.ensures
