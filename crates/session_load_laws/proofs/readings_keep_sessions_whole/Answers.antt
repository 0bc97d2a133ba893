use Rattle.session_laws.proofs.Health.Acts.{leaves_sound, writes_all}
use Rattle.session_load_laws.proofs.Readings.{goes_law, readings_law}
use Rattle.session_load_laws.proofs.readings_keep_sessions_whole.Goals as goal

pub returns-clause-whole : goal.returns-clause-whole
returns-clause-whole c =
    readings_law c.selects_answer_table_rows.ensures c.own_selects_answer_table_rows.ensures c.main_selects_answer_table_rows.ensures
    c.preparations_keep_sessions_whole.ensures.reread (leaves_sound c.a_flush_keeps_a_told_session_sound.ensures)
    (writes_all c.an_answered_flush_of_a_told_session_leaves_sound.ensures)

pub returns-clause-goes : goal.returns-clause-goes
returns-clause-goes c =
    goes_law c.selects_answer_table_rows.ensures c.own_selects_answer_table_rows.ensures c.main_selects_answer_table_rows.ensures
    c.preparations_keep_sessions_whole.ensures.reread (leaves_sound c.a_flush_keeps_a_told_session_sound.ensures)
    (writes_all c.an_answered_flush_of_a_told_session_leaves_sound.ensures)
