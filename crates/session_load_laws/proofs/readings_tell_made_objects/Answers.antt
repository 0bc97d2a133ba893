use Rattle.session_laws.proofs.Health.Acts.{leaves_sound, writes_all}
use Rattle.session_load_laws.proofs.Readings.{gets_law, links_law, queries_law}
use Rattle.session_load_laws.proofs.readings_tell_made_objects.Goals as goal

pub returns-clause-keys : goal.returns-clause-keys
returns-clause-keys c =
    gets_law c.selects_answer_table_rows.ensures c.own_selects_answer_table_rows.ensures c.main_selects_answer_table_rows.ensures
    c.preparations_keep_sessions_whole.ensures.reread (leaves_sound c.a_flush_keeps_a_told_session_sound.ensures)
    (writes_all c.an_answered_flush_of_a_told_session_leaves_sound.ensures)

pub returns-clause-queries : goal.returns-clause-queries
returns-clause-queries c =
    queries_law c.selects_answer_table_rows.ensures c.own_selects_answer_table_rows.ensures c.main_selects_answer_table_rows.ensures
    c.preparations_keep_sessions_whole.ensures.reread (leaves_sound c.a_flush_keeps_a_told_session_sound.ensures)
    (writes_all c.an_answered_flush_of_a_told_session_leaves_sound.ensures)

pub returns-clause-links : goal.returns-clause-links
returns-clause-links c =
    links_law c.selects_answer_table_rows.ensures c.own_selects_answer_table_rows.ensures c.main_selects_answer_table_rows.ensures
    c.preparations_keep_sessions_whole.ensures.reread (leaves_sound c.a_flush_keeps_a_told_session_sound.ensures)
    (writes_all c.an_answered_flush_of_a_told_session_leaves_sound.ensures)
