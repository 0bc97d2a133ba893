use Rattle.session_laws.proofs.Preparing.{keeps_law, known_law, reread_law}
use Rattle.session_laws.proofs.preparation_laws.preparations_keep_sessions_whole.Goals as goal

pub returns-clause-reread : goal.returns-clause-reread
returns-clause-reread c = reread_law c.selects_answer_table_rows.ensures c.readings_only_reread.ensures

pub returns-clause-known : goal.returns-clause-known
returns-clause-known c = known_law c.selects_answer_table_rows.ensures c.selects_answer_wide_cells.ensures c.readings_prepare.ensures

pub returns-clause-whole : goal.returns-clause-whole
returns-clause-whole c = keeps_law (reread_law c.selects_answer_table_rows.ensures c.readings_only_reread.ensures)
