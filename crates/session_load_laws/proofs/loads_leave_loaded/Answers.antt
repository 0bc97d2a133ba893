use Rattle.session_load_laws.proofs.Laws.{leaves_law}
use Rattle.session_load_laws.proofs.loads_leave_loaded.Goals as goal

pub returns : goal.returns
returns c = leaves_law c.selects_answer_table_rows.ensures c.own_selects_answer_table_rows.ensures c.main_selects_answer_table_rows.ensures
