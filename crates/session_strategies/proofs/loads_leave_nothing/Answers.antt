use Rattle.session_strategies.proofs.Loaded.{load_left}
use Rattle.session_strategies.proofs.loads_leave_nothing.Goals as goal

pub returns : goal.returns
returns c = λ load world may hale nothing.
    load_left c.selects_answer_table_rows.ensures c.own_selects_answer_table_rows.ensures c.main_selects_answer_table_rows.ensures c.loads_leave_loaded.ensures world hale load may nothing
