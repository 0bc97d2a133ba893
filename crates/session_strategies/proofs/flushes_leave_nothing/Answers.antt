use Rattle.session_laws.proofs.Health.Acts.{writes_all}
use Rattle.session_strategies.proofs.Kept.{nothing_left}
use Rattle.session_strategies.proofs.flushes_leave_nothing.Goals as goal

pub returns : goal.returns
returns c = nothing_left (writes_all c.an_answered_flush_of_a_told_session_leaves_sound.ensures)
