use Rattle.session_laws.proofs.Stating.{leaves_stated}
use Rattle.session_laws.proofs.stated_flush_laws.a_flush_leaves_the_stated_rows.Goals as goal

pub returns : goal.returns
returns c = leaves_stated c.accepted_flushes_are_stated.ensures c.a_flush_sends_its_plan.ensures
