use Rattle.session_laws.proofs.Health.Calls.{one_law}
use Rattle.session_laws.proofs.healthy_laws.one_object_stands_for_each_key.Goals as goal

pub returns : goal.returns
returns c = one_law c.calls_keep_health.ensures
