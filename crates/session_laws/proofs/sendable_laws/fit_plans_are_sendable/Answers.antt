use Rattle.session_laws.proofs.Sendable.Planned.{plans_sendable}
use Rattle.session_laws.proofs.sendable_laws.fit_plans_are_sendable.Goals as goal

pub returns : goal.returns
returns c = plans_sendable
