use Rattle.session_laws.proofs.Plans.FlushLaw.{accepted_legal, accepted_stated}
use Rattle.session_laws.proofs.Plans.Newness.{states_same}
use Rattle.session_laws.proofs.legal_prefixes.accepted_plans_are_stated.Goals as goal

pub returns-clause-stated : goal.returns-clause-stated
returns-clause-stated c = accepted_stated

pub returns-clause-legal : goal.returns-clause-legal
returns-clause-legal c = accepted_legal

pub returns-clause-same : goal.returns-clause-same
returns-clause-same c = states_same
