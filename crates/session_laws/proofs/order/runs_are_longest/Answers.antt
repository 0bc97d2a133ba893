use Rattle.session_laws.proofs.Plans.Longest.{only_these, runs_are}
use Rattle.session_laws.proofs.order.runs_are_longest.Goals as goal

pub returns-clause-holds : goal.returns-clause-holds
returns-clause-holds c = runs_are

pub returns-clause-only : goal.returns-clause-only
returns-clause-only c = only_these
