use Rattle.session_laws.proofs.Plans.PlanLaw.{prefixes, whole}
use Rattle.session_laws.proofs.legal_prefixes.plans_are_legal.Goals as goal

pub returns-clause-prefixes : goal.returns-clause-prefixes
returns-clause-prefixes c = prefixes

pub returns-clause-whole : goal.returns-clause-whole
returns-clause-whole c = whole
