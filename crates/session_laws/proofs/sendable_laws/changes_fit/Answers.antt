use Rattle.session_laws.proofs.Sendable.Changes.{changes_fit_law}
use Rattle.session_laws.proofs.sendable_laws.changes_fit.Goals as goal

pub returns : goal.returns
returns c = changes_fit_law
