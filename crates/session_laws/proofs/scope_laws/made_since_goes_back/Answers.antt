use Rattle.session_laws.proofs.Scopes.Back.{goes_back}
use Rattle.session_laws.proofs.scope_laws.made_since_goes_back.Goals as goal

pub returns : goal.returns
returns c = goes_back
