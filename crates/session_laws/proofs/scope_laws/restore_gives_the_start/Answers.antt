use Rattle.session_laws.proofs.Scopes.Back.{gives_the_start}
use Rattle.session_laws.proofs.Scopes.Inside.{outside_stay}
use Rattle.session_laws.proofs.scope_laws.restore_gives_the_start.Goals as goal

pub returns : goal.returns
returns c = record { objects = gives_the_start; scopes = outside_stay }
