use Rattle.session_laws.proofs.Scopes.Traces.{loads_grow, only_touches, touch_touches, touches_grow}
use Rattle.session_laws.proofs.scope_laws.touches_and_loads_only_grow.Goals as goal

pub returns : goal.returns
returns c = record { touched = touch_touches; touches = touches_grow; loads = loads_grow; only = only_touches }
