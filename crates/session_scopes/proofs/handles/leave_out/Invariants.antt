use Rattle.std.proofs.Common.{◌≡◌, drop}
use Rattle.session_scopes.proofs.handles.leave_out.Given as goal

abbrev pub invariant-loop : goal.invariant-loop
invariant-loop l = l.handles.items ≡ drop l.counter l.initial.handles.items
