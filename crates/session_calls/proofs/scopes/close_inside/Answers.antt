use Rattle.std.proofs.Common.{ap}
use Rattle.session_scopes.specs.SessionState.{SessionState}
use Rattle.session_calls.proofs.Acting.{closes, closes_not}
use Rattle.session_calls.proofs.Joining.{passed_call}
use Rattle.session_calls.proofs.scopes.close_inside.Goals as goal

pub returns-in_err-roll_back_transaction-clause-call : goal.returns-in_err-roll_back_transaction-clause-call
returns-in_err-roll_back_transaction-clause-call g c = passed_call c.from_residual.ensures.1 (closes_not g.K.Keeper.moment c.in_err-roll_back_transaction.ensures)

pub returns-clause-call : goal.returns-clause-call
returns-clause-call g c = closes g.K.Keeper.moment c.in_ok-roll_back_transaction.ensures c.let_go.ensures.closed c.let_go.ensures.same

pub returns-clause-outside : goal.returns-clause-outside
returns-clause-outside g c = ap (λ (s : SessionState). s.frames.scopes) c.let_go.ensures.closed
