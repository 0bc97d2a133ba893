use Rattle.std.proofs.Common.{refl, arith}
use Rattle.session_calls.specs.Refusals.{IsRefused, entered}
use Rattle.session_calls.specs.Steps.{pending_fault}
use Rattle.session_calls.proofs.Joining.{passed_call}
use Rattle.session_calls.proofs.Refusing.{passed_on, refused_entering, refused_inside}
use Rattle.session_acts.specs.Savepoints.{limit_fault}
use Rattle.session_acts.proofs.Savepoints.{enters_nested, enters_not, is_full, limit_told}
use Rattle.session_acts.proofs.asking.enter_nested.Goals as goal

pub returns-in_err-enter-clause-call : goal.returns-in_err-enter-clause-call
returns-in_err-enter-clause-call g c = passed_call c.from_residual.ensures.1 (enters_not g.K.Keeper.moment c.in_err-enter.ensures.call)

pub returns-then-open_scopes-ge-SCOPE_LIMIT-clause-call : goal.returns-then-open_scopes-ge-SCOPE_LIMIT-clause-call
returns-then-open_scopes-ge-SCOPE_LIMIT-clause-call g c =
    is_full g.K.Keeper.moment (omega (arith, c.open_scopes.ensures.scopes, c.if-open_scopes-ge-SCOPE_LIMIT.true)) c.in_ok-enter.ensures.call

pub returns-clause-call : goal.returns-clause-call
returns-clause-call g c = enters_nested g.K.Keeper.moment (omega (arith, c.open_scopes.ensures.scopes, c.if-open_scopes-ge-SCOPE_LIMIT.false)) c.in_ok-enter.ensures.call

pub returns-in_err-enter-clause-refused : goal.returns-in_err-enter-clause-refused
returns-in_err-enter-clause-refused g c =
    passed_on (λ e. IsRefused (pending_fault c.args.session.now) (limit_fault (entered c.args.session.now)) c.args.session.now e c.enter.new.session) c.from_residual.result c.from_residual.ensures.1
    (refused_entering c.in_err-enter.ensures.refused)

pub returns-then-open_scopes-ge-SCOPE_LIMIT-clause-refused : goal.returns-then-open_scopes-ge-SCOPE_LIMIT-clause-refused
returns-then-open_scopes-ge-SCOPE_LIMIT-clause-refused g c =
    refused_inside limit_fault c.args.session.now c.enter.new.session c.enter.new.session c.in_ok-enter.ensures.entered c.in_ok-enter.ensures.well
    (limit_told c.enter.new.session (omega (arith, c.open_scopes.ensures.scopes, c.if-open_scopes-ge-SCOPE_LIMIT.true))) refl
