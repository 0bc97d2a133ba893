use Rattle.keeper_core.specs.Beside.{on_own}
use Rattle.session_scopes.specs.Changes.{deletion_marked}
use Rattle.session_calls.specs.Refusals.{IsRefused, mark_fault}
use Rattle.session_calls.specs.Steps.{delete, pending_fault}
use Rattle.session_calls.proofs.Joining.{err_call, own_call, passed_call, then_call}
use Rattle.session_calls.proofs.Refusing.{mark_refused, passed_on, refused_entering}
use Rattle.session_calls.proofs.objects.delete.Goals as goal

pub mark_deletion-requires : goal.mark_deletion-requires
mark_deletion-requires g c = record { object = (c.in_ok-enter.ensures.call.kept.same.there c.args.object c.requires.object).0 }

pub returns-in_err-enter-clause-call : goal.returns-in_err-enter-clause-call
unfolding delete
returns-in_err-enter-clause-call g c = passed_call c.from_residual.ensures.1 (err_call (λ u. on_own (deletion_marked c.args.object)) c.in_err-enter.ensures.call)

pub returns-clause-call : goal.returns-clause-call
unfolding delete
returns-clause-call g c =
    then_call (λ u. on_own (deletion_marked c.args.object)) c.in_ok-enter.ensures.call
    (own_call g.K.Keeper.moment (deletion_marked c.args.object) c.mark_deletion.ensures.step c.mark_deletion.ensures.same c.mark_deletion.ensures.scopes c.in_ok-enter.ensures.call.kept.in_step)

pub returns-in_err-enter-clause-refused : goal.returns-in_err-enter-clause-refused
returns-in_err-enter-clause-refused g c =
    passed_on (λ e. IsRefused (pending_fault c.args.session.now) (mark_fault c.args.object c.args.session.now) c.args.session.now e c.enter.new.session) c.from_residual.result c.from_residual.ensures.1
    (refused_entering c.in_err-enter.ensures.refused)

pub returns-clause-refused : goal.returns-clause-refused
returns-clause-refused g c =
    mark_refused c.args.object c.args.session.now c.enter.new.session c.mark_deletion.new.self c.mark_deletion.result c.in_ok-enter.ensures.entered c.in_ok-enter.ensures.well c.mark_deletion.ensures.step
