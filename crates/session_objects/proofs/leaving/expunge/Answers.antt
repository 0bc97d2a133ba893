use Rattle.std.proofs.Common.{ap, length}
use Rattle.session_calls.specs.Refusals.{IsRefused}
use Rattle.session_calls.specs.Steps.{pending_fault}
use Rattle.session_calls.proofs.Joining.{err_call, passed_call, then_call}
use Rattle.session_calls.proofs.Refusing.{passed_on, refused_entering}
use Rattle.session_objects.specs.Leaving.{expunge_fault, session_expunged}
use Rattle.session_objects.specs.Steps.{expunge, expunge_inside}
use Rattle.session_objects.proofs.Acting.{inside_call, inside_refused}
use Rattle.session_objects.proofs.leaving.expunge.Goals as goal

pub expunge_inside-requires : goal.expunge_inside-requires
expunge_inside-requires g c = (c.in_ok-enter.ensures.call.kept.same.there c.args.object c.requires.object).0

pub returns-in_err-enter-clause-call : goal.returns-in_err-enter-clause-call
unfolding expunge
returns-in_err-enter-clause-call g c = passed_call c.from_residual.ensures.1 (err_call (λ u. expunge_inside c.args.object) c.in_err-enter.ensures.call)

pub returns-in_err-enter-clause-refused : goal.returns-in_err-enter-clause-refused
returns-in_err-enter-clause-refused g c =
    passed_on (λ e. IsRefused (pending_fault c.args.session.now) (expunge_fault c.args.object c.args.session.now) c.args.session.now e c.enter.new.session) c.from_residual.result c.from_residual.ensures.1
    (refused_entering c.in_err-enter.ensures.refused)

pub returns-clause-call : goal.returns-clause-call
unfolding expunge
returns-clause-call g c =
    then_call (λ u. expunge_inside c.args.object) c.in_ok-enter.ensures.call
    (inside_call g.K.Keeper.moment (expunge_fault c.args.object) (session_expunged c.args.object) c.enter.new.session c.expunge_inside.new.session c.enter.new.keeper c.expunge_inside.result c.expunge_inside.ensures.done
    c.expunge_inside.ensures.same (ap length c.expunge_inside.ensures.scopes) c.in_ok-enter.ensures.call.kept.in_step)

pub returns-clause-refused : goal.returns-clause-refused
returns-clause-refused g c =
    inside_refused (expunge_fault c.args.object) (session_expunged c.args.object c.enter.new.session) c.args.session.now c.enter.new.session c.expunge_inside.new.session c.expunge_inside.result c.in_ok-enter.ensures.entered
    c.in_ok-enter.ensures.well c.expunge_inside.ensures.done
