use Rattle.session_calls.proofs.Acting.{attr_still}
use Rattle.session_calls.proofs.Joining.{err_call, passed_call, then_call}
use Rattle.session_calls.specs.Refusals.{IsRefused}
use Rattle.session_calls.specs.Steps.{pending_fault}
use Rattle.session_calls.proofs.Refusing.{passed_on, refused_entering}
use Rattle.session_objects.specs.ValueSteps.{judged_fault, set_inside}
use Rattle.session_objects.proofs.Refusing.{judged_refused}
use Rattle.session_objects.proofs.setting.set_judged.Goals as goal

pub set_inside-requires : goal.set_inside-requires
set_inside-requires g c = record {
  in_step = c.in_ok-enter.ensures.call.kept.in_step;
  object = (c.in_ok-enter.ensures.call.kept.same.there c.args.object c.requires.object).0;
  attr = attr_still c.args.session.now c.enter.new.session c.args.object c.args.attr c.in_ok-enter.ensures.call.kept.same c.requires.object c.requires.attr;
}

pub returns-in_err-enter-clause-call : goal.returns-in_err-enter-clause-call
returns-in_err-enter-clause-call g c = passed_call c.from_residual.ensures.1 (err_call (λ u. set_inside c.args.object c.args.attr c.args.value) c.in_err-enter.ensures.call)

pub returns-clause-call : goal.returns-clause-call
returns-clause-call g c = then_call (λ u. set_inside c.args.object c.args.attr c.args.value) c.in_ok-enter.ensures.call c.set_inside.ensures.call

pub returns-in_err-enter-clause-refused : goal.returns-in_err-enter-clause-refused
returns-in_err-enter-clause-refused g c =
    passed_on (λ e. IsRefused (pending_fault c.args.session.now) (judged_fault c.args.object c.args.attr c.args.session.now) c.args.session.now e c.enter.new.session) c.from_residual.result c.from_residual.ensures.1
    (refused_entering c.in_err-enter.ensures.refused)

pub returns-clause-refused : goal.returns-clause-refused
returns-clause-refused g c =
    judged_refused c.args.object c.args.attr c.args.value c.args.session.now c.enter.new.session c.set_inside.new.session c.set_inside.result c.requires.fits c.in_ok-enter.ensures.entered c.in_ok-enter.ensures.well c.in_ok-enter.ensures.inside c.set_inside.ensures.refused
