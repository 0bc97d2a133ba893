use Rattle.keeper_core.specs.Beside.{on_own}
use Rattle.session_scopes.specs.Changes.{value_put}
use Rattle.session_calls.specs.Refusals.{IsRefused, kept_fault}
use Rattle.session_calls.specs.Steps.{pending_fault}
use Rattle.session_calls.proofs.Acting.{attr_still, fits_still}
use Rattle.session_calls.proofs.Joining.{err_call, own_call, passed_call, then_call}
use Rattle.session_calls.proofs.Refusing.{passed_on, refused_entering, set_refused}
use Rattle.session_calls.proofs.objects.set_fitting.Goals as goal

pub put_value-requires : goal.put_value-requires
put_value-requires g c = record {
  object = (c.in_ok-enter.ensures.call.kept.same.there c.args.object c.requires.object).0;
  attr = attr_still c.args.session.now c.enter.new.session c.args.object c.args.attr c.in_ok-enter.ensures.call.kept.same c.requires.object c.requires.attr;
  fits = fits_still c.args.session.now c.enter.new.session c.args.object c.args.attr c.args.value c.in_ok-enter.ensures.call.kept.same c.requires.object c.requires.fits;
}

pub returns-in_err-enter-clause-call : goal.returns-in_err-enter-clause-call
returns-in_err-enter-clause-call g c = passed_call c.from_residual.ensures.1 (err_call (λ u. on_own (value_put c.args.object c.args.attr c.args.value)) c.in_err-enter.ensures.call)

pub returns-clause-call : goal.returns-clause-call
returns-clause-call g c =
    then_call (λ u. on_own (value_put c.args.object c.args.attr c.args.value)) c.in_ok-enter.ensures.call
    (own_call g.K.Keeper.moment (value_put c.args.object c.args.attr c.args.value) c.put_value.ensures.step c.put_value.ensures.same c.put_value.ensures.scopes c.in_ok-enter.ensures.call.kept.in_step)

pub returns-in_err-enter-clause-refused : goal.returns-in_err-enter-clause-refused
returns-in_err-enter-clause-refused g c =
    passed_on (λ e. IsRefused (pending_fault c.args.session.now) (kept_fault c.args.object c.args.attr c.args.session.now) c.args.session.now e c.enter.new.session) c.from_residual.result c.from_residual.ensures.1
    (refused_entering c.in_err-enter.ensures.refused)

pub returns-clause-refused : goal.returns-clause-refused
returns-clause-refused g c =
    set_refused c.args.object c.args.attr c.args.value c.args.session.now c.enter.new.session c.put_value.new.self c.put_value.result c.in_ok-enter.ensures.entered c.in_ok-enter.ensures.well c.put_value.ensures.step
