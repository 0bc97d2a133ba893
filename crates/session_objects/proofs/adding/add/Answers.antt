use Rattle.session_calls.specs.Refusals.{IsRefused}
use Rattle.session_calls.specs.Steps.{pending_fault}
use Rattle.session_calls.proofs.Joining.{passed_call}
use Rattle.session_calls.proofs.Refusing.{passed_on, refused_entering}
use Rattle.session_objects.specs.Conflicts.{add_fault}
use Rattle.session_objects.specs.Taking.{session_added}
use Rattle.session_objects.proofs.Acting.{adds, adds_not, inside_call, inside_refused}
use Rattle.session_objects.proofs.adding.add.Goals as goal

pub add_inside-requires : goal.add_inside-requires
add_inside-requires g c = (c.in_ok-enter.ensures.call.kept.same.there c.args.object c.requires.object).0

pub returns-in_err-enter-clause-call : goal.returns-in_err-enter-clause-call
returns-in_err-enter-clause-call g c = passed_call c.from_residual.ensures.1 (adds_not g.K.Keeper.moment c.args.object c.in_err-enter.ensures.call)

pub returns-in_err-enter-clause-refused : goal.returns-in_err-enter-clause-refused
returns-in_err-enter-clause-refused g c =
    passed_on (λ e. IsRefused (pending_fault c.args.session.now) (add_fault c.args.object c.args.session.now) c.args.session.now e c.enter.new.session) c.from_residual.result c.from_residual.ensures.1 (refused_entering c.in_err-enter.ensures.refused)

pub returns-clause-call : goal.returns-clause-call
returns-clause-call g c =
    adds g.K.Keeper.moment c.args.object c.in_ok-enter.ensures.call
    (inside_call g.K.Keeper.moment (add_fault c.args.object) (session_added c.args.object) c.enter.new.session c.add_inside.new.session c.enter.new.keeper c.add_inside.result c.add_inside.ensures.done c.add_inside.ensures.same c.add_inside.ensures.scopes
    c.in_ok-enter.ensures.call.kept.in_step)

pub returns-clause-refused : goal.returns-clause-refused
returns-clause-refused g c =
    inside_refused (add_fault c.args.object) (session_added c.args.object c.enter.new.session) c.args.session.now c.enter.new.session c.add_inside.new.session c.add_inside.result c.in_ok-enter.ensures.entered c.in_ok-enter.ensures.well
    c.add_inside.ensures.done
