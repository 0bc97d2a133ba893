use Rattle.relations.specs.Calls.{end_of, is_of_collection}
use Rattle.session_calls.specs.Refusals.{IsRefused}
use Rattle.session_calls.specs.Steps.{pending_fault}
use Rattle.session_calls.proofs.Joining.{passed_call}
use Rattle.session_calls.proofs.Refusing.{passed_on, refused_entering}
use Rattle.session_objects.proofs.Acting.{inside_call, inside_refused}
use Rattle.session_links.specs.Linking.{change_fault, session_changed}
use Rattle.session_links.proofs.Acting.{changes_link, changes_not, end_still, form_still, place_still}
use Rattle.session_links.proofs.changing.change_link.Goals as goal

pub change_inside-requires : goal.change_inside-requires
change_inside-requires g c =
    let on = c.in_ok-enter.ensures.call.kept.same in
    record {
      owner = (on.there c.args.owner c.requires.owner).0;
      relation = place_still c.args.session.now c.enter.new.session c.args.owner c.args.relation on c.requires.owner c.requires.relation;
      form = form_still c.args.session.now c.enter.new.session c.args.owner c.args.relation (is_of_collection c.args.call) on c.requires.owner c.requires.form;
      end = end_still c.args.session.now c.enter.new.session (end_of c.args.call) on c.requires.end;
    }

pub returns-in_err-enter-clause-call : goal.returns-in_err-enter-clause-call
returns-in_err-enter-clause-call g c = passed_call c.from_residual.ensures.1 (changes_not g.K.Keeper.moment c.args.owner c.args.relation c.args.call c.in_err-enter.ensures.call)

pub returns-clause-call : goal.returns-clause-call
returns-clause-call g c =
    changes_link g.K.Keeper.moment c.args.owner c.args.relation c.args.call c.in_ok-enter.ensures.call
    (inside_call g.K.Keeper.moment (change_fault c.args.owner c.args.relation c.args.call) (session_changed c.args.owner c.args.relation c.args.call) c.enter.new.session c.change_inside.new.session c.enter.new.keeper c.change_inside.result
    c.change_inside.ensures.done c.change_inside.ensures.same c.change_inside.ensures.scopes c.in_ok-enter.ensures.call.kept.in_step)

pub returns-in_err-enter-clause-refused : goal.returns-in_err-enter-clause-refused
returns-in_err-enter-clause-refused g c =
    passed_on (λ e. IsRefused (pending_fault c.args.session.now) (change_fault c.args.owner c.args.relation c.args.call c.args.session.now) c.args.session.now e c.enter.new.session) c.from_residual.result c.from_residual.ensures.1
    (refused_entering c.in_err-enter.ensures.refused)

pub returns-clause-refused : goal.returns-clause-refused
unfolding change_fault
returns-clause-refused g c =
    inside_refused (change_fault c.args.owner c.args.relation c.args.call) (session_changed c.args.owner c.args.relation c.args.call c.enter.new.session) c.args.session.now c.enter.new.session c.change_inside.new.session c.change_inside.result
    c.in_ok-enter.ensures.entered c.in_ok-enter.ensures.well c.change_inside.ensures.done
