use Rattle.relations.specs.Calls.{end_of, is_of_collection}
use Rattle.session_calls.proofs.Joining.{err_call, passed_call, then_call}
use Rattle.session_calls.proofs.Refusing.{passed_on}
use Rattle.session_objects.proofs.Acting.{inside_call}
use Rattle.session_links.specs.Linking.{change_fault, session_changed}
use Rattle.session_links.specs.Steps.{change_inside}
use Rattle.session_links.proofs.Acting.{end_still, form_still, place_still}
use Rattle.session_loads.specs.Reads.{change_loaded}
use Rattle.session_loads.specs.Refusals.{IsRefusedMembers, NotKnown}
use Rattle.session_loads.proofs.RefusedLemmas.{put_refused}
use Rattle.session_loads.proofs.collections.change_loaded.Goals as goal

pub returns-in_err-fetch_members-clause-call : goal.returns-in_err-fetch_members-clause-call
unfolding change_loaded
returns-in_err-fetch_members-clause-call g c = passed_call c.from_residual.ensures.1 (err_call (λ u. change_inside c.args.owner c.args.place c.args.call) c.in_err-fetch_members.ensures.call)

pub returns-in_err-fetch_members-clause-refused : goal.returns-in_err-fetch_members-clause-refused
returns-in_err-fetch_members-clause-refused g c =
    passed_on (λ e. IsRefusedMembers c.args.owner c.args.place c.args.call c.args.session.now (g.K.Keeper.moment c.args.keeper.now) e c.fetch_members.new.session (g.K.Keeper.moment c.fetch_members.new.keeper))
    c.from_residual.result c.from_residual.ensures.1 (NotKnown c.in_err-fetch_members.ensures.refused)

pub change_inside-requires : goal.change_inside-requires
change_inside-requires g c =
    let on = c.in_ok-fetch_members.ensures.call.kept.same in
    record {
      owner = (on.there c.args.owner c.requires.owner).0;
      relation = place_still c.args.session.now c.fetch_members.new.session c.args.owner c.args.place on c.requires.owner c.requires.place;
      form = form_still c.args.session.now c.fetch_members.new.session c.args.owner c.args.place (is_of_collection c.args.call) on c.requires.owner c.requires.form;
      end = end_still c.args.session.now c.fetch_members.new.session (end_of c.args.call) on c.requires.end;
    }

pub returns-clause-call : goal.returns-clause-call
unfolding change_loaded
returns-clause-call g c =
    then_call (λ u. change_inside c.args.owner c.args.place c.args.call) c.in_ok-fetch_members.ensures.call
    (inside_call g.K.Keeper.moment (change_fault c.args.owner c.args.place c.args.call) (session_changed c.args.owner c.args.place c.args.call) c.fetch_members.new.session c.change_inside.new.session c.fetch_members.new.keeper c.change_inside.result
    c.change_inside.ensures.done c.change_inside.ensures.same c.change_inside.ensures.scopes c.in_ok-fetch_members.ensures.call.kept.in_step)

pub returns-clause-refused : goal.returns-clause-refused
returns-clause-refused g c =
    put_refused c.args.owner c.args.place c.args.call (session_changed c.args.owner c.args.place c.args.call c.fetch_members.new.session) c.args.session.now c.fetch_members.new.session c.change_inside.new.session (g.K.Keeper.moment c.args.keeper.now)
    (g.K.Keeper.moment c.fetch_members.new.keeper) c.change_inside.result c.in_ok-fetch_members.ensures.known c.change_inside.ensures.done
