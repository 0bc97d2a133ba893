use Rattle.relations.specs.Calls.{end_of, is_of_collection}
use Rattle.session_calls.proofs.Joining.{err_call, passed_call, then_call}
use Rattle.session_calls.proofs.Refusing.{call_calm, passed_on, refused_entering}
use Rattle.session_links.proofs.Acting.{end_still, form_still, place_still}
use Rattle.session_acts.specs.Refusals.{Asked}
use Rattle.session_loads.specs.Reads.{change_collection, change_loaded}
use Rattle.session_loads.specs.Refusals.{IsRefusedChanging, MembersRefused, Unflushed}
use Rattle.session_loads.proofs.RefusedLemmas.{changing_refused}
use Rattle.session_loads.proofs.collections.change_collection.Goals as goal

pub change_loaded-requires : goal.change_loaded-requires
change_loaded-requires g c =
    let on = c.in_ok-enter.ensures.call.kept.same in
    record {
      in_step = c.in_ok-enter.ensures.call.kept.in_step;
      inside = c.in_ok-enter.ensures.inside;
      well = c.in_ok-enter.ensures.well;
      owner = (on.there c.args.owner c.requires.owner).0;
      place = place_still c.args.session.now c.enter.new.session c.args.owner c.args.place on c.requires.owner c.requires.place;
      form = form_still c.args.session.now c.enter.new.session c.args.owner c.args.place (is_of_collection c.args.call) on c.requires.owner c.requires.form;
      end = end_still c.args.session.now c.enter.new.session (end_of c.args.call) on c.requires.end;
    }

pub returns-in_err-enter-clause-call : goal.returns-in_err-enter-clause-call
unfolding change_collection
returns-in_err-enter-clause-call g c = passed_call c.from_residual.ensures.1 (err_call (λ u. change_loaded c.args.owner c.args.place c.args.call) c.in_err-enter.ensures.call)

pub returns-clause-call : goal.returns-clause-call
unfolding change_collection
returns-clause-call g c = then_call (λ u. change_loaded c.args.owner c.args.place c.args.call) c.in_ok-enter.ensures.call c.change_loaded.ensures.call

pub returns-in_err-enter-clause-refused : goal.returns-in_err-enter-clause-refused
returns-in_err-enter-clause-refused g c =
    passed_on
    (λ e. IsRefusedChanging c.args.owner c.args.place c.args.call c.args.session.now (g.K.Keeper.moment c.args.keeper.now) e c.enter.new.session (g.K.Keeper.moment c.enter.new.keeper))
    c.from_residual.result c.from_residual.ensures.1 (MembersRefused (Unflushed (Asked (refused_entering c.in_err-enter.ensures.refused))))

pub returns-clause-refused : goal.returns-clause-refused
returns-clause-refused g c =
    changing_refused c.args.owner c.args.place c.args.call c.args.session.now c.enter.new.session c.change_loaded.new.session (g.K.Keeper.moment c.args.keeper.now) (g.K.Keeper.moment c.enter.new.keeper) (g.K.Keeper.moment c.change_loaded.new.keeper)
    c.change_loaded.result c.in_ok-enter.ensures.entered c.in_ok-enter.ensures.well (call_calm c.in_ok-enter.ensures.call) c.change_loaded.ensures.refused
