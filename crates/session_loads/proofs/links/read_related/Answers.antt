use Rattle.session_calls.specs.Steps.{pending_fault}
use Rattle.session_calls.proofs.Joining.{err_call, passed_call, then_call}
use Rattle.session_calls.proofs.Refusing.{call_calm, passed_on, refused_entering}
use Rattle.session_links.proofs.Acting.{place_still}
use Rattle.session_acts.specs.Refusals.{Asked}
use Rattle.session_loads.specs.Asking.{link_fault}
use Rattle.session_loads.specs.Reads.{read_related, tell_related}
use Rattle.session_loads.specs.Refusals.{IsRefusedLink, IsRefusedLoading, Unflushed}
use Rattle.session_loads.proofs.RefusedLemmas.{loading_refused}
use Rattle.session_loads.proofs.links.read_related.Goals as goal

pub tell_related-requires : goal.tell_related-requires
tell_related-requires g c =
    let on = c.in_ok-enter.ensures.call.kept.same in
    record {
      in_step = c.in_ok-enter.ensures.call.kept.in_step;
      inside = c.in_ok-enter.ensures.inside;
      well = c.in_ok-enter.ensures.well;
      object = (on.there c.args.object c.requires.object).0;
      place = place_still c.args.session.now c.enter.new.session c.args.object c.args.place on c.requires.object c.requires.place;
    }

pub returns-in_err-enter-clause-call : goal.returns-in_err-enter-clause-call
unfolding read_related
returns-in_err-enter-clause-call g c = passed_call c.from_residual.ensures.1 (err_call (λ u. tell_related c.args.object c.args.place) c.in_err-enter.ensures.call)

pub returns-clause-call : goal.returns-clause-call
unfolding read_related
returns-clause-call g c = then_call (λ u. tell_related c.args.object c.args.place) c.in_ok-enter.ensures.call c.tell_related.ensures.call

pub returns-in_err-enter-clause-refused : goal.returns-in_err-enter-clause-refused
returns-in_err-enter-clause-refused g c =
    passed_on
    (λ e. IsRefusedLoading (pending_fault c.args.session.now) (link_fault c.args.object c.args.place c.args.session.now) (link_fault c.args.object c.args.place) (IsRefusedLink c.args.object) c.args.session.now (g.K.Keeper.moment c.args.keeper.now) e
    c.enter.new.session (g.K.Keeper.moment c.enter.new.keeper)) c.from_residual.result c.from_residual.ensures.1 (Unflushed (Asked (refused_entering c.in_err-enter.ensures.refused)))

pub returns-clause-refused : goal.returns-clause-refused
returns-clause-refused g c =
    loading_refused (IsRefusedLink c.args.object) (link_fault c.args.object c.args.place) (link_fault c.args.object c.args.place) c.args.session.now c.enter.new.session c.tell_related.new.session (g.K.Keeper.moment c.args.keeper.now)
    (g.K.Keeper.moment c.enter.new.keeper) (g.K.Keeper.moment c.tell_related.new.keeper) c.tell_related.result c.in_ok-enter.ensures.entered c.in_ok-enter.ensures.well (call_calm c.in_ok-enter.ensures.call) c.tell_related.ensures.refused
