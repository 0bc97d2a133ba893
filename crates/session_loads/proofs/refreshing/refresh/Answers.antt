use Rattle.session_calls.specs.Steps.{pending_fault}
use Rattle.session_calls.proofs.Joining.{err_call, passed_call, then_call}
use Rattle.session_calls.proofs.Refusing.{call_calm, passed_on, refused_entering}
use Rattle.session_acts.specs.Refusals.{Asked}
use Rattle.session_loads.specs.Asking.{persistence_fault}
use Rattle.session_loads.specs.Reads.{refresh, refresh_inside}
use Rattle.session_loads.specs.Refusals.{IsRefusedLoading, IsRefusedWhole, Unflushed}
use Rattle.session_loads.proofs.RefusedLemmas.{loading_refused}
use Rattle.session_loads.proofs.refreshing.refresh.Goals as goal

pub refresh_inside-requires : goal.refresh_inside-requires
refresh_inside-requires g c = record {
  in_step = c.in_ok-enter.ensures.call.kept.in_step;
  inside = c.in_ok-enter.ensures.inside;
  well = c.in_ok-enter.ensures.well;
  object = (c.in_ok-enter.ensures.call.kept.same.there c.args.object c.requires.object).0;
}

pub returns-in_err-enter-clause-call : goal.returns-in_err-enter-clause-call
unfolding refresh
returns-in_err-enter-clause-call g c = passed_call c.from_residual.ensures.1 (err_call (λ u. refresh_inside c.args.object) c.in_err-enter.ensures.call)

pub returns-clause-call : goal.returns-clause-call
unfolding refresh
returns-clause-call g c = then_call (λ u. refresh_inside c.args.object) c.in_ok-enter.ensures.call c.refresh_inside.ensures.call

pub returns-in_err-enter-clause-refused : goal.returns-in_err-enter-clause-refused
returns-in_err-enter-clause-refused g c =
    passed_on
    (λ e. IsRefusedLoading (pending_fault c.args.session.now) (persistence_fault c.args.object c.args.session.now) (persistence_fault c.args.object) (IsRefusedWhole c.args.object) c.args.session.now (g.K.Keeper.moment c.args.keeper.now) e c.enter.new.session
    (g.K.Keeper.moment c.enter.new.keeper)) c.from_residual.result c.from_residual.ensures.1 (Unflushed (Asked (refused_entering c.in_err-enter.ensures.refused)))

pub returns-clause-refused : goal.returns-clause-refused
returns-clause-refused g c =
    loading_refused (IsRefusedWhole c.args.object) (persistence_fault c.args.object) (persistence_fault c.args.object) c.args.session.now c.enter.new.session c.refresh_inside.new.session (g.K.Keeper.moment c.args.keeper.now)
    (g.K.Keeper.moment c.enter.new.keeper) (g.K.Keeper.moment c.refresh_inside.new.keeper) c.refresh_inside.result c.in_ok-enter.ensures.entered c.in_ok-enter.ensures.well (call_calm c.in_ok-enter.ensures.call) c.refresh_inside.ensures.refused
