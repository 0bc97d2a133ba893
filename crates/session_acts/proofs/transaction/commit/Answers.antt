use Rattle.std.proofs.Common.{None}
use Rattle.session_calls.specs.Steps.{pending_fault}
use Rattle.session_calls.proofs.Joining.{err_call, passed_call, then_call}
use Rattle.session_calls.proofs.Refusing.{passed_on}
use Rattle.session_acts.specs.Savepoints.{commit_whole}
use Rattle.session_acts.specs.Refusals.{IsRefusedFlushing}
use Rattle.session_acts.specs.Steps.{commit}
use Rattle.session_acts.proofs.Unwritten.{act_stopped}
use Rattle.session_acts.proofs.transaction.commit.Goals as goal

pub commit_whole-requires : goal.commit_whole-requires
commit_whole-requires g c = record {
  in_step = c.in_ok-flush_now.ensures.call.kept.in_step;
  inside = c.in_ok-flush_now.ensures.inside;
  well = c.in_ok-flush_now.ensures.well;
}

pub returns-in_err-flush_now-clause-call : goal.returns-in_err-flush_now-clause-call
unfolding commit
returns-in_err-flush_now-clause-call g c = passed_call c.from_residual.ensures.1 (err_call (λ u. commit_whole) c.in_err-flush_now.ensures.call)

pub returns-clause-call : goal.returns-clause-call
unfolding commit
returns-clause-call g c = then_call (λ u. commit_whole) c.in_ok-flush_now.ensures.call c.commit_whole.ensures.call

pub returns-in_err-flush_now-clause-refused : goal.returns-in_err-flush_now-clause-refused
returns-in_err-flush_now-clause-refused g c =
    passed_on (λ e. IsRefusedFlushing (pending_fault c.args.session.now) None c.args.session.now (g.K.Keeper.moment c.args.keeper.now) e c.flush_now.new.session (g.K.Keeper.moment c.flush_now.new.keeper))
    c.from_residual.result c.from_residual.ensures.1 c.in_err-flush_now.ensures.refused

pub returns-clause-refused : goal.returns-clause-refused
returns-clause-refused g c =
    act_stopped (pending_fault c.args.session.now) None c.args.session.now c.commit_whole.new.session (g.K.Keeper.moment c.args.keeper.now) (g.K.Keeper.moment c.commit_whole.new.keeper) c.commit_whole.result c.commit_whole.ensures.stops
