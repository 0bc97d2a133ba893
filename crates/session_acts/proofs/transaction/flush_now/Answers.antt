use Rattle.std.proofs.Common.{None}
use Rattle.session_calls.specs.Refusals.{entered}
use Rattle.session_calls.specs.Steps.{pending_fault}
use Rattle.session_calls.proofs.Joining.{err_call, passed_call, then_call}
use Rattle.session_calls.proofs.Refusing.{call_calm, passed_on}
use Rattle.session_acts.specs.Refusals.{Asked, IsRefusedFlushing}
use Rattle.session_acts.specs.Flush.{flush}
use Rattle.session_acts.specs.Steps.{flush_now}
use Rattle.session_acts.proofs.ActLemmas.{deep_still}
use Rattle.session_acts.proofs.Unwritten.{flushed_since, none_written}
use Rattle.session_acts.proofs.transaction.flush_now.Goals as goal

pub flush-requires : goal.flush-requires
flush-requires g c = record { in_step = c.in_ok-enter.ensures.call.kept.in_step; inside = c.in_ok-enter.ensures.inside; well = c.in_ok-enter.ensures.well }

pub returns-in_err-enter-clause-call : goal.returns-in_err-enter-clause-call
unfolding flush_now
returns-in_err-enter-clause-call g c = passed_call c.from_residual.ensures.1 (err_call (λ u. flush) c.in_err-enter.ensures.call)

pub returns-clause-call : goal.returns-clause-call
unfolding flush_now
returns-clause-call g c = then_call (λ u. flush) c.in_ok-enter.ensures.call c.flush.ensures.call

pub returns-clause-inside : goal.returns-clause-inside
returns-clause-inside g c = deep_still c.enter.new.session.frames.scopes c.flush.new.session.frames.scopes c.flush.result c.flush.ensures.scopes c.in_ok-enter.ensures.inside

pub returns-in_err-enter-clause-refused : goal.returns-in_err-enter-clause-refused
returns-in_err-enter-clause-refused g c =
    passed_on (λ e. IsRefusedFlushing (pending_fault c.args.session.now) None c.args.session.now (g.K.Keeper.moment c.args.keeper.now) e c.enter.new.session (g.K.Keeper.moment c.enter.new.keeper)) c.from_residual.result
    c.from_residual.ensures.1 (Asked c.in_err-enter.ensures.refused)

pub returns-clause-flushed : goal.returns-clause-flushed
returns-clause-flushed g c = flushed_since (entered c.args.session.now) c.enter.new.session c.flush.new.session c.flush.result c.in_ok-enter.ensures.entered c.flush.ensures.flushed

pub returns-clause-refused : goal.returns-clause-refused
returns-clause-refused g c =
    none_written (pending_fault c.args.session.now) None c.args.session.now c.enter.new.session c.flush.new.session (g.K.Keeper.moment c.args.keeper.now) (g.K.Keeper.moment c.enter.new.keeper)
    (g.K.Keeper.moment c.flush.new.keeper) c.flush.result c.in_ok-enter.ensures.entered (call_calm c.in_ok-enter.ensures.call).0 c.flush.ensures.refused
