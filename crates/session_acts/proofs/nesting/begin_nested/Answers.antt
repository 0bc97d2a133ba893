use Rattle.std.proofs.Common.{length, ap, arith}
use Rattle.session_calls.specs.Refusals.{entered}
use Rattle.session_calls.specs.Steps.{pending_fault}
use Rattle.session_calls.proofs.Joining.{passed_call}
use Rattle.session_calls.proofs.Refusing.{call_calm, passed_on}
use Rattle.session_acts.specs.Savepoints.{begin_savepoint, limit_fault}
use Rattle.session_acts.specs.Refusals.{Asked, IsRefusedFlushing}
use Rattle.session_acts.specs.Steps.{begin_nested}
use Rattle.session_acts.proofs.ActLemmas.{asking_refused, flush_refused, flushed_then, next_drawn}
use Rattle.session_acts.proofs.Unwritten.{act_stopped, not_written}
use Rattle.session_acts.proofs.nesting.begin_nested.Goals as goal

pub flush-requires : goal.flush-requires
flush-requires g c = record { in_step = c.in_ok-enter_nested.ensures.call.kept.in_step; inside = c.in_ok-enter_nested.ensures.inside; well = c.in_ok-enter_nested.ensures.well }

pub returns-in_err-enter_nested-clause-call : goal.returns-in_err-enter_nested-clause-call
unfolding begin_nested
returns-in_err-enter_nested-clause-call g c = passed_call c.from_residual.ensures.1 (asking_refused g.K.Keeper.moment begin_savepoint c.in_err-enter_nested.ensures.call)

pub returns-in_err-flush-clause-call : goal.returns-in_err-flush-clause-call
unfolding begin_nested
returns-in_err-flush-clause-call g c = passed_call c.from_residual-in_err-flush.ensures.1 (flush_refused g.K.Keeper.moment begin_savepoint c.in_ok-enter_nested.ensures.call c.in_err-flush.ensures.call)

pub returns-clause-call : goal.returns-clause-call
unfolding begin_nested
returns-clause-call g c = flushed_then g.K.Keeper.moment begin_savepoint c.in_ok-enter_nested.ensures.call c.in_ok-flush.ensures.call c.begin_savepoint.ensures.call

pub begin_savepoint-requires : goal.begin_savepoint-requires
begin_savepoint-requires g c = record {
  in_step = c.in_ok-flush.ensures.call.kept.in_step;
  inside = omega (arith, ap length c.in_ok-flush.ensures.scopes, c.in_ok-enter_nested.ensures.inside);
  room = omega (arith, ap length c.in_ok-flush.ensures.scopes, c.in_ok-enter_nested.ensures.room);
  well = c.in_ok-flush.ensures.well;
}

pub returns-clause-drawn : goal.returns-clause-drawn
returns-clause-drawn g c = next_drawn c.begin_savepoint.result c.flush.new.session.drawn.drawn c.begin_savepoint.new.session.drawn.drawn c.begin_savepoint.ensures.handle c.begin_savepoint.ensures.drawn

pub returns-in_err-enter_nested-clause-refused : goal.returns-in_err-enter_nested-clause-refused
returns-in_err-enter_nested-clause-refused g c =
    passed_on (λ e. IsRefusedFlushing (pending_fault c.args.session.now) (limit_fault (entered c.args.session.now)) c.args.session.now (g.K.Keeper.moment c.args.keeper.now) e c.enter_nested.new.session (g.K.Keeper.moment c.enter_nested.new.keeper))
    c.from_residual.result c.from_residual.ensures.1 (Asked c.in_err-enter_nested.ensures.refused)

pub returns-in_err-flush-clause-refused : goal.returns-in_err-flush-clause-refused
returns-in_err-flush-clause-refused g c =
    passed_on (λ e. IsRefusedFlushing (pending_fault c.args.session.now) (limit_fault (entered c.args.session.now)) c.args.session.now (g.K.Keeper.moment c.args.keeper.now) e c.flush.new.session (g.K.Keeper.moment c.flush.new.keeper))
    c.from_residual-in_err-flush.result c.from_residual-in_err-flush.ensures.1
    (not_written (pending_fault c.args.session.now) (limit_fault (entered c.args.session.now)) c.args.session.now c.enter_nested.new.session c.flush.new.session (g.K.Keeper.moment c.args.keeper.now) (g.K.Keeper.moment c.enter_nested.new.keeper)
    (g.K.Keeper.moment c.flush.new.keeper) c.in_err-flush.field-0.0 c.in_ok-enter_nested.ensures.entered (call_calm c.in_ok-enter_nested.ensures.call).0 c.in_err-flush.ensures.refused)

pub returns-clause-refused : goal.returns-clause-refused
returns-clause-refused g c =
    act_stopped (pending_fault c.args.session.now) (limit_fault (entered c.args.session.now)) c.args.session.now c.begin_savepoint.new.session (g.K.Keeper.moment c.args.keeper.now) (g.K.Keeper.moment c.begin_savepoint.new.keeper) c.begin_savepoint.result
    c.begin_savepoint.ensures.stops
