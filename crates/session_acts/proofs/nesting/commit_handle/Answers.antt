use Rattle.std.proofs.Common.{◌≡◌, true, None, refl, sym, ◌∙◌, arith, rules}
use Rattle.object_arena.specs.Graph.{either_fault}
use Rattle.session_calls.specs.Refusals.{Before}
use Rattle.session_calls.specs.Steps.{pending_fault}
use Rattle.session_scopes.specs.SessionState.{in_transaction}
use Rattle.session_calls.proofs.Joining.{passed_call}
use Rattle.session_calls.proofs.Refusing.{entered_still, passed_on}
use Rattle.session_acts.specs.Savepoints.{handle_fault, release_handle}
use Rattle.session_acts.specs.Refusals.{Asked, IsRefusedFlushing}
use Rattle.session_acts.specs.Steps.{commit_handle}
use Rattle.session_acts.proofs.ActLemmas.{asking_refused, flush_refused, flushed_then}
use Rattle.session_acts.proofs.Unwritten.{act_stopped, not_written, scope_open}
use Rattle.session_acts.proofs.Savepoints.{handle_open, handle_refused}
use Rattle.session_acts.proofs.nesting.commit_handle.Goals as goal

pub returns-in-Some-clause-call : goal.returns-in-Some-clause-call
unfolding commit_handle
returns-in-Some-clause-call g c = asking_refused g.K.Keeper.moment (release_handle c.args.handle) (handle_refused g.K.Keeper.moment c.args.handle (sym c.in-Some.ensures.fault) c.requires.in_step)

pub returns-in-Some-clause-refused : goal.returns-in-Some-clause-refused
returns-in-Some-clause-refused g c = Asked (Before (sym c.in-Some.ensures.fault) refl)

pub flush-requires : goal.flush-requires
flush-requires g c =
    let none : c.release_fault.result ≡ None = search rules in
    record { in_step = c.requires.in_step; inside = omega (arith, c.release_fault.ensures.inside none); well = c.release_fault.ensures.well none }

pub returns-in_err-flush-clause-call : goal.returns-in_err-flush-clause-call
unfolding commit_handle
returns-in_err-flush-clause-call g c =
    let none : c.release_fault.result ≡ None = search rules in
    passed_call c.from_residual.ensures.1 (flush_refused g.K.Keeper.moment (release_handle c.args.handle) (handle_open g.K.Keeper.moment c.args.handle (sym c.release_fault.ensures.fault ∙ none) c.requires.in_step) c.in_err-flush.ensures.call)

pub returns-clause-call : goal.returns-clause-call
unfolding commit_handle
returns-clause-call g c =
    let none : c.release_fault.result ≡ None = search rules in
    flushed_then g.K.Keeper.moment (release_handle c.args.handle) (handle_open g.K.Keeper.moment c.args.handle (sym c.release_fault.ensures.fault ∙ none) c.requires.in_step) c.in_ok-flush.ensures.call c.release_handle.ensures.call

pub release_handle-requires : goal.release_handle-requires
release_handle-requires g c = record { in_step = c.in_ok-flush.ensures.call.kept.in_step; well = c.in_ok-flush.ensures.well }

pub returns-in_err-flush-clause-refused : goal.returns-in_err-flush-clause-refused
returns-in_err-flush-clause-refused g c =
    let none : c.release_fault.result ≡ None = search rules in
    let inside : in_transaction c.args.session.now ≡ true = scope_open c.args.session.now.frames.scopes (omega (arith, c.release_fault.ensures.inside none)) in
    passed_on (λ e. IsRefusedFlushing (either_fault (pending_fault c.args.session.now) (handle_fault c.args.handle c.args.session.now)) None c.args.session.now (g.K.Keeper.moment c.args.keeper.now) e c.flush.new.session (g.K.Keeper.moment c.flush.new.keeper))
    c.from_residual.result c.from_residual.ensures.1
    (not_written (either_fault (pending_fault c.args.session.now) (handle_fault c.args.handle c.args.session.now)) None c.args.session.now c.args.session.now c.flush.new.session (g.K.Keeper.moment c.args.keeper.now) (g.K.Keeper.moment c.args.keeper.now)
    (g.K.Keeper.moment c.flush.new.keeper) c.in_err-flush.field-0.0 (entered_still c.args.session.now inside) refl c.in_err-flush.ensures.refused)

pub returns-clause-refused : goal.returns-clause-refused
returns-clause-refused g c =
    act_stopped (either_fault (pending_fault c.args.session.now) (handle_fault c.args.handle c.args.session.now)) None c.args.session.now c.release_handle.new.session (g.K.Keeper.moment c.args.keeper.now) (g.K.Keeper.moment c.release_handle.new.keeper) c.release_handle.result
    c.release_handle.ensures.stops
