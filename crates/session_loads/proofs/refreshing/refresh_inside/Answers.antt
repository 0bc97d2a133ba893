use Rattle.std.proofs.Common.{◌≡◌, None, refl, sym, ◌∙◌, rules}
use Rattle.keeper_core.specs.Programs.{◌>>=◌}
use Rattle.session_calls.proofs.Joining.{err_call, passed_call, then_call}
use Rattle.session_calls.proofs.Refusing.{call_calm, passed_on}
use Rattle.session_acts.specs.Flush.{flush}
use Rattle.session_loads.specs.Asking.{persistence_fault}
use Rattle.session_loads.specs.Reads.{refresh_inside, refresh_written}
use Rattle.session_loads.specs.Refusals.{FaultHere, IsRefusedHere, IsRefusedWhole, IsRefusedWriting, NotWritten, ThenHere}
use Rattle.session_loads.proofs.CallLemmas.{cleared, deep_after, faulted}
use Rattle.session_loads.proofs.RefusedLemmas.{after_flush, thens_here}
use Rattle.session_loads.proofs.refreshing.refresh_inside.Goals as goal

pub returns-in-Some-clause-call : goal.returns-in-Some-clause-call
unfolding refresh_inside
returns-in-Some-clause-call g c =
    faulted g.K.Keeper.moment (persistence_fault c.args.object) (λ u. (flush >>= λ u. refresh_written c.args.object)) c.in-Some.ensures.fault c.in-Some.ensures.own c.requires.in_step

pub returns-in-Some-clause-refused : goal.returns-in-Some-clause-refused
returns-in-Some-clause-refused g c = FaultHere (sym c.in-Some.ensures.fault) refl

pub returns-in_err-flush-clause-call : goal.returns-in_err-flush-clause-call
unfolding refresh_inside
returns-in_err-flush-clause-call g c =
    let none : c.persistence_fault.result ≡ None = search rules in
    passed_call c.from_residual.ensures.1
    (cleared g.K.Keeper.moment (persistence_fault c.args.object) (λ u. (flush >>= λ u. refresh_written c.args.object)) (sym c.persistence_fault.ensures.fault ∙ none) c.requires.in_step
    (err_call (λ u. refresh_written c.args.object) c.in_err-flush.ensures.call))

pub returns-in_err-flush-clause-refused : goal.returns-in_err-flush-clause-refused
returns-in_err-flush-clause-refused g c =
    passed_on
    (λ e. IsRefusedHere (persistence_fault c.args.object c.args.session.now) (IsRefusedWriting (persistence_fault c.args.object) (IsRefusedWhole c.args.object)) c.args.session.now (g.K.Keeper.moment c.args.keeper.now) e c.flush.new.session
    (g.K.Keeper.moment c.flush.new.keeper)) c.from_residual.result c.from_residual.ensures.1 (ThenHere (NotWritten c.in_err-flush.ensures.refused))

pub refresh_written-requires : goal.refresh_written-requires
refresh_written-requires g c = record {
  in_step = c.in_ok-flush.ensures.call.kept.in_step;
  inside = deep_after c.args.session.now.frames.scopes c.flush.new.session.frames.scopes c.in_ok-flush.ensures.scopes c.requires.inside;
  object = (c.in_ok-flush.ensures.call.kept.same.there c.args.object c.requires.object).0;
}

pub returns-clause-call : goal.returns-clause-call
unfolding refresh_inside
returns-clause-call g c =
    let none : c.persistence_fault.result ≡ None = search rules in
    cleared g.K.Keeper.moment (persistence_fault c.args.object) (λ u. (flush >>= λ u. refresh_written c.args.object)) (sym c.persistence_fault.ensures.fault ∙ none) c.requires.in_step
    (then_call (λ u. refresh_written c.args.object) c.in_ok-flush.ensures.call c.refresh_written.ensures.call)

pub returns-clause-refused : goal.returns-clause-refused
returns-clause-refused g c =
    thens_here (IsRefusedWriting (persistence_fault c.args.object) (IsRefusedWhole c.args.object)) (persistence_fault c.args.object c.args.session.now) c.args.session.now c.refresh_written.new.session (g.K.Keeper.moment c.args.keeper.now)
    (g.K.Keeper.moment c.refresh_written.new.keeper) c.refresh_written.result
    (after_flush (IsRefusedWhole c.args.object) (persistence_fault c.args.object) c.args.session.now c.flush.new.session c.refresh_written.new.session (g.K.Keeper.moment c.args.keeper.now) (g.K.Keeper.moment c.flush.new.keeper)
    (g.K.Keeper.moment c.refresh_written.new.keeper) c.refresh_written.result c.in_ok-flush.ensures.flushed (call_calm c.in_ok-flush.ensures.call) c.refresh_written.ensures.refused)
