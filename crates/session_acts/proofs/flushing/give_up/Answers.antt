use Rattle.std.proofs.Common.{length, ap, ◌∙◌, arith}
use Rattle.session_scopes.specs.SessionState.{SessionState}
use Rattle.session_calls.proofs.Joining.{passed_call}
use Rattle.session_acts.proofs.Outcomes.{failed_alike}
use Rattle.session_acts.proofs.Steps.{gave_up, gave_up_not}
use Rattle.session_acts.proofs.flushing.give_up.Goals as goal

pub fail_flush-requires : goal.fail_flush-requires
fail_flush-requires g c =
    let long = ap (λ (s : SessionState). length s.frames.scopes) c.in_ok-roll_back.ensures.alike in
    record {
      inside = omega (arith, long, c.requires.inside);
      well = ap (λ (s : SessionState). s.failed) c.in_ok-roll_back.ensures.alike ∙ c.requires.well;
    }

pub returns-in_err-roll_back-clause-call : goal.returns-in_err-roll_back-clause-call
returns-in_err-roll_back-clause-call g c = passed_call c.from_residual.ensures.1 (gave_up_not g.K.Keeper.moment c.open_scopes-depth.result c.open_scopes-depth.ensures.scopes c.in_err-roll_back.ensures)

pub returns-clause-call : goal.returns-clause-call
returns-clause-call g c =
    gave_up g.K.Keeper.moment c.open_scopes-depth.result c.open_scopes-depth.ensures.scopes c.in_ok-roll_back.ensures c.fail_flush.ensures.ok c.fail_flush.ensures.same c.fail_flush.ensures.scopes

pub returns-clause-left : goal.returns-clause-left
returns-clause-left g c = failed_alike c.args.session.now c.roll_back.new.session c.fail_flush.new.self c.in_ok-roll_back.ensures.alike c.fail_flush.ensures.ok
