use Rattle.std.proofs.Common.{◌≡◌, ℕ, ◌+◌, ◌-◌, arith, subst}
use Rattle.keeper_core.specs.Beside.{moment_beside}
use Rattle.keeper_core.specs.Moment.{Reaches}
use Rattle.keeper_core.proofs.Sequence.{reaches_start}
use Rattle.session_scopes.proofs.SessionLemmas.{goes_more}
use Rattle.session_calls.proofs.Joining.{goes_itself, passed_call}
use Rattle.session_acts.specs.Savepoints.{release_many}
use Rattle.session_acts.proofs.Savepoints.{release_ended, release_stopped, release_turn}
use Rattle.session_acts.proofs.inner_scopes.release_many.Goals as goal

pub loop-init : goal.loop-init
loop-init g c = record {
  reached =
      let whole : c.args.count ≡ c.args.count - 0 = omega arith in
      subst (λ (n : ℕ). Reaches (moment_beside g.K.Keeper.moment) (release_many c.args.count) (c.args.session.now, c.args.keeper.now) (release_many n) (c.args.session.now, c.args.keeper.now)) whole reaches_start;
  same = goes_itself c.args.session.now;
  in_step = c.requires.in_step;
  fewer = omega arith;
  well = c.requires.well;
}

pub loop-preserved : goal.loop-preserved
loop-preserved g c = record {
  reached = release_turn (c.args.count - c.loop.counter) (c.args.count - (c.loop.counter + 1)) (omega (arith, c.loop-test.true)) c.loop.invariant.reached c.in_ok-release_one.ensures.call.step;
  same = goes_more c.loop.invariant.same c.in_ok-release_one.ensures.call.kept.same;
  in_step = c.in_ok-release_one.ensures.call.kept.in_step;
  fewer = omega (arith, c.loop.invariant.fewer, c.in_ok-release_one.ensures.fewer);
  well = c.in_ok-release_one.ensures.well;
}

pub returns-in_err-release_one-clause-call : goal.returns-in_err-release_one-clause-call
returns-in_err-release_one-clause-call g c =
    passed_call c.from_residual.ensures.1
    (record {
      step = release_stopped (c.args.count - c.loop.counter) (c.args.count - (c.loop.counter + 1)) (omega (arith, c.loop-test.true)) c.loop.invariant.reached c.in_err-release_one.ensures.call.step;
      kept = record {
        same = goes_more c.loop.invariant.same c.in_err-release_one.ensures.call.kept.same;
        in_step = c.in_err-release_one.ensures.call.kept.in_step;
      };
    })

pub returns-clause-call : goal.returns-clause-call
returns-clause-call g c = record {
  step = release_ended (c.args.count - c.loop.counter) (omega (arith, c.loop-test.false)) c.loop.invariant.reached;
  kept = record { same = c.loop.invariant.same; in_step = c.loop.invariant.in_step };
}
