use Rattle.std.proofs.Common.{◌≡◌, ◌+◌, ◌-◌, false, length}
use Rattle.keeper_core.specs.Beside.{moment_beside}
use Rattle.keeper_core.specs.Moment.{Reaches}
use Rattle.session_scopes.specs.SessionState.{GoesOn, IsInStep}
use Rattle.session_acts.specs.Savepoints.{release_many}
use Rattle.session_acts.proofs.inner_scopes.release_many.Given as goal

abbrev pub invariant-loop : goal.invariant-loop
invariant-loop g l = record {
  reached : Reaches (moment_beside g.K.Keeper.moment) (release_many l.count) (l.fn.session, l.fn.keeper) (release_many (l.count - l.counter)) (l.session, l.keeper);
  same : GoesOn l.fn.session l.session;
  in_step : IsInStep l.session (g.K.Keeper.moment l.keeper);
  fewer : length l.session.frames.scopes + l.counter ≡ length l.fn.session.frames.scopes;
  well : l.session.failed ≡ false;
}
