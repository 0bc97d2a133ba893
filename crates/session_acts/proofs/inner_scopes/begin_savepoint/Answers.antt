use Rattle.std.proofs.Common.{◌≡◌, ◌+◌, true, Ok, Err, length, refl, sym, ap, ◌∙◌, arith}
use Rattle.base_core.specs.declared.refusal.Refusal.TheVariants.{Memory}
use Rattle.keeper_core.specs.Programs.{ends_early}
use Rattle.session_scopes.specs.SessionState.{SessionState}
use Rattle.session_calls.proofs.Acting.{alike_scopes}
use Rattle.session_acts.proofs.Savepoints.{nests, nests_not}
use Rattle.session_calls.proofs.Joining.{passed_call}
use Rattle.session_calls.proofs.Refusing.{passed_on}
use Rattle.session_acts.proofs.inner_scopes.begin_savepoint.Goals as goal

pub returns-in_err-send_savepoint-clause-call : goal.returns-in_err-send_savepoint-clause-call
returns-in_err-send_savepoint-clause-call g c =
    passed_call c.from_residual.ensures.1 (nests_not g.K.Keeper.moment (length c.args.session.now.frames.scopes + 1) c.in_err-send_savepoint.ensures)

pub returns-clause-call : goal.returns-clause-call
returns-clause-call g c = nests g.K.Keeper.moment (Ok _) c.in_ok-send_savepoint.ensures c.in_ok-nest.ensures.ok c.in_ok-nest.ensures.handle tt c.in_ok-nest.ensures.same

-- there was no memory for the scope
pub returns-in_err-nest-clause-call : goal.returns-in_err-nest-clause-call
returns-in_err-nest-clause-call g c =
    passed_call c.from_residual-in_err-nest.ensures.1 (nests g.K.Keeper.moment (Err Memory) c.in_ok-send_savepoint.ensures tt tt refl c.in_err-nest.ensures.same)

pub nest-requires : goal.nest-requires
nest-requires g c =
    let long = alike_scopes c.args.session.now c.send_savepoint.new.session c.in_ok-send_savepoint.ensures.alike in
    record {
      inside = omega (arith, long, c.requires.inside);
      room = omega (arith, long, c.requires.room);
      well = ap (λ (s : SessionState). s.failed) c.in_ok-send_savepoint.ensures.alike ∙ c.requires.well;
    }

pub returns-clause-handle : goal.returns-clause-handle
returns-clause-handle g c = c.in_ok-nest.ensures.handle ∙ ap (λ (s : SessionState). s.drawn.drawn + 1) c.in_ok-send_savepoint.ensures.alike

pub returns-clause-drawn : goal.returns-clause-drawn
returns-clause-drawn g c = c.in_ok-nest.ensures.handle ∙ sym (ap (λ (s : SessionState). s.drawn.drawn) c.in_ok-nest.ensures.ok)

pub returns-in_err-nest-clause-stops : goal.returns-in_err-nest-clause-stops
returns-in_err-nest-clause-stops g c = passed_on (λ e. ends_early e ≡ true) c.from_residual-in_err-nest.result c.from_residual-in_err-nest.ensures.1 refl
