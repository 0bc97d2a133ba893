use Rattle.std.proofs.Common.{length, ap, ◌∙◌, arith}
use Rattle.std.proofs.lemmas.Result.{IfErr-weaker}
use Rattle.session_scopes.specs.SessionState.{SessionState}
use Rattle.session_calls.proofs.Joining.{err_call, passed_call, then_call}
use Rattle.session_calls.proofs.Refusing.{call_calm, passed_on}
use Rattle.session_acts.specs.Flush.{write_loaded, write_objects}
use Rattle.session_acts.specs.Outcome.{IsFlushCause, IsStopped, IsUntouched}
use Rattle.session_acts.proofs.Outcomes.{read_cause, read_flushed, read_stopped, reading_cause, stopped_there}
use Rattle.session_acts.proofs.writing.write_objects.Goals as goal

-- the reading was refused
pub returns-in_err-prepare-clause-call : goal.returns-in_err-prepare-clause-call
unfolding write_objects
returns-in_err-prepare-clause-call g c = passed_call c.from_residual.ensures.1 (err_call (λ u. write_loaded) c.in_err-prepare.ensures.call)

pub returns-in_err-prepare-clause-scopes : goal.returns-in_err-prepare-clause-scopes
returns-in_err-prepare-clause-scopes g c = c.in_err-prepare.ensures.left.scopes

pub returns-in_err-prepare-clause-well : goal.returns-in_err-prepare-clause-well
returns-in_err-prepare-clause-well g c = ap (λ (s : SessionState). s.failed) c.in_err-prepare.ensures.left.rest

pub returns-in_err-prepare-clause-stopped : goal.returns-in_err-prepare-clause-stopped
returns-in_err-prepare-clause-stopped g c =
    passed_on (λ e. IsStopped e c.args.session.now c.prepare.new.session) c.from_residual.result c.from_residual.ensures.1 (stopped_there c.args.session.now c.prepare.new.session c.in_err-prepare.field-0.0 c.in_err-prepare.ensures.left)

pub returns-in_err-prepare-clause-cause : goal.returns-in_err-prepare-clause-cause
returns-in_err-prepare-clause-cause g c =
    passed_on (λ e. IsFlushCause c.args.session.now (g.K.Keeper.moment c.args.keeper.now) e (g.K.Keeper.moment c.prepare.new.keeper)) c.from_residual.result c.from_residual.ensures.1
    (reading_cause c.args.session.now c.prepare.new.session (g.K.Keeper.moment c.args.keeper.now) (g.K.Keeper.moment c.prepare.new.keeper) c.in_err-prepare.field-0.0 c.in_err-prepare.ensures.refused)

-- it was read
pub write_loaded-requires : goal.write_loaded-requires
write_loaded-requires g c = record {
  in_step = c.in_ok-prepare.ensures.call.kept.in_step;
  inside = omega (arith, ap length c.in_ok-prepare.ensures.left.scopes, c.requires.inside);
}

pub returns-clause-call : goal.returns-clause-call
unfolding write_objects
returns-clause-call g c = then_call (λ u. write_loaded) c.in_ok-prepare.ensures.call c.write_loaded.ensures.call

pub returns-clause-scopes : goal.returns-clause-scopes
returns-clause-scopes g c = c.write_loaded.ensures.scopes ∙ c.in_ok-prepare.ensures.left.scopes

pub returns-clause-well : goal.returns-clause-well
returns-clause-well g c = c.write_loaded.ensures.well ∙ ap (λ (s : SessionState). s.failed) c.in_ok-prepare.ensures.left.rest

pub returns-clause-flushed : goal.returns-clause-flushed
returns-clause-flushed g c = read_flushed c.args.session.now c.prepare.new.session c.write_loaded.new.session c.write_loaded.result c.requires.unread c.in_ok-prepare.ensures.left c.write_loaded.ensures.written

pub returns-clause-stopped : goal.returns-clause-stopped
returns-clause-stopped g c =
    IfErr-weaker c.write_loaded.result (λ e. IsUntouched e c.prepare.new.session c.write_loaded.new.session) (λ e. IsStopped e c.args.session.now c.write_loaded.new.session)
    (λ e untouched. read_stopped c.args.session.now c.prepare.new.session c.write_loaded.new.session e c.in_ok-prepare.ensures.left untouched) c.write_loaded.ensures.untouched

pub returns-clause-cause : goal.returns-clause-cause
returns-clause-cause g c =
    read_cause c.args.session.now c.prepare.new.session (g.K.Keeper.moment c.args.keeper.now) (g.K.Keeper.moment c.prepare.new.keeper) (g.K.Keeper.moment c.write_loaded.new.keeper) c.write_loaded.result c.requires.unread
    c.in_ok-prepare.ensures.left (call_calm c.in_ok-prepare.ensures.call).0 c.write_loaded.ensures.cause
