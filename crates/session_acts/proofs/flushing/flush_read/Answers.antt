use Rattle.std.proofs.Common.{length, refl, sym, ap, ◌∙◌, arith}
use Rattle.session_calls.proofs.Joining.{passed_call}
use Rattle.session_calls.proofs.Refusing.{call_calm, passed_on}
use Rattle.object_records.specs.Kept.{held_in}
use Rattle.session_acts.specs.Flush.{give_up_to}
use Rattle.session_acts.specs.Outcome.{IsFlushCause, IsGivenUp}
use Rattle.session_acts.proofs.Guarding.{answers, ended, lost_undo, undone}
use Rattle.session_acts.proofs.Outcomes.{calm_flush_cause, early_flush_cause, loaded_so_far, memory_flush_cause, not_given_up, read_given_up}
use Rattle.session_acts.proofs.FlushingSteps.{gave_read, given_in_step, guarded, kept_since}
use Rattle.session_acts.proofs.Steps.{no_room_alike}
use Rattle.session_scopes.specs.SessionState.{SessionState}
use Rattle.base_core.specs.declared.refusal.Refusal.TheVariants.{Memory}
use Rattle.session_acts.proofs.flushing.flush_read.Goals as goal

pub returns-in-Ok-clause-call : goal.returns-in-Ok-clause-call
returns-in-Ok-clause-call g c = guarded g.K.Keeper.moment (answers (give_up_to (held_in c.args.session.now.graph)) c.in-Ok.ensures.call)

pub returns-in-Ok-clause-well : goal.returns-in-Ok-clause-well
returns-in-Ok-clause-well g c = c.in-Ok.ensures.well ∙ c.requires.well

-- memory or the store ended it early
pub returns-then-ends_early-clause-call : goal.returns-then-ends_early-clause-call
returns-then-ends_early-clause-call g c = guarded g.K.Keeper.moment
    (ended (give_up_to (held_in c.args.session.now.graph)) (sym c.ends_early.ensures ∙ c.if-ends_early.true) c.in-Err.ensures.call)

pub returns-then-ends_early-clause-left : goal.returns-then-ends_early-clause-left
returns-then-ends_early-clause-left g c = not_given_up c.in-Err.refusal c.args.session.now c.write_objects.new.session (sym c.ends_early.ensures ∙ c.if-ends_early.true)

-- what was read is given back
pub give_back-requires : goal.give_back-requires
give_back-requires g c =
    kept_since c.args.session.now c.write_objects.new.session c.in_ok-kept.kept c.in_ok-kept.ensures.kept
    (loaded_so_far c.args.session.now c.write_objects.new.session c.in-Err.refusal (sym c.ends_early.ensures ∙ c.if-ends_early.false) c.in-Err.ensures.stopped)

-- it is given up
pub give_up-requires : goal.give_up-requires
give_up-requires g c = record {
  in_step = given_in_step (g.K.Keeper.moment c.write_objects.new.keeper) c.write_objects.new.session c.give_back.new.self c.in_ok-kept.kept c.give_back.ensures.given (c.in-Err.ensures.call.kept.in_step (sym c.ends_early.ensures ∙ c.if-ends_early.false));
  inside = let long = ap (λ (s : SessionState). length s.frames.scopes) c.give_back.ensures.given in omega (arith, long, ap length c.in-Err.ensures.scopes, c.requires.inside);
  well = ap (λ (s : SessionState). s.failed) c.give_back.ensures.given ∙ c.in-Err.ensures.well ∙ c.requires.well;
}

pub returns-in_err-give_up-in-Err-clause-call : goal.returns-in_err-give_up-in-Err-clause-call
returns-in_err-give_up-in-Err-clause-call g c =
    passed_call c.from_residual-in_err-give_up-in-Err.ensures.1
    (guarded g.K.Keeper.moment
    (lost_undo (sym c.ends_early.ensures ∙ c.if-ends_early.false) c.in-Err.ensures.call
    (gave_read g.K.Keeper.moment c.args.session.now c.in_ok-kept.ensures.held (c.in-Err.ensures.call.kept.in_step (sym c.ends_early.ensures ∙ c.if-ends_early.false)) c.give_back.ensures.given c.give_back.ensures.same c.in_err-give_up-in-Err.ensures.call)))

pub returns-in_err-give_up-in-Err-clause-left : goal.returns-in_err-give_up-in-Err-clause-left
returns-in_err-give_up-in-Err-clause-left g c =
    passed_on (λ e. IsGivenUp e c.args.session.now c.give_up.new.session) c.from_residual-in_err-give_up-in-Err.result c.from_residual-in_err-give_up-in-Err.ensures.1 (not_given_up c.in_err-give_up-in-Err.field-0.0 c.args.session.now c.give_up.new.session c.in_err-give_up-in-Err.ensures.stops)

pub returns-in_err-give_up-in-Err-clause-cause : goal.returns-in_err-give_up-in-Err-clause-cause
returns-in_err-give_up-in-Err-clause-cause g c =
    passed_on (λ e. IsFlushCause c.args.session.now (g.K.Keeper.moment c.args.keeper.now) e (g.K.Keeper.moment c.give_up.new.keeper)) c.from_residual-in_err-give_up-in-Err.result c.from_residual-in_err-give_up-in-Err.ensures.1
    (early_flush_cause c.args.session.now c.in_err-give_up-in-Err.field-0.0 (g.K.Keeper.moment c.args.keeper.now) (g.K.Keeper.moment c.give_up.new.keeper) c.in_err-give_up-in-Err.ensures.stops)

pub returns-in_ok-give_up-in-Err-clause-call : goal.returns-in_ok-give_up-in-Err-clause-call
returns-in_ok-give_up-in-Err-clause-call g c =
    guarded g.K.Keeper.moment
    (undone (sym c.ends_early.ensures ∙ c.if-ends_early.false) c.in-Err.ensures.call
    (gave_read g.K.Keeper.moment c.args.session.now c.in_ok-kept.ensures.held (c.in-Err.ensures.call.kept.in_step (sym c.ends_early.ensures ∙ c.if-ends_early.false)) c.give_back.ensures.given c.give_back.ensures.same c.in_ok-give_up-in-Err.ensures.call))

pub returns-in_ok-give_up-in-Err-clause-left : goal.returns-in_ok-give_up-in-Err-clause-left
returns-in_ok-give_up-in-Err-clause-left g c = read_given_up c.in-Err.refusal c.args.session.now c.write_objects.new.session c.give_back.new.self c.give_up.new.session c.in_ok-kept.kept c.in-Err.ensures.stopped c.in_ok-kept.ensures.held c.give_back.ensures.given c.in_ok-give_up-in-Err.ensures.left

pub returns-in_ok-give_up-in-Err-clause-cause : goal.returns-in_ok-give_up-in-Err-clause-cause
returns-in_ok-give_up-in-Err-clause-cause g c =
    calm_flush_cause c.args.session.now c.in-Err.refusal (g.K.Keeper.moment c.args.keeper.now) (g.K.Keeper.moment c.write_objects.new.keeper) (g.K.Keeper.moment c.give_up.new.keeper) (call_calm c.in_ok-give_up-in-Err.ensures.call)
    c.in-Err.ensures.cause

-- there was no room for what is kept
pub returns-in_err-kept-clause-call : goal.returns-in_err-kept-clause-call
returns-in_err-kept-clause-call g c = passed_call c.from_residual.ensures.1 (no_room_alike g.K.Keeper.moment refl refl)

pub returns-in_err-kept-clause-left : goal.returns-in_err-kept-clause-left
returns-in_err-kept-clause-left g c =
    passed_on (λ e. IsGivenUp e c.args.session.now c.args.session.now) c.from_residual.result c.from_residual.ensures.1 (not_given_up Memory c.args.session.now c.args.session.now refl)

pub returns-in_err-kept-clause-cause : goal.returns-in_err-kept-clause-cause
returns-in_err-kept-clause-cause g c =
    passed_on (λ e. IsFlushCause c.args.session.now (g.K.Keeper.moment c.args.keeper.now) e (g.K.Keeper.moment c.args.keeper.now)) c.from_residual.result c.from_residual.ensures.1
    (memory_flush_cause c.args.session.now Memory (g.K.Keeper.moment c.args.keeper.now) (g.K.Keeper.moment c.args.keeper.now) refl)
