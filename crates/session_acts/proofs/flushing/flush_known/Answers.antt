use Rattle.std.proofs.Common.{length, Result, Ok, Err, sym, ap, ◌∙◌, arith}
use Rattle.session_calls.proofs.Joining.{passed_call}
use Rattle.session_calls.proofs.Refusing.{call_calm, passed_on}
use Rattle.object_records.specs.Kept.{held_in}
use Rattle.session_acts.specs.Flush.{give_up_to}
use Rattle.session_acts.specs.Outcome.{IsFlushCause, IsGivenUp}
use Rattle.session_acts.proofs.Guarding.{answers, ended, lost_undo, undone}
use Rattle.session_acts.proofs.Outcomes.{calm_flush_cause, early_flush_cause, known_cause, known_flushed, known_given_up, not_given_up}
use Rattle.session_acts.proofs.FlushingSteps.{guarded, known_call, known_gave_up}
use Rattle.base_core.specs.declared.refusal.Refusal.{Refusal}
use Rattle.session_acts.proofs.flushing.flush_known.Goals as goal

pub returns-in-Ok-clause-call : goal.returns-in-Ok-clause-call
returns-in-Ok-clause-call g c = guarded g.K.Keeper.moment (answers (give_up_to (held_in c.args.session.now.graph)) (known_call g.K.Keeper.moment c.requires.known c.requires.in_step c.in-Ok.ensures.call))

pub returns-in-Ok-clause-well : goal.returns-in-Ok-clause-well
returns-in-Ok-clause-well g c = c.in-Ok.ensures.well ∙ c.requires.well

-- memory or the store ended it early
pub returns-then-ends_early-clause-call : goal.returns-then-ends_early-clause-call
returns-then-ends_early-clause-call g c = guarded g.K.Keeper.moment
    (ended (give_up_to (held_in c.args.session.now.graph)) (sym c.ends_early.ensures ∙ c.if-ends_early.true) (known_call g.K.Keeper.moment c.requires.known c.requires.in_step c.in-Err.ensures.call))

pub returns-then-ends_early-clause-left : goal.returns-then-ends_early-clause-left
returns-then-ends_early-clause-left g c = not_given_up c.in-Err.refusal c.args.session.now c.write_loaded.new.session (sym c.ends_early.ensures ∙ c.if-ends_early.true)

-- it is given up
pub give_up-requires : goal.give_up-requires
give_up-requires g c = record {
  in_step = c.in-Err.ensures.call.kept.in_step (sym c.ends_early.ensures ∙ c.if-ends_early.false);
  inside = omega (arith, ap length c.in-Err.ensures.scopes, c.requires.inside);
  well = c.in-Err.ensures.well ∙ c.requires.well;
}

pub returns-in_err-give_up-in-Err-clause-call : goal.returns-in_err-give_up-in-Err-clause-call
returns-in_err-give_up-in-Err-clause-call g c =
    passed_call c.from_residual.ensures.1
    (guarded g.K.Keeper.moment
    (lost_undo (sym c.ends_early.ensures ∙ c.if-ends_early.false) (known_call g.K.Keeper.moment c.requires.known c.requires.in_step c.in-Err.ensures.call)
    (known_gave_up g.K.Keeper.moment c.args.session.now c.in-Err.refusal (sym c.ends_early.ensures ∙ c.if-ends_early.false) c.in-Err.ensures.untouched (c.in-Err.ensures.call.kept.in_step (sym c.ends_early.ensures ∙ c.if-ends_early.false)) c.in_err-give_up-in-Err.ensures.call)))

pub returns-in_err-give_up-in-Err-clause-left : goal.returns-in_err-give_up-in-Err-clause-left
returns-in_err-give_up-in-Err-clause-left g c =
    passed_on (λ e. IsGivenUp e c.args.session.now c.give_up.new.session) c.from_residual.result c.from_residual.ensures.1 (not_given_up c.in_err-give_up-in-Err.field-0.0 c.args.session.now c.give_up.new.session c.in_err-give_up-in-Err.ensures.stops)

pub returns-in_err-give_up-in-Err-clause-cause : goal.returns-in_err-give_up-in-Err-clause-cause
returns-in_err-give_up-in-Err-clause-cause g c =
    passed_on (λ e. IsFlushCause c.args.session.now (g.K.Keeper.moment c.args.keeper.now) e (g.K.Keeper.moment c.give_up.new.keeper)) c.from_residual.result c.from_residual.ensures.1
    (early_flush_cause c.args.session.now c.in_err-give_up-in-Err.field-0.0 (g.K.Keeper.moment c.args.keeper.now) (g.K.Keeper.moment c.give_up.new.keeper) c.in_err-give_up-in-Err.ensures.stops)

pub returns-in_ok-give_up-in-Err-clause-call : goal.returns-in_ok-give_up-in-Err-clause-call
returns-in_ok-give_up-in-Err-clause-call g c =
    guarded g.K.Keeper.moment
    (undone (sym c.ends_early.ensures ∙ c.if-ends_early.false) (known_call g.K.Keeper.moment c.requires.known c.requires.in_step c.in-Err.ensures.call)
    (known_gave_up g.K.Keeper.moment c.args.session.now c.in-Err.refusal (sym c.ends_early.ensures ∙ c.if-ends_early.false) c.in-Err.ensures.untouched (c.in-Err.ensures.call.kept.in_step (sym c.ends_early.ensures ∙ c.if-ends_early.false)) c.in_ok-give_up-in-Err.ensures.call))

pub returns-in_ok-give_up-in-Err-clause-left : goal.returns-in_ok-give_up-in-Err-clause-left
returns-in_ok-give_up-in-Err-clause-left g c = known_given_up c.in-Err.refusal c.args.session.now c.write_loaded.new.session c.give_up.new.session c.in-Err.ensures.untouched c.in_ok-give_up-in-Err.ensures.left

pub returns-in_ok-give_up-in-Err-clause-cause : goal.returns-in_ok-give_up-in-Err-clause-cause
returns-in_ok-give_up-in-Err-clause-cause g c =
    calm_flush_cause c.args.session.now c.in-Err.refusal (g.K.Keeper.moment c.args.keeper.now) (g.K.Keeper.moment c.write_loaded.new.keeper) (g.K.Keeper.moment c.give_up.new.keeper) (call_calm c.in_ok-give_up-in-Err.ensures.call)
    (known_cause c.args.session.now (g.K.Keeper.moment c.args.keeper.now) (g.K.Keeper.moment c.write_loaded.new.keeper) (let r : Result (Unit {0}) Refusal = Err c.in-Err.refusal in r) c.in-Err.ensures.cause)

pub returns-then-ends_early-clause-cause : goal.returns-then-ends_early-clause-cause
returns-then-ends_early-clause-cause g c =
    known_cause c.args.session.now (g.K.Keeper.moment c.args.keeper.now) (g.K.Keeper.moment c.write_loaded.new.keeper) (let r : Result (Unit {0}) Refusal = Err c.in-Err.refusal in r) c.in-Err.ensures.cause

pub returns-in-Ok-clause-flushed : goal.returns-in-Ok-clause-flushed
returns-in-Ok-clause-flushed g c = known_flushed c.args.session.now c.write_loaded.new.session (let r : Result (Unit {0}) Refusal = Ok tt in r) c.in-Ok.ensures.written
