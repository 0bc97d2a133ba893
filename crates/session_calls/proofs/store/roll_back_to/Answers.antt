use Rattle.std.proofs.Common.{refl}
use Rattle.keeper_core.specs.Calls as call
use Rattle.keeper_core.specs.declared.sent.Sent.TheVariants as sent
use Rattle.session_calls.proofs.Noting.{no_note_room, noted_call}
use Rattle.session_calls.proofs.store.roll_back_to.Goals as goal

pub returns-in-Err : goal.returns-in-Err
returns-in-Err g c = no_note_room g.K.Keeper.moment (call.rollback_to c.args.number) c.args.number c.in-Err.ensures.err

pub returns-in-Ok : goal.returns-in-Ok
unfolding call.rollback_to
returns-in-Ok g c = noted_call g.K.Keeper.moment (call.rollback_to c.args.number) (sent.RollbackTo c.args.number) c.args.number c.rollback_to.result (g.met.K.Keeper.coherent c.args.keeper.now) (λ w deep. (_, refl)) c.in-Ok.ensures.ok c.requires.in_step.0 c.rollback_to.ensures
