use Rattle.std.proofs.Common.{◌≡◌, Option, None, Some, false, is_some, refl, sym, ◌∙◌}
use Rattle.base_core.specs.declared.refusal.Refusal.TheVariants.{Memory}
use Rattle.prepared_objects.specs.Known.{next_unread}
use Rattle.session_calls.proofs.Joining.{passed_call}
use Rattle.session_calls.proofs.Refusing.{passed_on}
use Rattle.session_acts.specs.Refusals.{IsUnwritten}
use Rattle.session_acts.proofs.Outcomes.{memory_flush_cause, not_given_up}
use Rattle.session_acts.proofs.Steps.{no_room_alike}
use Rattle.session_acts.proofs.Unwritten.{given_up_for}
use Rattle.session_acts.proofs.flushing.flush.Goals as goal

-- whether something is to be read was not found for want of memory
pub returns-in_err-unread-clause-call : goal.returns-in_err-unread-clause-call
returns-in_err-unread-clause-call g c = passed_call c.from_residual.ensures.1 (no_room_alike g.K.Keeper.moment refl refl)

pub returns-in_err-unread-clause-refused : goal.returns-in_err-unread-clause-refused
returns-in_err-unread-clause-refused g c =
    passed_on (λ e. IsUnwritten c.args.session.now (g.K.Keeper.moment c.args.keeper.now) e c.args.session.now (g.K.Keeper.moment c.args.keeper.now)) c.from_residual.result c.from_residual.ensures.1
    (record {
      cause = memory_flush_cause c.args.session.now Memory (g.K.Keeper.moment c.args.keeper.now) (g.K.Keeper.moment c.args.keeper.now) refl;
      left = not_given_up Memory c.args.session.now c.args.session.now refl;
    })

-- something is to be read
pub flush_read-requires-clause-unread : goal.flush_read-requires-clause-unread
flush_read-requires-clause-unread g c = sym c.in_ok-unread.ensures ∙ c.if-unread.true

-- nothing is
pub flush_known-requires-clause-known : goal.flush_known-requires-clause-known
flush_known-requires-clause-known g c = none_of (next_unread c.args.session.now.mapping c.args.session.now.graph) (sym c.in_ok-unread.ensures ∙ c.if-unread.false)
  where
    none_of : {A : Type 0} (found : Option A) → is_some found ≡ false → found ≡ None
    none_of None is = refl
    none_of (Some it) is = absurd cc

-- its flush was refused
pub returns-then-unread-clause-refused : goal.returns-then-unread-clause-refused
returns-then-unread-clause-refused g c =
    given_up_for c.args.session.now c.flush_read.new.session (g.K.Keeper.moment c.args.keeper.now) (g.K.Keeper.moment c.flush_read.new.keeper) c.flush_read.result c.flush_read.ensures.left c.flush_read.ensures.cause

pub returns-clause-refused : goal.returns-clause-refused
returns-clause-refused g c =
    given_up_for c.args.session.now c.flush_known.new.session (g.K.Keeper.moment c.args.keeper.now) (g.K.Keeper.moment c.flush_known.new.keeper) c.flush_known.result c.flush_known.ensures.left c.flush_known.ensures.cause
