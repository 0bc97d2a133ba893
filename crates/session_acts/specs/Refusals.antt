-- Why a call that flushes is refused, and what that leaves of the session, whatever the keeper tells.
use Rattle.std.specs.Prelude.{Option}
use Rattle.base_core.specs.declared.refusal.Refusal.{Refusal}
use Rattle.keeper_core.specs.declared.sent.Sent.{Sent}
use Rattle.keeper_core.specs.Store.{Store}
use Rattle.keeper_core.specs.Moment.{Moment}
use Rattle.session_scopes.specs.SessionState.{SessionState}
use Rattle.session_calls.specs.Refusals.{IsRefused, entered}
use Rattle.session_statements.specs.Refusals.{IsRefusedByKeeper}
use Rattle.session_acts.specs.Outcome.{IsFlushCause, IsFlushed, IsGivenUp}

-- the session was not written: its flush was refused for its cause, and the innermost scope was given up
pub record IsUnwritten (old : SessionState) (was : Moment Store) (e : Refusal) (new : SessionState) (now : Moment Store) : Type 0 where
  pub cause : IsFlushCause old was e now
  pub left : IsGivenUp e old new

-- Of a call that flushes: what it asks first was refused, with the first fault outside the transaction or the second in it; or
-- the session, in the transaction then, was not written.
pub data IsRefusedFlushing (before inside : Option Refusal) (old : SessionState) (was : Moment Store) (e : Refusal) (new : SessionState) (now : Moment Store) : Type 0 where
  Asked : IsRefused before inside old e new → IsRefusedFlushing before inside old was e new now
  Unwritten : IsUnwritten (entered old) was e new now → IsRefusedFlushing before inside old was e new now

-- Of a call that flushes and then sends a statement: it was refused before that; or the keeper refused the statement, and the
-- session is as the flush left it.
pub data IsRefusedSending (before inside : Option Refusal) (statement : Sent) (MayRefuse : Refusal → Type 0) (old : SessionState) (was : Moment Store) (e : Refusal) (new : SessionState) (now : Moment Store) : Type 0 where
  Unflushed : IsRefusedFlushing before inside old was e new now → IsRefusedSending before inside statement MayRefuse old was e new now
  Unsent : (mid : SessionState) → IsFlushed (entered old) mid → IsRefusedByKeeper statement MayRefuse mid was e new now → IsRefusedSending before inside statement MayRefuse old was e new now
