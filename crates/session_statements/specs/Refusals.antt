-- Why a statement of a session was refused, and what that leaves, whatever the keeper tells.
use Rattle.std.specs.Prelude.{◌≡◌, Some, MatchBool}
use Rattle.base_core.specs.Counts.{Rose}
use Rattle.base_core.specs.declared.refusal.Refusal.{Refusal}
use Rattle.keeper_core.specs.declared.sent.Sent.{Sent}
use Rattle.keeper_core.specs.Moment.{Moment}
use Rattle.keeper_core.specs.Programs.{ends_early}
use Rattle.session_scopes.specs.SessionState.{AreAlikeButNotes, SessionState}

-- Memory or the store ended it early; or the keeper refused the statement for what may refuse it, and keeps that as its last
-- refusal, and all but the notes of the session is as it was.
abbrev pub IsRefusedByKeeper : {W : Type 0} → Sent → (Refusal → Type 0) → SessionState → Moment W → Refusal → SessionState → Moment W → Type 0
IsRefusedByKeeper statement MayRefuse old was e new now =
    MatchBool (ends_early e) (Unit {0}) (MayRefuse e × Rose was.refusals now.refusals × (now.last ≡ Some (record { statement = statement; refusal = e })) × AreAlikeButNotes old new)
