-- What a call of the session is refused for, and what that leaves of the session, whatever the keeper tells.
use Rattle.std.specs.Prelude.{◌≡◌, true, Option, None, Some, Result, Ok, Err, if◌then◌else◌}
use Rattle.base_core.specs.declared.ids.AttrNo.{AttrNo}
use Rattle.base_core.specs.declared.ids.ObjId.{ObjId}
use Rattle.base_core.specs.declared.refusal.Refusal.{Refusal}
use Rattle.base_core.specs.declared.value.Value.{Value}
use Rattle.object_arena.specs.Graph.{either_fault, key_fault, object_at, value_fault}
use Rattle.keeper_core.specs.Programs.{ends_early}
use Rattle.session_scopes.specs.Changes.{delete_fault}
use Rattle.session_scopes.specs.Scoping.{session_begun}
use Rattle.session_scopes.specs.SessionState.{AreAlikeButNotes, SessionState, in_transaction}
use Rattle.session_calls.specs.Steps.{pending_fault}

-- ---- what is left

-- the session in the transaction: as it stands where one is in progress, and else with the transaction's scope begun
abbrev pub entered : SessionState → SessionState
entered session = record session { frames = if in_transaction session then session.frames else (session_begun session).frames }

-- Why a call was refused, and what it left: memory or the store ended it early; or the session had the first fault, and stays as
-- it was; or it had none such, but the second fault in the transaction, and nothing has happened but that the transaction began.
pub data IsRefused (before inside : Option Refusal) (old : SessionState) (e : Refusal) (new : SessionState) : Type 0 where
  Early : ends_early e ≡ true → IsRefused before inside old e new
  Before : before ≡ Some e → new ≡ old → IsRefused before inside old e new
  Inside : before ≡ None → inside ≡ Some e → AreAlikeButNotes (entered old) new → IsRefused before inside old e new

-- ---- the faults of calls on objects

-- a value of another kind than the attribute's, or a rollback that is awaited
abbrev pub set_fault : ObjId → AttrNo → Value → SessionState → Option Refusal
set_fault object attr value session = either_fault (value_fault session.mapping (object_at session.graph object) attr value) (pending_fault session)

-- the cell is of the key of an object with an identity
abbrev pub kept_fault : ObjId → AttrNo → SessionState → Option Refusal
kept_fault object attr session = key_fault session.mapping (object_at session.graph object) attr

abbrev pub fault_in : {A : Type 0} → Result A Refusal → Option Refusal
fault_in (Ok value) = None
fault_in (Err fault) = Some fault

-- only a persistent object is deleted
abbrev pub mark_fault : ObjId → SessionState → Option Refusal
mark_fault object session = delete_fault (object_at session.graph object)
