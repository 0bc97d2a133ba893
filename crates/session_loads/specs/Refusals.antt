-- Why a call that reads rows into objects is refused, and what that leaves of the session, whatever the keeper tells.
use Rattle.std.specs.Prelude.{◌≡◌, true, false, List, Option, None, Some}
use Rattle.base_core.specs.declared.ids.ClassId.{ClassId}
use Rattle.base_core.specs.declared.ids.ObjId.{ObjId}
use Rattle.base_core.specs.declared.ids.RelNo.{RelNo}
use Rattle.base_core.specs.declared.refusal.Refusal.{Refusal}
use Rattle.base_core.specs.declared.value.Value.{Value}
use Rattle.expr_types.specs.declared.select.ObjectQuery.{ObjectQuery}
use Rattle.class_mapping.specs.Mapped.{root_of}
use Rattle.main_selects.specs.MainSelect.{main_select}
use Rattle.keeper_core.specs.Store.{Store}
use Rattle.keeper_core.specs.Programs.{ends_early}
use Rattle.keeper_core.specs.Moment.{IsCalm, Moment, counters}
use Rattle.object_arena.specs.Identity.{find_identity}
use Rattle.relations.specs.declared.calls.LinkCall.{LinkCall}
use Rattle.load_calls.specs.Refreshing.{CanRefuse, IsShownDeleted}
use Rattle.load_calls.specs.Refusals.{CanRefuseLoad, CanRefuseQuery, CanRefuseRows}
pub use Rattle.session_scopes.specs.Loads.{IsLoadedFrom, IsRefusedLoad}
use Rattle.session_scopes.specs.SessionState.{AreAlikeButNotes, SessionState}
use Rattle.session_calls.specs.Refusals.{IsRefused, entered}
use Rattle.session_calls.specs.Steps.{pending_fault}
use Rattle.session_links.specs.Linking.{change_fault}
use Rattle.session_acts.specs.Outcome.{IsFlushed}
use Rattle.session_acts.specs.Refusals.{IsRefusedFlushing, IsUnwritten}
use Rattle.session_loads.specs.Asking.{asked_fault, is_unloaded_in, members_fault}
use Rattle.session_loads.specs.Rows.{IsShownGone}

-- what is so of a refusal: the session and the keeper before, the refusal, and both then
abbrev pub Refusing : Type 1
Refusing = SessionState → Moment Store → Refusal → SessionState → Moment Store → Type 0

-- ---- a load

-- of an object's expired cells
abbrev pub IsRefusedCells : ObjId → Refusing
IsRefusedCells object = IsRefusedLoad (λ mapped graph. CanRefuse mapped object) (λ mapped. IsShownDeleted mapped object)

-- of an object's link
abbrev pub IsRefusedLink : ObjId → Refusing
IsRefusedLink object = IsRefusedLoad (λ mapped graph. CanRefuseLoad mapped graph object) (λ mapped. IsShownDeleted mapped object)

-- of the objects of rows
abbrev pub IsRefusedRows : Refusing
IsRefusedRows = IsRefusedLoad CanRefuseRows (λ mapped old new e. Unit {0})

-- of the objects of a query
abbrev pub IsRefusedQuery : ObjectQuery → Refusing
IsRefusedQuery query = IsRefusedLoad (λ mapped graph. CanRefuseQuery mapped graph (main_select mapped query)) (λ mapped old new e. Unit {0})

-- of an object's whole row
abbrev pub IsRefusedWhole : ObjId → Refusing
IsRefusedWhole object = IsRefusedLoad (λ mapped graph. CanRefuse mapped object) (λ mapped. IsShownGone mapped object)

-- ---- in the transaction

-- memory or the store ended it early; or there was the fault, and nothing has happened; or what came then was refused
pub data IsRefusedHere (inside : Option Refusal) (Then : Refusing) (old : SessionState) (was : Moment Store) (e : Refusal) (new : SessionState) (now : Moment Store) : Type 0 where
  EarlyHere : ends_early e ≡ true → IsRefusedHere inside Then old was e new now
  FaultHere : inside ≡ Some e → new ≡ old → IsRefusedHere inside Then old was e new now
  ThenHere : Then old was e new now → IsRefusedHere inside Then old was e new now

-- memory or the store ended it early; or the session was not written; or it was, and then there was the fault, and nothing has
-- happened since; or what came then was refused
pub data IsRefusedWriting (again : SessionState → Option Refusal) (Then : Refusing) (old : SessionState) (was : Moment Store) (e : Refusal) (new : SessionState) (now : Moment Store) : Type 0 where
  EarlyWriting : ends_early e ≡ true → IsRefusedWriting again Then old was e new now
  NotWritten : IsUnwritten old was e new now → IsRefusedWriting again Then old was e new now
  FaultAgain : (mid : SessionState) → IsFlushed old mid → again mid ≡ Some e → new ≡ mid → IsRefusedWriting again Then old was e new now
  ThenRefused : (mid : SessionState) (late : Moment Store) → IsFlushed old mid → IsCalm (counters was) (counters late) → Then mid late e new now → IsRefusedWriting again Then old was e new now

-- ---- a whole call

-- Of a call that reads and writes nothing before: what it asks was refused, with the first fault outside the transaction or the second
-- in it; or what came then was refused, in the transaction.
pub data IsRefusedReading (before inside : Option Refusal) (Then : Refusing) (old : SessionState) (was : Moment Store) (e : Refusal) (new : SessionState) (now : Moment Store) : Type 0 where
  Unread : IsRefused before inside old e new → IsRefusedReading before inside Then old was e new now
  ReadRefused : (mid : SessionState) (late : Moment Store) → AreAlikeButNotes (entered old) mid → IsCalm (counters was) (counters late) → Then mid late e new now → IsRefusedReading before inside Then old was e new now

-- Of a call that flushes before it reads: it was refused until then; or all was written, and then there was the fault, and nothing has
-- happened since; or what came then was refused.
pub data IsRefusedLoading (before inside : Option Refusal) (again : SessionState → Option Refusal) (Then : Refusing) (old : SessionState) (was : Moment Store) (e : Refusal) (new : SessionState) (now : Moment Store) : Type 0 where
  Unflushed : IsRefusedFlushing before inside old was e new now → IsRefusedLoading before inside again Then old was e new now
  AskedAgain : (mid : SessionState) → IsFlushed (entered old) mid → again mid ≡ Some e → new ≡ mid → IsRefusedLoading before inside again Then old was e new now
  LoadRefused : (mid : SessionState) (late : Moment Store) → IsFlushed (entered old) mid → IsCalm (counters was) (counters late) → Then mid late e new now → IsRefusedLoading before inside again Then old was e new now

abbrev pub no_fault : SessionState → Option Refusal
no_fault session = None

abbrev pub IsRefusedFound : Option ObjId → Refusing
IsRefusedFound (Some object) = IsRefusedHere None (IsRefusedCells object)
IsRefusedFound None = IsRefusedHere None (IsRefusedWriting no_fault IsRefusedRows)

-- of the object of a class under a key, in the transaction
abbrev pub IsRefusedFinding : ClassId → List Value → Refusing
IsRefusedFinding class key old = IsRefusedFound (find_identity old.graph (root_of old.mapping class) key) old

abbrev pub IsRefusedFor : Option ObjId → Refusing
IsRefusedFor (Some object) old = IsRefusedReading (pending_fault old) None (IsRefusedCells object) old
IsRefusedFor None old = IsRefusedLoading (pending_fault old) None no_fault IsRefusedRows old

-- of the object of a class under a key: what is read of the object that the identity map has, or the row of a key that it lacks
abbrev pub IsRefusedGetting : ClassId → List Value → Refusing
IsRefusedGetting class key old = IsRefusedFor (find_identity old.graph (root_of old.mapping class) key) old

-- the members of a collection are known: it was loaded; or all was written, and then they were read
pub data HasMembers (owner : ObjId) (place : RelNo) (old new : SessionState) : Type 0 where
  Held : is_unloaded_in owner place old ≡ false → AreAlikeButNotes old new → HasMembers owner place old new
  Fetched : (mid : SessionState) → IsFlushed old mid → IsLoadedFrom mid new → HasMembers owner place old new

-- Of a collection that changes, in the transaction: it was refused until its members were known; or they were, and then something was
-- against the change, and nothing has happened since.
pub data IsRefusedMembers (owner : ObjId) (place : RelNo) (call : LinkCall) (old : SessionState) (was : Moment Store) (e : Refusal) (new : SessionState) (now : Moment Store) : Type 0 where
  NotKnown : IsRefusedHere (asked_fault owner place call old) (IsRefusedWriting (members_fault owner place call) (IsRefusedLink owner)) old was e new now → IsRefusedMembers owner place call old was e new now
  NotPut : (mid : SessionState) → HasMembers owner place old mid → change_fault owner place call mid ≡ Some e → new ≡ mid → IsRefusedMembers owner place call old was e new now

-- the same of the whole call
pub data IsRefusedChanging (owner : ObjId) (place : RelNo) (call : LinkCall) (old : SessionState) (was : Moment Store) (e : Refusal) (new : SessionState) (now : Moment Store) : Type 0 where
  MembersRefused : IsRefusedLoading (pending_fault old) (asked_fault owner place call old) (members_fault owner place call) (IsRefusedLink owner) old was e new now → IsRefusedChanging owner place call old was e new now
  Unchanged : (mid : SessionState) → HasMembers owner place (entered old) mid → change_fault owner place call mid ≡ Some e → new ≡ mid → IsRefusedChanging owner place call old was e new now
