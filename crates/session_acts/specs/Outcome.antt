-- What a flush leaves of the session, and why it is refused, whatever the keeper tells.
use Rattle.std.specs.Prelude.{◌≡◌, ◌⊎◌, List, length, None, Result, Ok, Err, MatchBool}
use Rattle.base_core.specs.declared.refusal.Refusal.{Refusal}
use Rattle.base_core.specs.declared.refusal.Refusal.TheVariants.{Memory}
use Rattle.base_core.specs.declared.value.Value.{Value}
use Rattle.schema_core.specs.declared.changes.Planned.{Planned}
use Rattle.schema_core.specs.declared.changes.RowChanges.{RowChanges}
use Rattle.schema_core.specs.Catalog.{Catalog}
use Rattle.class_mapping.specs.Mapped.{Mapped}
use Rattle.object_records.specs.Kept.{held_in}
use Rattle.object_rows.specs.declared.prepared.Prepared.{Prepared}
use Rattle.row_project.specs.Changes.{project}
use Rattle.flush_plan.specs.Planning.{plan}
use Rattle.keeper_core.specs.Programs.{ends_early}
use Rattle.keeper_core.specs.Store.{Store}
use Rattle.keeper_core.specs.Moment.{IsCalm, Moment, counters}
use Rattle.prepared_objects.specs.Known.{next_unread}
use Rattle.prepared_objects.specs.Leaving.{prepared_of}
use Rattle.load_rows.specs.Loading.{Loading}
use Rattle.load_preparing.specs.Refusals.{CanRefuseReading, IsShownReading}
use Rattle.session_scopes.specs.Keeping.{session_given_back}
use Rattle.session_scopes.specs.Loads.{IsLoadedFrom, IsRefusedLoad}
use Rattle.session_scopes.specs.Scoping.{session_failed}
use Rattle.session_scopes.specs.SessionState.{AreAlikeButNotes, SessionState}
use Rattle.session_statements.specs.Run.{IsCause}
use Rattle.session_acts.specs.Flush.{session_flushed}

-- what the session, once it is prepared, changes by a flush
abbrev pub changes_of : SessionState → RowChanges
changes_of session = project session.mapping session.graph (prepared_of session.mapping session.graph)

-- ---- what is read

-- memory ran out, or what refuses the reading of an object that was to be deleted is shown
abbrev pub IsShownAsRead : Mapped → Loading × Moment Store → Loading × Moment Store → Refusal → Type 0
IsShownAsRead mapped old new refusal = (refusal ≡ Memory) ⊎ IsShownReading mapped old new refusal

-- ---- what is left

-- The session is prepared: only what rows gave has changed, and where nothing was to be read nothing has.
pub record IsPreparedFrom (old mid : SessionState) : Type 0 where
  pub loaded : IsLoadedFrom old mid
  pub still : next_unread old.mapping old.graph ≡ None → mid ≡ old

-- the objects stand as they were written, under some keys of the new rows, and all else but the notes is as it was
abbrev pub IsWritten : Prepared → RowChanges → SessionState → SessionState → Type 0
IsWritten prepared rows old new = (keys : List (List Value)) × (length keys ≡ length rows.fresh) × AreAlikeButNotes (session_flushed prepared rows keys old) new

-- the session was prepared, and written
abbrev pub IsFlushed : SessionState → SessionState → Type 0
IsFlushed old new = (mid : SessionState) × IsPreparedFrom old mid × IsWritten (prepared_of mid.mapping mid.graph) (changes_of mid) mid new

-- so far nothing but the notes has changed, unless memory or the store ended it early
abbrev pub IsUntouched : Refusal → SessionState → SessionState → Type 0
IsUntouched e old new = MatchBool (ends_early e) (Unit {0}) (AreAlikeButNotes old new)

-- so far only what rows gave has changed, unless memory or the store ended the flush early
abbrev pub IsStopped : Refusal → SessionState → SessionState → Type 0
IsStopped e old new = MatchBool (ends_early e) (Unit {0}) (IsLoadedFrom old new)

-- The session was prepared, as far as that was not refused; the objects that there were had the cells and links then that they had
-- before; and each object stands where it stood at the start of the innermost scope, which has ended. A rollback is awaited, and all
-- else but the notes is as it was; unless memory or the store ended the flush early.
abbrev pub IsGivenUp : Refusal → SessionState → SessionState → Type 0
IsGivenUp e old new =
    MatchBool (ends_early e) (Unit {0}) ((mid : SessionState) × IsLoadedFrom old mid × AreAlikeButNotes (session_failed (session_given_back (held_in old.graph) mid)) new)

-- ---- why it is refused

-- where there is no plan its cycle is the refusal, and else what ended the run of the plan
abbrev pub IsCauseUnder : {W : Type 0} → Catalog → RowChanges → Result (List Planned) Refusal → Moment W → Refusal → Moment W → Type 0
IsCauseUnder schema rows (Ok statements) old e new = IsCause schema rows statements old e new
IsCauseUnder schema rows (Err cycle) old e new = MatchBool (ends_early e) (Unit {0}) (e ≡ cycle)

-- why these changes were not written
abbrev pub IsWriteCause : {W : Type 0} → Catalog → RowChanges → Moment W → Refusal → Moment W → Type 0
IsWriteCause schema rows old e new = IsCauseUnder schema rows (plan schema rows) old e new

-- The flush was refused: its preparation was, for what may refuse the reading of an object that was to be deleted; or the session
-- was prepared, and its changes were not written.
pub data IsFlushCause (old : SessionState) (was : Moment Store) (e : Refusal) (now : Moment Store) : Type 0 where
  Unprepared : (mid : SessionState) (late : Moment Store) → IsRefusedLoad CanRefuseReading IsShownAsRead old was e mid late → IsCalm (counters late) (counters now) → IsFlushCause old was e now
  Unsent : (mid : SessionState) (late : Moment Store) → IsPreparedFrom old mid → late.refusals ≡ was.refusals → IsWriteCause mid.mapping.schema (changes_of mid) late e now → IsFlushCause old was e now
