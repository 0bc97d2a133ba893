-- How a run stands to the reference: what went out, the statements that were sent, the status and the tables.
use Rattle.std.specs.Prelude.{◌≡◌, ◌<◌, ◌≤◌, ℕ, Bool, true, false, List, [], ◌∷◌, ◌++◌, length, take, codes, Option, None, Some, Result, Ok, Err, IfOk, ◌⊎◌}
use Rattle.base_core.specs.declared.refusal.Refusal.{Refusal}
use Rattle.class_types.specs.Rules.{Rules}
use Rattle.keeper_core.specs.declared.sent.Sent.TheVariants.{Rollback}
use Rattle.keeper_core.specs.Store.{Store}
use Rattle.keeper_core.specs.Programs.{Event, Log, Run, Sends, after_events, each}
use Rattle.keeper_core.specs.Moment.{Moment, Told, Runs}
use Rattle.keeper_core.specs.Keeping.{IsOpened}
use Rattle.schema_core.specs.Tables.{Tables}
use Rattle.keeper_core.specs.declared.target.Target.{Target}
use Rattle.keeper_core.specs.declared.target.Target.TheVariants as targets
use Rattle.keeper_core.specs.Beside.{Beside}
use Rattle.shell_replies.specs.declared.notes.PrintOptions.{PrintOptions}
use Rattle.shell_steps.specs.ShellState.{ShellState}
use Rattle.sqla_shell.specs.declared.ending.Ending.{Ending}
use Rattle.sqla_shell.specs.declared.ending.Ending.TheVariants.{Finished, TooLong}
use Rattle.sqla_shell.specs.declared.stop.Stop.{Stop}
use Rattle.sqla_shell.specs.declared.status.Status.{Status}
use Rattle.sqla_shell.specs.declared.status.Status.TheVariants as status
use Rattle.sqla_shell.specs.Seen.{KeepsKeeper, Seen}
use Rattle.sqla_shell.specs.Causes.{done_status, stop_status}
use Rattle.byte_streams.specs.Scripts.{lines_of}
use Rattle.sqla_shell.specs.Reference.{do_and_reply, reference_over, script}

-- ---- what is seen of a shell, a keeper and a sink

-- what the outside has seen of a keeper and of a sink
abbrev pub log_with : Log → List ℕ → Log
log_with log written = record { sent = log.sent; committed = log.committed; written = written }

abbrev pub told_writing : {S : Type 0} → S → Option (Told Store) → Option (List ℕ) → Option (Told (Beside S))
told_writing own None written = None
told_writing own (Some told) None = None
told_writing own (Some told) (Some written) = Some (record { world = record { own = own; store = told.world }; log = log_with told.log written })

-- what is seen where both the keeper and the sink tell; refusals have been answered in text
unfoldable pub moment_writing : {S K O : Type 0} → (K → Moment Store) → (O → Option (List ℕ)) → S × K × O → Moment (Beside S)
moment_writing moment written s = record {
  told = told_writing s.0 (moment s.1).told (written s.2);
  tells = (moment s.1).tells;
  faults = (moment s.1).faults;
  refusals = 0;
  last = None;
  depth = (moment s.1).depth;
  target = (moment s.1).target;
  attached = (moment s.1).attached;
}

-- ---- the parts of a run

-- all of a piece went out, or where that stopped less of it
abbrev pub HasWritten : Option (List ℕ) → List ℕ → Result (Unit {0}) Stop → Option (List ℕ) → Type 0
HasWritten None piece result now = Unit {0}
HasWritten (Some before) piece result None = ⊥
HasWritten (Some before) piece (Ok u) (Some now) = now ≡ before ++ piece
HasWritten (Some before) piece (Err stop) (Some now) = (count : ℕ) × (count < length piece) × (now ≡ before ++ take count piece)

-- nothing is left with a source that told what it had
abbrev pub HasNothingLeft : Option (List ℕ) → Option (List ℕ) → Type 0
HasNothingLeft None left = Unit {0}
HasNothingLeft (Some bytes) left = left ≡ Some []

-- how the lines end
abbrev pub ending_of : Bool → Ending
ending_of true = TooLong
ending_of false = Finished

-- the lines of the script were done, and how they end is told
abbrev pub DoesLines : {S : Type 0} → Rules → Option (List ℕ) → (S → Moment (Beside ShellState)) → S → Result Ending Refusal → S → Type 0
DoesLines rules None tell old result new = Unit {0}
DoesLines rules (Some bytes) tell old result new =
    Runs tell (λ e. tt) (each (do_and_reply rules) tt (lines_of bytes).lines) old result new × IfOk result (λ e. e ≡ ending_of (lines_of bytes).too_long)

-- the script was done
abbrev pub DoesScript : {S : Type 0} → Rules → Option (List ℕ) → (S → Moment (Beside ShellState)) → S → Result Ending Refusal → S → Type 0
DoesScript rules None tell old result new = Unit {0}
DoesScript rules (Some bytes) tell old result new = Runs tell (λ e. e) (script rules bytes) old result new

-- ---- the end of a run

-- a transaction that was in progress where the run stopped is rolled back
abbrev pub IsUndone : Log → List Event → Type 0
IsUndone log events = (events ≡ []) ⊎ (events ≡ Sends Rollback log.committed ∷ [])

-- the reference was done to its end, with this ending
pub record IsWhole (run : Run (Beside ShellState) Ending) (ending : Ending) (first now : Log) : Type 0 where
  pub answer : run.answer ≡ Ok ending
  pub log : now ≡ after_events first run.events

-- the reference was stopped: what the outside has seen is a prefix of its events, with the transaction rolled back
pub record IsStopped (run : Run (Beside ShellState) Ending) (first now : Log) : Type 0 where
  pub prefix : List Event
  pub rest : List Event
  pub undone : List Event
  pub events : prefix ++ rest ≡ run.events
  pub undoing : IsUndone (after_events first prefix) undone
  pub log : now ≡ after_events first (prefix ++ undone)

-- a limit was passed: the lines before it were done, and the transaction rolled back
pub record IsCutShort (run : Run (Beside ShellState) Ending) (first now : Log) : Type 0 where
  pub undone : List Event
  pub answer : run.answer ≡ Ok TooLong
  pub undoing : IsUndone (after_events first run.events) undone
  pub log : now ≡ after_events first (run.events ++ undone)

-- what the outside has seen at the end of a run with this status, where it had seen the first log before
abbrev pub Ends : Run (Beside ShellState) Ending → Log → Status → Log → Type 0
Ends run first status.Done now = IsWhole run Finished first now × (run.after.own.desk.refused ≡ false)
Ends run first status.Refused now = IsWhole run Finished first now × (run.after.own.desk.refused ≡ true)
Ends run first status.Usage now = ⊥
Ends run first status.ReadFault now = IsStopped run first now
Ends run first status.WriteFault now = IsStopped run first now
Ends run first status.KeeperFault now = IsStopped run first now
Ends run first status.Memory now = IsStopped run first now
Ends run first status.TooLong now = IsCutShort run first now

-- no scope is open, and the tables are those that were committed last
abbrev pub IsSettled : Told Store → Type 0
IsSettled told = (told.world.scopes ≡ []) × (told.world.tables ≡ told.log.committed)

-- The run of a script is the reference's over the tables that a keeper told at first; bytes written before are before, those at the end
-- are written. No scope is open at first, nor at the end.
pub record EndsOver (options : PrintOptions) (rules : Rules) (bytes : List ℕ) (first : Told Store) (before : List ℕ) (end : Status) (now : Told Store) (written : List ℕ) : Type 0 where
  pub began : IsSettled first
  pub run : Ends (reference_over options rules first.world.tables bytes) (log_with first.log before) end (log_with now.log written)
  pub settled : IsSettled now

-- a keeper in memory that told goes on telling
abbrev pub IsSilent : Target → Option (Told Store) → Type 0
IsSilent targets.Memory told = told ≡ None
IsSilent (targets.File name) told = Unit {0}

-- The run over a keeper that took its target. It began with the tables in that: none in memory, and these in a file.
abbrev pub IsTakenRun : PrintOptions → Rules → Target → Option Tables → Option (List ℕ) → Option (List ℕ) → Option (Told Store) → Status → Option (List ℕ) → Option (Told Store) → Type 0
IsTakenRun options rules target opening None before told end written now = Unit {0}
IsTakenRun options rules target opening (Some bytes) None told end written now = Unit {0}
IsTakenRun options rules target opening (Some bytes) (Some before) told end written None = IsSilent target told
IsTakenRun options rules target opening (Some bytes) (Some before) told end None (Some now) = ⊥
IsTakenRun options rules target opening (Some bytes) (Some before) told end (Some written) (Some now) =
    (first : Told Store) × IsOpened target first × (opening ≡ Some first.world.tables) × EndsOver options rules bytes first before end now written

-- a keeper that did not take its target: nothing is read, nothing goes out, and what it tells is as it was
abbrev pub IsUntaken : Seen → Status → Seen → Type 0
IsUntaken old end new =
    (new.left ≡ old.left) × (new.written ≡ old.written) × (new.keeper.told ≡ old.keeper.told) × ((end ≡ status.KeeperFault) ⊎ (end ≡ status.Memory))

abbrev pub IsReferenceWhere : Bool → PrintOptions → Rules → Target → Option Tables → Seen → Status → Seen → Type 0
IsReferenceWhere true options rules target opening old end new = IsTakenRun options rules target opening old.left old.written old.keeper.told end new.written new.keeper.told
IsReferenceWhere false options rules target opening old end new = IsUntaken old end new

-- The run of a script is the reference's: where the source tells the script's bytes, the sink what was written and the keeper its
-- tables once it has its target, what went out, the statements sent, the status and the tables at the end are those of the
-- reference, from the tables in the target. A keeper in memory that told before goes on telling.
abbrev pub IsReference : PrintOptions → Rules → Target → Option Tables → Seen → Status → Seen → Type 0
IsReference options rules target opening old end new = IsReferenceWhere new.keeper.attached options rules target opening old end new

-- nothing is left of a script that was done to its end
abbrev pub IsReadThrough : Status → Option (List ℕ) → Option (List ℕ) → Type 0
IsReadThrough status.Done old new = HasNothingLeft old new
IsReadThrough status.Refused old new = HasNothingLeft old new
IsReadThrough end old new = Unit {0}

-- ---- the parts of the end

-- the transaction was rolled back, where one was in progress and the keeper did it
abbrev pub IsRolledBack : Option (Told Store) → Option (Told Store) → Type 0
IsRolledBack None now = Unit {0}
IsRolledBack (Some told) None = ⊥
IsRolledBack (Some told) (Some now) = (undone : List Event) × IsUndone told.log undone × (now.log ≡ after_events told.log undone)

-- a keeper at the end of a run: no scope is open, its count of faults did not fall, and it stays what it is
pub record Rests (old new : Moment Store) : Type 0 where
  pub depth : new.depth ≡ 0
  pub faults : old.faults ≤ new.faults
  pub keeper : KeepsKeeper old new

-- how a run is concluded once its script was done or stopped
abbrev pub Concludes : Result Ending Stop → Bool → Option (Told Store) → Status → Option (Told Store) → Type 0
Concludes (Ok Finished) refused told end now = (end ≡ done_status refused) × (now ≡ told)
Concludes (Ok TooLong) refused told end now = (end ≡ status.TooLong) × IsRolledBack told now
Concludes (Err stop) refused told end now = (end ≡ stop_status stop) × IsRolledBack told now

abbrev pub IsDoneOf : PrintOptions → Rules → Option (List ℕ) → Option (List ℕ) → Option (Told Store) → Status → Option (List ℕ) → Option (Told Store) → Type 0
IsDoneOf options rules None before told end written now = Unit {0}
IsDoneOf options rules (Some bytes) None told end written now = Unit {0}
IsDoneOf options rules (Some bytes) (Some before) None end written now = Unit {0}
IsDoneOf options rules (Some bytes) (Some before) (Some told) end None now = ⊥
IsDoneOf options rules (Some bytes) (Some before) (Some told) end (Some written) None = ⊥
IsDoneOf options rules (Some bytes) (Some before) (Some told) end (Some written) (Some now) = EndsOver options rules bytes told before end now written

-- the run of a script over a keeper that has no scope open
abbrev pub IsDone : PrintOptions → Rules → Seen → Status → Seen → Type 0
IsDone options rules old end new = IsDoneOf options rules old.left old.written old.keeper.told end new.written new.keeper.told

-- the line that is written where words are none that the program takes
abbrev pub usage_line : List ℕ
usage_line = codes "usage: sqla [--dialect D] [--echo] [--store FILE] [--generate N]" ++ 10 ∷ []

-- the usage line went out, or less of it where the sink failed or memory ran out
abbrev pub IsUsage : Option (List ℕ) → Status → Option (List ℕ) → Type 0
IsUsage None end now = (end ≡ status.Usage) ⊎ ((end ≡ status.WriteFault) ⊎ (end ≡ status.Memory))
IsUsage (Some before) status.Usage now = now ≡ Some (before ++ usage_line)
IsUsage (Some before) status.WriteFault (Some now) = (count : ℕ) × (count < length usage_line) × (now ≡ before ++ take count usage_line)
IsUsage (Some before) status.Memory (Some now) = (count : ℕ) × (count < length usage_line) × (now ≡ before ++ take count usage_line)
IsUsage (Some before) end now = ⊥
