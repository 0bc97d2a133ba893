-- Why a run does not come to its script's end, and what each cause shows.
use Rattle.std.specs.Prelude.{◌≡◌, ◌≤◌, ℕ, Bool, true, false, Result, Ok, Err}
use Rattle.base_core.specs.Counts.{Rose}
use Rattle.base_core.specs.declared.refusal.Refusal.{Refusal}
use Rattle.base_core.specs.declared.refusal.Refusal.TheVariants.{KeeperFault, Memory as NoMemory}
use Rattle.byte_streams.specs.declared.streams.SinkStop.{SinkStop}
use Rattle.byte_streams.specs.declared.streams.SinkStop.TheVariants as sink
use Rattle.byte_streams.specs.declared.lines.ReadStop.{ReadStop}
use Rattle.byte_streams.specs.declared.lines.ReadStop.TheVariants as read
use Rattle.sqla_shell.specs.declared.status.Status.{Status}
use Rattle.sqla_shell.specs.declared.status.Status.TheVariants as status
use Rattle.sqla_shell.specs.declared.stop.Stop.{Stop}
use Rattle.sqla_shell.specs.declared.stop.Stop.TheVariants.{Read, Write, Keeper, Memory}

abbrev pub read_stop : ReadStop → Stop
read_stop read.Fault = Read
read_stop read.Memory = Memory

abbrev pub write_stop : SinkStop → Stop
write_stop sink.Fault = Write
write_stop sink.Memory = Memory

abbrev pub keeper_stop : Refusal → Stop
keeper_stop KeeperFault = Keeper
keeper_stop e = Memory

-- a stop in the words of the layers below: whatever stops a run ends its program early
abbrev pub stop_refusal : Stop → Refusal
stop_refusal Keeper = KeeperFault
stop_refusal stop = NoMemory

-- the status of a run that stopped
abbrev pub stop_status : Stop → Status
stop_status Read = status.ReadFault
stop_status Write = status.WriteFault
stop_status Keeper = status.KeeperFault
stop_status Memory = status.Memory

-- the status of a run that came to its script's end
abbrev pub done_status : Bool → Status
done_status true = status.Refused
done_status false = status.Done

-- the number with which the program ends
abbrev pub status_code : Status → ℕ
status_code status.Done = 0
status_code status.Refused = 1
status_code status.Usage = 2
status_code status.ReadFault = 3
status_code status.WriteFault = 4
status_code status.KeeperFault = 5
status_code status.Memory = 6
status_code status.TooLong = 7

-- ---- faults

-- how often a source, a sink and a keeper failed
pub record Faults : Type 0 where
  pub source : ℕ
  pub sink : ℕ
  pub keeper : ℕ

abbrev pub faults : ℕ → ℕ → ℕ → Faults
faults source sink keeper = record { source = source; sink = sink; keeper = keeper }

-- one fault more was counted
abbrev pub IsOneMore : ℕ → ℕ → Type 0
IsOneMore before now = (before ≤ now) × Rose before now

-- what stopped a call was counted, and nothing else was
abbrev pub CountsStop : Stop → Faults → Faults → Type 0
CountsStop Read old new = IsOneMore old.source new.source × (new.sink ≡ old.sink) × (new.keeper ≡ old.keeper)
CountsStop Write old new = (new.source ≡ old.source) × IsOneMore old.sink new.sink × (new.keeper ≡ old.keeper)
CountsStop Keeper old new = (new.source ≡ old.source) × (new.sink ≡ old.sink) × IsOneMore old.keeper new.keeper
CountsStop Memory old new = (new.source ≡ old.source) × (new.sink ≡ old.sink) × (new.keeper ≡ old.keeper)

-- a call that answers counted no fault, and one that was stopped just its own
abbrev pub CountsFaults : {X : Type 0} → Result X Stop → Faults → Faults → Type 0
CountsFaults (Ok x) old new = (new.source ≡ old.source) × (new.sink ≡ old.sink) × (new.keeper ≡ old.keeper)
CountsFaults (Err stop) old new = CountsStop stop old new

-- The same of a status: the rollback at the end of a run that was stopped may count one fault more of the keeper, where it took
-- its target.
abbrev pub ShowsFaults : Status → Bool → Faults → Faults → Type 0
ShowsFaults status.Done attached old new = (new.source ≡ old.source) × (new.sink ≡ old.sink) × (new.keeper ≡ old.keeper)
ShowsFaults status.Refused attached old new = (new.source ≡ old.source) × (new.sink ≡ old.sink) × (new.keeper ≡ old.keeper)
ShowsFaults status.Usage attached old new = (new.source ≡ old.source) × (new.sink ≡ old.sink) × (new.keeper ≡ old.keeper)
ShowsFaults status.ReadFault attached old new = IsOneMore old.source new.source × (new.sink ≡ old.sink) × (old.keeper ≤ new.keeper)
ShowsFaults status.WriteFault attached old new = (new.source ≡ old.source) × IsOneMore old.sink new.sink × (old.keeper ≤ new.keeper)
ShowsFaults status.KeeperFault attached old new = (new.source ≡ old.source) × (new.sink ≡ old.sink) × IsOneMore old.keeper new.keeper
ShowsFaults status.Memory true old new = (new.source ≡ old.source) × (new.sink ≡ old.sink) × (old.keeper ≤ new.keeper)
ShowsFaults status.Memory false old new = (new.source ≡ old.source) × (new.sink ≡ old.sink) × (new.keeper ≡ old.keeper)
ShowsFaults status.TooLong attached old new = (new.source ≡ old.source) × (new.sink ≡ old.sink) × (old.keeper ≤ new.keeper)
