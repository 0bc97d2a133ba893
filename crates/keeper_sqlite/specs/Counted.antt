-- What is seen of a keeper that tells no tables, and what its calls make of that.
use Rattle.std.specs.Prelude.{◌≡◌, ◌<◌, ◌^◌, ℕ, Bool, false, Option, None, Some, Result, Ok, Err, MatchBool, refl}
use Rattle.base_core.specs.Counts.{one_more}
use Rattle.base_core.specs.declared.refusal.Refusal.{Refusal}
use Rattle.keeper_core.specs.declared.sent.Sent.{Sent}
use Rattle.keeper_core.specs.declared.target.Target.{Target}
use Rattle.keeper_core.specs.Moment.{Moment, Refused}
use Rattle.keeper_core.specs.Programs.{ends_early}
use Rattle.keeper_core.specs.Store.{Store}
use Rattle.schema_core.specs.Tables.{Tables}
use Rattle.keeper_core.specs.declared.keeper.KeeperStop.{KeeperStop}
use Rattle.keeper_core.specs.declared.keeper.KeeperStop.TheVariants as stops
use Rattle.keeper_core.specs.Calls.{stop_refusal}
use Rattle.keeper_core.specs.Keeping.{IsCoherent}

-- the counts of faults and refusals, the last refusal, how many scopes are open, the target, and whether it was taken
pub record Counted : Type 0 where
  pub faults : ℕ
  pub refusals : ℕ
  pub last : Option Refused
  pub depth : ℕ
  pub target : Option Target
  pub attached : Bool

-- what a keeper begins with
abbrev pub new_keeper : Counted
new_keeper = record { faults = 0; refusals = 0; last = None; depth = 0; target = None; attached = false }

-- what is seen of the keeper: it tells nothing
abbrev pub moment_of : Counted → Moment Store
moment_of kept = record {
  told = None;
  tells = false;
  faults = kept.faults;
  refusals = kept.refusals;
  last = kept.last;
  depth = kept.depth;
  target = kept.target;
  attached = kept.attached;
}

-- nor will it tell what is in a target
abbrev pub opening : Counted → Target → Option Tables
opening kept target = None

pub coherent : (kept : Counted) → IsCoherent (moment_of kept)
coherent kept = refl

-- ---- what calls make of a keeper

-- so many scopes are open
abbrev pub at_depth : Counted → ℕ → Counted
at_depth kept depth = record kept { depth = depth }

-- the call was ended by a fault
abbrev pub call_failed : Counted → Counted
call_failed kept = record kept { faults = one_more kept.faults; depth = 0 }

-- the call was ended by memory that ran out
abbrev pub call_ended : Counted → Counted
call_ended kept = record kept { depth = 0 }

-- a statement was refused
abbrev pub refused_by : Counted → Sent → Refusal → Counted
refused_by kept statement refusal = record kept {
  refusals = one_more kept.refusals;
  last = Some (record { statement = statement; refusal = refusal });
}

-- the target was given, and taken or not
abbrev pub target_given : Counted → Target → Bool → Counted
target_given kept target taken = record kept { depth = 0; target = Some target; attached = taken }

-- the call was ended early, and no scope is open; counts have 64 bits
abbrev pub Stops : Counted → KeeperStop → Counted → Type 0
Stops old stops.Fault new = (old.faults < 2 ^ 64) × (new ≡ call_failed old)
Stops old stops.Memory new = new ≡ call_ended old

-- the call was done and left so many scopes, or it was ended early
abbrev pub Ends : {A : Type 0} → Counted → ℕ → Result A KeeperStop → Counted → Type 0
Ends old depth (Ok x) new = new ≡ at_depth old depth
Ends old depth (Err stop) new = Stops old stop new

-- ---- statements

-- a statement was done, and changed nothing that is seen; or it was ended early, or refused
abbrev pub Settles : {A : Type 0} → Sent → Counted → Result A Refusal → Counted → Type 0
Settles statement old (Ok x) new = new ≡ old
Settles statement old (Err e) new =
    MatchBool (ends_early e) ((stop : KeeperStop) × (e ≡ stop_refusal stop) × Stops old stop new) ((old.refusals < 2 ^ 64) × (new ≡ refused_by old statement e))
