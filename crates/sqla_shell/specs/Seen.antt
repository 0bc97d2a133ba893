-- What is seen of a source, a sink and a keeper, and what a call keeps of it.
use Rattle.std.specs.Prelude.{◌≡◌, ℕ, List, Option, Result}
use Rattle.keeper_core.specs.Moment.{Moment}
use Rattle.keeper_core.specs.Store.{Store}
use Rattle.sqla_shell.specs.declared.stop.Stop.{Stop}
use Rattle.sqla_shell.specs.Causes.{CountsFaults, Faults}

-- the bytes left with a source and those written to a sink, where they are told, how often each failed, and the keeper
pub record Seen : Type 0 where
  pub left : Option (List ℕ)
  pub reads : ℕ
  pub written : Option (List ℕ)
  pub writes : ℕ
  pub keeper : Moment Store

abbrev pub moment_seen : Option (List ℕ) → ℕ → Option (List ℕ) → ℕ → Moment Store → Seen
moment_seen left reads written writes keeper = record { left = left; reads = reads; written = written; writes = writes; keeper = keeper }

abbrev pub faults_of : Seen → Faults
faults_of s = record { source = s.reads; sink = s.writes; keeper = s.keeper.faults }

-- what every call keeps of a keeper: its target, whether it took it, and whether it tells
pub record KeepsKeeper (old new : Moment Store) : Type 0 where
  pub target : new.target ≡ old.target
  pub attached : new.attached ≡ old.attached
  pub tells : new.tells ≡ old.tells

-- what every call keeps of all three: faults are counted exactly, and the keeper stays what it is
pub record Keeps {X : Type 0} (old : Seen) (result : Result X Stop) (new : Seen) : Type 0 where
  pub faults : CountsFaults result (faults_of old) (faults_of new)
  pub keeper : KeepsKeeper old.keeper new.keeper
