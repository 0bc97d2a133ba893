-- What the reading before a flush keeps, whatever it answers.
use Rattle.std.specs.Prelude.{◌≡◌}
use Rattle.class_mapping.specs.Mapped.{Mapped}
use Rattle.load_calls.specs.Reading.{World}
use Rattle.load_preparing.specs.Preparing.{read_going}
use Rattle.load_steps.specs.Based.{AreReadOfTables, IsRowOfTables}
use Rattle.load_steps.specs.Loads.{IsLoadStage}
use Rattle.load_steps.specs.Noted.{AreNotedSince}
use Rattle.load_steps.specs.Steps.{IsArena}
use Rattle.preparing_laws.specs.Reread.{AreRereadFrom}

-- The objects fit the mapping and are an arena's, and the store is the same. Each object that was made or that differs is noted; of those
-- that there were at most cells and links were read, and others were made behind them.
pub record IsReread (mapped : Mapped) (old new : World) : Type 0 where
  pub arena : IsArena mapped new.own.graph
  pub store : new.store ≡ old.store
  pub noted : AreNotedSince old.own.graph new.own
  pub read : AreRereadFrom mapped old.store.tables old.own.graph new.own.graph

-- so it is where the selects answer rows of the tables
abbrev pub ReadingsOnlyReread : Type 0
ReadingsOnlyReread =
    (mapped : Mapped) (w : World) → IsLoadStage mapped (IsRowOfTables mapped w.store.tables) (AreReadOfTables mapped w.store.tables) w → IsReread mapped w (read_going mapped w).after
