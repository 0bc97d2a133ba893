-- What every load keeps, whatever it answers.
use Rattle.std.specs.Prelude.{◌≡◌}
use Rattle.class_mapping.specs.Mapped.{Mapped}
use Rattle.load_calls.specs.Reading.{World}
use Rattle.load_steps.specs.Based.{AreBased, AreReadOfTables, IsRowOfTables}
use Rattle.load_steps.specs.Loaded.{AreReadFrom}
use Rattle.load_steps.specs.Loads.{CanLoad, IsLoadStage, Load, after_load}
use Rattle.load_steps.specs.Noted.{AreNotedSince}
use Rattle.load_steps.specs.Rows.{AreCellsThatFit, IsFullRow}
use Rattle.load_steps.specs.Steps.{IsArena}

-- The objects fit the mapping and are an arena's: no two persistent ones have one root class and one key. The store is the same.
abbrev pub LoadsKeepArenas : Type 0
LoadsKeepArenas =
    (mapped : Mapped) (load : Load) (w : World) → IsLoadStage mapped (IsFullRow mapped) (AreCellsThatFit mapped) w → CanLoad mapped (IsFullRow mapped) (AreCellsThatFit mapped) w load
    → IsArena mapped (after_load mapped load w).own.graph × ((after_load mapped load w).store ≡ w.store)

-- Each object that was made or filled is named in the notes; every other one is as it was.
abbrev pub LoadsNoteWhatTheyFill : Type 0
LoadsNoteWhatTheyFill =
    (mapped : Mapped) (load : Load) (w : World) → IsLoadStage mapped (IsFullRow mapped) (AreCellsThatFit mapped) w → CanLoad mapped (IsFullRow mapped) (AreCellsThatFit mapped) w load
    → AreNotedSince w.own.graph (after_load mapped load w).own

-- Each cell that is filled has the base that stands in the row under its object's key: where all bases were such, they are.
abbrev pub LoadsFillFromRows : Type 0
LoadsFillFromRows =
    (mapped : Mapped) (load : Load) (w : World) → IsLoadStage mapped (IsRowOfTables mapped w.store.tables) (AreReadOfTables mapped w.store.tables) w → CanLoad mapped (IsRowOfTables mapped w.store.tables) (AreReadOfTables mapped w.store.tables) w load
    → AreBased mapped w.store.tables w.own.graph → AreBased mapped w.store.tables (after_load mapped load w).own.graph

-- Of the objects that there were at most expired cells were filled, from their rows, and unloaded links loaded: all else of them is as it
-- was. All others were made behind them, persistent, of which at most that was read.
abbrev pub LoadsOnlyRead : Type 0
LoadsOnlyRead =
    (mapped : Mapped) (load : Load) (w : World) → IsLoadStage mapped (IsRowOfTables mapped w.store.tables) (AreReadOfTables mapped w.store.tables) w → CanLoad mapped (IsRowOfTables mapped w.store.tables) (AreReadOfTables mapped w.store.tables) w load
    → AreReadFrom mapped w.store.tables w.own.graph (after_load mapped load w).own.graph
