-- What every load leaves over legal tables.
use Rattle.std.specs.Prelude.{◌≡◌}
use Rattle.std.specs.List.{AllByRecursion}
use Rattle.class_mapping.specs.Mapped.{Mapped}
use Rattle.class_mapping.specs.Related.{AreRelated}
use Rattle.mapping_laws.specs.Hierarchies.{HasHierarchies}
use Rattle.load_calls.specs.Reading.{World}
use Rattle.load_queries.specs.Selectin.{IsOption}
use Rattle.table_laws.specs.Legality.{AreSound}
use Rattle.load_steps.specs.Based.{AreBased, AreReadOfTables, IsRowOfTables}
use Rattle.load_steps.specs.Loaded.{AreReadFrom}
use Rattle.load_steps.specs.Loads.{CanLoad, Load, Objects, Query, after_load}
use Rattle.load_steps.specs.Noted.{AreNotedSince}
use Rattle.load_steps.specs.Steps.{IsArena}
use Rattle.known_queries.specs.Known.{ReadsClass, ReadsJoined}

-- what a load is asked for; a query reads the objects of its class, and with joined options its main select may be sent
abbrev pub CanLoadOver : Mapped → World → Load → Type 0
CanLoadOver mapped w (Objects query) = AllByRecursion (IsOption mapped query.class) query.selectin × ReadsClass mapped query
CanLoadOver mapped w (Query query) = AllByRecursion (IsOption mapped query.class) query.selectin × ReadsJoined mapped query
CanLoadOver mapped w load = CanLoad mapped (IsRowOfTables mapped w.store.tables) (AreReadOfTables mapped w.store.tables) w load

-- The store is as it was, and the objects are an arena's that fit the mapping. Each that was made or filled is named in the notes, and
-- all others are as they were. Of those that there were at most expired cells were filled, from their rows, and unloaded links loaded,
-- and others were made behind them. Where the base of each cell of a persistent object stood in the row under its key, it does.
pub record IsLoadedOver (mapped : Mapped) (w after : World) : Type 0 where
  pub arena : IsArena mapped after.own.graph
  pub store : after.store ≡ w.store
  pub noted : AreNotedSince w.own.graph after.own
  pub read : AreReadFrom mapped w.store.tables w.own.graph after.own.graph
  pub based : AreBased mapped w.store.tables w.own.graph → AreBased mapped w.store.tables after.own.graph

-- Every load over legal tables leaves so much, whatever it answers.
abbrev pub LoadsOverLegalTables : Type 0
LoadsOverLegalTables =
    (mapped : Mapped) (load : Load) (w : World) → HasHierarchies mapped → AreRelated mapped → IsArena mapped w.own.graph → AreSound mapped.schema w.store.tables → CanLoadOver mapped w load
    → IsLoadedOver mapped w (after_load mapped load w)
