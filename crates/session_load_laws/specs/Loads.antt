-- The loads that a session runs.
use Rattle.std.specs.Prelude.{◌≡◌, ◌<◌, true, length}
use Rattle.std.specs.List.{AllByRecursion}
use Rattle.class_mapping.specs.Mapped.{IsClass, relations_of, root_of}
use Rattle.object_arena.specs.Graph.{object_at}
use Rattle.keeper_core.specs.Beside.{Beside}
use Rattle.load_rows.specs.Loading.{Loading}
use Rattle.load_rows.specs.Reading.{identity_key}
use Rattle.load_steps.specs.Based.{AreReadOfTables}
use Rattle.load_steps.specs.Rows.{AreAttributes}
use Rattle.load_steps.specs.Steps.{AreFound}
use Rattle.load_queries.specs.Selectin.{IsOption}
use Rattle.load_steps.specs.Loads.{IsStanding, Load, after_load}
use Rattle.known_queries.specs.Known.{ReadsClass, ReadsJoined}
use Rattle.session_scopes.specs.Loads.{with_loaded}
use Rattle.session_scopes.specs.SessionState.{in_transaction}
use Rattle.session_calls.specs.Parts.{World}
use Rattle.session_laws.specs.Loads.{IsLoadOf, loading_of}
use Rattle.session_laws.specs.Whole.{IsHale}

-- the objects of a session, with the load's notes, and the store, after a load
abbrev pub loaded_by : Load → World → Beside Loading
loaded_by load world = after_load world.own.mapping load (loading_of world)

-- the session has taken that in
abbrev pub taken_in : Beside Loading → World → World
taken_in done world = record { own = with_loaded done.own world.own; store = done.store }

-- A load names persistent objects, attributes and relationships of their classes, and declared classes; what is taken are cells as the
-- tables have them; a query is of a class's own tables, its options are relationships of the class, and its main select may be sent.
abbrev pub MayLoad : Load → World → Type 0
MayLoad (Load.Cells object) world = IsStanding world.own.graph object
MayLoad (Load.Rows object attrs) world = IsStanding world.own.graph object × AreAttributes world.own.mapping (object_at world.own.graph object).class attrs
MayLoad (Load.Taken object attrs rows) world =
    IsStanding world.own.graph object
    × AllByRecursion (AreReadOfTables world.own.mapping world.store.tables (object_at world.own.graph object).class attrs (identity_key world.own.graph object)) rows
MayLoad (Load.Link object place) world = IsStanding world.own.graph object × (place.0 < length (relations_of world.own.mapping (object_at world.own.graph object).class))
MayLoad (Load.Key class key) world = IsClass world.own.mapping class
MayLoad (Load.Links class objects places) world =
    IsClass world.own.mapping class × AreFound world.own.graph (root_of world.own.mapping class) objects × AllByRecursion (IsOption world.own.mapping class) places
MayLoad (Load.Objects query) world = ReadsClass world.own.mapping query × AllByRecursion (IsOption world.own.mapping query.class) query.selectin
MayLoad (Load.Query query) world =
    ReadsJoined world.own.mapping query × AllByRecursion (IsOption world.own.mapping query.class) query.joined × AllByRecursion (IsOption world.own.mapping query.class) query.selectin

-- it leaves the store, and what a load leaves of a whole session's objects
abbrev pub LoadsLeaveLoaded : Type 0
LoadsLeaveLoaded = (load : Load) (world : World) → MayLoad load world → IsHale world → IsLoadOf world (loaded_by load world).own × ((loaded_by load world).store ≡ world.store)

-- and in a transaction the session that takes that in stays whole
abbrev pub LoadsKeepSessionsWhole : Type 0
LoadsKeepSessionsWhole = (load : Load) (world : World) → in_transaction world.own ≡ true → MayLoad load world → IsHale world → IsHale (taken_in (loaded_by load world) world)
