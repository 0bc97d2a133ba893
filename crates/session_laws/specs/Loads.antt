-- What a load leaves of the objects of a session, and what sessions keep across loads.
use Rattle.std.specs.Prelude.{◌≡◌, ◌⊎◌, ℕ, ◌<◌, ◌≤◌, true, List, [], length, unwrap_or, Option, Some}
use Rattle.std.specs.List.{Contains}
use Rattle.base_core.specs.declared.ids.AttrNo.{AttrNo}
use Rattle.base_core.specs.declared.ids.ObjId.{ObjId}
use Rattle.base_core.specs.declared.value.Value.{Value}
use Rattle.class_mapping.specs.Mapped.{Mapped, attribute_of}
use Rattle.schema_core.specs.Tables.{Tables}
use Rattle.object_arena.specs.declared.object.Cell.{Cell}
use Rattle.object_arena.specs.declared.object.Object.{Object}
use Rattle.object_arena.specs.Fit.{IsFit}
use Rattle.object_arena.specs.Graph.{Graph, cell_in, place_of}
use Rattle.object_arena.specs.Identity.{IsGraph}
use Rattle.keeper_core.specs.declared.notes.Note.{Note}
use Rattle.keeper_core.specs.declared.notes.Note.TheVariants.{Filled}
use Rattle.keeper_core.specs.Beside.{Beside}
use Rattle.keeper_core.specs.Programs.{Run}
use Rattle.load_filling.specs.Growing.{Grows}
use Rattle.load_filling.specs.Loaded.{loaded_object}
use Rattle.load_rows.specs.Loading.{Loading}
use Rattle.load_steps.specs.Loaded.{IsReadCell}
use Rattle.preparing_laws.specs.Reread.{IsRereadCell}
use Rattle.savepoints.specs.Scopes.{Framed, is_touched}
use Rattle.session_scopes.specs.Loads.{frames_filled, loading_in, on_load, with_loaded}
use Rattle.session_scopes.specs.SessionState.{GoesOn, SessionState, in_transaction}
use Rattle.session_calls.specs.Parts.{World}
use Rattle.session_laws.specs.Scopes.{object_in}
use Rattle.session_laws.specs.Sound.{IsSound, in_row, row_for}
use Rattle.session_laws.specs.Health.Health.{IsHealthy}
use Rattle.session_laws.specs.Whole.{IsHale, IsKeyed}

-- ---- one object

-- what the row under an object's key has for an attribute
abbrev pub row_value : Mapped → Tables → Object → AttrNo → Option Value
row_value mapped tables object attr = in_row (attribute_of mapped object.class attr) (row_for tables (attribute_of mapped object.class attr) (Some (unwrap_or object.identity [])))

-- an object of which at most cells were read so, and links loaded: by a load, or where all that is to be known of it is read anew
pub record IsReadBy (IsCell : Option Value → Cell → Cell → Type 0) (mapped : Mapped) (tables : Tables) (was now : Object) : Type 0 where
  pub rest : now ≡ record was { cells = now.cells; links = now.links }
  pub long : length now.cells ≡ length was.cells
  pub linked : length now.links ≡ length was.links
  pub cells : (attr : AttrNo) → attr.0 < length now.cells → IsCell (row_value mapped tables now attr) (cell_in was attr) (cell_in now attr)

-- an object that a load made under a key, and of which then at most that was read
abbrev pub IsMadeBy : (Option Value → Cell → Cell → Type 0) → Mapped → Tables → Object → Type 0
IsMadeBy IsCell mapped tables now = (key : List Value) × IsReadBy IsCell mapped tables (loaded_object mapped now.class key) now

abbrev pub IsReadFrom : Mapped → Tables → Object → Object → Type 0
IsReadFrom mapped tables was now = IsReadBy IsReadCell mapped tables was now

abbrev pub IsMadeFrom : Mapped → Tables → Object → Type 0
IsMadeFrom mapped tables now = IsMadeBy IsReadCell mapped tables now

-- ---- all objects

-- the object at a place is noted as filled
pub record IsNotedAt (notes : List Note) (place : ℕ) : Type 0 where
  pub object : ObjId
  pub noted : Contains notes (Filled object)
  pub stands : place_of object ≡ place

-- What a load leaves of the objects that there were, over these tables, with its notes. They fit, and one stands for each key; those that
-- there were stand as they stood, and others were made behind them. Each that was made or that differs is noted.
pub record IsLoadedBy (IsCell : Option Value → Cell → Cell → Type 0) (mapped : Mapped) (tables : Tables) (old : Graph) (own : Loading) : Type 0 where
  pub fit : IsFit mapped own.graph
  pub graph : IsGraph own.graph.objects own.graph.roots
  pub grows : Grows old own.graph
  pub read : (place : ℕ) → place < length old.objects → IsReadBy IsCell mapped tables (object_in old place) (object_in own.graph place)
  pub made : (place : ℕ) → length old.objects ≤ place → place < length own.graph.objects → IsMadeBy IsCell mapped tables (object_in own.graph place)
  pub noted : (place : ℕ) → place < length own.graph.objects → IsNotedAt own.notes place ⊎ ((place < length old.objects) × (object_in own.graph place ≡ object_in old place))

-- ---- what is touched

-- when a load has been taken in, that is touched which was so before, and what the load noted
abbrev pub LoadsTouchTheNoted : Type 0
LoadsTouchTheNoted =
    (graph : Graph) (notes : List Note) (frames : Framed) (depth place : ℕ) → 1 ≤ depth → depth ≤ length frames.scopes
    → (is_touched (frames_filled graph notes frames) depth place ≡ true → (is_touched frames depth place ≡ true) ⊎ IsNotedAt notes place)
    × ((is_touched frames depth place ≡ true) ⊎ IsNotedAt notes place → is_touched (frames_filled graph notes frames) depth place ≡ true)

-- ---- sessions

-- what a load leaves of a session's objects, over the tables of the store
abbrev pub IsLoadOf : World → Loading → Type 0
IsLoadOf world own = IsLoadedBy IsReadCell world.own.mapping world.store.tables world.own.graph own

-- and what loads leave that read anew what is not known
abbrev pub IsRereadOf : World → Loading → Type 0
IsRereadOf world own = IsLoadedBy IsRereadCell world.own.mapping world.store.tables world.own.graph own

-- the session has taken it in, and the store is as it was
abbrev pub after_load : Loading → World → World
after_load own world = record { own = with_loaded own world.own; store = world.store }

-- in a transaction a sound session stays sound
abbrev pub LoadsKeepSound : Type 0
LoadsKeepSound = (own : Loading) (world : World) → in_transaction world.own ≡ true → IsRereadOf world own → IsSound world → IsSound (after_load own world)

-- and a healthy one healthy
abbrev pub LoadsKeepHealth : Type 0
LoadsKeepHealth = (own : Loading) (world : World) → in_transaction world.own ≡ true → IsRereadOf world own → IsHealthy world → IsHealthy (after_load own world)

-- where what was loaded fits, the objects go on to fit, and had keys of their classes at the start of each scope
abbrev pub LoadsKeepFit : Type 0
LoadsKeepFit = (own : Loading) (session : SessionState) → IsFit session.mapping own.graph → Grows session.graph own.graph → IsKeyed session → IsKeyed (with_loaded own session)

-- each object that there was is there still, of its class
abbrev pub SessionsGoOn : Type 0
SessionsGoOn = (own : Loading) (session : SessionState) → Grows session.graph own.graph → GoesOn session (with_loaded own session)

-- ---- programs

-- the objects of a session beside the store, with nothing noted yet
abbrev pub loading_of : World → Beside Loading
loading_of world = record { own = loading_in world.own; store = world.store }

-- the program leaves what such loads leave, and the store as it was, whatever it answers
pub record IsLoad {A : Type 0} (m : Beside Loading → Run (Beside Loading) A) (world : World) : Type 0 where
  pub store : (m (loading_of world)).after.store ≡ world.store
  pub loads : IsRereadOf world (m (loading_of world)).after.own

-- a healthy session that is whole stays so, where it runs the program in a transaction
abbrev pub LoadsKeepWhole : Type 0 → Type 0
LoadsKeepWhole A = (m : Beside Loading → Run (Beside Loading) A) (world : World) → in_transaction world.own ≡ true → IsLoad m world → IsHale world → IsHale (on_load m world).after
