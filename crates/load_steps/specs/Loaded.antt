-- What a load leaves of each object: expired cells are filled from rows, unloaded links are loaded, and objects are made behind the others.
use Rattle.std.specs.Prelude.{◌≡◌, ◌⊎◌, ℕ, ◌<◌, ◌≤◌, true, List, length, slice_index_or, Option, None, Some}
use Rattle.std.specs.Option.{option_and_then}
use Rattle.base_core.specs.declared.ids.AttrNo.{AttrNo}
use Rattle.base_core.specs.declared.ids.RelNo.{RelNo}
use Rattle.base_core.specs.declared.value.Value.{Value}
use Rattle.schema_core.specs.Tables as held
use Rattle.class_mapping.specs.Mapped.{Mapped, attribute_of}
use Rattle.object_arena.specs.declared.object.Cell.{Cell}
use Rattle.object_arena.specs.declared.object.Link.{Link}
use Rattle.object_arena.specs.declared.object.Object.{Object}
use Rattle.object_arena.specs.Graph.{Graph, cell_in, no_object}
use Rattle.object_parts.specs.Links.{is_unloaded}
use Rattle.load_filling.specs.Growing.{Grows}
use Rattle.load_filling.specs.Loaded.{loaded_object}
use Rattle.load_rows.specs.Links.{link_in}
use Rattle.load_steps.specs.Based.{held_under}

-- ---- one object

-- what the row under an object's identity has for an attribute
abbrev pub row_value : Mapped → held.Tables → Object → AttrNo → Option Value
row_value mapped tables object attr = option_and_then (held_under tables (attribute_of mapped object.class attr)) object.identity

-- a cell was expired, and holds what was found of it, with nothing that is unwritten
pub record IsFilledCell (found : Option Value) (was now : Cell) : Type 0 where
  pub held : Value
  pub is : found ≡ Some held
  pub expired : was.value ≡ None
  pub even : now ≡ record { value = Some held; base = Some held }

-- a cell stays, or is filled
abbrev pub IsReadCell : Option Value → Cell → Cell → Type 0
IsReadCell found was now = (now ≡ was) ⊎ IsFilledCell found was now

-- a link stays, or was unloaded
abbrev pub IsReadLink : Link → Link → Type 0
IsReadLink was now = (now ≡ was) ⊎ (is_unloaded was ≡ true)

-- an object of which at most expired cells were filled from its rows, and unloaded links loaded
pub record IsReadFrom (mapped : Mapped) (tables : held.Tables) (was now : Object) : Type 0 where
  pub rest : now ≡ record was { cells = now.cells; links = now.links }
  pub long : length now.cells ≡ length was.cells
  pub linked : length now.links ≡ length was.links
  pub cells : (attr : AttrNo) → attr.0 < length now.cells → IsReadCell (row_value mapped tables now attr) (cell_in was attr) (cell_in now attr)
  pub links : (place : RelNo) → IsReadLink (link_in was.links place) (link_in now.links place)

-- an object that was made under a key, persistent and with nothing known of it, and of which then at most that was read
pub record IsMadeFrom (mapped : Mapped) (tables : held.Tables) (now : Object) : Type 0 where
  pub key : List Value
  pub read : IsReadFrom mapped tables (loaded_object mapped now.class key) now

-- ---- all objects

abbrev pub object_in : Graph → ℕ → Object
object_in graph place = slice_index_or graph.objects place no_object

-- of the objects that there were at most that was read, and those behind them were made
pub record AreReadFrom (mapped : Mapped) (tables : held.Tables) (old new : Graph) : Type 0 where
  pub grows : Grows old new
  pub read : (place : ℕ) → place < length old.objects → IsReadFrom mapped tables (object_in old place) (object_in new place)
  pub made : (place : ℕ) → length old.objects ≤ place → place < length new.objects → IsMadeFrom mapped tables (object_in new place)
