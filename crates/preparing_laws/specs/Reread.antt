-- What the reading before a flush leaves of each object: as loads do, cells are filled from rows and links are loaded; and what was put
-- into a cell of which the row's value was not known is lost.
use Rattle.std.specs.Prelude.{◌≡◌, ◌⊎◌, ℕ, ◌<◌, ◌≤◌, List, length, Option, None}
use Rattle.base_core.specs.declared.ids.AttrNo.{AttrNo}
use Rattle.base_core.specs.declared.ids.RelNo.{RelNo}
use Rattle.base_core.specs.declared.value.Value.{Value}
use Rattle.schema_core.specs.Tables as held
use Rattle.class_mapping.specs.Mapped.{Mapped}
use Rattle.object_arena.specs.declared.object.Cell.{Cell}
use Rattle.object_arena.specs.declared.object.Object.{Object}
use Rattle.object_arena.specs.Graph.{Graph, cell_in, expired_cell}
use Rattle.load_filling.specs.Growing.{Grows}
use Rattle.load_filling.specs.Loaded.{loaded_object}
use Rattle.load_rows.specs.Links.{link_in}
use Rattle.load_steps.specs.Loaded.{IsReadCell, IsReadLink, object_in, row_value}

-- ---- one object

-- the row's value was not known, and the cell is left as an expired one is
pub record IsLostCell (found : Option Value) (was now : Cell) : Type 0 where
  pub unknown : was.base ≡ None
  pub left : IsReadCell found expired_cell now

-- a cell stays or is filled, or what was put into it is lost
abbrev pub IsRereadCell : Option Value → Cell → Cell → Type 0
IsRereadCell found was now = IsReadCell found was now ⊎ IsLostCell found was now

-- an object of which at most that became of its cells, and unloaded links were loaded
pub record IsRereadFrom (mapped : Mapped) (tables : held.Tables) (was now : Object) : Type 0 where
  pub rest : now ≡ record was { cells = now.cells; links = now.links }
  pub long : length now.cells ≡ length was.cells
  pub linked : length now.links ≡ length was.links
  pub cells : (attr : AttrNo) → attr.0 < length now.cells → IsRereadCell (row_value mapped tables now attr) (cell_in was attr) (cell_in now attr)
  pub links : (place : RelNo) → IsReadLink (link_in was.links place) (link_in now.links place)

-- an object that was made under a key, persistent and with nothing known of it, and of which then at most that was read
pub record IsMadeAnew (mapped : Mapped) (tables : held.Tables) (now : Object) : Type 0 where
  pub key : List Value
  pub read : IsRereadFrom mapped tables (loaded_object mapped now.class key) now

-- ---- all objects

-- of the objects that there were at most that was read, and those behind them were made
pub record AreRereadFrom (mapped : Mapped) (tables : held.Tables) (old new : Graph) : Type 0 where
  pub grows : Grows old new
  pub read : (place : ℕ) → place < length old.objects → IsRereadFrom mapped tables (object_in old place) (object_in new place)
  pub made : (place : ℕ) → length old.objects ≤ place → place < length new.objects → IsMadeAnew mapped tables (object_in new place)
