-- The expired cells of an object hold what a load found of them.
use Rattle.std.specs.Prelude.{ℕ, true, ◌≡◌, List, ◌++◌, drop, map, slice_get, take, Option, None, Some, is_none, if◌then◌else◌}
use Rattle.std.specs.List.{enumerate_from}
use Rattle.base_core.specs.declared.ids.AttrNo.{AttrNo}
use Rattle.base_core.specs.declared.ids.ClassId.{ClassId}
use Rattle.base_core.specs.declared.ids.ObjId.{ObjId}
use Rattle.base_core.specs.declared.value.Value.{Value}
use Rattle.class_mapping.specs.Mapped.{Mapped, attribute_of}
use Rattle.object_arena.specs.declared.object.Cell.{Cell}
use Rattle.object_arena.specs.declared.object.Object.{Object}
use Rattle.object_arena.specs.Fit.{value_fits}
use Rattle.object_arena.specs.Graph.{Graph, object_at, with_object}

-- what a load found of the cells of an object: at the place of a cell its value, or none
abbrev pub Found : Type 0
Found = List (Option Value)

abbrev pub value_or_none : Option (Option Value) → Option Value
value_or_none None = None
value_or_none (Some found) = found

abbrev pub value_found : Found → ℕ → Option Value
value_found found place = value_or_none (slice_get found place)

-- a cell that holds what was found, and nothing that is unwritten
abbrev pub cell_read : Cell → Option Value → Cell
cell_read cell None = cell
cell_read cell (Some value) = record { value = Some value; base = Some value }

-- an expired cell holds what was found of it; another one stays
abbrev pub filled_cell : Found → ℕ × Cell → Cell
filled_cell found placed = if is_none placed.1.value then cell_read placed.1 (value_found found placed.0) else placed.1

abbrev pub filled_object : Found → Object → Object
filled_object found object = record object { cells = map (filled_cell found) (enumerate_from 0 object.cells) }

-- the graph in which the expired cells of an object hold what was found of them
unfoldable pub with_filled : Graph → ObjId → Found → Graph
with_filled graph object found = with_object graph object (filled_object found (object_at graph object))

-- ---- where memory runs out

abbrev pub first_filled : Found → List Cell → ℕ → List Cell
first_filled found cells n = map (filled_cell found) (enumerate_from 0 (take n cells)) ++ drop n cells

-- the graph in which the first cells of an object are filled so, and the others are as they were
abbrev pub filled_to : Graph → ObjId → Found → ℕ → Graph
filled_to graph object found n = with_object graph object (record (object_at graph object) { cells = first_filled found (object_at graph object).cells n })

-- some of the first cells are filled, or none
abbrev pub IsFilledInPart : Graph → ObjId → Found → Graph → Type 0
IsFilledInPart old object found new = (n : ℕ) × (new ≡ filled_to old object found n)

-- ---- kinds

-- each value is NULL or of the kind of the attribute at its place
abbrev pub AreFoundFor : ClassId → Found → Mapped → Type 0
AreFoundFor class found mapped = (attr : AttrNo) → value_fits (attribute_of mapped class attr) (value_found found attr.0) ≡ true
