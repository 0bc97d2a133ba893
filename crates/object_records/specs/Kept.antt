-- The cells and links of objects, kept and given back.
use Rattle.std.specs.Prelude.{◌≡◌, ℕ, ◌<◌, ◌≤◌, List, [], length, map, slice_get, slice_index_or, Option, None, Some}
use Rattle.object_arena.specs.declared.object.Object.{Object}
use Rattle.object_arena.specs.Every.{each_placed}
use Rattle.object_arena.specs.Graph.{Graph, no_object}
use Rattle.object_records.specs.declared.kept.Held.{Held}

-- the cells and links of one object
abbrev pub held_by : Object → Held
held_by object = record { cells = object.cells; links = object.links }

-- those of each object, by number
abbrev pub held_in : Graph → List Held
held_in graph = map held_by graph.objects

-- the object with these, and as it is where none are given
abbrev pub holding : Option Held → Object → Object
holding None object = object
holding (Some held) object = record object { cells = held.cells; links = held.links }

-- the objects with the cells and links that were kept; those that were made since stay as they are
abbrev pub given_back : List Held → Graph → Graph
given_back held graph = each_placed (λ place object. holding (slice_get held place) object) graph

-- ---- when they can be given back

-- all have numbers
abbrev pub IsNarrow : Held → Type 0
IsNarrow held = (length held.cells ≤ 4294967295) × (length held.links ≤ 4294967295)

-- as many as the object has
pub record CanHold (object : Object) (held : Held) : Type 0 where
  pub cells : length held.cells ≡ length object.cells
  pub links : length held.links ≡ length object.links
  pub narrow : IsNarrow held

abbrev pub nothing_held : Held
nothing_held = record { cells = []; links = [] }

-- each object of which there are some can hold them, and others may stand behind these objects
pub record CanHoldAll (held : List Held) (graph : Graph) : Type 0 where
  pub long : length held ≤ length graph.objects
  pub each : (place : ℕ) → place < length held → CanHold (slice_index_or graph.objects place no_object) (slice_index_or held place nothing_held)
