-- Other records for objects of a graph.
use Rattle.std.specs.Prelude.{◌≡◌, ℕ, ◌<◌, ◌≤◌, true, List, length, slice_index_or, Option, None}
use Rattle.std.specs.Option.{unwrap_or}
use Rattle.object_arena.specs.declared.object.Object.{Object}
use Rattle.object_arena.specs.Every.{each_placed}
use Rattle.object_arena.specs.Graph.{Graph, is_persistent, no_object}
use Rattle.object_arena.specs.Identity.{IsOne, is_identified}

-- what the object at a place comes to be: the record there, if there is one, and else what it is
abbrev pub record_at : List (Option Object) → ℕ → Object → Object
record_at records place object = unwrap_or (slice_index_or records place None) object

-- the graph in which each object has the record at its place, if there is one
abbrev pub with_records : Graph → List (Option Object) → Graph
with_records graph records = each_placed (record_at records) graph

-- A record can stand in the place of another: it is of the same class, with as many cells and links, all of which have
-- numbers; it has an identity exactly where its state has one; and an object that stays persistent keeps its identity.
pub record CanReplace (old new : Object) : Type 0 where
  pub class : new.class ≡ old.class
  pub cells : length new.cells ≡ length old.cells
  pub links : length new.links ≡ length old.links
  pub few_cells : length new.cells ≤ 4294967295
  pub few_links : length new.links ≤ 4294967295
  pub identified : is_identified new ≡ true
  pub identity : is_persistent old.state ≡ true → is_persistent new.state ≡ true → new.identity ≡ old.identity

-- objects can follow those of a graph: each can stand in the place of its own, and no two persistent ones have one root and one key
pub record CanFollow (graph : Graph) (objects : List Object) : Type 0 where
  pub long : length objects ≡ length graph.objects
  pub each : (place : ℕ) → place < length graph.objects → CanReplace (slice_index_or graph.objects place no_object) (slice_index_or objects place no_object)
  pub one : IsOne objects graph.roots
