-- Changes of every object, and what no change of objects touches.
use Rattle.std.specs.Prelude.{ℕ, List, map}
use Rattle.std.specs.List.{enumerate_from}
use Rattle.base_core.specs.declared.ids.ClassId.{ClassId}
use Rattle.object_arena.specs.declared.object.Object.{Object}
use Rattle.object_arena.specs.Graph.{Graph}

-- the graph with each object changed
abbrev pub each_object : (Object → Object) → Graph → Graph
each_object change graph = record { objects = map change graph.objects; roots = graph.roots }

-- the graph with each object changed as its place says
abbrev pub each_placed : (ℕ → Object → Object) → Graph → Graph
each_placed change graph = record { objects = map (λ placed. change placed.0 placed.1) (enumerate_from 0 graph.objects); roots = graph.roots }

-- the class of each object, and its root
unfoldable pub classes_of : Graph → List ClassId × List ClassId
classes_of graph = (map (λ object. object.class) graph.objects, graph.roots)
