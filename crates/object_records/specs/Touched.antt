-- Which objects differ between two graphs, and the scopes when these have been touched.
use Rattle.std.specs.Prelude.{Bool, not, List, fold, map}
use Rattle.std.specs.List.{enumerate_from, filter}
use Rattle.base_core.specs.declared.ids.ObjId.{ObjId}
use Rattle.object_arena.specs.Graph.{Graph, object_at}
use Rattle.object_arena.specs.Identity.{id_of_place}
use Rattle.savepoints.specs.Scopes.{Framed, touch}
use Rattle.object_records.specs.Same.{same_object}

-- the objects of a graph, in order of number
abbrev pub object_ids : Graph → List ObjId
object_ids graph = map (λ placed. id_of_place placed.0) (enumerate_from 0 graph.objects)

-- the object's records differ
abbrev pub differs : Graph → Graph → ObjId → Bool
differs old new object = not (same_object (object_at old object) (object_at new object))

-- the objects of the old graph whose records differ, in order of number
abbrev pub changed_objects : Graph → Graph → List ObjId
changed_objects old new = filter (differs old new) (object_ids old)

-- the scopes when these objects of a graph have been touched in the innermost one
abbrev pub frames_with_touched : Graph → List ObjId → Framed → Framed
frames_with_touched graph objects frames = fold (λ now object. touch graph object now) frames objects

-- the scopes when each object that differs has been touched, as it was
unfoldable pub frames_touched_between : Graph → Graph → Framed → Framed
frames_touched_between old new frames = frames_with_touched old (changed_objects old new) frames
