-- The objects of a graph as a flush finds them once it is prepared.
use Rattle.std.specs.Prelude.{◌≡◌, ℕ, Bool, true, false, not, ◌&&◌, ◌||◌, ◌==◌, List, [], map, fold, length, slice_index_or, Option, None, Some, if◌then◌else◌}
use Rattle.std.specs.List.{All, list_any, range_with_len}
use Rattle.std.specs.BTreeMap.{insert_entry}
use Rattle.std.specs.Map.{values_of}
use Rattle.base_core.specs.declared.ids.ObjId.{ObjId}
use Rattle.base_core.specs.declared.ids.RelNo.{RelNo}
use Rattle.object_arena.specs.declared.object.Link.{Link}
use Rattle.object_arena.specs.declared.object.Link.TheVariants.{Unset}
use Rattle.object_arena.specs.declared.object.Object.{Object}
use Rattle.object_arena.specs.Graph.{Graph, IsObject, is_persistent, object_at, Queue, is_among, is_pending, rank_cmp}
use Rattle.object_arena.specs.Identity.{id_of_place}
pub use Rattle.object_parts.specs.Links.{changed_end, end_if}
pub use Rattle.object_rows.specs.Numbers.{AreNumbers, has_link}
use Rattle.object_rows.specs.declared.prepared.Prepared.{Prepared}

-- the objects by number
unfoldable pub object_ids : Graph → List ObjId
object_ids graph = map id_of_place (range_with_len 0 (length graph.objects))

-- the object's rows are to be made: it is pending, and stays so
abbrev pub is_new : Graph → Prepared → ObjId → Bool
is_new graph prepared object = is_pending (object_at graph object).state && not (is_among prepared.transient object)

-- the object has rows, and keeps them
abbrev pub keeps_rows : Graph → Prepared → ObjId → Bool
keeps_rows graph prepared object = is_persistent (object_at graph object).state && not (is_among prepared.deleted object)

abbrev pub is_in_session : Graph → Prepared → ObjId → Bool
is_in_session graph prepared object = is_persistent (object_at graph object).state || is_new graph prepared object

-- the objects that are to be deleted have been made
abbrev pub AreMade : Graph → Prepared → Type 0
AreMade graph prepared = All (IsObject graph) prepared.deleted

-- ---- the order of adding

-- the queue with an object, where its rows are to be made
abbrev pub with_queued : Graph → Prepared → Queue → ObjId → Queue
with_queued graph prepared queue object =
    if is_new graph prepared object then insert_entry rank_cmp queue ((object_at graph object).added, object.0) object else queue

-- the new objects in the order in which they were added
unfoldable pub new_objects : Graph → Prepared → List ObjId
new_objects graph prepared = values_of (fold (with_queued graph prepared) [] (object_ids graph))

-- ---- links

-- the link of a number
abbrev pub link_of : Object → RelNo → Link
link_of object relation = slice_index_or object.links relation.0 Unset

-- the object's link is to become none
abbrev pub is_cleared : Prepared → ObjId → RelNo → Bool
is_cleared prepared object relation = has_link prepared.cleared object relation

-- the end of an object's many-to-one link, where it was changed or is to become none
abbrev pub end_put : Graph → Prepared → ObjId → RelNo → Option (Option ObjId)
end_put graph prepared object relation = if is_cleared prepared object relation then Some None else changed_end (link_of (object_at graph object) relation)

-- the end is none, or in the session
abbrev pub is_kept_end : Graph → Prepared → Option ObjId → Bool
is_kept_end graph prepared None = true
is_kept_end graph prepared (Some end) = is_in_session graph prepared end
