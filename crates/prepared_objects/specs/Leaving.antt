-- What is deleted, what is new no more, and which links become none where a flush is prepared: sets of the loaded graph.
use Rattle.std.specs.Prelude.{Bool, true, false, not, ◌&&◌, ◌||◌, ◌==◌, ℕ, List, [], ◌++◌, map, None, Some, is_none, if◌then◌else◌}
use Rattle.std.specs.List.{filter, flat_map}
use Rattle.base_core.specs.declared.ids.ObjId.{ObjId}
use Rattle.base_core.specs.declared.ids.RelNo.{RelNo}
use Rattle.class_types.specs.declared.mapped.Relation.{Relation}
use Rattle.class_mapping.specs.Mapped.{Mapped}
use Rattle.object_arena.specs.declared.object.Link.{Link}
use Rattle.object_arena.specs.declared.object.Link.TheVariants.{Unset, Unloaded, One, Many}
use Rattle.object_arena.specs.declared.object.Object.{Object}
use Rattle.object_arena.specs.declared.object.State.{State}
use Rattle.object_arena.specs.declared.object.State.TheVariants.{Transient, Pending, Persistent, Deleted, Detached}
use Rattle.object_arena.specs.Graph.{Graph, is_among, is_pending, is_persistent, object_at}
use Rattle.object_parts.specs.Ends.{ends_of}
use Rattle.relations.specs.Mirror.{is_of}
use Rattle.cascades.specs.declared.closures.Flag.TheVariants as flag
use Rattle.cascades.specs.Reaching.{reach_of}
use Rattle.object_rows.specs.declared.prepared.Prepared.{Prepared}
use Rattle.object_rows.specs.Seen.{link_of, object_ids}
use Rattle.pair_rows.specs.Pairs.{relations_at}

-- ---- what is deleted

-- the object is persistent, and marked or left by its parent
abbrev pub starts_deletes : Object → Bool
starts_deletes object = is_persistent object.state && (object.marked || object.orphan)

abbrev pub delete_starts : Graph → List ObjId
delete_starts graph = filter (λ object. starts_deletes (object_at graph object)) (object_ids graph)

-- the objects of which this is so, and all that deletes go on to from them
unfoldable pub reached : Mapped → Graph → List ObjId
reached mapped graph = reach_of flag.Delete mapped graph (delete_starts graph)

-- the persistent ones of them are to be deleted
unfoldable pub going : Mapped → Graph → List ObjId
going mapped graph = filter (λ object. is_persistent (object_at graph object).state) (reached mapped graph)

-- ---- what is new no more

-- the object is pending, and its parent has left it
abbrev pub is_new_orphan : Object → Bool
is_new_orphan object = is_pending object.state && object.orphan

abbrev pub new_orphans : Graph → List ObjId
new_orphans graph = filter (λ object. is_new_orphan (object_at graph object)) (object_ids graph)

-- such objects, and all that leaves a session with them
unfoldable pub left_with_orphans : Mapped → Graph → List ObjId
left_with_orphans mapped graph = reach_of flag.Expunge mapped graph (new_orphans graph)

-- the pending ones of both sets are to be transient; one of both stands here twice
unfoldable pub dropped : Mapped → Graph → List ObjId
dropped mapped graph = filter (λ object. is_pending (object_at graph object).state) (reached mapped graph ++ left_with_orphans mapped graph)

-- ---- which links become none

-- a one-to-many collection whose members stay where its owner is deleted
abbrev pub keeps_members : Relation → Bool
keeps_members relation = relation.many && (is_none relation.far && not relation.cascade.delete)

-- the link is known, and names an object other than the owner
abbrev pub leads_elsewhere : ObjId → Link → Bool
leads_elsewhere owner Unset = false
leads_elsewhere owner (Unloaded added removed) = false
leads_elsewhere owner (One None changed) = false
leads_elsewhere owner (One (Some end) changed) = not (end.0 == owner.0)
leads_elsewhere owner (Many members base) = false

-- deleted and detached objects keep their links
abbrev pub loses_links : State → Bool
loses_links Transient = true
loses_links Pending = true
loses_links Persistent = true
loses_links Deleted = false
loses_links Detached = false

-- Of a member of such a collection, where these objects are deleted: it stays, and has the link, its class being the target's or under
-- that; and the link does not lead elsewhere.
abbrev pub loses_link : Mapped → Graph → List ObjId → ObjId → Relation → ObjId → Bool
loses_link mapped graph gone owner relation member =
    not (is_among gone member) && (is_of graph mapped relation.target member
    && (loses_links (object_at graph member).state && not (leads_elsewhere owner (link_of (object_at graph member) relation.partner))))

-- the links of these members that become none
abbrev pub cleared_from : Mapped → Graph → List ObjId → ObjId → Relation → List ObjId → List (ObjId × RelNo)
cleared_from mapped graph gone owner relation members = map (λ member. (member, relation.partner)) (filter (loses_link mapped graph gone owner relation) members)

-- those for a collection of the owner, of this number
abbrev pub cleared_by : Mapped → Graph → List ObjId → ObjId → ℕ × Relation → List (ObjId × RelNo)
cleared_by mapped graph gone owner placed =
    if keeps_members placed.1
    then cleared_from mapped graph gone owner placed.1 (ends_of (link_of (object_at graph owner) (record { 0 = placed.0 })))
    else []

-- those where the owner is deleted
abbrev pub cleared_of : Mapped → Graph → List ObjId → ObjId → List (ObjId × RelNo)
cleared_of mapped graph gone owner = flat_map (cleared_by mapped graph gone owner) (relations_at mapped graph owner)

-- those where all of these are deleted; a member of two owners stands here twice
unfoldable pub cleared : Mapped → Graph → List ObjId → List (ObjId × RelNo)
cleared mapped graph gone = flat_map (cleared_of mapped graph gone) gone

-- ---- all of it

-- what a flush of these objects decides before it writes
unfoldable pub prepared_of : Mapped → Graph → Prepared
prepared_of mapped graph = record {
  deleted = going mapped graph;
  transient = dropped mapped graph;
  cleared = cleared mapped graph (going mapped graph);
}
