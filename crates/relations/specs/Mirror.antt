-- What the change of one link makes of the links on both sides, and the graph with them.
use Rattle.std.specs.Prelude.{Bool, true, false, not, ◌||◌, List, [], slice_get, ◌==◌, Option, None, Some, is_none, is_some, if◌then◌else◌}
use Rattle.std.specs.Option.{option_map}
use Rattle.base_core.specs.declared.ids.ClassId.{ClassId}
use Rattle.base_core.specs.declared.ids.ObjId.{ObjId}
use Rattle.base_core.specs.declared.ids.RelNo.{RelNo}
use Rattle.base_core.specs.declared.refusal.RequestKind.TheVariants.{BadOwner, BadMember}
use Rattle.base_core.specs.declared.refusal.Refusal.{Refusal}
use Rattle.base_core.specs.declared.refusal.Refusal.TheVariants.{InvalidRequestError}
use Rattle.class_types.specs.declared.mapped.Relation.{Relation}
use Rattle.class_mapping.specs.Mapped.{Mapped, partner_of}
use Rattle.class_mapping.specs.Paired.{is_at_or_under}
use Rattle.object_arena.specs.declared.object.State.{State}
use Rattle.object_arena.specs.declared.object.State.TheVariants.{Deleted, Detached}
use Rattle.object_arena.specs.declared.object.Link.{Link}
use Rattle.object_arena.specs.declared.object.Link.TheVariants.{Unset, Unloaded, One, Many}
use Rattle.object_arena.specs.Graph.{Graph, is_among, object_at, with_link, with_marks}
use Rattle.relations.specs.Parents.{is_known_as}
use Rattle.object_parts.specs.Sides.{joined_by, left_by}
use Rattle.relations.specs.declared.change.Change.{Change}
use Rattle.relations.specs.declared.change.LinkPut.{LinkPut}
use Rattle.relations.specs.declared.parents.OldParent.{OldParent}
use Rattle.relations.specs.declared.parents.OldParent.TheVariants.{Known, NotKnown}

-- ---- links as they are afterwards

-- the link of an object at a place, if it has one there
abbrev pub link_at : Graph → ObjId → RelNo → Option Link
link_at graph object place = slice_get (object_at graph object).links place.0

abbrev pub put_of : ObjId → RelNo → Link → LinkPut
put_of object place link = record { object = object; relation = place; link = link }

-- the collection of an owner without a member that leaves it
abbrev pub put_without_member : Graph → ObjId → RelNo → ObjId → Option LinkPut
put_without_member graph owner place member = option_map (λ link. put_of owner place (left_by link member)) (link_at graph owner place)

-- the collection of an owner with a member that joins it
abbrev pub put_with_member : Graph → ObjId → RelNo → ObjId → Option LinkPut
put_with_member graph owner place member = option_map (λ link. put_of owner place (joined_by link member)) (link_at graph owner place)

-- a link that leads to an end, and has been changed
abbrev pub put_to_end : Graph → ObjId → RelNo → Option ObjId → Option LinkPut
put_to_end graph child place end = option_map (λ link. put_of child place (One end true)) (link_at graph child place)

-- a link that led to the end already is loaded
abbrev pub loaded_to : Option ObjId → Link → Link
loaded_to end (One same changed) = One same changed
loaded_to end Unset = One end false
loaded_to end (Unloaded added removed) = One end false
loaded_to end (Many members base) = One end false

abbrev pub put_as_loaded : Graph → ObjId → RelNo → Option ObjId → Option LinkPut
put_as_loaded graph child place end = option_map (λ link. put_of child place (loaded_to end link)) (link_at graph child place)

abbrev pub with_put : Graph → Option LinkPut → Graph
with_put graph None = graph
with_put graph (Some put) = with_link graph put.object put.relation put.link

-- the graph in which an object is an orphan or is none, where that changes
abbrev pub with_orphan : Graph → ObjId → Option Bool → Graph
with_orphan graph object None = graph
with_orphan graph object (Some orphan) = with_marks graph object (object_at graph object).added (object_at graph object).marked orphan

-- the graph with these links, and all others as they were
unfoldable pub with_change : Graph → ObjId → Change → Graph
with_change graph child change = with_put (with_put (with_put (with_orphan graph child change.orphan) change.left) change.joined) change.own

-- ---- who takes part

abbrev pub is_gone : State → Bool
is_gone Deleted = true
is_gone Detached = true
is_gone state = false

-- the object is of a class at or under the class
abbrev pub is_of : Graph → Mapped → ClassId → ObjId → Bool
is_of graph mapped class object = is_at_or_under mapped (object_at graph object).class class

-- the object can not be put into a link to the class, or taken out of it
abbrev pub is_bad_member : Graph → Mapped → ClassId → ObjId → Bool
is_bad_member graph mapped target member = is_gone (object_at graph member).state || not (is_of graph mapped target member)

abbrev pub is_bad_end : Graph → Mapped → ClassId → Option ObjId → Bool
is_bad_end graph mapped target None = false
is_bad_end graph mapped target (Some end) = is_bad_member graph mapped target end

-- deleted and detached objects take no part in a change of links, and a link leads to objects of its target
abbrev pub end_fault : Graph → Mapped → ObjId → ClassId → Option ObjId → Option Refusal
end_fault graph mapped owner target end =
    if is_gone (object_at graph owner).state then Some (InvalidRequestError BadOwner)
    else if is_bad_end graph mapped target end then Some (InvalidRequestError BadMember)
    else None

-- ---- the change of a many-to-one link

-- the collection that the child leaves: that of the old parent, where this is known and is of the target
abbrev pub left_behind : Graph → Mapped → ObjId → Relation → OldParent → Option LinkPut
left_behind graph mapped child relation (Known (Some old)) = if is_of graph mapped relation.target old then put_without_member graph old relation.partner child else None
left_behind graph mapped child relation (Known None) = None
left_behind graph mapped child relation NotKnown = None

-- the collection that it joins: that of the new parent
abbrev pub joined_to : Graph → ObjId → Relation → Option ObjId → Option LinkPut
joined_to graph child relation None = None
joined_to graph child relation (Some parent) = put_with_member graph parent relation.partner child

abbrev pub has_orphans : Option Relation → Bool
has_orphans None = false
has_orphans (Some many) = many.cascade.delete_orphan

-- a child that has lost its parent is an orphan where the collections of its parents say so, and one that has found a parent is none
abbrev pub orphan_by : Bool → Option ObjId → Option Bool
orphan_by false parent = None
orphan_by true parent = Some (is_none parent)

-- a link that leads to the parent already is loaded; else the child leaves its old parent and joins the new one
abbrev pub set_change : Graph → Mapped → ObjId → RelNo → Relation → OldParent → Option ObjId → Change
set_change graph mapped child place relation old parent =
    if is_known_as old parent then record { left = None; joined = None; own = put_as_loaded graph child place parent; orphan = None }
    else record {
      left = left_behind graph mapped child relation old;
      joined = joined_to graph child relation parent;
      own = put_to_end graph child place parent;
      orphan = orphan_by (has_orphans (partner_of mapped relation)) parent;
    }

-- ---- changes of a collection

abbrev pub is_unloaded : Option Link → Bool
is_unloaded (Some (Unloaded added removed)) = true
is_unloaded link = false

abbrev pub members_in : Option Link → List ObjId
members_in (Some (Many members base)) = members
members_in link = []

-- the owner's collection has the member
abbrev pub has_member : Graph → ObjId → RelNo → ObjId → Bool
has_member graph owner place member = is_among (members_in (link_at graph owner place)) member

-- of many-to-many, each joins the collection of the other
abbrev pub join_change : Graph → ObjId → RelNo → Relation → ObjId → Change
join_change graph owner place relation member = record {
  left = None;
  joined = put_with_member graph owner place member;
  own = put_with_member graph member relation.partner owner;
  orphan = None;
}

-- the link is loaded and leads to another object
abbrev pub leads_elsewhere : Option Link → ObjId → Bool
leads_elsewhere (Some (One (Some end) changed)) owner = not (end.0 == owner.0)
leads_elsewhere link owner = false

-- of one-to-many, the member's link leads to none, unless it leads to another object; of many-to-many, each leaves the collection of the other
abbrev pub remove_change : Graph → ObjId → RelNo → Relation → ObjId → Change
remove_change graph owner place relation member =
    if is_some relation.far then record { left = put_without_member graph owner place member; joined = None; own = put_without_member graph member relation.partner owner; orphan = None }
    else if leads_elsewhere (link_at graph member relation.partner) owner then record { left = put_without_member graph owner place member; joined = None; own = None; orphan = None }
    else record {
      left = put_without_member graph owner place member;
      joined = None;
      own = put_to_end graph member relation.partner None;
      orphan = orphan_by relation.cascade.delete_orphan None;
    }
