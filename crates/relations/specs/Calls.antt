-- What is asked of one link of an object, which links change then, and the graph with them.
use Rattle.std.specs.Prelude.{Bool, true, false, not, ◌||◌, Option, None, Some, is_some, Result, Ok, Err, if◌then◌else◌}
use Rattle.base_core.specs.declared.ids.ObjId.{ObjId}
use Rattle.base_core.specs.declared.ids.RelNo.{RelNo}
use Rattle.base_core.specs.declared.refusal.RequestKind.TheVariants.{NotAMember, KeyChange}
use Rattle.base_core.specs.declared.refusal.Refusal.{Refusal}
use Rattle.base_core.specs.declared.refusal.Refusal.TheVariants.{InvalidRequestError}
use Rattle.class_types.specs.declared.mapped.Relation.{Relation}
use Rattle.class_mapping.specs.Mapped.{Mapped, partner_of}
use Rattle.object_arena.specs.Fit.{relation_of}
use Rattle.object_arena.specs.Graph.{Graph, object_at}
use Rattle.relations.specs.declared.calls.LinkCall.{LinkCall}
use Rattle.relations.specs.declared.calls.LinkCall.TheVariants.{Set, Append, Remove}
use Rattle.relations.specs.declared.change.Change.{Change}
use Rattle.relations.specs.declared.parents.OldParent.{OldParent}
use Rattle.relations.specs.Keys.{changes_key}
use Rattle.relations.specs.Mirror.{end_fault, has_member, is_unloaded, join_change, link_at, remove_change, set_change, with_change}
use Rattle.relations.specs.Parents.{old_parent}

-- the object that is named to be put in or taken out, if there is one
abbrev pub end_of : LinkCall → Option ObjId
end_of (Set parent) = parent
end_of (Append member) = Some member
end_of (Remove member) = Some member

-- it is asked of a collection, and not of a many-to-one link
abbrev pub is_of_collection : LinkCall → Bool
is_of_collection (Set parent) = false
is_of_collection (Append member) = true
is_of_collection (Remove member) = true

-- no link changes
abbrev pub no_change : Change
no_change = record { left = None; joined = None; own = None; orphan = None }

abbrev pub links_set_from : Graph → Mapped → ObjId → RelNo → Relation → Option ObjId → OldParent → Result Change Refusal
links_set_from graph mapped child place relation parent old =
    if changes_key graph mapped child relation old parent then Err (InvalidRequestError KeyChange)
    else Ok (set_change graph mapped child place relation old parent)

-- a many-to-one link is set to a parent or to none, unless that would change its object's key
unfoldable pub links_set : Graph → Mapped → ObjId → RelNo → Relation → Option ObjId → Result Change Refusal
links_set graph mapped child place relation parent = links_set_from graph mapped child place relation parent (old_parent graph mapped child place relation)

abbrev pub links_set_by : Graph → Mapped → ObjId → RelNo → ObjId → Option Relation → Result Change Refusal
links_set_by graph mapped owner place member None = Ok no_change
links_set_by graph mapped owner place member (Some link) = links_set graph mapped member place link (Some owner)

-- A member that is there already stays where it is. Of one-to-many the member's link is set to the owner; of many-to-many each joins
-- the collection of the other.
abbrev pub links_appended : Graph → Mapped → ObjId → RelNo → Relation → ObjId → Result Change Refusal
links_appended graph mapped owner place relation member =
    if has_member graph owner place member then Ok no_change
    else if is_some relation.far then Ok (join_change graph owner place relation member)
    else links_set_by graph mapped owner relation.partner member (partner_of mapped relation)

-- the members of the collection are known, and the object is none of them
abbrev pub lacks_member : Graph → ObjId → RelNo → ObjId → Bool
lacks_member graph owner place member = not (is_unloaded (link_at graph owner place) || has_member graph owner place member)

-- a member that is there is taken out on both sides
abbrev pub links_removed : Graph → ObjId → RelNo → Relation → ObjId → Result Change Refusal
links_removed graph owner place relation member =
    if lacks_member graph owner place member then Err (InvalidRequestError NotAMember)
    else Ok (remove_change graph owner place relation member)

-- which links change, where both sides can take part
abbrev pub links_by : Graph → Mapped → ObjId → RelNo → Relation → LinkCall → Result Change Refusal
links_by graph mapped owner place relation (Set parent) = links_set graph mapped owner place relation parent
links_by graph mapped owner place relation (Append member) = links_appended graph mapped owner place relation member
links_by graph mapped owner place relation (Remove member) = links_removed graph owner place relation member

abbrev pub unless_fault : Option Refusal → Result Change Refusal → Result Change Refusal
unless_fault (Some fault) change = Err fault
unless_fault None change = change

-- which links change by a call, or why none does
unfoldable pub link_change : Graph → Mapped → ObjId → RelNo → LinkCall → Result Change Refusal
link_change graph mapped owner place call =
    let relation = relation_of mapped (object_at graph owner).class place in
    unless_fault (end_fault graph mapped owner relation.target (end_of call)) (links_by graph mapped owner place relation call)

-- ---- the links are put in

-- the object that a change of its parent may make an orphan: the owner of a many-to-one link, else the member
abbrev pub child_of : ObjId → LinkCall → ObjId
child_of owner (Set parent) = owner
child_of owner (Append member) = member
child_of owner (Remove member) = member

-- the graph with the links that change, or why none does
abbrev pub changed_by : Graph → ObjId → Result Change Refusal → Result (Unit {0} × Graph) Refusal
changed_by graph child (Err fault) = Err fault
changed_by graph child (Ok change) = Ok (tt, with_change graph child change)

-- the answer to a call that changes a link with its other side
abbrev pub link_changed : Graph → Mapped → ObjId → RelNo → LinkCall → Result (Unit {0} × Graph) Refusal
link_changed graph mapped owner place call = changed_by graph (child_of owner call) (link_change graph mapped owner place call)

-- the answer to the setting of a many-to-one link
abbrev pub set_one : Graph → Mapped → ObjId → RelNo → Option ObjId → Result (Unit {0} × Graph) Refusal
set_one graph mapped child place parent = link_changed graph mapped child place (Set parent)

-- the answer to an append to a collection
abbrev pub append : Graph → Mapped → ObjId → RelNo → ObjId → Result (Unit {0} × Graph) Refusal
append graph mapped owner place member = link_changed graph mapped owner place (Append member)

-- the answer to a removal from a collection
abbrev pub remove : Graph → Mapped → ObjId → RelNo → ObjId → Result (Unit {0} × Graph) Refusal
remove graph mapped owner place member = link_changed graph mapped owner place (Remove member)
