-- What each link of each object is after one of them has been set, and after a member has joined a collection or left it.
use Rattle.std.specs.Prelude.{◌≡◌, ◌<◌, Bool, true, false, not, ◌&&◌, ◌||◌, [], length, ◌==◌, Option, None, Some, is_none, is_some, Ok, if◌then◌else◌}
use Rattle.std.specs.Option.{option_map}
use Rattle.schema_core.specs.Declaration.{some_two}
use Rattle.base_core.specs.declared.ids.ObjId.{ObjId}
use Rattle.base_core.specs.declared.ids.RelNo.{RelNo}
use Rattle.class_types.specs.declared.mapped.Relation.{Relation}
use Rattle.class_mapping.specs.Mapped.{Mapped, partner_of, relations_of}
use Rattle.class_mapping.specs.Paired.{HasPairs}
use Rattle.object_arena.specs.declared.object.Link.{Link}
use Rattle.object_arena.specs.declared.object.Link.TheVariants.{Unloaded, One, Many}
use Rattle.object_arena.specs.declared.object.Object.{Object}
use Rattle.object_arena.specs.Graph.{Graph, is_among, IsObject, object_at}
use Rattle.object_arena.specs.Fit.{IsFit, relation_of}
use Rattle.relations.specs.Keys.{IsEnd}
use Rattle.relations.specs.Calls.{append, remove, set_one}
use Rattle.relations.specs.Mirror.{has_member, has_orphans, is_of, is_unloaded, leads_elsewhere, link_at, loaded_to}
use Rattle.relations.specs.Parents.{is_known_as, old_parent}
use Rattle.object_parts.specs.Sides.{joined_by, left_by}
use Rattle.relations.specs.declared.parents.OldParent.{OldParent}
use Rattle.relations.specs.declared.parents.OldParent.TheVariants.{Known, NotKnown}

-- ---- a change of a link

-- a mapping, the graph of its objects, and a link of one of them
pub record Before : Type 0 where
  pub mapped : Mapped
  pub graph : Graph
  pub object : ObjId
  pub place : RelNo

-- the relationship of the link
abbrev pub relation_in : Before → Relation
relation_in before = relation_of before.mapped (object_at before.graph before.object).class before.place

-- the objects fit the mapping, and the object has the link, which is a collection or leads to one end
pub record IsLinkOf (many : Bool) (before : Before) : Type 0 where
  pub pairs : HasPairs before.mapped
  pub fit : IsFit before.mapped before.graph
  pub object : IsObject before.graph before.object
  pub place : before.place.0 < length (relations_of before.mapped (object_at before.graph before.object).class)
  pub form : (relation_in before).many ≡ many

-- the two are one link
abbrev pub is_link : ObjId → RelNo → ObjId → RelNo → Bool
is_link object place other next = (object.0 == other.0) && (place.0 == next.0)

-- the link is that of an end, if there is one
abbrev pub is_link_of_end : Option ObjId → RelNo → ObjId → RelNo → Bool
is_link_of_end None place other next = false
is_link_of_end (Some end) place other next = is_link end place other next

-- ---- the setting of a link

abbrev pub old_parent_of : Before → OldParent
old_parent_of before = old_parent before.graph before.mapped before.object before.place (relation_in before)

-- the old parent whose collection the child leaves: one that is known, and is of the target
abbrev pub parent_left : Before → OldParent → Option ObjId
parent_left before (Known (Some old)) = if is_of before.graph before.mapped (relation_in before).target old then Some old else None
parent_left before (Known None) = None
parent_left before NotKnown = None

-- What becomes of a link where the child's goes over to another parent or to none: the child's leads there, the new parent's
-- collection is joined, the old one's is left, and every other link stays.
abbrev pub link_moved : Before → Option ObjId → ObjId → RelNo → Option Link → Option Link
link_moved before parent other next link =
    if is_link before.object before.place other next then option_map (λ link. One parent true) link
    else if is_link_of_end parent (relation_in before).partner other next then option_map (λ link. joined_by link before.object) link
    else if is_link_of_end (parent_left before (old_parent_of before)) (relation_in before).partner other next then option_map (λ link. left_by link before.object) link
    else link

-- where it leads to the parent already, it is loaded, and every other link stays
abbrev pub link_loaded : Before → Option ObjId → ObjId → RelNo → Option Link → Option Link
link_loaded before parent other next link =
    if is_link before.object before.place other next then option_map (loaded_to parent) link else link

-- the old parent is known to be this one
abbrev pub leads_already : Before → Option ObjId → Bool
leads_already before parent = is_known_as (old_parent_of before) parent

-- the link at a place of an object, where the child's link is set
abbrev pub link_after_set : Before → Option ObjId → ObjId → RelNo → Option Link
link_after_set before parent other next =
    let link = link_at before.graph other next in
    if leads_already before parent then link_loaded before parent other next link else link_moved before parent other next link

-- a many-to-one link of a child is set to a parent or to none
pub record IsSetTo (before : Before) (parent : Option ObjId) (after : Graph) : Type 0 where
  pub link : IsLinkOf false before
  pub end : IsEnd before.graph parent
  pub set : set_one before.graph before.mapped before.object before.place parent ≡ Ok (tt, after)

-- each link of each object is the one that is told
abbrev pub SetTells : Type 0
SetTells = (before : Before) (parent : Option ObjId) (after : Graph) → IsSetTo before parent after
    → (other : ObjId) (next : RelNo) → IsObject before.graph other → link_at after other next ≡ link_after_set before parent other next

-- ---- members of collections

-- the collection has the object: as a member, or kept as added
abbrev pub has_in : Option Link → ObjId → Bool
has_in (Some (Unloaded added removed)) object = is_among added object
has_in (Some (Many members base)) object = is_among members object
has_in link object = false

-- an unloaded collection keeps the object as removed
abbrev pub is_removed : Option Link → ObjId → Bool
is_removed (Some (Unloaded added removed)) object = is_among removed object
is_removed link object = false

-- a collection after an object has joined it: it has the object, or no longer keeps it as removed
pub record HasJoined (old new : Option Link) (object : ObjId) : Type 0 where
  pub has : (has_in new object || is_removed old object) ≡ true
  pub kept : is_removed new object ≡ false

-- the link leads to the end, and is loaded
abbrev pub LeadsTo : Option Link → Option ObjId → Type 0
LeadsTo link end = (changed : Bool) × (link ≡ Some (One end changed))

-- what a set link is, and the collections of the two parents, where it led elsewhere before
pub record IsMirrored (before : Before) (parent : Option ObjId) (after : Graph) : Type 0 where
  pub leads : LeadsTo (link_at after before.object before.place) parent
  pub left : (old : ObjId) → leads_already before parent ≡ false → parent_left before (old_parent_of before) ≡ Some old
      → has_in (link_at after old (relation_in before).partner) before.object ≡ false
  pub joined : (end : ObjId) → leads_already before parent ≡ false → parent ≡ Some end
      → HasJoined (link_at before.graph end (relation_in before).partner) (link_at after end (relation_in before).partner) before.object

abbrev pub SetMirrors : Type 0
SetMirrors = (before : Before) (parent : Option ObjId) (after : Graph) → IsSetTo before parent after → IsMirrored before parent after

-- ---- an append to a collection and a removal from one

-- the link of a member that leads back
abbrev pub link_back : Before → ObjId → Before
link_back before member = record { mapped = before.mapped; graph = before.graph; object = member; place = (relation_in before).partner }

-- over a secondary table the member joins the collection, and the owner the member's
abbrev pub link_paired : Before → ObjId → ObjId → RelNo → Option Link → Option Link
link_paired before member other next link =
    if is_link member (relation_in before).partner other next then option_map (λ link. joined_by link before.object) link
    else if is_link before.object before.place other next then option_map (λ link. joined_by link member) link
    else link

-- without one the member's link is set to the owner; where the member is there already nothing changes
abbrev pub link_after_append : Before → ObjId → ObjId → RelNo → Option Link
link_after_append before member other next =
    if has_member before.graph before.object before.place member then link_at before.graph other next
    else if is_some (relation_in before).far then link_paired before member other next (link_at before.graph other next)
    else link_after_set (link_back before member) (Some before.object) other next

-- over a secondary table the member leaves the collection, and the owner the member's
abbrev pub link_unpaired : Before → ObjId → ObjId → RelNo → Option Link → Option Link
link_unpaired before member other next link =
    if is_link member (relation_in before).partner other next then option_map (λ link. left_by link before.object) link
    else if is_link before.object before.place other next then option_map (λ link. left_by link member) link
    else link

-- without one the member leaves, and its link leads to none, unless it leads to another object
abbrev pub link_let_go : Before → ObjId → ObjId → RelNo → Option Link → Option Link
link_let_go before member other next link =
    let elsewhere = leads_elsewhere (link_at before.graph member (relation_in before).partner) before.object in
    if not elsewhere && is_link member (relation_in before).partner other next then option_map (λ link. One None true) link
    else if is_link before.object before.place other next then option_map (λ link. left_by link member) link
    else link

abbrev pub link_after_remove : Before → ObjId → ObjId → RelNo → Option Link
link_after_remove before member other next =
    if is_some (relation_in before).far then link_unpaired before member other next (link_at before.graph other next)
    else link_let_go before member other next (link_at before.graph other next)

-- a collection of an owner that is not unloaded, and an object
pub record IsOfMember (before : Before) (member : ObjId) : Type 0 where
  pub link : IsLinkOf true before
  pub made : IsObject before.graph member
  pub loaded : is_unloaded (link_at before.graph before.object before.place) ≡ false

pub record IsAppended (before : Before) (member : ObjId) (after : Graph) : Type 0 where
  pub of : IsOfMember before member
  pub appended : append before.graph before.mapped before.object before.place member ≡ Ok (tt, after)

pub record IsTakenOut (before : Before) (member : ObjId) (after : Graph) : Type 0 where
  pub of : IsOfMember before member
  pub taken_out : remove before.graph before.mapped before.object before.place member ≡ Ok (tt, after)

-- each link of each object is the one that is told
abbrev pub AppendTells : Type 0
AppendTells = (before : Before) (member : ObjId) (after : Graph) → IsAppended before member after
    → (other : ObjId) (next : RelNo) → IsObject before.graph other → link_at after other next ≡ link_after_append before member other next

abbrev pub RemoveTells : Type 0
RemoveTells = (before : Before) (member : ObjId) (after : Graph) → IsTakenOut before member after
    → (other : ObjId) (next : RelNo) → IsObject before.graph other → link_at after other next ≡ link_after_remove before member other next

-- the collection has the member: of many-to-many always, of one-to-many unless the member's link led to the owner already
abbrev pub AppendAdds : Type 0
AppendAdds = (before : Before) (member : ObjId) (after : Graph) → IsAppended before member after
    → (is_some (relation_in before).far ≡ false → leads_already (link_back before member) (Some before.object) ≡ false)
    → has_member after before.object before.place member ≡ true

-- the collection lacks the member
abbrev pub RemoveTakesOut : Type 0
RemoveTakesOut = (before : Before) (member : ObjId) (after : Graph) → IsTakenOut before member after
    → has_member after before.object before.place member ≡ false

-- ---- no member twice

abbrev pub same_object : ObjId → ObjId → Bool
same_object later object = later.0 == object.0

-- a loaded collection has a member twice, or an unloaded one keeps one twice as added or as removed
abbrev pub repeats_member : Option Link → Bool
repeats_member (Some (Unloaded added removed)) = some_two same_object added || some_two same_object removed
repeats_member (Some (Many members base)) = some_two same_object members
repeats_member link = false

-- no link of an object repeats a member that did not before
abbrev pub RepeatsNoMore : Graph → Graph → Type 0
RepeatsNoMore old new = (object : ObjId) (place : RelNo) → IsObject old object → repeats_member (link_at old object place) ≡ false → repeats_member (link_at new object place) ≡ false

abbrev pub SetRepeatsNone : Type 0
SetRepeatsNone = (before : Before) (parent : Option ObjId) (after : Graph) → IsSetTo before parent after → RepeatsNoMore before.graph after

abbrev pub AppendRepeatsNone : Type 0
AppendRepeatsNone = (before : Before) (member : ObjId) (after : Graph) → IsAppended before member after → RepeatsNoMore before.graph after

abbrev pub RemoveRepeatsNone : Type 0
RemoveRepeatsNone = (before : Before) (member : ObjId) (after : Graph) → IsTakenOut before member after → RepeatsNoMore before.graph after

-- ---- what stays

-- an object but for its links and its orphan mark
abbrev pub rest_of : Object → Object
rest_of object = record object { links = []; orphan = false }

-- of each object everything but links and orphan marks is as before
abbrev pub KeepsRest : Graph → Graph → Type 0
KeepsRest old new = (object : ObjId) → IsObject old object → rest_of (object_at new object) ≡ rest_of (object_at old object)

abbrev pub SetKeepsRest : Type 0
SetKeepsRest = (before : Before) (parent : Option ObjId) (after : Graph) → IsSetTo before parent after → KeepsRest before.graph after

abbrev pub AppendKeepsRest : Type 0
AppendKeepsRest = (before : Before) (member : ObjId) (after : Graph) → IsAppended before member after → KeepsRest before.graph after

abbrev pub RemoveKeepsRest : Type 0
RemoveKeepsRest = (before : Before) (member : ObjId) (after : Graph) → IsTakenOut before member after → KeepsRest before.graph after

-- ---- orphans

-- A child whose link goes over to a parent or to none is an orphan then exactly where it has none, if the collections of its
-- parents have delete-orphan. Every other orphan mark stays.
abbrev pub orphan_after_set : Before → Option ObjId → ObjId → Bool
orphan_after_set before parent other =
    if (before.object.0 == other.0) && (not (leads_already before parent) && has_orphans (partner_of before.mapped (relation_in before))) then is_none parent
    else (object_at before.graph other).orphan

abbrev pub SetMarksOrphans : Type 0
SetMarksOrphans = (before : Before) (parent : Option ObjId) (after : Graph) → IsSetTo before parent after
    → (other : ObjId) → IsObject before.graph other → (object_at after other).orphan ≡ orphan_after_set before parent other

-- an append sets the member's link of one-to-many, and makes no orphan of many-to-many
abbrev pub orphan_after_append : Before → ObjId → ObjId → Bool
orphan_after_append before member other =
    if has_member before.graph before.object before.place member then (object_at before.graph other).orphan
    else if is_some (relation_in before).far then (object_at before.graph other).orphan
    else orphan_after_set (link_back before member) (Some before.object) other

abbrev pub AppendMarksOrphans : Type 0
AppendMarksOrphans = (before : Before) (member : ObjId) (after : Graph) → IsAppended before member after
    → (other : ObjId) → IsObject before.graph other → (object_at after other).orphan ≡ orphan_after_append before member other

-- a member that is taken out of a one-to-many collection with delete-orphan is an orphan, unless its link leads to another object
abbrev pub is_orphaned : Before → ObjId → Bool
is_orphaned before member =
    not (is_some (relation_in before).far)
    && (not (leads_elsewhere (link_at before.graph member (relation_in before).partner) before.object) && (relation_in before).cascade.delete_orphan)

abbrev pub orphan_after_remove : Before → ObjId → ObjId → Bool
orphan_after_remove before member other = if (member.0 == other.0) && is_orphaned before member then true else (object_at before.graph other).orphan

abbrev pub RemoveMarksOrphans : Type 0
RemoveMarksOrphans = (before : Before) (member : ObjId) (after : Graph) → IsTakenOut before member after
    → (other : ObjId) → IsObject before.graph other → (object_at after other).orphan ≡ orphan_after_remove before member other
