-- The links that change by a call are put at places that objects have.
use Rattle.std.proofs.Common.{◌≡◌, Bool, true, false, Option, None, Some, Result, Ok, Err, is_some, refl, subst, if◌then◌else◌}
use Rattle.std.specs.Option.{option_map}
use Rattle.std.proofs.lemmas.Option.{slice_get_within}
use Rattle.base_core.specs.declared.ids.ObjId.{ObjId}
use Rattle.base_core.specs.declared.ids.RelNo.{RelNo}
use Rattle.base_core.specs.declared.refusal.Refusal.{Refusal}
use Rattle.base_core.specs.declared.refusal.Refusal.TheVariants.{InvalidRequestError}
use Rattle.base_core.specs.declared.refusal.RequestKind.TheVariants.{KeyChange, NotAMember}
use Rattle.class_types.specs.declared.mapped.Relation.{Relation}
use Rattle.class_mapping.specs.Mapped.{Mapped, partner_of}
use Rattle.object_arena.specs.declared.object.Link.{Link}
use Rattle.object_arena.specs.Fit.{IsFit, relation_of}
use Rattle.object_arena.specs.Graph.{Graph, IsObject, object_at}
use Rattle.relations.specs.declared.calls.LinkCall.{LinkCall}
use Rattle.relations.specs.declared.calls.LinkCall.TheVariants.{Set, Append, Remove}
use Rattle.relations.specs.declared.change.Change.{Change}
use Rattle.relations.specs.declared.parents.OldParent.{OldParent}
use Rattle.relations.specs.declared.parents.OldParent.TheVariants.{Known, NotKnown}
use Rattle.relations.specs.Calls.{end_of, lacks_member, link_change, links_appended, links_by, links_removed, links_set, links_set_by, no_change, unless_fault}
use Rattle.relations.specs.Keys.{IsEnd, changes_key}
use Rattle.relations.specs.Mirror.{end_fault, has_member, has_orphans, is_of, join_change, joined_to, leads_elsewhere, left_behind, link_at, orphan_by, put_of, put_as_loaded, put_to_end, put_without_member, remove_change, set_change}
use Rattle.relations.specs.Parents.{IsMade, is_known_as, old_parent}
use Rattle.relations.specs.Places.{IsPlaced, IsPutIn}
use Rattle.session_laws.proofs.Links.SetLemmas.{old_made}

-- a link of an object is put in the place of one that it has
placed_at : (graph : Graph) (object : ObjId) (place : RelNo) (change : Link → Link) (link : Option Link) → link_at graph object place ≡ link → IsObject graph object → IsPutIn graph (option_map (λ l. put_of object place (change l)) link)
placed_at graph object place change None is made = tt
placed_at graph object place change (Some link) is made = (made, slice_get_within (object_at graph object).links place.0 link is)

put_placed : (graph : Graph) (object : ObjId) (place : RelNo) (change : Link → Link) → IsObject graph object → IsPutIn graph (option_map (λ l. put_of object place (change l)) (link_at graph object place))
put_placed graph object place change made = placed_at graph object place change (link_at graph object place) refl made

-- ---- a link is set

left_placed : (graph : Graph) (mapped : Mapped) (child : ObjId) (relation : Relation) (old : OldParent) → IsMade graph old → IsPutIn graph (left_behind graph mapped child relation old)
left_placed graph mapped child relation (Known (Some old)) made = by (is_of graph mapped relation.target old)
  where
    by : (b : Bool) → IsPutIn graph (if b then put_without_member graph old relation.partner child else None)
    by true = put_placed graph old relation.partner _ made
    by false = tt
left_placed graph mapped child relation (Known None) made = tt
left_placed graph mapped child relation NotKnown made = tt

joined_placed : (graph : Graph) (child : ObjId) (relation : Relation) (parent : Option ObjId) → IsEnd graph parent → IsPutIn graph (joined_to graph child relation parent)
joined_placed graph child relation None made = tt
joined_placed graph child relation (Some parent) made = put_placed graph parent relation.partner _ made

set_placed : (graph : Graph) (mapped : Mapped) (child : ObjId) (place : RelNo) (relation : Relation) (old : OldParent) (parent : Option ObjId) → IsObject graph child → IsMade graph old → IsEnd graph parent
    → IsPlaced graph (set_change graph mapped child place relation old parent)
set_placed graph mapped child place relation old parent child_made old_is_made parent_made = by (is_known_as old parent)
  where
    by : (b : Bool) → IsPlaced graph (if b then record { left = None; joined = None; own = put_as_loaded graph child place parent; orphan = None }
        else record {
          left = left_behind graph mapped child relation old;
          joined = joined_to graph child relation parent;
          own = put_to_end graph child place parent;
          orphan = orphan_by (has_orphans (partner_of mapped relation)) parent;
        })
    by true = record { left = tt; joined = tt; own = put_placed graph child place _ child_made }
    by false = record { left = left_placed graph mapped child relation old old_is_made; joined = joined_placed graph child relation parent parent_made; own = put_placed graph child place _ child_made }

-- what holds of the change that is found, if one is
unfoldable pub Found : (Change → Type 0) → Result Change Refusal → Type 0
Found P found = (change : Change) → found ≡ Ok change → P change

pub found_ok : (P : Change → Type 0) (one : Change) → P one → Found P (Ok one)
unfolding Found
found_ok P one holds = λ change is. subst P (same one change is) holds
  where
    same : (x y : Change) → (let found : Result Change Refusal = Ok x in found ≡ Ok y) → x ≡ y
    same x y is = cc

pub found_err : (P : Change → Type 0) (fault : Refusal) → Found P (Err fault)
unfolding Found
found_err P fault = λ change is. absurd cc

pub found_unless : (P : Change → Type 0) (fault : Option Refusal) (found : Result Change Refusal) → (fault ≡ None → Found P found) → Found P (unless_fault fault found)
found_unless P (Some fault) found holds = found_err P fault
found_unless P None found holds = holds refl

abbrev FoundPlaced : Graph → Result Change Refusal → Type 0
FoundPlaced graph found = Found (IsPlaced graph) found

links_set_placed : (graph : Graph) (mapped : Mapped) (child : ObjId) (place : RelNo) (relation : Relation) (parent : Option ObjId) → IsFit mapped graph → IsObject graph child → IsEnd graph parent → FoundPlaced graph (links_set graph mapped child place relation parent)
unfolding links_set
links_set_placed graph mapped child place relation parent fit child_made parent_made = by (changes_key graph mapped child relation (old_parent graph mapped child place relation) parent)
  where
    old : OldParent
    old = old_parent graph mapped child place relation

    by : (b : Bool) → FoundPlaced graph (if b then Err (InvalidRequestError KeyChange) else Ok (set_change graph mapped child place relation old parent))
    by true = found_err (IsPlaced graph) (InvalidRequestError KeyChange)
    by false = found_ok (IsPlaced graph) (set_change graph mapped child place relation old parent) (set_placed graph mapped child place relation old parent child_made (old_made mapped graph child place relation fit child_made) parent_made)

-- ---- a member is appended

none_placed : (graph : Graph) → IsPlaced graph no_change
none_placed graph = record { left = tt; joined = tt; own = tt }

set_by_placed : (graph : Graph) (mapped : Mapped) (owner : ObjId) (partner : RelNo) (member : ObjId) (link : Option Relation) → IsFit mapped graph → IsObject graph owner → IsObject graph member → FoundPlaced graph (links_set_by graph mapped owner partner member link)
set_by_placed graph mapped owner partner member None fit owner_made member_made = found_ok (IsPlaced graph) no_change (none_placed graph)
set_by_placed graph mapped owner partner member (Some link) fit owner_made member_made = links_set_placed graph mapped member partner link (Some owner) fit member_made owner_made

appended_placed : (graph : Graph) (mapped : Mapped) (owner : ObjId) (place : RelNo) (relation : Relation) (member : ObjId) → IsFit mapped graph → IsObject graph owner → IsObject graph member → FoundPlaced graph (links_appended graph mapped owner place relation member)
appended_placed graph mapped owner place relation member fit owner_made member_made = by (has_member graph owner place member) (is_some relation.far)
  where
    join : Change
    join = join_change graph owner place relation member

    by : (there far : Bool) → FoundPlaced graph (if there then Ok no_change else if far then Ok join else links_set_by graph mapped owner relation.partner member (partner_of mapped relation))
    by true far = found_ok (IsPlaced graph) no_change (none_placed graph)
    by false true = found_ok (IsPlaced graph) join (record { left = tt; joined = put_placed graph owner place _ owner_made; own = put_placed graph member relation.partner _ member_made })
    by false false = set_by_placed graph mapped owner relation.partner member (partner_of mapped relation) fit owner_made member_made

-- ---- a member is taken out

out_placed : (graph : Graph) (owner : ObjId) (place : RelNo) (relation : Relation) (member : ObjId) → IsObject graph owner → IsObject graph member → IsPlaced graph (remove_change graph owner place relation member)
out_placed graph owner place relation member owner_made member_made = by (is_some relation.far) (leads_elsewhere (link_at graph member relation.partner) owner)
  where
    left : IsPutIn graph (put_without_member graph owner place member)
    left = put_placed graph owner place _ owner_made

    by : (far elsewhere : Bool) → IsPlaced graph (if far then record { left = put_without_member graph owner place member; joined = None; own = put_without_member graph member relation.partner owner; orphan = None }
        else if elsewhere then record { left = put_without_member graph owner place member; joined = None; own = None; orphan = None }
        else record { left = put_without_member graph owner place member; joined = None; own = put_to_end graph member relation.partner None; orphan = orphan_by relation.cascade.delete_orphan None })
    by true elsewhere = record { left = left; joined = tt; own = put_placed graph member relation.partner _ member_made }
    by false true = record { left = left; joined = tt; own = tt }
    by false false = record { left = left; joined = tt; own = put_placed graph member relation.partner _ member_made }

removed_placed : (graph : Graph) (owner : ObjId) (place : RelNo) (relation : Relation) (member : ObjId) → IsObject graph owner → IsObject graph member → FoundPlaced graph (links_removed graph owner place relation member)
removed_placed graph owner place relation member owner_made member_made = by (lacks_member graph owner place member)
  where
    by : (b : Bool) → FoundPlaced graph (if b then Err (InvalidRequestError NotAMember) else Ok (remove_change graph owner place relation member))
    by true = found_err (IsPlaced graph) (InvalidRequestError NotAMember)
    by false = found_ok (IsPlaced graph) (remove_change graph owner place relation member) (out_placed graph owner place relation member owner_made member_made)

-- ---- any call

by_call : (graph : Graph) (mapped : Mapped) (owner : ObjId) (place : RelNo) (relation : Relation) (call : LinkCall) → IsFit mapped graph → IsObject graph owner → IsEnd graph (end_of call) → FoundPlaced graph (links_by graph mapped owner place relation call)
by_call graph mapped owner place relation (Set parent) fit owner_made end_made = links_set_placed graph mapped owner place relation parent fit owner_made end_made
by_call graph mapped owner place relation (Append member) fit owner_made end_made = appended_placed graph mapped owner place relation member fit owner_made end_made
by_call graph mapped owner place relation (Remove member) fit owner_made end_made = removed_placed graph owner place relation member owner_made end_made

pub change_placed : (graph : Graph) (mapped : Mapped) (owner : ObjId) (place : RelNo) (call : LinkCall) (change : Change) → IsFit mapped graph → IsObject graph owner → IsEnd graph (end_of call) → link_change graph mapped owner place call ≡ Ok change → IsPlaced graph change
unfolding Found link_change
change_placed graph mapped owner place call change fit owner_made end_made is =
    let relation : Relation = relation_of mapped (object_at graph owner).class place in
    found_unless (IsPlaced graph) (end_fault graph mapped owner relation.target (end_of call)) (links_by graph mapped owner place relation call) (λ none. by_call graph mapped owner place relation call fit owner_made end_made) change is
