-- The links that a change puts in fit their relationships.
use Rattle.std.proofs.Common.{◌≡◌, ℕ, ◌<◌, ◌≤◌, Bool, true, false, List, length, get_or, Option, None, Some, is_some, refl, sym, ap, ◌∙◌, subst, arith}
use Rattle.std.specs.Prelude.{not, ◌&&◌, ◌||◌, nat_lt, slice_get, if◌then◌else◌}
use Rattle.std.specs.Option.{option_map}
use Rattle.std.proofs.lemmas.Bool.{and_from, eq-eqb, not-true}
use Rattle.std.proofs.lemmas.Bool.Decides.{nat_tests}
use Rattle.std.proofs.lemmas.List.{get_or-map}
use Rattle.std.proofs.lemmas.Option.{get_or_from_slice_get, slice_get-get_or, slice_get_read}
use Rattle.base_core.specs.declared.ids.ClassId.{ClassId}
use Rattle.base_core.specs.declared.ids.ObjId.{ObjId}
use Rattle.base_core.specs.declared.ids.RelNo.{RelNo}
use Rattle.base_core.specs.declared.refusal.RequestKind.TheVariants.{BadOwner, BadMember}
use Rattle.base_core.specs.declared.refusal.Refusal.TheVariants.{InvalidRequestError}
use Rattle.class_types.specs.declared.mapped.Relation.{Relation}
use Rattle.class_sides.specs.Pairs.{differ}
use Rattle.class_mapping.specs.Mapped.{Mapped, partner_of, relations_of, root_of}
use Rattle.class_mapping.specs.Paired.{HasPairs, IsAt, IsBack, is_at_or_under}
use Rattle.object_arena.specs.declared.object.Link.{Link}
use Rattle.object_arena.specs.declared.object.Link.TheVariants.{Unset, Unloaded, One, Many}
use Rattle.object_arena.specs.declared.object.Object.{Object}
use Rattle.object_arena.specs.Every.{classes_of}
use Rattle.object_arena.specs.Graph.{Graph, IsObject, no_class_id, no_object, object_at, place_of, root_at}
use Rattle.object_arena.specs.Fit.{IsFit, end_fits, held_fit, is_of_root, is_root, link_fits, no_relation, relation_of}
use Rattle.object_arena.proofs.ClassLemmas.{classes_long}
use Rattle.object_arena.proofs.FitLemmas.{fit_links, fit_root}
use Rattle.relations.specs.Fits.{ChangeFits, IsEndOf, IsManyAt, IsOneAt, PutFits}
use Rattle.relations.specs.Keys.{IsEnd}
use Rattle.relations.specs.Mirror.{end_fault, has_orphans, is_gone, is_of, join_change, joined_to, put_with_member, put_to_end, leads_elsewhere, put_without_member, left_behind, link_at, loaded_to, put_as_loaded, orphan_by, put_of, remove_change, set_change}
use Rattle.relations.specs.Parents.{IsMade, is_known_as}
use Rattle.relations.specs.Places.{IsPutIn}
use Rattle.object_parts.specs.Sides.{joined_by, left_by}
use Rattle.relations.specs.declared.change.LinkPut.{LinkPut}
use Rattle.relations.specs.declared.parents.OldParent.{OldParent}
use Rattle.relations.specs.declared.parents.OldParent.TheVariants.{Known, NotKnown}
use Rattle.relations.proofs.EndLemmas.{link_found, roots_long}
use Rattle.relations.proofs.SideLemmas.{joined_fits, left_fits}

-- ---- the objects keep their classes

class_later : (old new : Graph) (object : ObjId) → classes_of new ≡ classes_of old → IsObject old object → (object_at new object).class ≡ (object_at old object).class
unfolding classes_of
class_later old new object same within =
    let above : 0 < object.0 = within.0 in
    let inside : object.0 ≤ length old.objects = within.1 in
    let long : length new.objects ≡ length old.objects = classes_long old new same in
    sym (get_or-map (λ (o : Object). o.class) new.objects (place_of object) no_object no_class_id (omega arith))
    ∙ ap (λ (classes : List ClassId × List ClassId). get_or classes.0 (place_of object) no_class_id) same
    ∙ get_or-map (λ (o : Object). o.class) old.objects (place_of object) no_object no_class_id (omega arith)

roots_later : (old new : Graph) → classes_of new ≡ classes_of old → new.roots ≡ old.roots
unfolding classes_of
roots_later old new same = ap (λ (classes : List ClassId × List ClassId). classes.1) same

-- a put that fits goes on to fit
pub fits_later : (mapped : Mapped) (old new : Graph) (put : Option LinkPut) → classes_of new ≡ classes_of old → IsPutIn old put → PutFits mapped old put → PutFits mapped new put
fits_later mapped old new None same there h = tt
fits_later mapped old new (Some put) same there h =
    ap (λ (roots : List ClassId). link_fits mapped roots (relation_of mapped (object_at new put.object).class put.relation) put.link) (roots_later old new same)
    ∙ ap (λ (class : ClassId). link_fits mapped old.roots (relation_of mapped class put.relation) put.link) (class_later old new put.object same there.0)
    ∙ h

-- ---- objects of a hierarchy

of_root : (mapped : Mapped) (graph : Graph) (object : ObjId) (root : ClassId) → IsFit mapped graph → IsObject graph object → (root_of mapped (object_at graph object).class).0 ≡ root.0 → is_of_root graph.roots root object ≡ true
of_root mapped graph object root fit within same =
    let above : 0 < object.0 = within.0 in
    let inside : object.0 ≤ length graph.objects = within.1 in
    let long : length graph.roots ≡ length graph.objects = roots_long mapped graph fit in
    let positive : nat_lt 0 object.0 ≡ true = grind (arith, nat_tests) in
    and_from (nat_lt 0 object.0) (is_root root (slice_get graph.roots (place_of object))) positive
    (ap (is_root root) (slice_get-get_or graph.roots (place_of object) no_class_id (omega arith))
    ∙ eq-eqb (root_at graph object).0 root.0 (ap (λ (class : ClassId). class.0) (fit_root mapped graph object fit within) ∙ same))

-- an object of a class at or under the target is of the target's hierarchy
under_root : (mapped : Mapped) (graph : Graph) (target : ClassId) (object : ObjId) → HasPairs mapped → IsFit mapped graph → IsObject graph object → is_of graph mapped target object ≡ true → is_of_root graph.roots (root_of mapped target) object ≡ true
under_root mapped graph target object pairs fit within is =
    of_root mapped graph object (root_of mapped target) fit within (pairs.rooted (object_at graph object).class target is)

end_under : (mapped : Mapped) (graph : Graph) (target : ClassId) (end : Option ObjId) → HasPairs mapped → IsFit mapped graph → IsEnd graph end → IsEndOf graph mapped target end → end_fits graph.roots (root_of mapped target) end ≡ true
end_under mapped graph target None pairs fit within is = refl
end_under mapped graph target (Some end) pairs fit within is = under_root mapped graph target end pairs fit within is

-- ---- single links

-- a link that is put at the place of a relationship
put_at : (mapped : Mapped) (graph : Graph) (object : ObjId) (place : RelNo) (relation : Relation) (link : Link) → IsAt mapped (object_at graph object).class place.0 relation → link_fits mapped graph.roots relation link ≡ true → PutFits mapped graph (Some (put_of object place link))
put_at mapped graph object place relation link at h =
    ap (λ (r : Relation). link_fits mapped graph.roots r link) (get_or_from_slice_get (relations_of mapped (object_at graph object).class) place.0 relation no_relation at) ∙ h

link_was : (mapped : Mapped) (graph : Graph) (object : ObjId) (place : RelNo) (relation : Relation) (link : Link) → IsFit mapped graph → IsObject graph object → IsAt mapped (object_at graph object).class place.0 relation → slice_get (object_at graph object).links place.0 ≡ Some link
    → link_fits mapped graph.roots relation link ≡ true
link_was mapped graph object place relation link fit within at found =
    ap (λ (r : Relation). link_fits mapped graph.roots r link) (sym (get_or_from_slice_get (relations_of mapped (object_at graph object).class) place.0 relation no_relation at))
    ∙ link_found mapped graph.roots (object_at graph object) place.0 link (fit_links mapped graph object fit within) found

leaving_fits : (mapped : Mapped) (graph : Graph) (owner : ObjId) (place : RelNo) (member : ObjId) (relation : Relation) → IsFit mapped graph → IsObject graph owner → IsManyAt graph mapped owner place relation → is_of_root graph.roots (root_of mapped relation.target) member ≡ true
    → PutFits mapped graph (put_without_member graph owner place member)
leaving_fits mapped graph owner place member relation fit within is of = by_link (link_at graph owner place) refl
  where
    by_link : (found : Option Link) → link_at graph owner place ≡ found → PutFits mapped graph (option_map (λ link. put_of owner place (left_by link member)) found)
    by_link None at = tt
    by_link (Some link) at =
        put_at mapped graph owner place relation (left_by link member) is.at
        (left_fits graph.roots (root_of mapped relation.target) relation.many link member is.many of (link_was mapped graph owner place relation link fit within is.at at))

joining_fits : (mapped : Mapped) (graph : Graph) (owner : ObjId) (place : RelNo) (member : ObjId) (relation : Relation) → IsFit mapped graph → IsObject graph owner → IsManyAt graph mapped owner place relation → is_of_root graph.roots (root_of mapped relation.target) member ≡ true
    → PutFits mapped graph (put_with_member graph owner place member)
joining_fits mapped graph owner place member relation fit within is of = by_link (link_at graph owner place) refl
  where
    by_link : (found : Option Link) → link_at graph owner place ≡ found → PutFits mapped graph (option_map (λ link. put_of owner place (joined_by link member)) found)
    by_link None at = tt
    by_link (Some link) at =
        put_at mapped graph owner place relation (joined_by link member) is.at
        (joined_fits graph.roots (root_of mapped relation.target) relation.many link member is.many of (link_was mapped graph owner place relation link fit within is.at at))

one_fits : (roots : List ClassId) (root : ClassId) (many : Bool) (end : Option ObjId) (changed : Bool) → many ≡ false → end_fits roots root end ≡ true → held_fit roots root many (One end changed) ≡ true
one_fits roots root many end changed one h = and_from (not many) (end_fits roots root end) (ap not one) h

leading_fits : (mapped : Mapped) (graph : Graph) (child : ObjId) (place : RelNo) (end : Option ObjId) (relation : Relation) → IsOneAt graph mapped child place relation → end_fits graph.roots (root_of mapped relation.target) end ≡ true → PutFits mapped graph (put_to_end graph child place end)
leading_fits mapped graph child place end relation is h = by_link (link_at graph child place)
  where
    by_link : (found : Option Link) → PutFits mapped graph (option_map (λ link. put_of child place (One end true)) found)
    by_link None = tt
    by_link (Some link) = put_at mapped graph child place relation (One end true) is.at (one_fits graph.roots (root_of mapped relation.target) relation.many end true is.one h)

loaded_fits : (roots : List ClassId) (root : ClassId) (many : Bool) (end : Option ObjId) (link : Link) → many ≡ false → end_fits roots root end ≡ true → held_fit roots root many link ≡ true → held_fit roots root many (loaded_to end link) ≡ true
loaded_fits roots root many end Unset one h was = one_fits roots root many end false one h
loaded_fits roots root many end (Unloaded added removed) one h was = one_fits roots root many end false one h
loaded_fits roots root many end (One same changed) one h was = was
loaded_fits roots root many end (Many members base) one h was = one_fits roots root many end false one h

loading_fits : (mapped : Mapped) (graph : Graph) (child : ObjId) (place : RelNo) (end : Option ObjId) (relation : Relation) → IsFit mapped graph → IsObject graph child → IsOneAt graph mapped child place relation → end_fits graph.roots (root_of mapped relation.target) end ≡ true
    → PutFits mapped graph (put_as_loaded graph child place end)
loading_fits mapped graph child place end relation fit within is h = by_link (link_at graph child place) refl
  where
    by_link : (found : Option Link) → link_at graph child place ≡ found → PutFits mapped graph (option_map (λ link. put_of child place (loaded_to end link)) found)
    by_link None at = tt
    by_link (Some link) at =
        put_at mapped graph child place relation (loaded_to end link) is.at
        (loaded_fits graph.roots (root_of mapped relation.target) relation.many end link is.one h (link_was mapped graph child place relation link fit within is.at at))

-- ---- partners

opposite_of_one : (far many other : Bool) → many ≡ false → (if far then many && other else differ many other) ≡ true → other ≡ true
opposite_of_one true false other one h = absurd cc
opposite_of_one true true other one h = absurd cc
opposite_of_one false false other one h = h
opposite_of_one false true other one h = absurd cc

-- the partner of a many-to-one link is a collection, of objects of the child's hierarchy, in each class at or under the target
pub partner_of_one : (mapped : Mapped) (class above : ClassId) (place : ℕ) (relation : Relation) → HasPairs mapped → IsAt mapped class place relation → relation.many ≡ false → is_at_or_under mapped above relation.target ≡ true
    → (partner : Relation) × (IsAt mapped above relation.partner.0 partner) × (partner.many ≡ true) × ((root_of mapped class).0 ≡ (root_of mapped partner.target).0)
partner_of_one mapped class above place relation pairs at one under = by_partner (partner_of mapped relation) refl (pairs.back class place relation at)
  where
    by_partner : (found : Option Relation) → partner_of mapped relation ≡ found → IsBack mapped class relation found
        → (partner : Relation) × (IsAt mapped above relation.partner.0 partner) × (partner.many ≡ true) × ((root_of mapped class).0 ≡ (root_of mapped partner.target).0)
    by_partner None is back = absurd back
    by_partner (Some partner) is back = (
      partner,
      pairs.inherited above relation.target relation.partner.0 partner under is,
      opposite_of_one (is_some relation.far) relation.many partner.many one back.0,
      pairs.rooted class partner.target back.1,
    )

-- ---- the setting of a link

left_behind_fits : (mapped : Mapped) (graph : Graph) (child : ObjId) (place : RelNo) (relation : Relation) (old : OldParent) → HasPairs mapped → IsFit mapped graph → IsObject graph child → IsOneAt graph mapped child place relation → IsMade graph old
    → PutFits mapped graph (left_behind graph mapped child relation old)
left_behind_fits mapped graph child place relation NotKnown pairs fit within is made = tt
left_behind_fits mapped graph child place relation (Known None) pairs fit within is made = tt
left_behind_fits mapped graph child place relation (Known (Some old)) pairs fit within is made = by_class (is_of graph mapped relation.target old) refl
  where
    by_class : (under : Bool) → is_of graph mapped relation.target old ≡ under → PutFits mapped graph (if under then put_without_member graph old relation.partner child else None)
    by_class false is_under = tt
    by_class true is_under =
        let found = partner_of_one mapped (object_at graph child).class (object_at graph old).class place.0 relation pairs is.at is.one is_under in
        leaving_fits mapped graph old relation.partner child found.0 fit made (record { at = found.1; many = found.2 })
        (of_root mapped graph child (root_of mapped found.0.target) fit within found.3)

joined_to_fits : (mapped : Mapped) (graph : Graph) (child : ObjId) (place : RelNo) (relation : Relation) (parent : Option ObjId) → HasPairs mapped → IsFit mapped graph → IsObject graph child → IsOneAt graph mapped child place relation → IsEnd graph parent → IsEndOf graph mapped relation.target parent
    → PutFits mapped graph (joined_to graph child relation parent)
joined_to_fits mapped graph child place relation None pairs fit within is made of = tt
joined_to_fits mapped graph child place relation (Some parent) pairs fit within is made of =
    let found = partner_of_one mapped (object_at graph child).class (object_at graph parent).class place.0 relation pairs is.at is.one of in
    joining_fits mapped graph parent relation.partner child found.0 fit made (record { at = found.1; many = found.2 })
    (of_root mapped graph child (root_of mapped found.0.target) fit within found.3)

pub set_fits : (mapped : Mapped) (graph : Graph) (child : ObjId) (place : RelNo) (relation : Relation) (old : OldParent) (parent : Option ObjId) → HasPairs mapped → IsFit mapped graph → IsObject graph child → IsOneAt graph mapped child place relation → IsMade graph old → IsEnd graph parent → IsEndOf graph mapped relation.target parent
    → ChangeFits mapped graph (set_change graph mapped child place relation old parent)
set_fits mapped graph child place relation old parent pairs fit within is made end of = by_known (is_known_as old parent)
  where
    ends : end_fits graph.roots (root_of mapped relation.target) parent ≡ true
    ends = end_under mapped graph relation.target parent pairs fit end of

    by_known : (known : Bool) → ChangeFits mapped graph (if known then record { left = None; joined = None; own = put_as_loaded graph child place parent; orphan = None } else record {
      left = left_behind graph mapped child relation old;
      joined = joined_to graph child relation parent;
      own = put_to_end graph child place parent;
      orphan = orphan_by (has_orphans (partner_of mapped relation)) parent;
    })
    by_known true = record { left = tt; joined = tt; own = loading_fits mapped graph child place parent relation fit within is ends }
    by_known false = record {
      left = left_behind_fits mapped graph child place relation old pairs fit within is made;
      joined = joined_to_fits mapped graph child place relation parent pairs fit within is end of;
      own = leading_fits mapped graph child place parent relation is ends;
    }

-- ---- what the conditions of a call give

-- the relationship that is found at a place
pub found_at : (mapped : Mapped) (graph : Graph) (object : ObjId) (record_of : Object) (listed : List Relation) (place : RelNo) (relation : Relation) → record_of ≡ object_at graph object → listed ≡ relations_of mapped record_of.class → place.0 < length (relations_of mapped (object_at graph object).class) → relation ≡ get_or listed place.0 relation
    → IsAt mapped (object_at graph object).class place.0 relation
found_at mapped graph object record_of listed place relation is lists less read =
    let same : listed ≡ relations_of mapped (object_at graph object).class = lists ∙ ap (λ (o : Object). relations_of mapped o.class) is in
    let inside : place.0 < length listed = subst (λ (rs : List Relation). place.0 < length rs) (sym same) less in
    subst (λ (rs : List Relation). slice_get rs place.0 ≡ Some relation) same (slice_get_read listed (length listed) place.0 relation refl inside read)

-- and its form
pub form_at : (mapped : Mapped) (class : ClassId) (place : RelNo) (relation : Relation) (many : Bool) → IsAt mapped class place.0 relation → (relation_of mapped class place).many ≡ many → relation.many ≡ many
form_at mapped class place relation many at h = ap (λ (r : Relation). r.many) (sym (get_or_from_slice_get (relations_of mapped class) place.0 relation no_relation at)) ∙ h

end_of_none : (gone lost under : Bool) → (if gone then Some (InvalidRequestError BadOwner) else if (lost || not under) then Some (InvalidRequestError BadMember) else None) ≡ None → under ≡ true
end_of_none true lost under h = absurd cc
end_of_none false true under h = absurd cc
end_of_none false false true h = refl
end_of_none false false false h = absurd cc

-- an end that is not refused is of the target
pub end_taken : (graph : Graph) (mapped : Mapped) (owner : ObjId) (target : ClassId) (end : Option ObjId) → end_fault graph mapped owner target end ≡ None → IsEndOf graph mapped target end
end_taken graph mapped owner target None h = tt
end_taken graph mapped owner target (Some end) h = end_of_none (is_gone (object_at graph owner).state) (is_gone (object_at graph end).state) (is_of graph mapped target end) h

-- the relationship of a place is the one that is found there
pub relation_found : (mapped : Mapped) (class : ClassId) (place : RelNo) (relation : Relation) → IsAt mapped class place.0 relation → relation_of mapped class place ≡ relation
relation_found mapped class place relation at = get_or_from_slice_get (relations_of mapped class) place.0 relation no_relation at

-- ---- changes of a collection

opposite_of_many : (far many other : Bool) → many ≡ true → (if far then many && other else differ many other) ≡ true → (far ≡ true → other ≡ true) × (far ≡ false → other ≡ false)
opposite_of_many true true other many h = (λ far. h, λ far. absurd cc)
opposite_of_many true false other many h = absurd cc
opposite_of_many false true other many h = (λ far. absurd cc, λ far. not-true other h)
opposite_of_many false false other many h = absurd cc

-- the partner of a collection stands in each class at or under the target, leads back, and is a collection exactly over a secondary table
pub partner_of_many : (mapped : Mapped) (class member : ClassId) (place : ℕ) (relation partner : Relation) → HasPairs mapped → IsAt mapped class place relation → relation.many ≡ true → is_at_or_under mapped member relation.target ≡ true → partner_of mapped relation ≡ Some partner
    → (IsAt mapped member relation.partner.0 partner) × (is_some relation.far ≡ true → partner.many ≡ true) × (is_some relation.far ≡ false → partner.many ≡ false) × (is_at_or_under mapped class partner.target ≡ true)
partner_of_many mapped class member place relation partner pairs at many under is =
    let back : IsBack mapped class relation (Some partner) = subst (IsBack mapped class relation) is (pairs.back class place relation at) in
    let forms = opposite_of_many (is_some relation.far) relation.many partner.many many back.0 in
    (pairs.inherited member relation.target relation.partner.0 partner under is, forms.0, forms.1, back.1)

-- the member's side of a collection over a secondary table
pub member_side : (mapped : Mapped) (graph : Graph) (owner member : ObjId) (place : RelNo) (relation : Relation) → HasPairs mapped → IsFit mapped graph → IsObject graph owner → IsManyAt graph mapped owner place relation → is_of graph mapped relation.target member ≡ true → is_some relation.far ≡ true
    → (partner : Relation) × (IsManyAt graph mapped member relation.partner partner) × (is_of_root graph.roots (root_of mapped partner.target) owner ≡ true)
member_side mapped graph owner member place relation pairs fit within is under far = by_partner (partner_of mapped relation) refl (pairs.back (object_at graph owner).class place.0 relation is.at)
  where
    by_partner : (found : Option Relation) → partner_of mapped relation ≡ found → IsBack mapped (object_at graph owner).class relation found
        → (partner : Relation) × (IsManyAt graph mapped member relation.partner partner) × (is_of_root graph.roots (root_of mapped partner.target) owner ≡ true)
    by_partner None at back = absurd back
    by_partner (Some partner) at back =
        let known = partner_of_many mapped (object_at graph owner).class (object_at graph member).class place.0 relation partner pairs is.at is.many under at in
        (partner, record { at = known.0; many = known.1 far }, under_root mapped graph partner.target owner pairs fit within known.3)

pub join_fits : (mapped : Mapped) (graph : Graph) (owner : ObjId) (place : RelNo) (relation : Relation) (member : ObjId) → HasPairs mapped → IsFit mapped graph → IsObject graph owner → IsObject graph member → IsManyAt graph mapped owner place relation → is_of graph mapped relation.target member ≡ true → is_some relation.far ≡ true
    → ChangeFits mapped graph (join_change graph owner place relation member)
join_fits mapped graph owner place relation member pairs fit within there is under far =
    let side = member_side mapped graph owner member place relation pairs fit within is under far in
    record {
      left = tt;
      joined = joining_fits mapped graph owner place member relation fit within is (under_root mapped graph relation.target member pairs fit there under);
      own = joining_fits mapped graph member relation.partner owner side.0 fit there side.1 side.2;
    }

remove_one_fits : (mapped : Mapped) (graph : Graph) (owner : ObjId) (place : RelNo) (relation : Relation) (member : ObjId) → HasPairs mapped → IsFit mapped graph → IsObject graph owner → IsObject graph member → IsManyAt graph mapped owner place relation → is_of graph mapped relation.target member ≡ true → is_some relation.far ≡ false
    → PutFits mapped graph (put_to_end graph member relation.partner None)
remove_one_fits mapped graph owner place relation member pairs fit within there is under far = by_partner (partner_of mapped relation) refl (pairs.back (object_at graph owner).class place.0 relation is.at)
  where
    by_partner : (found : Option Relation) → partner_of mapped relation ≡ found → IsBack mapped (object_at graph owner).class relation found → PutFits mapped graph (put_to_end graph member relation.partner None)
    by_partner None at back = absurd back
    by_partner (Some partner) at back =
        let known = partner_of_many mapped (object_at graph owner).class (object_at graph member).class place.0 relation partner pairs is.at is.many under at in
        leading_fits mapped graph member relation.partner None partner (record { at = known.0; one = known.2 far }) refl

pub remove_fits : (mapped : Mapped) (graph : Graph) (owner : ObjId) (place : RelNo) (relation : Relation) (member : ObjId) → HasPairs mapped → IsFit mapped graph → IsObject graph owner → IsObject graph member → IsManyAt graph mapped owner place relation → is_of graph mapped relation.target member ≡ true
    → ChangeFits mapped graph (remove_change graph owner place relation member)
remove_fits mapped graph owner place relation member pairs fit within there is under = by_far (is_some relation.far) refl
  where
    left : PutFits mapped graph (put_without_member graph owner place member)
    left = leaving_fits mapped graph owner place member relation fit within is (under_root mapped graph relation.target member pairs fit there under)

    elsewhere_or : (elsewhere : Bool) → is_some relation.far ≡ false → ChangeFits mapped graph (if elsewhere then record { left = put_without_member graph owner place member; joined = None; own = None; orphan = None } else record {
      left = put_without_member graph owner place member;
      joined = None;
      own = put_to_end graph member relation.partner None;
      orphan = orphan_by relation.cascade.delete_orphan None;
    })
    elsewhere_or true far = record { left = left; joined = tt; own = tt }
    elsewhere_or false far = record { left = left; joined = tt; own = remove_one_fits mapped graph owner place relation member pairs fit within there is under far }

    by_far : (far : Bool) → is_some relation.far ≡ far → ChangeFits mapped graph (if far then record { left = put_without_member graph owner place member; joined = None; own = put_without_member graph member relation.partner owner; orphan = None }
        else if leads_elsewhere (link_at graph member relation.partner) owner then record { left = put_without_member graph owner place member; joined = None; own = None; orphan = None }
        else record {
          left = put_without_member graph owner place member;
          joined = None;
          own = put_to_end graph member relation.partner None;
          orphan = orphan_by relation.cascade.delete_orphan None;
        })
    by_far true far =
        let side = member_side mapped graph owner member place relation pairs fit within is under far in
        record { left = left; joined = tt; own = leaving_fits mapped graph member relation.partner owner side.0 fit there side.1 side.2 }
    by_far false far = elsewhere_or (leads_elsewhere (link_at graph member relation.partner) owner) far
