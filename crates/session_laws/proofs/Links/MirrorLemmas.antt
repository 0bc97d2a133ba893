-- What a link that was set is, and the collections of the old parent and of the new one.
use Rattle.std.proofs.Common.{◌≡◌, ℕ, ◌<◌, Bool, true, false, not, ◌&&◌, length, Option, None, Some, ◌==◌, refl, sym, ap, subst, ◌∙◌, if◌then◌else◌}
use Rattle.std.specs.Prelude.{slice_get}
use Rattle.std.specs.Option.{option_map}
use Rattle.std.proofs.lemmas.Bool.{and_parts, eqb-true}
use Rattle.std.proofs.lemmas.Option.{get_or_from_slice_get, same_Some, slice_get-get_or, slice_get_within}
use Rattle.base_core.specs.declared.ids.ObjId.{ObjId}
use Rattle.base_core.specs.declared.ids.RelNo.{RelNo}
use Rattle.class_types.specs.declared.mapped.Relation.{Relation}
use Rattle.class_mapping.specs.Mapped.{Mapped, relations_of, root_of}
use Rattle.class_mapping.specs.Paired.{IsAt}
use Rattle.class_mapping.proofs.Having.{true_false}
use Rattle.object_arena.specs.declared.object.Link.{Link}
use Rattle.object_arena.specs.declared.object.Link.TheVariants.{Unset, Unloaded, One, Many}
use Rattle.object_arena.specs.declared.object.Object.{Object}
use Rattle.object_arena.specs.Graph.{Graph, IsObject, object_at}
use Rattle.object_arena.specs.Fit.{IsFit, end_fits, link_fits, no_relation}
use Rattle.object_arena.proofs.FitLemmas.{fit_links}
use Rattle.relations.specs.Keys.{IsEnd}
use Rattle.relations.specs.declared.calls.LinkCall.TheVariants.{Set}
use Rattle.relations.specs.Mirror.{is_of, link_at, loaded_to}
use Rattle.relations.specs.Parents.{IsMade, is_known_as, same_end}
use Rattle.object_parts.specs.Sides.{joined_by, left_by}
use Rattle.relations.specs.Fits.{IsEndOf}
use Rattle.relations.specs.declared.parents.OldParent.{OldParent}
use Rattle.relations.specs.declared.parents.OldParent.TheVariants.{Known, NotKnown}
use Rattle.relations.proofs.ChangeLemmas.{end_taken, partner_of_one}
use Rattle.relations.proofs.EndLemmas.{link_found}
use Rattle.session_laws.specs.Links.Links.{Before, HasJoined, IsLinkOf, IsSetTo, LeadsTo, SetMirrors, has_in, is_link, is_link_of_end, leads_already, link_loaded, link_moved, old_parent_of, parent_left, relation_in}
use Rattle.session_laws.proofs.Links.ReadLemmas.{one_object}
use Rattle.session_laws.proofs.Links.CollectionLemmas.{eqb_turned, false_if, is_one, joined_has, left_lacks}
use Rattle.session_laws.proofs.Links.SetLemmas.{has_link, is_link_itself, known_by, loaded_leads, old_made, set_tells, was_changed}

-- ---- links of other forms are other links

pub at_place : (many : Bool) (before : Before) → IsLinkOf many before → IsAt before.mapped (object_at before.graph before.object).class before.place.0 (relation_in before)
at_place many before link = slice_get-get_or (relations_of before.mapped (object_at before.graph before.object).class) before.place.0 no_relation link.place

pub same_relation : (mapped : Mapped) (graph : Graph) (object other : ObjId) (place next : RelNo) (relation partner : Relation) → IsAt mapped (object_at graph object).class place.0 relation → IsAt mapped (object_at graph other).class next.0 partner
    → is_link object place other next ≡ true → relation ≡ partner
same_relation mapped graph object other place next relation partner at there same =
    let parts = and_parts (object.0 == other.0) (place.0 == next.0) same in
    same_Some relation partner
    (sym at
    ∙ ap (λ (x : Object). slice_get (relations_of mapped x.class) place.0) (one_object graph object other parts.0)
    ∙ ap (λ (n : ℕ). slice_get (relations_of mapped (object_at graph other).class) n) (eqb-true place.0 next.0 parts.1)
    ∙ there)

-- a link that leads to one end is no collection of an end
pub not_own : (before : Before) (end : ObjId) (partner : Relation) → IsLinkOf false before → IsAt before.mapped (object_at before.graph end).class (relation_in before).partner.0 partner → partner.many ≡ true
    → is_link before.object before.place end (relation_in before).partner ≡ false
not_own before end partner link there many =
    false_if (is_link before.object before.place end (relation_in before).partner)
    (λ same.
    true_false (relation_in before).many
    (ap (λ (r : Relation). r.many) (same_relation before.mapped before.graph before.object end before.place (relation_in before).partner (relation_in before) partner (at_place false before link) there same) ∙ many)
    link.form)

-- the collection of a parent: where it stands, and that it is one
partner_at : (before : Before) (end : ObjId) → IsLinkOf false before → is_of before.graph before.mapped (relation_in before).target end ≡ true
    → (partner : Relation) × (IsAt before.mapped (object_at before.graph end).class (relation_in before).partner.0 partner) × (partner.many ≡ true)
partner_at before end link of =
    let found = partner_of_one before.mapped (object_at before.graph before.object).class (object_at before.graph end).class before.place.0 (relation_in before) link.pairs (at_place false before link) link.form of in
    (found.0, found.1, found.2)

-- ---- the link leads to the parent

abbrev link_moved_on : Before → Option ObjId → ObjId → RelNo → Option Link → Option Link
link_moved_on before parent other next link =
    if is_link_of_end parent (relation_in before).partner other next then option_map (λ link. joined_by link before.object) link
    else if is_link_of_end (parent_left before (old_parent_of before)) (relation_in before).partner other next then option_map (λ link. left_by link before.object) link
    else link

leads_at : (before : Before) (parent : Option ObjId) → IsLinkOf false before → (b : Bool) → leads_already before parent ≡ b
    → LeadsTo (if b then link_loaded before parent before.object before.place (link_at before.graph before.object before.place) else link_moved before parent before.object before.place (link_at before.graph before.object before.place)) parent
leads_at before parent link true known =
    let found = has_link before.mapped before.graph before.object before.place link.fit link.object link.place in
    subst (λ (o : Option Link). LeadsTo o parent)
    (sym (ap (λ (c : Bool). if c then option_map (loaded_to parent) (link_at before.graph before.object before.place) else link_at before.graph before.object before.place) (is_link_itself before.object before.place)
    ∙ ap (option_map (loaded_to parent)) found.1))
    (loaded_leads _ parent found.0 (known_by before parent found.0 found.1 known))
leads_at before parent link false known =
    let found = has_link before.mapped before.graph before.object before.place link.fit link.object link.place in (
      true,
      ap (λ (c : Bool). if c then option_map (λ link. One parent true) (link_at before.graph before.object before.place) else link_moved_on before parent before.object before.place (link_at before.graph before.object before.place)) (is_link_itself before.object before.place)
          ∙ ap (option_map (λ link. One parent true)) found.1,
    )

-- ---- the old parent's collection lacks the child

left_known : (before : Before) (known : OldParent) (old : ObjId) → parent_left before known ≡ Some old → (known ≡ Known (Some old)) × (is_of before.graph before.mapped (relation_in before).target old ≡ true)
left_known before NotKnown old h = absurd cc
left_known before (Known None) old h = absurd cc
left_known before (Known (Some other)) old h = by (is_of before.graph before.mapped (relation_in before).target other) refl h
  where
    by : (b : Bool) → is_of before.graph before.mapped (relation_in before).target other ≡ b → (if b then Some other else None) ≡ Some old
        → (Known (Some other) ≡ Known (Some old)) × (is_of before.graph before.mapped (relation_in before).target old ≡ true)
    by true e g = let same : other ≡ old = same_Some other old g in (ap (λ (o : ObjId). Known (Some o)) same, ap (is_of before.graph before.mapped (relation_in before).target) (sym same) ∙ e)
    by false e g = absurd cc

not_parent : (parent : Option ObjId) (old : ObjId) (place : RelNo) → same_end (Some old) parent ≡ false → is_link_of_end parent place old place ≡ false
not_parent None old place h = refl
not_parent (Some parent) old place h = ap (λ (b : Bool). b && (place.0 == place.0)) (eqb_turned old.0 parent.0 h)

-- what is read of a link that is none of the child's own
moved_at : (before : Before) (parent : Option ObjId) (end : ObjId) (place : RelNo) (new : Bool) (old : Bool) → is_link before.object before.place end place ≡ false
    → is_link_of_end parent (relation_in before).partner end place ≡ new → is_link_of_end (parent_left before (old_parent_of before)) (relation_in before).partner end place ≡ old
    → link_moved before parent end place (link_at before.graph end place)
    ≡ (if new then option_map (λ link. joined_by link before.object) (link_at before.graph end place)
    else if old then option_map (λ link. left_by link before.object) (link_at before.graph end place)
    else link_at before.graph end place)
moved_at before parent end place new old own p q =
    let link : Option Link = link_at before.graph end place in
    ap (λ (c : Bool). if c then option_map (λ link. One parent true) link
    else if is_link_of_end parent (relation_in before).partner end place then option_map (λ link. joined_by link before.object) link
    else if is_link_of_end (parent_left before (old_parent_of before)) (relation_in before).partner end place then option_map (λ link. left_by link before.object) link
    else link) own
    ∙ ap (λ (c : Bool). if c then option_map (λ link. joined_by link before.object) link
    else if is_link_of_end (parent_left before (old_parent_of before)) (relation_in before).partner end place then option_map (λ link. left_by link before.object) link
    else link) p
    ∙ ap (λ (c : Bool). if new then option_map (λ link. joined_by link before.object) link else if c then option_map (λ link. left_by link before.object) link else link) q

after_moved : (before : Before) (parent : Option ObjId) (after : Graph) (end : ObjId) (place : RelNo) → IsSetTo before parent after → IsObject before.graph end → leads_already before parent ≡ false
    → link_at after end place ≡ link_moved before parent end place (link_at before.graph end place)
after_moved before parent after end place is made elsewhere =
    set_tells before parent after is end place made
    ∙ ap (λ (c : Bool). if c then link_loaded before parent end place (link_at before.graph end place) else link_moved before parent end place (link_at before.graph end place)) elsewhere

lacks_at : (before : Before) (parent : Option ObjId) (after : Graph) → IsSetTo before parent after → (old : ObjId) → leads_already before parent ≡ false → parent_left before (old_parent_of before) ≡ Some old
    → has_in (link_at after old (relation_in before).partner) before.object ≡ false
lacks_at before parent after is old elsewhere left =
    let place : RelNo = (relation_in before).partner in
    let known = left_known before (old_parent_of before) old left in
    let made : IsObject before.graph old =
    subst (IsMade before.graph) known.0 (old_made before.mapped before.graph before.object before.place (relation_in before) is.link.fit is.link.object) in
    let partner = partner_at before old is.link known.1 in
    let other : same_end (Some old) parent ≡ false = ap (λ (k : OldParent). is_known_as k parent) (sym known.0) ∙ elsewhere in
    ap (λ (o : Option Link). has_in o before.object)
    (after_moved before parent after old place is made elsewhere
    ∙ moved_at before parent old place false true (not_own before old partner.0 is.link partner.1 partner.2) (not_parent parent old place other)
    (ap (λ (o : Option ObjId). is_link_of_end o place old place) left ∙ is_link_itself old place))
    ∙ left_lacks (link_at before.graph old place) before.object

-- ---- the new parent's collection has it

one_fails : (many : Bool) (fits : Bool) → many ≡ true → (not many && fits) ≡ true → ⊥
one_fails true fits many h = absurd cc
one_fails false fits many h = absurd cc

pub no_one : (mapped : Mapped) (graph : Graph) (object : ObjId) (place : RelNo) (partner : Relation) (link : Link) → IsFit mapped graph → IsObject graph object → IsAt mapped (object_at graph object).class place.0 partner → partner.many ≡ true
    → link_at graph object place ≡ Some link → is_one link ≡ false
no_one mapped graph object place partner link fit made at many here =
    by link (ap (λ (r : Relation). link_fits mapped graph.roots r link) (sym (get_or_from_slice_get (relations_of mapped (object_at graph object).class) place.0 partner no_relation at))
    ∙ link_found mapped graph.roots (object_at graph object) place.0 link (fit_links mapped graph object fit made) here)
  where
    by : (link : Link) → link_fits mapped graph.roots partner link ≡ true → is_one link ≡ false
    by Unset h = refl
    by (Unloaded added removed) h = refl
    by (One end changed) h = absurd (one_fails partner.many (end_fits graph.roots (root_of mapped partner.target) end) many h)
    by (Many members base) h = refl

parent_of : (before : Before) (parent : Option ObjId) (end : ObjId) → parent ≡ Some end → IsEnd before.graph parent → IsEndOf before.graph before.mapped (relation_in before).target parent
    → IsObject before.graph end × (is_of before.graph before.mapped (relation_in before).target end ≡ true)
parent_of before parent end same made of = (subst (IsEnd before.graph) same made, subst (IsEndOf before.graph before.mapped (relation_in before).target) same of)

has_at : (before : Before) (parent : Option ObjId) (after : Graph) → IsSetTo before parent after → (end : ObjId) → leads_already before parent ≡ false → parent ≡ Some end
    → HasJoined (link_at before.graph end (relation_in before).partner) (link_at after end (relation_in before).partner) before.object
has_at before parent after is end elsewhere same =
    let place : RelNo = (relation_in before).partner in
    let there = parent_of before parent end same is.end (end_taken before.graph before.mapped before.object (relation_in before).target parent (was_changed before (Set parent) after is.set).1) in
    let partner = partner_at before end is.link there.1 in
    let less : place.0 < length (relations_of before.mapped (object_at before.graph end).class) = slice_get_within (relations_of before.mapped (object_at before.graph end).class) place.0 partner.0 partner.1 in
    let found = has_link before.mapped before.graph end place is.link.fit there.0 less in
    let read : link_at after end place ≡ Some (joined_by found.0 before.object) =
    after_moved before parent after end place is there.0 elsewhere
    ∙ moved_at before parent end place true (is_link_of_end (parent_left before (old_parent_of before)) place end place) (not_own before end partner.0 is.link partner.1 partner.2)
    (ap (λ (o : Option ObjId). is_link_of_end o place end place) same ∙ is_link_itself end place) refl
    ∙ ap (option_map (λ link. joined_by link before.object)) found.1 in
    subst (λ (new : Option Link). HasJoined (link_at before.graph end place) new before.object) (sym read)
    (subst (λ (old : Option Link). HasJoined old (Some (joined_by found.0 before.object)) before.object) (sym found.1)
    (joined_has found.0 before.object (no_one before.mapped before.graph end place partner.0 found.0 is.link.fit there.0 partner.1 partner.2 found.1)))

pub set_mirrors : SetMirrors
set_mirrors before parent after is = record {
  leads =
      subst (λ (o : Option Link). LeadsTo o parent) (sym (set_tells before parent after is before.object before.place is.link.object)) (leads_at before parent is.link (leads_already before parent) refl);
  left = lacks_at before parent after is;
  joined = has_at before parent after is;
}
