-- The collection to which a member was appended has it, and the one from which it was taken lacks it.
use Rattle.std.proofs.Common.{◌≡◌, ℕ, Bool, true, false, not, ◌&&◌, Option, None, Some, is_some, ◌==◌, refl, sym, ap, ◌∙◌, if◌then◌else◌}
use Rattle.std.specs.Option.{option_map}
use Rattle.std.specs.List.{list_any}
use Rattle.std.proofs.lemmas.Bool.{and_from, and_parts, eq-eqb, eqb-true}
use Rattle.base_core.specs.declared.ids.ObjId.{ObjId}
use Rattle.class_types.specs.declared.mapped.Relation.{Relation}
use Rattle.class_mapping.specs.Mapped.{partner_of}
use Rattle.class_mapping.proofs.Having.{true_false}
use Rattle.object_arena.specs.declared.object.Link.{Link}
use Rattle.object_arena.specs.declared.object.Link.TheVariants.{One}
use Rattle.object_arena.specs.Graph.{is_among, object_at}
use Rattle.relations.specs.declared.calls.LinkCall.TheVariants.{Append}
use Rattle.relations.specs.Mirror.{has_member, is_of, is_unloaded, leads_elsewhere, link_at, members_in}
use Rattle.object_parts.specs.Sides.{joined_by, left_by}
use Rattle.relations.proofs.ChangeLemmas.{end_taken}
use Rattle.session_laws.specs.Links.Links.{AppendAdds, Before, IsOfMember, RemoveTakesOut, is_link, is_link_of_end, leads_already, link_after_set, link_back, link_let_go, link_loaded, link_moved, link_paired, link_unpaired, old_parent_of, parent_left, relation_in}
use Rattle.session_laws.proofs.Links.CollectionLemmas.{false_if, joined_member, left_no_member}
use Rattle.session_laws.proofs.Links.MemberLemmas.{append_tells, back_at, back_is, no_partner, remove_tells}
use Rattle.session_laws.proofs.Links.MirrorLemmas.{at_place, no_one, same_relation}
use Rattle.session_laws.proofs.Links.SetLemmas.{has_link, is_link_itself, was_changed}

-- ---- an append

-- a collection of the owner that an object joins
joins_in : (before : Before) (member object : ObjId) → IsOfMember before member → is_among (members_in (option_map (λ link. joined_by link object) (link_at before.graph before.object before.place))) object ≡ true
joins_in before member object of =
    let found = has_link before.mapped before.graph before.object before.place of.link.fit of.link.object of.link.place in
    ap (λ (link : Option Link). is_among (members_in (option_map (λ link. joined_by link object) link)) object) found.1
    ∙ joined_member found.0 object
    (no_one before.mapped before.graph before.object before.place (relation_in before) found.0 of.link.fit of.link.object (at_place true before of.link) of.link.form found.1)
    (ap (λ (link : Option Link). is_unloaded link) (sym found.1) ∙ of.loaded)

paired_has : (before : Before) (member : ObjId) → IsOfMember before member → (first : Bool) → is_link member (relation_in before).partner before.object before.place ≡ first
    → is_among (members_in (if first then option_map (λ link. joined_by link before.object) (link_at before.graph before.object before.place)
    else if is_link before.object before.place before.object before.place then option_map (λ link. joined_by link member) (link_at before.graph before.object before.place)
    else link_at before.graph before.object before.place)) member ≡ true
paired_has before member of true same =
    let parts = and_parts (member.0 == before.object.0) ((relation_in before).partner.0 == before.place.0) same in
    ap (λ (n : ℕ). list_any (λ (other : ObjId). other.0 == n) (members_in (option_map (λ link. joined_by link before.object) (link_at before.graph before.object before.place)))) (eqb-true member.0 before.object.0 parts.0)
    ∙ joins_in before member before.object of
paired_has before member of false other =
    ap (λ (b : Bool). is_among (members_in (if b then option_map (λ link. joined_by link member) (link_at before.graph before.object before.place) else link_at before.graph before.object before.place)) member)
    (is_link_itself before.object before.place)
    ∙ joins_in before member member of

-- the member's link is none of the owner's collections, and its partner is the owner's collection
not_back : (before : Before) (member : ObjId) (partner : Relation) → IsOfMember before member → is_of before.graph before.mapped (relation_in before).target member ≡ true → partner_of before.mapped (relation_in before) ≡ Some partner → is_some (relation_in before).far ≡ false
    → is_link member (relation_in before).partner before.object before.place ≡ false
not_back before member partner of under some far =
    let back = back_at before member partner of.link under some in
    false_if (is_link member (relation_in before).partner before.object before.place)
    (λ same.
    true_false (relation_in before).many of.link.form
    (ap (λ (r : Relation). r.many)
    (sym (same_relation before.mapped before.graph member before.object (relation_in before).partner before.place partner (relation_in before) back.0 (at_place true before of.link) same))
    ∙ back.1 far))

comes_back : (before : Before) (member : ObjId) (partner : Relation) → IsOfMember before member → is_of before.graph before.mapped (relation_in before).target member ≡ true → partner_of before.mapped (relation_in before) ≡ Some partner
    → is_link before.object (relation_in (link_back before member)).partner before.object before.place ≡ true
comes_back before member partner of under some =
    let back = back_at before member partner of.link under some in
    and_from (before.object.0 == before.object.0) ((relation_in (link_back before member)).partner.0 == before.place.0) (eq-eqb before.object.0 before.object.0 refl)
    (eq-eqb (relation_in (link_back before member)).partner.0 before.place.0
    (ap (λ (r : Relation). r.partner.0) (back_is before member partner back.0)
    ∙ of.link.pairs.returns (object_at before.graph before.object).class before.place.0 (relation_in before) partner (at_place true before of.link) some))

set_back_has : (before : Before) (member : ObjId) → IsOfMember before member → is_of before.graph before.mapped (relation_in before).target member ≡ true → is_some (relation_in before).far ≡ false
    → leads_already (link_back before member) (Some before.object) ≡ false → (partner : Option Relation) → partner_of before.mapped (relation_in before) ≡ partner
    → is_among (members_in (link_after_set (link_back before member) (Some before.object) before.object before.place)) member ≡ true
set_back_has before member of under far elsewhere None none = no_partner before of.link none
set_back_has before member of under far elsewhere (Some partner) some =
    let link : Option Link = link_at before.graph before.object before.place in
    let back : Before = link_back before member in
    ap (λ (b : Bool). is_among (members_in (if b then link_loaded back (Some before.object) before.object before.place link else link_moved back (Some before.object) before.object before.place link)) member) elsewhere
    ∙ ap (λ (b : Bool). is_among (members_in (if b then option_map (λ link. One (Some before.object) true) link
    else if is_link before.object (relation_in back).partner before.object before.place then option_map (λ link. joined_by link member) link
    else if is_link_of_end (parent_left back (old_parent_of back)) (relation_in back).partner before.object before.place then option_map (λ link. left_by link member) link
    else link)) member) (not_back before member partner of under some far)
    ∙ ap (λ (b : Bool). is_among (members_in (if b then option_map (λ link. joined_by link member) link
    else if is_link_of_end (parent_left back (old_parent_of back)) (relation_in back).partner before.object before.place then option_map (λ link. left_by link member) link
    else link)) member) (comes_back before member partner of under some)
    ∙ joins_in before member member of

has_after : (before : Before) (member : ObjId) → IsOfMember before member → is_of before.graph before.mapped (relation_in before).target member ≡ true
    → (is_some (relation_in before).far ≡ false → leads_already (link_back before member) (Some before.object) ≡ false)
    → (there far : Bool) → has_member before.graph before.object before.place member ≡ there → is_some (relation_in before).far ≡ far
    → is_among (members_in (if there then link_at before.graph before.object before.place
    else if far then link_paired before member before.object before.place (link_at before.graph before.object before.place)
    else link_after_set (link_back before member) (Some before.object) before.object before.place)) member ≡ true
has_after before member of under elsewhere true far is with_table = is
has_after before member of under elsewhere false true is with_table = paired_has before member of (is_link member (relation_in before).partner before.object before.place) refl
has_after before member of under elsewhere false false is without_table =
    set_back_has before member of under without_table (elsewhere without_table) (partner_of before.mapped (relation_in before)) refl

pub append_adds : AppendAdds
append_adds before member after is elsewhere =
    ap (λ (link : Option Link). is_among (members_in link) member) (append_tells before member after is before.object before.place is.of.link.object)
    ∙ has_after before member is.of (end_taken before.graph before.mapped before.object (relation_in before).target (Some member) (was_changed before (Append member) after is.appended).1) elsewhere
    (has_member before.graph before.object before.place member) (is_some (relation_in before).far) refl refl

-- ---- a removal

lets_go : (before : Before) (member : ObjId) (first : Bool)
    → is_among (members_in (if first then option_map (λ link. One None true) (link_at before.graph before.object before.place)
    else if is_link before.object before.place before.object before.place then option_map (λ link. left_by link member) (link_at before.graph before.object before.place)
    else link_at before.graph before.object before.place)) member ≡ false
lets_go before member true = by (link_at before.graph before.object before.place)
  where
    by : (link : Option Link) → is_among (members_in (option_map (λ link. One None true) link)) member ≡ false
    by None = refl
    by (Some link) = refl
lets_go before member false =
    ap (λ (b : Bool). is_among (members_in (if b then option_map (λ link. left_by link member) (link_at before.graph before.object before.place) else link_at before.graph before.object before.place)) member)
    (is_link_itself before.object before.place)
    ∙ left_no_member (link_at before.graph before.object before.place) member

unpaired_lacks : (before : Before) (member : ObjId) (first : Bool) → is_link member (relation_in before).partner before.object before.place ≡ first
    → is_among (members_in (if first then option_map (λ link. left_by link before.object) (link_at before.graph before.object before.place)
    else if is_link before.object before.place before.object before.place then option_map (λ link. left_by link member) (link_at before.graph before.object before.place)
    else link_at before.graph before.object before.place)) member ≡ false
unpaired_lacks before member true same =
    let parts = and_parts (member.0 == before.object.0) ((relation_in before).partner.0 == before.place.0) same in
    ap (λ (n : ℕ). list_any (λ (other : ObjId). other.0 == n) (members_in (option_map (λ link. left_by link before.object) (link_at before.graph before.object before.place)))) (eqb-true member.0 before.object.0 parts.0)
    ∙ left_no_member (link_at before.graph before.object before.place) before.object
unpaired_lacks before member false other =
    ap (λ (b : Bool). is_among (members_in (if b then option_map (λ link. left_by link member) (link_at before.graph before.object before.place) else link_at before.graph before.object before.place)) member)
    (is_link_itself before.object before.place)
    ∙ left_no_member (link_at before.graph before.object before.place) member

pub remove_takes_out : RemoveTakesOut
remove_takes_out before member after is =
    ap (λ (link : Option Link). is_among (members_in link) member) (remove_tells before member after is before.object before.place is.of.link.object)
    ∙ by (is_some (relation_in before).far)
  where
    by : (far : Bool) → is_among (members_in (if far then link_unpaired before member before.object before.place (link_at before.graph before.object before.place)
        else link_let_go before member before.object before.place (link_at before.graph before.object before.place))) member ≡ false
    by true = unpaired_lacks before member (is_link member (relation_in before).partner before.object before.place) refl
    by false = lets_go before member (not (leads_elsewhere (link_at before.graph member (relation_in before).partner) before.object) && is_link member (relation_in before).partner before.object before.place)
