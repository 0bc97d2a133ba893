-- What each link is after a member was appended to a collection, or was taken out of it.
use Rattle.std.proofs.Common.{◌≡◌, Bool, true, false, not, ◌&&◌, Option, None, Some, Result, Ok, is_some, ◌==◌, refl, sym, ap, subst, ◌∙◌, if◌then◌else◌}
use Rattle.std.specs.Option.{option_map}
use Rattle.std.proofs.lemmas.Option.{get_or_from_slice_get}
use Rattle.base_core.specs.declared.ids.ObjId.{ObjId}
use Rattle.base_core.specs.declared.ids.RelNo.{RelNo}
use Rattle.base_core.specs.declared.refusal.Refusal.{Refusal}
use Rattle.base_core.specs.declared.refusal.Refusal.TheVariants.{InvalidRequestError}
use Rattle.base_core.specs.declared.refusal.RequestKind.TheVariants.{NotAMember}
use Rattle.class_types.specs.declared.mapped.Relation.{Relation}
use Rattle.class_mapping.specs.Mapped.{partner_of, relations_of}
use Rattle.class_mapping.specs.Paired.{IsAt, IsBack}
use Rattle.object_arena.specs.declared.object.Link.{Link}
use Rattle.object_arena.specs.declared.object.Link.TheVariants.{One}
use Rattle.object_arena.specs.Graph.{Graph, IsObject, object_at}
use Rattle.object_arena.specs.Fit.{no_relation}
use Rattle.relations.specs.declared.calls.LinkCall.TheVariants.{Append, Remove}
use Rattle.relations.specs.declared.change.Change.{Change}
use Rattle.relations.specs.Calls.{lacks_member, links_set_by, no_change, remove}
use Rattle.relations.specs.Mirror.{has_member, is_of, join_change, leads_elsewhere, link_at, orphan_by, put_to_end, put_without_member, remove_change, set_change, with_change}
use Rattle.relations.specs.Parents.{old_parent}
use Rattle.object_parts.specs.Sides.{joined_by, left_by}
use Rattle.relations.proofs.ChangeLemmas.{end_taken, partner_of_many}
use Rattle.session_laws.specs.Links.Links.{AppendKeepsRest, AppendMarksOrphans, AppendTells, Before, IsAppended, IsLinkOf, IsOfMember, IsTakenOut, RemoveKeepsRest, RemoveMarksOrphans, RemoveTells, is_link, link_after_append, link_after_remove, link_after_set, link_back, link_let_go, link_paired, link_unpaired, orphan_after_append, orphan_after_remove, orphan_after_set, relation_in, rest_of}
use Rattle.session_laws.proofs.Links.ReadLemmas.{changed_read, changed_rest, goes_by, mark_over, none_over, over_by, put_by, put_over}
use Rattle.session_laws.proofs.Links.MirrorLemmas.{at_place}
use Rattle.session_laws.proofs.Links.SetLemmas.{links_set_is, ok_change, set_to_read, set_to_rest, told_unless, was_changed}

-- ---- the member's link leads back

-- the partner of a one-to-many collection stands at its place in the member's class
pub back_at : (before : Before) (member : ObjId) (partner : Relation) → IsLinkOf true before → is_of before.graph before.mapped (relation_in before).target member ≡ true → partner_of before.mapped (relation_in before) ≡ Some partner
    → (IsAt before.mapped (object_at before.graph member).class (relation_in before).partner.0 partner) × (is_some (relation_in before).far ≡ false → partner.many ≡ false)
back_at before member partner link of is =
    let known = partner_of_many before.mapped (object_at before.graph before.object).class (object_at before.graph member).class before.place.0 (relation_in before) partner link.pairs (at_place true before link) link.form of is in
    (known.0, known.2)

-- and it is the relationship of the member's link
pub back_is : (before : Before) (member : ObjId) (partner : Relation) → IsAt before.mapped (object_at before.graph member).class (relation_in before).partner.0 partner → relation_in (link_back before member) ≡ partner
back_is before member partner at = get_or_from_slice_get (relations_of before.mapped (object_at before.graph member).class) (relation_in before).partner.0 partner no_relation at

pub no_partner : {A : Type 0} (before : Before) → IsLinkOf true before → partner_of before.mapped (relation_in before) ≡ None → A
no_partner before link none =
    absurd (subst (IsBack before.mapped (object_at before.graph before.object).class (relation_in before)) none
    (link.pairs.back (object_at before.graph before.object).class before.place.0 (relation_in before) (at_place true before link)))

-- ---- two links, each put over what is there

two_over : (graph : Graph) (a : ObjId) (p : RelNo) (f : Link → Link) (b : ObjId) (q : RelNo) (g : Link → Link) (other : ObjId) (next : RelNo)
    → put_over (put_by graph a p f) other next (put_over (put_by graph b q g) other next (link_at graph other next))
    ≡ (if is_link a p other next then option_map f (link_at graph other next) else if is_link b q other next then option_map g (link_at graph other next) else link_at graph other next)
two_over graph a p f b q g other next =
    over_by graph a p f other next (put_over (put_by graph b q g) other next (link_at graph other next)) (λ e. second ∙ none_over (is_link b q other next) (link_at graph other next) (link_at graph other next) g e e)
    ∙ ap (λ (link : Option Link). if is_link a p other next then option_map f (link_at graph other next) else link) second
  where
    second : put_over (put_by graph b q g) other next (link_at graph other next) ≡ (if is_link b q other next then option_map g (link_at graph other next) else link_at graph other next)
    second = over_by graph b q g other next (link_at graph other next) (λ e. e)

module _ (before : Before) (member : ObjId) where
  abbrev graph : Graph
  graph = before.graph

  abbrev owner : ObjId
  owner = before.object

  abbrev relation : Relation
  relation = relation_in before

  abbrev member_joins : Link → Link
  member_joins link = joined_by link member

  abbrev owner_joins : Link → Link
  owner_joins link = joined_by link owner

  abbrev member_leaves : Link → Link
  member_leaves link = left_by link member

  abbrev owner_leaves : Link → Link
  owner_leaves link = left_by link owner

  abbrev let_go : Link → Link
  let_go link = One None true

  -- ---- an append

  paired : (other : ObjId) (next : RelNo) → IsObject graph owner → IsObject graph member → IsObject graph other
      → link_at (with_change graph member (join_change graph owner before.place relation member)) other next ≡ link_paired before member other next (link_at graph other next)
  paired other next made there at =
      changed_read graph member (join_change graph owner before.place relation member) other next there tt
      (goes_by graph owner before.place member_joins made) (goes_by graph member relation.partner owner_joins there) at
      ∙ two_over graph member relation.partner owner_joins owner before.place member_joins other next

  -- the member's link was set to the owner
  set_back_is : (after : Graph) (change : Change) → IsOfMember before member → is_of graph before.mapped relation.target member ≡ true → (partner : Option Relation) → partner_of before.mapped relation ≡ partner
      → links_set_by graph before.mapped owner relation.partner member partner ≡ Ok change → after ≡ with_change graph member change
      → after ≡ with_change graph member (set_change graph before.mapped member relation.partner (relation_in (link_back before member)) (old_parent graph before.mapped member relation.partner (relation_in (link_back before member))) (Some owner))
  set_back_is after change of under None none h is = no_partner before of.link none
  set_back_is after change of under (Some partner) some h is =
      let back = back_at before member partner of.link under some in
      subst (λ (r : Relation). after ≡ with_change graph member (set_change graph before.mapped member relation.partner r (old_parent graph before.mapped member relation.partner r) (Some owner)))
      (sym (back_is before member partner back.0))
      (is ∙ ap (with_change graph member) (links_set_is graph before.mapped member relation.partner partner (Some owner) change h))

  -- no link changed
  still : (change : Change) → change ≡ no_change → with_change graph member change ≡ graph
  unfolding with_change
  still change none = ap (with_change graph member) none

  abbrev appended : Bool → Bool → Result Change Refusal
  appended there far =
      if there then Ok no_change else if far then Ok (join_change graph owner before.place relation member)
      else links_set_by graph before.mapped owner relation.partner member (partner_of before.mapped relation)

  append_read : (after : Graph) (change : Change) (other : ObjId) (next : RelNo) → IsOfMember before member → is_of graph before.mapped relation.target member ≡ true → IsObject graph other → (there far : Bool)
      → appended there far ≡ Ok change → after ≡ with_change graph member change
      → link_at after other next ≡ (if there then link_at graph other next else if far then link_paired before member other next (link_at graph other next) else link_after_set (link_back before member) (Some owner) other next)
  append_read after change other next of under at true far h is = ap (λ (g : Graph). link_at g other next) (is ∙ still change (sym (ok_change no_change change h)))
  append_read after change other next of under at false true h is =
      ap (λ (g : Graph). link_at g other next) (is ∙ ap (with_change graph member) (sym (ok_change (join_change graph owner before.place relation member) change h)))
      ∙ paired other next of.link.object of.made at
  append_read after change other next of under at false false h is =
      set_to_read (link_back before member) (Some owner) after other next of.link.fit of.made of.link.object at (set_back_is after change of under (partner_of before.mapped relation) refl h is)

  pub append_is : (after : Graph) (other : ObjId) (next : RelNo) → IsAppended before member after → IsObject graph other → link_at after other next ≡ link_after_append before member other next
  append_is after other next is at =
      let was = was_changed before (Append member) after is.appended in
      append_read after was.0 other next is.of (end_taken graph before.mapped owner relation.target (Some member) was.1) at (has_member graph owner before.place member) (is_some relation.far) was.2 was.3

  -- ---- a removal

  unpaired : (other : ObjId) (next : RelNo) → IsObject graph owner → IsObject graph member → IsObject graph other
      → link_at (with_change graph member (record { left = put_without_member graph owner before.place member; joined = None; own = put_without_member graph member relation.partner owner; orphan = None })) other next
      ≡ link_unpaired before member other next (link_at graph other next)
  unpaired other next made there at =
      changed_read graph member (record { left = put_without_member graph owner before.place member; joined = None; own = put_without_member graph member relation.partner owner; orphan = None }) other next there
      (goes_by graph owner before.place member_leaves made) tt (goes_by graph member relation.partner owner_leaves there) at
      ∙ two_over graph member relation.partner owner_leaves owner before.place member_leaves other next

  let_go_read : (other : ObjId) (next : RelNo) → IsObject graph owner → IsObject graph member → IsObject graph other → (elsewhere : Bool)
      → link_at (with_change graph member (if elsewhere then record { left = put_without_member graph owner before.place member; joined = None; own = None; orphan = None }
      else record {
        left = put_without_member graph owner before.place member;
        joined = None;
        own = put_to_end graph member relation.partner None;
        orphan = orphan_by relation.cascade.delete_orphan None;
      })) other next
      ≡ (if not elsewhere && is_link member relation.partner other next then option_map let_go (link_at graph other next)
      else if is_link owner before.place other next then option_map member_leaves (link_at graph other next)
      else link_at graph other next)
  let_go_read other next made there at true =
      changed_read graph member (record { left = put_without_member graph owner before.place member; joined = None; own = None; orphan = None }) other next there
      (goes_by graph owner before.place member_leaves made) tt tt at
      ∙ over_by graph owner before.place member_leaves other next (link_at graph other next) (λ e. e)
  let_go_read other next made there at false =
      changed_read graph member (record { left = put_without_member graph owner before.place member; joined = None; own = put_to_end graph member relation.partner None; orphan = orphan_by relation.cascade.delete_orphan None }) other next there
      (goes_by graph owner before.place member_leaves made) tt (goes_by graph member relation.partner let_go there) at
      ∙ two_over graph member relation.partner let_go owner before.place member_leaves other next

  remove_read : (other : ObjId) (next : RelNo) → IsObject graph owner → IsObject graph member → IsObject graph other → (far : Bool)
      → link_at (with_change graph member (if far then record { left = put_without_member graph owner before.place member; joined = None; own = put_without_member graph member relation.partner owner; orphan = None }
      else if leads_elsewhere (link_at graph member relation.partner) owner then record { left = put_without_member graph owner before.place member; joined = None; own = None; orphan = None }
      else record {
        left = put_without_member graph owner before.place member;
        joined = None;
        own = put_to_end graph member relation.partner None;
        orphan = orphan_by relation.cascade.delete_orphan None;
      })) other next
      ≡ (if far then link_unpaired before member other next (link_at graph other next) else link_let_go before member other next (link_at graph other next))
  remove_read other next made there at true = unpaired other next made there at
  remove_read other next made there at false = let_go_read other next made there at (leads_elsewhere (link_at graph member relation.partner) owner)

  remove_parts : (after : Graph) → remove graph before.mapped owner before.place member ≡ Ok (tt, after) → after ≡ with_change graph member (remove_change graph owner before.place relation member)
  remove_parts after h =
      let was = was_changed before (Remove member) after h in
      was.3
      ∙ ap (with_change graph member)
      (told_unless (lacks_member graph owner before.place member) (InvalidRequestError NotAMember) (remove_change graph owner before.place relation member) was.0 was.2)

  pub remove_is : (after : Graph) (other : ObjId) (next : RelNo) → IsTakenOut before member after → IsObject graph other → link_at after other next ≡ link_after_remove before member other next
  remove_is after other next is at =
      ap (λ (g : Graph). link_at g other next) (remove_parts after is.taken_out)
      ∙ remove_read other next is.of.link.object is.of.made at (is_some relation.far)

  -- ---- the rest of the objects, and their orphan marks

  abbrev Rest : Graph → ObjId → Bool → Type 0
  Rest after other orphan = (rest_of (object_at after other) ≡ rest_of (object_at graph other)) × ((object_at after other).orphan ≡ orphan)

  append_rest : (after : Graph) (change : Change) (other : ObjId) → IsOfMember before member → is_of graph before.mapped relation.target member ≡ true → IsObject graph other → (there far : Bool)
      → appended there far ≡ Ok change → after ≡ with_change graph member change
      → Rest after other (if there then (object_at graph other).orphan else if far then (object_at graph other).orphan else orphan_after_set (link_back before member) (Some owner) other)
  append_rest after change other of under at true far h is =
      subst (λ (g : Graph). Rest g other (object_at graph other).orphan) (sym (is ∙ still change (sym (ok_change no_change change h)))) (refl, refl)
  append_rest after change other of under at false true h is =
      subst (λ (g : Graph). Rest g other (object_at graph other).orphan) (sym (is ∙ ap (with_change graph member) (sym (ok_change (join_change graph owner before.place relation member) change h))))
      (changed_rest graph member (join_change graph owner before.place relation member) other of.made tt
      (goes_by graph owner before.place member_joins of.link.object) (goes_by graph member relation.partner owner_joins of.made) at)
  append_rest after change other of under at false false h is =
      set_to_rest (link_back before member) (Some owner) after other of.link.fit of.made of.link.object at (set_back_is after change of under (partner_of before.mapped relation) refl h is)

  pub append_keeps : (after : Graph) (other : ObjId) → IsAppended before member after → IsObject graph other → Rest after other (orphan_after_append before member other)
  append_keeps after other is at =
      let was = was_changed before (Append member) after is.appended in
      append_rest after was.0 other is.of (end_taken graph before.mapped owner relation.target (Some member) was.1) at (has_member graph owner before.place member) (is_some relation.far) was.2 was.3

  mark_is : (far elsewhere orphans same orphan : Bool) → mark_over (if far then None else if elsewhere then None else orphan_by orphans None) same orphan ≡ (if same && (not far && (not elsewhere && orphans)) then true else orphan)
  mark_is true elsewhere orphans true orphan = refl
  mark_is true elsewhere orphans false orphan = refl
  mark_is false true orphans true orphan = refl
  mark_is false true orphans false orphan = refl
  mark_is false false true true orphan = refl
  mark_is false false true false orphan = refl
  mark_is false false false true orphan = refl
  mark_is false false false false orphan = refl

  remove_rest : (other : ObjId) → IsObject graph owner → IsObject graph member → IsObject graph other → (far elsewhere : Bool)
      → Rest (with_change graph member (if far then record { left = put_without_member graph owner before.place member; joined = None; own = put_without_member graph member relation.partner owner; orphan = None }
      else if elsewhere then record { left = put_without_member graph owner before.place member; joined = None; own = None; orphan = None }
      else record {
        left = put_without_member graph owner before.place member;
        joined = None;
        own = put_to_end graph member relation.partner None;
        orphan = orphan_by relation.cascade.delete_orphan None;
      })) other (if (member.0 == other.0) && (not far && (not elsewhere && relation.cascade.delete_orphan)) then true else (object_at graph other).orphan)
  remove_rest other made there at true elsewhere =
      let both = changed_rest graph member (record { left = put_without_member graph owner before.place member; joined = None; own = put_without_member graph member relation.partner owner; orphan = None }) other there
      (goes_by graph owner before.place member_leaves made) tt (goes_by graph member relation.partner owner_leaves there) at in
      (both.0, both.1 ∙ mark_is true elsewhere relation.cascade.delete_orphan (member.0 == other.0) (object_at graph other).orphan)
  remove_rest other made there at false true =
      let both = changed_rest graph member (record { left = put_without_member graph owner before.place member; joined = None; own = None; orphan = None }) other there
      (goes_by graph owner before.place member_leaves made) tt tt at in
      (both.0, both.1 ∙ mark_is false true relation.cascade.delete_orphan (member.0 == other.0) (object_at graph other).orphan)
  remove_rest other made there at false false =
      let both = changed_rest graph member (record { left = put_without_member graph owner before.place member; joined = None; own = put_to_end graph member relation.partner None; orphan = orphan_by relation.cascade.delete_orphan None }) other there
      (goes_by graph owner before.place member_leaves made) tt (goes_by graph member relation.partner let_go there) at in
      (both.0, both.1 ∙ mark_is false false relation.cascade.delete_orphan (member.0 == other.0) (object_at graph other).orphan)

  pub remove_keeps : (after : Graph) (other : ObjId) → IsTakenOut before member after → IsObject graph other → Rest after other (orphan_after_remove before member other)
  remove_keeps after other is at =
      subst (λ (g : Graph). Rest g other (orphan_after_remove before member other)) (sym (remove_parts after is.taken_out))
      (remove_rest other is.of.link.object is.of.made at (is_some relation.far) (leads_elsewhere (link_at graph member relation.partner) owner))

pub append_tells : AppendTells
append_tells before member after is other next at = append_is before member after other next is at

pub remove_tells : RemoveTells
remove_tells before member after is other next at = remove_is before member after other next is at

pub append_keeps_rest : AppendKeepsRest
append_keeps_rest before member after is other at = (append_keeps before member after other is at).0

pub remove_keeps_rest : RemoveKeepsRest
remove_keeps_rest before member after is other at = (remove_keeps before member after other is at).0

pub append_marks_orphans : AppendMarksOrphans
append_marks_orphans before member after is other at = (append_keeps before member after other is at).1

pub remove_marks_orphans : RemoveMarksOrphans
remove_marks_orphans before member after is other at = (remove_keeps before member after other is at).1
