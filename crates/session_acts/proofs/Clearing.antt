-- Only links to one object become none where objects are deleted.
use Rattle.std.proofs.Common.{◌≡◌, ℕ, Bool, true, false, not, ◌&&◌, ◌==◌, List, [], filter, Option, None, Some, is_none, is_some, if◌then◌else◌, refl, sym, ap, ◌∙◌, subst}
use Rattle.std.specs.Prelude.{slice_get}
use Rattle.std.proofs.lemmas.Bool.{and_parts, eqb-true}
use Rattle.std.proofs.lemmas.Option.{get_or_from_slice_get}
use Rattle.base_core.specs.declared.ids.ClassId.{ClassId}
use Rattle.base_core.specs.declared.ids.ObjId.{ObjId}
use Rattle.base_core.specs.declared.ids.RelNo.{RelNo}
use Rattle.class_sides.specs.Pairs.{differ}
use Rattle.class_types.specs.declared.mapped.Relation.{Relation}
use Rattle.class_mapping.specs.Mapped.{Mapped, partner_of, relations_of}
use Rattle.class_mapping.specs.Paired.{HasPairs, IsBack, is_at_or_under}
use Rattle.class_mapping.proofs.Having.{Has, from_filter, from_flat, from_map, from_numbered, some_of}
use Rattle.object_arena.specs.Fit.{no_relation, relation_of}
use Rattle.object_arena.specs.Graph.{Graph, is_among, object_at}
use Rattle.object_parts.specs.Ends.{ends_of}
use Rattle.object_rows.specs.Seen.{link_of}
use Rattle.pair_rows.specs.Pairs.{relations_at}
use Rattle.relations.specs.Mirror.{is_of}
use Rattle.graph_flushed.specs.Fitting.{AreClearable}
use Rattle.prepared_objects.specs.Leaving.{cleared, cleared_by, cleared_from, cleared_of, going, keeps_members, leads_elsewhere, loses_link, loses_links, prepared_of}

has_if : {A : Type 0} (b : Bool) (xs : List A) (x : A) → Has (if b then xs else []) x → (b ≡ true) × Has xs x
has_if true xs x h = (refl, h)
has_if false xs x h = absurd h

-- the partner of a collection without a secondary table is no collection
opposite : (many other : Bool) → many ≡ true → differ many other ≡ true → other ≡ false
opposite true true is differs = absurd cc
opposite true false is differs = refl
opposite false other is differs = absurd cc

-- a collection whose members stay where its owner is deleted
collection : (relation : Relation) → keeps_members relation ≡ true → (relation.many ≡ true) × (is_none relation.far ≡ true)
collection relation keeps =
    let both = and_parts relation.many (is_none relation.far && not relation.cascade.delete) keeps in
    (both.0, (and_parts (is_none relation.far) (not relation.cascade.delete) both.1).0)

-- the link back of a collection, in a class at or under the collection's target
link_back : (mapped : Mapped) (class own : ClassId) (place : ℕ) (relation : Relation) → HasPairs mapped → slice_get (relations_of mapped class) place ≡ Some relation → keeps_members relation ≡ true → is_at_or_under mapped own relation.target ≡ true
    → (relation_of mapped own relation.partner).many ≡ false
link_back mapped class own place relation paired at keeps under = by (partner_of mapped relation) refl (paired.back class place relation at)
  where
    by : (partner : Option Relation) → partner_of mapped relation ≡ partner → IsBack mapped class relation partner → (relation_of mapped own relation.partner).many ≡ false
    by None is back = absurd back
    by (Some partner) is back =
        let sides = collection relation keeps in
        let differs : differ relation.many partner.many ≡ true = sym (ap (λ (b : Bool). if b then relation.many && partner.many else differ relation.many partner.many) (some_none relation.far sides.1)) ∙ back.0 in
        let here = get_or_from_slice_get (relations_of mapped own) relation.partner.0 partner no_relation (paired.inherited own relation.target relation.partner.0 partner under is) in
        ap (λ (r : Relation). r.many) here ∙ opposite relation.many partner.many sides.0 differs
      where
        some_none : {A : Type 0} (far : Option A) → is_none far ≡ true → is_some far ≡ false
        some_none None is = refl
        some_none (Some table) is = absurd cc

pub clearable : (mapped : Mapped) (graph : Graph) → HasPairs mapped → AreClearable mapped graph (prepared_of mapped graph)
unfolding prepared_of cleared
clearable mapped graph paired object place made is =
    let gone : List ObjId = going mapped graph in
    let test : ObjId × RelNo → Bool = λ one. one.0.0 == object.0 && one.1.0 == place.0 in
    let some = some_of test (cleared mapped graph gone) is in
    let same = and_parts (some.0.0.0 == object.0) (some.0.1.0 == place.0) some.2 in
    let owner = from_flat (cleared_of mapped graph gone) gone some.0 some.1 in
    let placed = from_flat (cleared_by mapped graph gone owner.0) (relations_at mapped graph owner.0) some.0 owner.2 in
    let link = ends_of (link_of (object_at graph owner.0) (record { 0 = placed.0.0 })) in
    let kept = has_if (keeps_members placed.0.1) (cleared_from mapped graph gone owner.0 placed.0.1 link) some.0 placed.2 in
    let member = from_map (λ member. (member, placed.0.1.partner)) (filter (loses_link mapped graph gone owner.0 placed.0.1) link) some.0 kept.1 in
    let loses = (from_filter (loses_link mapped graph gone owner.0 placed.0.1) link member.0 member.1).1 in
    let rest = (and_parts (not (is_among gone member.0)) (is_of graph mapped placed.0.1.target member.0 && (loses_links (object_at graph member.0).state && not (leads_elsewhere owner.0 (link_of (object_at graph member.0) placed.0.1.partner)))) loses).1 in
    let under = (and_parts (is_of graph mapped placed.0.1.target member.0) (loses_links (object_at graph member.0).state && not (leads_elsewhere owner.0 (link_of (object_at graph member.0) placed.0.1.partner))) rest).0 in
    let at = from_numbered 0 (relations_of mapped (object_at graph owner.0).class) placed.0 placed.1 in
    let back = link_back mapped (object_at graph owner.0).class (object_at graph member.0).class at.0 placed.0.1 paired at.2 kept.0 under in
    let its_object : member.0 ≡ object = ap (λ (n : ℕ). let id : ObjId = record { 0 = n } in id) (ap (λ (one : ObjId × RelNo). one.0.0) member.2 ∙ eqb-true some.0.0.0 object.0 same.0) in
    let its_place : placed.0.1.partner ≡ place = ap (λ (n : ℕ). let number : RelNo = record { 0 = n } in number) (ap (λ (one : ObjId × RelNo). one.1.0) member.2 ∙ eqb-true some.0.1.0 place.0 same.1) in
    subst (λ (it : ObjId × RelNo). (relation_of mapped (object_at graph it.0).class it.1).many ≡ false) (λ i. (its_object i, its_place i)) back
