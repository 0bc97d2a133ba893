-- The hierarchies and the pairs of a valid mapping, place by place.
use Rattle.std.proofs.Common.{◌≡◌, inl, inr, ℕ, ◌<◌, Bool, true, false, not, ◌&&◌, ◌||◌, List, [], ◌∷◌, ◌++◌, ◌∙◌, length, ap, sym, refl, subst, Option, None, Some, is_some, is_none, if◌then◌else◌}
use Rattle.std.specs.Prelude.{slice_get}
use Rattle.std.specs.Option.{option_map}
use Rattle.std.proofs.lemmas.Grind.{flat_map-append}
use Rattle.std.proofs.lemmas.Option.{same_Some, slice_get-map, slice_get_within}
use Rattle.base_core.specs.declared.ids.ClassId.{ClassId}
use Rattle.class_types.specs.declared.mapped.Relation.{Relation}
use Rattle.class_layouts.specs.declared.classes.Classes.{Classes}
use Rattle.class_layouts.specs.Hierarchy.{has_class, line_of, root_in}
use Rattle.class_blocks.specs.declared.side.Side.{Side}
use Rattle.class_sides.specs.Keys.{same_key}
use Rattle.class_sides.specs.Pairs.{differ, is_plain, is_target_in}
use Rattle.class_sides.specs.Linking as linking
use Rattle.class_sides.specs.Linking.{class_or as target_or, ends_on, far_key, near_key}
use Rattle.class_mapping.specs.Lines.{AreLines}
use Rattle.class_mapping.specs.Mapped.{Mapped, class_or, list_or_none, partner_of, root_of}
use Rattle.class_mapping.specs.Paired.{HasPairs, IsAt, IsBack, are_opposite, is_at_or_under}
use Rattle.class_mapping.specs.Related.{ArePartners, share_key}
use Rattle.class_mapping.specs.Valid.{IsValid}
use Rattle.class_mapping.proofs.Having.{Has, all_of, has_at}
use Rattle.class_mapping.proofs.LineLemmas.{base_declared, declared_in, got_still, line_within}
use Rattle.class_mapping.proofs.Lists.{and_both, and_left, and_right}
use Rattle.class_mapping.proofs.OnceLemmas.{stands_once}
use Rattle.class_mapping.proofs.RelatedLemmas.{Came, back_in, came, has_partner, layouts_in, list_for, own_in, sides_in}
use Rattle.class_mapping.proofs.RelatedKeys.{found_ends, or_rest, plain_found, target_is}
use Rattle.class_mapping.proofs.RelatedPairs.{none_some, shares_any}

-- the root of a line that goes on is the root of its beginning
root_kept : (first rest : List ClassId) (class above : ClassId) (n : ℕ) → has_class first n ≡ true → (class_or (root_in (first ++ rest)) class).0 ≡ (class_or (root_in first) above).0
root_kept [] rest class above n h = absurd cc
root_kept (root ∷ first) rest class above n h = refl

false_true : {A : Type 0} (b : Bool) → b ≡ true → b ≡ false → A
false_true b h g = absurd cc

is_none_if : {A : Type 0} (o : Option A) → is_some o ≡ false → is_none o ≡ true
is_none_if None h = refl
is_none_if (Some x) h = absurd cc

some_not_none : {A B : Type 0} (o : Option A) → is_some o ≡ true → is_none o ≡ true → B
some_not_none None h g = absurd cc
some_not_none (Some x) h g = absurd cc

opposite_if : (far many turned : Bool) → (far ≡ true → (many ≡ true) × (turned ≡ true)) → (far ≡ false → differ many turned ≡ true) → (if far then many && turned else differ many turned) ≡ true
opposite_if true many turned f g = let both = f refl in and_both many turned both.0 both.1
opposite_if false many turned f g = g refl

module _ (mapped : Mapped) (lined : length mapped.classes.lines ≡ length mapped.classes.specs) (lines : AreLines mapped.schema.tables mapped.classes) where
  abbrev classes : Classes
  classes = mapped.classes

  abbrev list_on : List ClassId → List Relation
  list_on line = linking.relations_on mapped.schema.tables classes (sides_in mapped) (linking.all_names classes (sides_in mapped)) line

  class_in : (class n : ℕ) → has_class (line_of classes class) n ≡ true → class < length classes.specs
  class_in class n h = rw (← lined) (line_within classes.lines class n (slice_get classes.lines class) refl h)

  -- a class in a line is declared too
  above_in : (class above : ClassId) → is_at_or_under mapped class above ≡ true → above.0 < length classes.specs
  above_in class above h = declared_in classes.specs (line_of classes class.0) above (base_declared mapped.schema.tables classes (Some class.0) lines) h

  own_in_line : (class : ClassId) → class.0 < length classes.specs → has_class (line_of classes class.0) class.0 ≡ true
  own_in_line class less = lines.own class.0 (rw lined less)

  same_roots : (class above : ClassId) → is_at_or_under mapped class above ≡ true → (root_of mapped class).0 ≡ (root_of mapped above).0
  same_roots class above h =
      let first = lines.nested class.0 above h in
      ap (λ (line : List ClassId). (class_or (root_in line) class).0) first.1
      ∙ root_kept (line_of classes above.0) first.0 class above above.0 (own_in_line above (above_in class above h))

  same_places : (class above : ClassId) (place : ℕ) (relation : Relation) → is_at_or_under mapped class above ≡ true → IsAt mapped above place relation → IsAt mapped class place relation
  same_places class above place relation h here =
      let first = lines.nested class.0 above h in
      let there : slice_get (list_on (line_of classes above.0)) place ≡ Some relation = ap (λ (list : List Relation). slice_get list place) (sym (list_for mapped lined lines above (above_in class above h))) ∙ here in
      ap (λ (list : List Relation). slice_get list place)
      (list_for mapped lined lines class (class_in class.0 above.0 h) ∙ ap list_on first.1
      ∙ flat_map-append (linking.relations_at mapped.schema.tables classes (sides_in mapped) (linking.all_names classes (sides_in mapped))) (line_of classes above.0) first.0)
      ∙ got_still (list_on (line_of classes above.0)) (list_on first.0) place relation there

  -- ---- the class of a relationship

  class_with : (class : ClassId) (place : ℕ) (relation : Relation) → IsAt mapped class place relation → class.0 < length classes.specs
  class_with class place relation h =
      by (slice_get classes.lines class.0) refl (ap (λ (o : Option (List Relation)). slice_get (list_or_none o) place) (sym (slice_get-map list_on classes.lines class.0)) ∙ h)
    where
      by : (line : Option (List ClassId)) → slice_get classes.lines class.0 ≡ line → slice_get (list_or_none (option_map list_on line)) place ≡ Some relation → class.0 < length classes.specs
      by None e h = absurd cc
      by (Some line) e h = rw (← lined) (slice_get_within classes.lines class.0 line e)

  came_at : (class : ClassId) (place : ℕ) (relation : Relation) → IsAt mapped class place relation → Came mapped (line_of classes class.0) relation
  came_at class place relation h =
      came mapped lined lines (line_of classes class.0) relation
      (has_at _ place relation (ap (λ (list : List Relation). slice_get list place) (sym (list_for mapped lined lines class (class_with class place relation h))) ∙ h))

  module _ (valid : IsValid mapped.schema.tables mapped.classes (layouts_in mapped) (sides_in mapped)) where
    in_target : (line : List ClassId) (target : Option ClassId) (class : ClassId) → target ≡ Some class → is_target_in target line ≡ true → has_class line class.0 ≡ true
    in_target line target class e h = ap (λ (o : Option ClassId). is_target_in o line) (sym e) ∙ h

    -- it stands in the line
    declared_here : (line : List ClassId) (relation : Relation) → Came mapped line relation → has_class line relation.class.0 ≡ true
    declared_here line relation (inl found) = ap (λ (r : Relation). has_class line r.class.0) (sym found.3) ∙ found.2
    declared_here line relation (inr found) =
        ap (λ (r : Relation). has_class line r.class.0) (sym found.4)
        ∙ in_target line found.0.target (target_or found.0.target found.0.class) (target_is mapped lined lines valid found.0 found.1) found.3

    -- ---- a relationship over a secondary table is a collection

    plain_ends : (side : Side) → Has (sides_in mapped) side → is_plain side ≡ true → ends_on (sides_in mapped) side ≡ None
    plain_ends side h plain = plain_found mapped lined lines valid side h plain (ends_on (sides_in mapped) side) (found_ends mapped lined lines valid side h)

    own_many : (side : Side) → Has (sides_in mapped) side → (plain : Bool) → is_plain side ≡ plain → is_some (own_in mapped side).far ≡ true → side.spec.many ≡ true
    own_many side h true plain far = none_some (own_in mapped side).far (ap far_key (plain_ends side h plain)) far
    own_many side h false not_plain far = or_rest (is_plain side) side.spec.many (all_of (λ (side : Side). is_plain side || side.spec.many) (sides_in mapped) side valid.collections h) not_plain

    back_many : (side : Side) → Has (sides_in mapped) side → (plain : Bool) → is_plain side ≡ plain → is_some (back_in mapped side).far ≡ true → (back_in mapped side).many ≡ true
    back_many side h true plain far = none_some (back_in mapped side).far (ap near_key (plain_ends side h plain)) far
    back_many side h false not_plain far = ap (λ (b : Bool). not b || not side.spec.many) not_plain

    is_many : (line : List ClassId) (relation : Relation) → Came mapped line relation → is_some relation.far ≡ true → relation.many ≡ true
    is_many line relation (inl found) far =
        ap (λ (r : Relation). r.many) (sym found.3) ∙ own_many found.0 found.1 (is_plain found.0) refl (ap (λ (r : Relation). is_some r.far) found.3 ∙ far)
    is_many line relation (inr found) far =
        ap (λ (r : Relation). r.many) (sym found.4) ∙ back_many found.0 found.1 (is_plain found.0) refl (ap (λ (r : Relation). is_some r.far) found.4 ∙ far)

    -- ---- the partner is of the opposite form

    differ_if : (relation other : Relation) → share_key relation other ≡ true → is_some relation.far ≡ false → (is_none other.far ≡ true) × (differ relation.many other.many ≡ true)
    differ_if relation other h none =
        let rest = or_rest (is_some relation.far) (is_none other.far && same_key relation.foreign other.foreign && differ relation.many other.many) h none in (
          and_left (is_none other.far) (same_key relation.foreign other.foreign) (and_left (is_none other.far && same_key relation.foreign other.foreign) (differ relation.many other.many) rest),
          and_right (is_none other.far && same_key relation.foreign other.foreign) (differ relation.many other.many) rest,
        )

    -- where one has a secondary table the other has it too
    other_far : (relation other : Relation) → share_key other relation ≡ true → is_some relation.far ≡ true → (b : Bool) → is_some other.far ≡ b → is_some other.far ≡ true
    other_far relation other h far true is = is
    other_far relation other h far false is = some_not_none relation.far far (differ_if other relation h is).0

    opposite_at : (class : ClassId) (place : ℕ) (relation other : Relation) → IsAt mapped class place relation → ArePartners mapped relation other → are_opposite relation other ≡ true
    opposite_at class place relation other h are =
        let came = came_at class place relation h in
        let back = came_at relation.target relation.partner.0 other are.there in
        opposite_if (is_some relation.far) relation.many other.many
        (λ far. (
          is_many (line_of classes class.0) relation came far,
          is_many (line_of classes relation.target.0) other back
              (other_far relation other (shares_any mapped lined lines valid (line_of classes relation.target.0) other back (is_none other.far) refl relation are.back) far (is_some other.far) refl),
        ))
        (λ none. (differ_if relation other (shares_any mapped lined lines valid (line_of classes class.0) relation came (is_none relation.far) refl other are.there) none).1)

    leads_back : (class : ClassId) (place : ℕ) (relation : Relation) → IsAt mapped class place relation → IsBack mapped class relation (partner_of mapped relation)
    leads_back class place relation h =
        let came = came_at class place relation h in
        let partner = has_partner mapped lined lines valid.differing valid.led valid.paired (line_of classes class.0) relation came in
        subst (IsBack mapped class relation) (sym partner.1.there) (
          opposite_at class place relation partner.0 h partner.1,
          ap (λ (c : ClassId). has_class (line_of classes class.0) c.0) partner.1.target ∙ declared_here (line_of classes class.0) relation came,
        )

    partner_back : (class : ClassId) (place : ℕ) (relation partner : Relation) → IsAt mapped class place relation → partner_of mapped relation ≡ Some partner → partner.partner.0 ≡ place
    partner_back class place relation partner h e =
        let came = came_at class place relation h in
        let other = has_partner mapped lined lines valid.differing valid.led valid.paired (line_of classes class.0) relation came in
        let same : other.0 ≡ partner = same_Some other.0 partner (sym other.1.there ∙ e) in
        let less : class.0 < length classes.specs = class_with class place relation h in
        let under : is_at_or_under mapped class other.0.target ≡ true = ap (λ (c : ClassId). has_class (line_of classes class.0) c.0) other.1.target ∙ declared_here (line_of classes class.0) relation came in
        let there : IsAt mapped class other.0.partner.0 relation = same_places class other.0.target other.0.partner.0 relation under other.1.back in
        let listed = list_for mapped lined lines class less in
        ap (λ (r : Relation). r.partner.0) (sym same)
        ∙ stands_once mapped lined lines valid.differing class less other.0.partner.0 place relation
        (ap (λ (list : List Relation). slice_get list other.0.partner.0) (sym listed) ∙ there) (ap (λ (list : List Relation). slice_get list place) (sym listed) ∙ h)

    pub has_pairs : HasPairs mapped
    has_pairs = record { rooted = same_roots; inherited = same_places; back = leads_back; returns = partner_back }
