-- What a name stands for is there.
use Rattle.std.proofs.Common.{◌≡◌, ◌<◌, ℕ, Bool, true, false, List, length, Option, None, Some, Ok, Err, refl, sym, ap, ◌∙◌, subst}
use Rattle.std.specs.Prelude.{if◌then◌else◌, slice_index_or}
use Rattle.std.specs.Option.{option_map}
use Rattle.std.specs.List.{position}
use Rattle.std.proofs.lemmas.List.Quantifiers.{position-Some}
use Rattle.std.proofs.lemmas.Option.{same_Some}
use Rattle.base_core.specs.declared.ids.AttrNo.{AttrNo}
use Rattle.base_core.specs.declared.ids.ClassId.{ClassId}
use Rattle.base_core.specs.declared.ids.RelNo.{RelNo}
use Rattle.schema_core.specs.Catalog.{same_name}
use Rattle.sql_semantics.specs.Checked.{Checked, ◌>>=◌}
use Rattle.class_types.specs.declared.declared.ClassSpec.{ClassSpec}
use Rattle.class_types.specs.declared.mapped.Attribute.{Attribute}
use Rattle.class_types.specs.declared.mapped.Relation.{Relation}
use Rattle.class_layouts.specs.Hierarchy.{no_class, place_of}
use Rattle.class_mapping.specs.Mapped.{IsAttribute, IsClass, Mapped, attributes_of, find_attribute, find_class, no_attribute, relations_of}
use Rattle.object_arena.specs.Fit.{no_relation}
use Rattle.command_names.specs.declared.members.Member.{Member}
use Rattle.command_names.specs.declared.members.Member.TheVariants.{Attribute as OfAttribute, One, Many}
use Rattle.command_names.specs.Attributes.{IsMember, IsRelation, as_attribute, attribute_named, class_named, find_relation, link_or_unknown, member_named, member_or}
use Rattle.command_names.specs.Terms.{found_or_unknown}

-- ---- answers that were given

-- an answer of two steps is that of the second, behind the first's
pub given : {A B : Type 0} (m : Checked A) (next : A → Checked B) (b : B) → (m >>= next) ≡ Ok b → (a : A) × (m ≡ Ok a) × (next a ≡ Ok b)
given (Ok a) next b is = (a, refl, is)
given (Err e) next b is = absurd cc

pub same_Ok : {A : Type 0} (a b : A) → (let one : Checked A = Ok a in one ≡ Ok b) → a ≡ b
same_Ok a b is = cc

pub found : {A : Type 0} (name : List ℕ) (o : Option A) (a : A) → found_or_unknown name o ≡ Ok a → o ≡ Some a
found name None a is = absurd cc
found name (Some b) a is = ap (λ c. Some c) (same_Ok b a is)

-- the number that was made of a place is inside
placed : {X : Type 0} (make : ℕ → X) (number : X → ℕ) → ((i : ℕ) → number (make i) ≡ i) → (o : Option ℕ) (n : ℕ) → ((i : ℕ) → o ≡ Some i → i < n) → (x : X) → option_map make o ≡ Some x → number x < n
placed make number same None n inside x is = absurd cc
placed make number same (Some i) n inside x is = subst (λ (k : ℕ). k < n) (sym (same i) ∙ ap number (same_Some (make i) x is)) (inside i refl)

-- ---- classes and their members

pub class_is : (mapped : Mapped) (name : List ℕ) (class : ClassId) → class_named mapped name ≡ Ok class → IsClass mapped class
class_is mapped name class is =
    placed (λ (place : ℕ). let c : ClassId = record { 0 = place } in c) (λ (c : ClassId). c.0) (λ i. refl) (place_of mapped.classes.specs name) (length mapped.classes.specs)
    (λ i at. (position-Some (λ (spec : ClassSpec). same_name spec.name name) mapped.classes.specs i no_class at).0) class (found name (find_class mapped name) class is)

module _ (mapped : Mapped) (class : ClassId) where
  link_is : (relation : RelNo) (many : Bool) (member : Member) → IsRelation mapped class relation many → (let one : Checked Member = Ok (if many then Many relation else One relation) in one ≡ Ok member) → IsMember mapped class member
  link_is relation true member less is = subst (IsMember mapped class) (same_Ok (Many relation) member is) less
  link_is relation false member less is = subst (IsMember mapped class) (same_Ok (One relation) member is) less

  link_by : (name : List ℕ) (o : Option RelNo) (member : Member) → find_relation (relations_of mapped class) name ≡ o → link_or_unknown (relations_of mapped class) name o ≡ Ok member → IsMember mapped class member
  link_by name None member at is = absurd cc
  link_by name (Some relation) member at is =
      link_is relation (slice_index_or (relations_of mapped class) relation.0 no_relation).many member (
        placed (λ (place : ℕ). let r : RelNo = record { 0 = place } in r) (λ (r : RelNo). r.0) (λ i. refl) (position (λ (r : Relation). same_name r.name name) (relations_of mapped class)) (length (relations_of mapped class))
            (λ i here. (position-Some (λ (r : Relation). same_name r.name name) (relations_of mapped class) i no_relation here).0) relation at,
        refl,
      ) is

  member_by : (name : List ℕ) (o : Option AttrNo) (member : Member) → find_attribute (attributes_of mapped class) name ≡ o → member_or (relations_of mapped class) name o ≡ Ok member → IsMember mapped class member
  member_by name None member at is = link_by name (find_relation (relations_of mapped class) name) member refl is
  member_by name (Some attr) member at is =
      subst (IsMember mapped class) (same_Ok (OfAttribute attr) member is)
      (placed (λ (place : ℕ). let a : AttrNo = record { 0 = place } in a) (λ (a : AttrNo). a.0) (λ i. refl) (position (λ (a : Attribute). same_name a.name name) (attributes_of mapped class)) (length (attributes_of mapped class))
      (λ i here. (position-Some (λ (a : Attribute). same_name a.name name) (attributes_of mapped class) i no_attribute here).0) attr at)

  pub member_is : (name : List ℕ) (member : Member) → member_named mapped class name ≡ Ok member → IsMember mapped class member
  member_is name member is = member_by name (find_attribute (attributes_of mapped class) name) member refl is

  as_attribute_is : (member : Member) (attr : AttrNo) → IsMember mapped class member → as_attribute member ≡ Ok attr → IsAttribute mapped class attr
  as_attribute_is (OfAttribute own) attr has is = subst (IsAttribute mapped class) (same_Ok own attr is) has
  as_attribute_is (One relation) attr has is = absurd cc
  as_attribute_is (Many relation) attr has is = absurd cc

  pub attribute_is : (name : List ℕ) (attr : AttrNo) → attribute_named mapped class name ≡ Ok attr → IsAttribute mapped class attr
  attribute_is name attr is =
      let one = given (member_named mapped class name) as_attribute attr is in
      as_attribute_is one.0 attr (member_is name one.0 one.1) one.2
