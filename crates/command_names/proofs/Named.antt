-- What is known of the members of a class by their names.
use Rattle.std.proofs.Common.{◌≡◌, ℕ, Bool, true, false, List, Option, None, Result, Ok, Err, IfOk, not, refl, ap, ◌∙◌, subst}
use Rattle.std.specs.List.{position}
use Rattle.std.specs.Option.{option_map}
use Rattle.base_core.specs.Answers.{Gives}
use Rattle.base_core.specs.declared.ids.ClassId.{ClassId}
use Rattle.base_core.specs.declared.ids.RelNo.{RelNo}
use Rattle.base_core.specs.declared.refusal.Refusal.{Refusal}
use Rattle.schema_core.specs.Catalog.{same_name}
use Rattle.class_types.specs.declared.mapped.Attribute.{Attribute as AttributeOf}
use Rattle.class_types.specs.declared.mapped.Relation.{Relation}
use Rattle.class_mapping.specs.Mapped.{Mapped, attributes_of, relations_of}
use Rattle.command_names.specs.declared.members.Member.{Member}
use Rattle.command_names.specs.declared.members.Member.TheVariants.{Attribute, One, Many}
use Rattle.command_names.specs.Attributes.{IsAmong, IsMember, IsRelation, find_relation, link_or_unknown, link_unless, member_named, member_or}

among : (mapped : Mapped) (class : ClassId) (member : Member) → IsAmong (relations_of mapped class) member → IsMember mapped class member
among mapped class (Attribute attr) h = absurd h
among mapped class (One relation) h = h
among mapped class (Many relation) h = h

-- a relationship of a class is a member of it
pub member_of : (mapped : Mapped) (class : ClassId) (r : Result Member Refusal) → IfOk r (IsAmong (relations_of mapped class)) → IfOk r (IsMember mapped class)
member_of mapped class (Ok member) h = among mapped class member h
member_of mapped class (Err e) h = tt

-- one that is not of the wrong form is of the wanted one
pub unless_wrong : (mapped : Mapped) (class : ClassId) (relation : RelNo) (form many is_wrong : Bool) → (is_wrong ≡ false → form ≡ many) → IsRelation mapped class relation form → IfOk (link_unless is_wrong relation) (λ relation. IsRelation mapped class relation many)
unless_wrong mapped class relation form many true right is = tt
unless_wrong mapped class relation form many false right is = subst (IsRelation mapped class relation) (right refl) is

pub not_true : (b : Bool) → not b ≡ false → true ≡ b
not_true true h = refl
not_true false h = absurd cc

-- where no attribute has the name it stands for a relationship, or is unknown
pub no_attribute : (mapped : Mapped) (class : ClassId) (name : List ℕ) (attributes : List AttributeOf) (relations : List Relation) (r : Result Member Refusal)
    → attributes ≡ attributes_of mapped class → relations ≡ relations_of mapped class → None ≡ position (λ attribute. same_name attribute.name name) attributes
    → Gives (λ (member : Member). member) r (link_or_unknown relations name (find_relation relations name)) → Gives (λ (member : Member). member) r (member_named mapped class name)
no_attribute mapped class name attributes relations r is same none told =
    subst (λ (place : Option ℕ). Gives (λ (member : Member). member) r (member_or (relations_of mapped class) name (option_map (λ place. record { 0 = place }) place)))
    (none ∙ ap (λ (attributes : List AttributeOf). position (λ attribute. same_name attribute.name name) attributes) is)
    (subst (λ (relations : List Relation). Gives (λ (member : Member). member) r (link_or_unknown relations name (find_relation relations name))) same told)
