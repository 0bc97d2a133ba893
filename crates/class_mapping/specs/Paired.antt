-- What the relationships and the hierarchies of a configured mapping give to the layers above, place by place.
use Rattle.std.specs.Prelude.{◌≡◌, ℕ, Bool, true, ◌&&◌, slice_get, Option, None, Some, is_some, if◌then◌else◌}
use Rattle.base_core.specs.declared.ids.ClassId.{ClassId}
use Rattle.class_types.specs.declared.mapped.Relation.{Relation}
use Rattle.class_layouts.specs.Hierarchy.{has_class}
use Rattle.class_sides.specs.Pairs.{differ}
use Rattle.class_mapping.specs.Mapped.{Mapped, line_of, partner_of, relations_of, root_of}

-- the class is at or under another
abbrev pub is_at_or_under : Mapped → ClassId → ClassId → Bool
is_at_or_under mapped class above = has_class (line_of mapped class) above.0

-- two collections over a secondary table, or a collection and a link
abbrev pub are_opposite : Relation → Relation → Bool
are_opposite relation partner = if is_some relation.far then relation.many && partner.many else differ relation.many partner.many

-- the partner leads back to the class or to one above it, and is of the opposite form
abbrev pub IsBack : Mapped → ClassId → Relation → Option Relation → Type 0
IsBack mapped class relation None = ⊥
IsBack mapped class relation (Some partner) = (are_opposite relation partner ≡ true) × (is_at_or_under mapped class partner.target ≡ true)

-- the relationship at a place of a class
abbrev pub IsAt : Mapped → ClassId → ℕ → Relation → Type 0
IsAt mapped class place relation = slice_get (relations_of mapped class) place ≡ Some relation

pub record HasPairs (mapped : Mapped) : Type 0 where
  -- a class at or under another is of its hierarchy
  pub rooted : (class above : ClassId) → is_at_or_under mapped class above ≡ true → (root_of mapped class).0 ≡ (root_of mapped above).0
  -- and has its relationships at their places
  pub inherited : (class above : ClassId) (place : ℕ) (relation : Relation) → is_at_or_under mapped class above ≡ true → IsAt mapped above place relation → IsAt mapped class place relation
  -- each relationship has a partner that leads back
  pub back : (class : ClassId) (place : ℕ) (relation : Relation) → IsAt mapped class place relation → IsBack mapped class relation (partner_of mapped relation)
  -- and a partner's partner stands at the relationship's place
  pub returns : (class : ClassId) (place : ℕ) (relation partner : Relation) → IsAt mapped class place relation → partner_of mapped relation ≡ Some partner → partner.partner.0 ≡ place
