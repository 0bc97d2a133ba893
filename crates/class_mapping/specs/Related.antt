-- What the relationships of the classes of a configured mapping have, for the layers above.
use Rattle.std.specs.Prelude.{◌≡◌, ◌⊎◌, ◌==◌, Bool, true, not, ◌&&◌, ◌||◌, slice_get, Option, None, Some, is_none, is_some, if◌then◌else◌}
use Rattle.std.specs.List.{All}
use Rattle.base_core.specs.declared.ids.ClassId.{ClassId}
use Rattle.base_core.specs.declared.ids.RelNo.{RelNo}
use Rattle.schema_core.specs.Catalog.{spec_of}
use Rattle.class_types.specs.declared.mapped.Relation.{Relation}
use Rattle.class_layouts.specs.Faults.{maps_name}
use Rattle.class_sides.specs.Keys.{TableKey, same_key}
use Rattle.class_sides.specs.Pairs.{differ}
use Rattle.class_mapping.specs.Valid.{covers_both, joins}
use Rattle.class_mapping.specs.Mapped.{IsClass, Mapped, layout_of, partner_of, relations_of}

-- the relationship at a place of a class
abbrev pub relation_at : Mapped → ClassId → RelNo → Option Relation
relation_at mapped class place = slice_get (relations_of mapped class) place.0

-- each of the two is the other's partner, and leads to the class that declares the other
pub record ArePartners (mapped : Mapped) (relation other : Relation) : Type 0 where
  pub there : partner_of mapped relation ≡ Some other
  pub back : partner_of mapped other ≡ Some relation
  pub class : other.class ≡ relation.target
  pub target : other.target ≡ relation.class

-- the class at the end of a relationship that is many, and the one at its other end
abbrev pub many_side : Relation → ClassId
many_side relation = if relation.many then relation.target else relation.class

abbrev pub one_side : Relation → ClassId
one_side relation = if relation.many then relation.class else relation.target

-- Without a secondary table the foreign key is of a table of the many side, its columns are attributes there, and it refers
-- to a table of the one side. With one, its two keys are all its columns and its whole key, one to each class.
abbrev pub has_keys : Mapped → Relation → Option TableKey → Bool
has_keys mapped relation None =
    joins mapped.schema.tables (Some (layout_of mapped (many_side relation))) (Some (layout_of mapped (one_side relation))) relation.foreign
has_keys mapped relation (Some far) =
    covers_both mapped.schema.tables (Some (layout_of mapped relation.class)) (Some (layout_of mapped relation.target)) (relation.foreign, far)

-- delete-orphan is at one-to-many alone, and with delete
abbrev pub orphans_rightly : Relation → Bool
orphans_rightly relation =
    not relation.cascade.delete_orphan || (relation.cascade.delete && relation.many && is_none relation.far)

-- no class maps the secondary table, where there is one
abbrev pub is_unmapped : Mapped → Relation → Bool
is_unmapped mapped relation =
    is_none relation.far || not (maps_name mapped.classes.specs (Some (spec_of mapped.schema relation.foreign.0).name))

-- what each relationship has
pub record IsRelated (mapped : Mapped) (relation : Relation) : Type 0 where
  -- the class that declares it, and the one to which it leads
  pub class : IsClass mapped relation.class
  pub target : IsClass mapped relation.target
  pub partner : (other : Relation) × ArePartners mapped relation other
  pub keys : has_keys mapped relation relation.far ≡ true
  pub unmapped : is_unmapped mapped relation ≡ true
  pub orphans : orphans_rightly relation ≡ true

-- without a secondary table both have one foreign key, and one of the two is many
abbrev pub share_key : Relation → Relation → Bool
share_key relation other =
    is_some relation.far || (is_none other.far && same_key relation.foreign other.foreign && differ relation.many other.many)

-- so have a relationship and its partner
abbrev pub SharesKey : Mapped → Relation → Type 0
SharesKey mapped relation = (other : Relation) → partner_of mapped relation ≡ Some other → share_key relation other ≡ true

-- neither has a secondary table and both have one foreign key, or both have one secondary table
abbrev pub have_one_key : Relation → Relation → Bool
have_one_key relation other =
    (is_none relation.far && is_none other.far && same_key relation.foreign other.foreign)
    || (is_some relation.far && is_some other.far && (relation.foreign.0.0 == other.foreign.0.0))

-- a foreign key or a secondary table serves one pair: of two relationships that have it one is the other's partner
abbrev pub AreApart : Mapped → Type 0
AreApart mapped =
    (class : ClassId) (place : RelNo) (relation : Relation) → IsClass mapped class → relation_at mapped class place ≡ Some relation
    → (second : ClassId) (next : RelNo) (other : Relation) → IsClass mapped second → relation_at mapped second next ≡ Some other
    → have_one_key relation other ≡ true → (other ≡ relation) ⊎ (partner_of mapped relation ≡ Some other)

-- what the relationships of all classes have
pub record AreRelated (mapped : Mapped) : Type 0 where
  pub each : (class : ClassId) → IsClass mapped class → All (IsRelated mapped) (relations_of mapped class)
  pub shared : (class : ClassId) → IsClass mapped class → All (SharesKey mapped) (relations_of mapped class)
  pub apart : AreApart mapped
