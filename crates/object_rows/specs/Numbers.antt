-- Objects and links in lists, each found without a search of the list.
use Rattle.std.specs.Prelude.{◌≡◌, ℕ, Bool, ◌&&◌, ◌==◌, List}
use Rattle.std.specs.List.{list_any}
use Rattle.std.specs.BTreeSet.{BTreeSet, contains}
use Rattle.std.specs.declared.cmp.Ordering.{Ordering}
use Rattle.std.specs.Ordering.{nat_cmp, ordering_then}
use Rattle.base_core.specs.declared.ids.ObjId.{ObjId}
use Rattle.base_core.specs.declared.ids.RelNo.{RelNo}

-- a set has the numbers of the objects, and no others
abbrev pub AreNumbers : List ObjId → BTreeSet ℕ → Type 0
AreNumbers objects numbers = (number : ℕ) → contains nat_cmp numbers number ≡ list_any (λ (other : ObjId). other.0 == number) objects

abbrev pub link_cmp : ℕ × ℕ → ℕ × ℕ → Ordering
link_cmp one other = ordering_then (nat_cmp one.0 other.0) (nat_cmp one.1 other.1)

-- the link of an object at a place is one of these
abbrev pub has_link : List (ObjId × RelNo) → ObjId → RelNo → Bool
has_link links object relation = list_any (λ link. link.0.0 == object.0 && link.1.0 == relation.0) links

-- a set has the objects and places of the links, and no others
abbrev pub AreLinks : List (ObjId × RelNo) → BTreeSet (ℕ × ℕ) → Type 0
AreLinks links places = (object : ObjId) (relation : RelNo) → contains link_cmp places (object.0, relation.0) ≡ has_link links object relation
