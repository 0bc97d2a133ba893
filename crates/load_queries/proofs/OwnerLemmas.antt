-- The owners of links that are loaded together.
use Rattle.std.proofs.Common.{◌≡◌, ◌<◌, Bool, true, List, [], ◌∷◌, length, slice_get, Some, sym, subst, ◌∙◌, arith}
use Rattle.std.specs.List.{All}
use Rattle.std.proofs.lemmas.Option.{get_or_from_slice_get, same_Some, slice_get-get_or, slice_get_within}
use Rattle.std.proofs.lemmas.Bool.{and_parts}
use Rattle.base_core.specs.declared.ids.ClassId.{ClassId}
use Rattle.base_core.specs.declared.ids.ObjId.{ObjId}
use Rattle.base_core.specs.declared.ids.RelNo.{RelNo}
use Rattle.class_types.specs.declared.mapped.Relation.{Relation}
use Rattle.class_mapping.specs.Mapped.{Mapped, relations_of}
use Rattle.class_mapping.specs.Paired.{HasPairs, IsAt, is_at_or_under}
use Rattle.object_arena.specs.declared.object.State.TheVariants.{Persistent}
use Rattle.object_arena.specs.Fit.{no_relation, relation_of}
use Rattle.object_arena.specs.Graph.{Graph, IsObject, is_persistent, object_at}
use Rattle.object_parts.proofs.Expiries.{persistent_is}
use Rattle.load_filling.specs.Growing.{Grows}
use Rattle.load_calls.proofs.CollectionLemmas.{owner_there}
use Rattle.load_batches.specs.Batches.{IsOwner}
use Rattle.load_ends.specs.Ends.{IsChild}
use Rattle.load_queries.specs.Selectin.{AreOwners, IsOwnerOf, is_owner}

-- the first of a list
pub first_of : {A : Type 0} (P : A → Type 0) (xs : List A) (first : A) → slice_get xs 0 ≡ Some first → All P xs → P first
first_of P [] first at all = absurd cc
first_of P (one ∷ more) first at all = subst P (same_Some one first at) (all 0 one (omega arith))

-- ---- the relationship at a place

-- a class under another has the other's relationship at its place
pub same_relation_under : (mapped : Mapped) (class above : ClassId) (place : RelNo) → HasPairs mapped → is_at_or_under mapped class above ≡ true → place.0 < length (relations_of mapped above)
    → IsAt mapped class place.0 (relation_of mapped above place)
same_relation_under mapped class above place paired under within =
    paired.inherited class above place.0 (relation_of mapped above place) under (slice_get-get_or (relations_of mapped above) place.0 no_relation within)

owner_by : (mapped : Mapped) (graph : Graph) (relation : Relation) (place : RelNo) (object : ObjId) → IsObject graph object → (object_at graph object).state ≡ Persistent → IsAt mapped (object_at graph object).class place.0 relation
    → IsOwner mapped graph relation place object
owner_by mapped graph relation place object made persistent at = record {
  made = made;
  persistent = persistent;
  within = slice_get_within (relations_of mapped (object_at graph object).class) place.0 relation at;
  is = get_or_from_slice_get (relations_of mapped (object_at graph object).class) place.0 relation no_relation at;
}

-- an owner of a class has the class's relationship
pub owner_under : (mapped : Mapped) (graph : Graph) (class : ClassId) (place : RelNo) (object : ObjId) → HasPairs mapped → place.0 < length (relations_of mapped class) → IsOwnerOf mapped graph class object
    → IsOwner mapped graph (relation_of mapped class place) place object
owner_under mapped graph class place object paired within own =
    owner_by mapped graph (relation_of mapped class place) place object own.made own.persistent (same_relation_under mapped _ class place paired own.under within)

-- so have the owners of one class
pub owners_of : (mapped : Mapped) (graph : Graph) (class : ClassId) (place : RelNo) (owners : List ObjId) → HasPairs mapped → place.0 < length (relations_of mapped class) → All (IsOwnerOf mapped graph class) owners
    → All (IsOwner mapped graph (relation_of mapped class place) place) owners
owners_of mapped graph class place owners paired within all = λ i d less. owner_under mapped graph class place _ paired within (all i d less)

-- the owners of a query's option
pub option_owners : (mapped : Mapped) (graph : Graph) (class : ClassId) (place : RelNo) (relation : Relation) (owners shown : List ObjId) → HasPairs mapped → place.0 < length (relations_of mapped class) → relation ≡ relation_of mapped class place
    → shown ≡ owners → All (IsOwnerOf mapped graph class) owners → All (IsOwner mapped graph relation place) shown
option_owners mapped graph class place relation owners shown paired within is seen all =
    subst (λ (xs : List ObjId). All (IsOwner mapped graph relation place) xs) (sym seen)
    (subst (λ (one : Relation). All (IsOwner mapped graph one place) owners) (sym is) (owners_of mapped graph class place owners paired within all))

-- and so have they where the relationship is named by the first of them
pub named_owners : (mapped : Mapped) (graph : Graph) (place : RelNo) (owners : List ObjId) (first : ObjId) (relation : Relation) → HasPairs mapped → AreOwners mapped graph place owners → slice_get owners 0 ≡ Some first
    → relation ≡ relation_of mapped (object_at graph first).class place → All (IsOwner mapped graph relation place) owners
named_owners mapped graph place owners first relation paired are at is =
    let own : IsOwnerOf mapped graph are.class first = first_of (IsOwnerOf mapped graph are.class) owners first at are.each in
    subst (λ (one : Relation). All (IsOwner mapped graph one place) owners) (sym (is ∙ (owner_under mapped graph are.class place first paired are.within own).is))
    (owners_of mapped graph are.class place owners paired are.within are.each)

-- owners are objects at whose place the relationship stands
pub children_of : (mapped : Mapped) (graph : Graph) (relation : Relation) (place : RelNo) (owners : List ObjId) → All (IsOwner mapped graph relation place) owners → All (IsChild mapped graph relation place) owners
children_of mapped graph relation place owners all = λ i d less. record { made = (all i d less).made; within = (all i d less).within; is = (all i d less).is }

-- ---- which objects are owners

-- one that passes the test is one
pub owner_tested : (mapped : Mapped) (graph : Graph) (class : ClassId) (object : ObjId) (b : Bool) → IsObject graph object → b ≡ is_owner mapped class graph object → b ≡ true → IsOwnerOf mapped graph class object
owner_tested mapped graph class object b made asked so =
    let parts = and_parts (is_persistent (object_at graph object).state) (is_at_or_under mapped (object_at graph object).class class) (sym asked ∙ so) in
    record { made = made; persistent = persistent_is (object_at graph object).state parts.0; under = parts.1 }

-- ---- as objects are made

pub objects_still : (old new : Graph) (objects : List ObjId) → Grows old new → All (IsObject old) objects → All (IsObject new) objects
objects_still old new objects grows all = λ i d less. owner_there old new _ grows (all i d less)
