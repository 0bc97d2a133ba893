-- Links that lead to what the identity map has.
use Rattle.std.proofs.Common.{◌≡◌, ◌<◌, Bool, true, false, List, [], ◌∷◌, length, Option, None, Result, Ok, Err, OnOk, if◌then◌else◌, sym, ap, subst, ◌∙◌}
use Rattle.std.specs.List.{All, AllByRecursion, flat_map}
use Rattle.std.specs.Option.{option_and_then}
use Rattle.std.proofs.lemmas.List.Elements.{All-from_recursion, recursion_from_All}
use Rattle.base_core.proofs.Lists.{every_append}
use Rattle.base_core.specs.declared.ids.ClassId.{ClassId}
use Rattle.base_core.specs.declared.ids.ObjId.{ObjId}
use Rattle.base_core.specs.declared.ids.RelNo.{RelNo}
use Rattle.base_core.specs.declared.value.Value.{Value}
use Rattle.schema_core.specs.Tables.{has_null}
use Rattle.class_types.specs.declared.mapped.Relation.{Relation}
use Rattle.class_mapping.specs.Mapped.{Mapped, relations_of, root_of}
use Rattle.object_arena.specs.Graph.{Graph}
use Rattle.object_arena.specs.Identity.{find_identity}
use Rattle.keeper_core.specs.Alone.{alone}
use Rattle.keeper_core.specs.Moment.{Reaches, Runs}
use Rattle.keeper_core.specs.Programs.{each}
use Rattle.keeper_core.proofs.AloneLemmas.{change_ok}
use Rattle.keeper_core.proofs.Sequence.{reaches_start}
use Rattle.load_filling.specs.Growing.{Grows}
use Rattle.load_rows.specs.Loading.{Loading}
use Rattle.load_rows.specs.Links.{end_filled, link_at}
use Rattle.load_calls.proofs.CollectionLemmas.{class_there, owner_there, same_relation}
use Rattle.load_targets.specs.Targets.{if_of}
use Rattle.load_batches.specs.Batches.{is_unloaded}
use Rattle.load_ends.specs.Ends.{IsChild, end_known, fill_owner, fill_owners, if_unloaded, key_of, known_end, unloaded}

-- ---- owners

-- what is so of all is so of those whose link is unloaded
pub unloaded_all : (P : ObjId → Type 0) (graph : Graph) (place : RelNo) (owners : List ObjId) → All P owners → All P (unloaded graph place owners)
unfolding unloaded
unloaded_all P graph place owners all = All-from_recursion P (flat_map (if_unloaded graph place) owners) (each owners (recursion_from_All P owners all))
  where
    where_so : (b : Bool) (object : ObjId) → P object → AllByRecursion P (if b then object ∷ [] else [])
    where_so true object one = (one, tt)
    where_so false object one = tt

    each : (objects : List ObjId) → AllByRecursion P objects → AllByRecursion P (flat_map (if_unloaded graph place) objects)
    each [] so = tt
    each (object ∷ objects) so =
        every_append P (if_unloaded graph place object) (flat_map (if_unloaded graph place) objects) (where_so (is_unloaded (link_at graph object place)) object so.0) (each objects so.1)

-- ---- what the identity map has

pub end_null : (mapped : Mapped) (class : ClassId) (graph : Graph) (key : List Value) → has_null key ≡ true → None ≡ known_end mapped class graph key
end_null mapped class graph key null = sym (ap (λ (b : Bool). if b then None else option_and_then (if_of graph mapped class) (find_identity graph (root_of mapped class) key)) null)

pub end_found : (mapped : Mapped) (class : ClassId) (graph : Graph) (key : List Value) (found : Option ObjId) (end : Option ObjId) → has_null key ≡ false → find_identity graph (root_of mapped class) key ≡ found
    → end ≡ option_and_then (if_of graph mapped class) found → end ≡ known_end mapped class graph key
end_found mapped class graph key found end given is ends =
    ends ∙ sym (ap (λ (b : Bool). if b then None else option_and_then (if_of graph mapped class) (find_identity graph (root_of mapped class) key)) given ∙ ap (option_and_then (if_of graph mapped class)) is)

-- ---- the links

-- the link of an owner was filled
pub owner_filled : {E : Type 0} (mapped : Mapped) (relation : Relation) (place : RelNo) (owner : ObjId) (key : List Value) (end : Option ObjId) (own now : Loading) (r : Result (Unit {0}) E) → key ≡ key_of mapped relation own.graph owner
    → end ≡ known_end mapped relation.target own.graph key → OnOk r (now ≡ end_filled owner place end own)
    → OnOk r (Runs alone (λ (u : Unit {0}). u) (fill_owner mapped relation place owner tt) own (Ok tt) now)
owner_filled mapped relation place owner key end own now (Ok u) named ends is =
    change_ok (end_known mapped relation place owner)
    (is ∙ ap (λ (e : Option ObjId). end_filled owner place e own) (ends ∙ ap (λ (k : List Value). known_end mapped relation.target own.graph k) named))
owner_filled mapped relation place owner key end own now (Err e) named ends is = tt

-- the loop over owners begins
pub owners_start : (mapped : Mapped) (relation : Relation) (place : RelNo) (owners : List ObjId) (own : Loading) → Reaches alone (fill_owners mapped relation place owners) own (each (fill_owner mapped relation place) tt owners) own
unfolding fill_owners
owners_start mapped relation place owners own = reaches_start

-- ---- as objects are made

child_there : (mapped : Mapped) (old new : Graph) (relation : Relation) (place : RelNo) (object : ObjId) → Grows old new → IsChild mapped old relation place object → IsChild mapped new relation place object
child_there mapped old new relation place object grows child = record {
  made = owner_there old new object grows child.made;
  within = subst (λ (class : ClassId). place.0 < length (relations_of mapped class)) (sym (class_there old new object grows child.made)) child.within;
  is = same_relation mapped old new object place grows child.made ∙ child.is;
}

pub children_still : (mapped : Mapped) (old new : Graph) (relation : Relation) (place : RelNo) (owners : List ObjId) → Grows old new → All (IsChild mapped old relation place) owners → All (IsChild mapped new relation place) owners
children_still mapped old new relation place owners grows all = λ i d less. child_there mapped old new relation place _ grows (all i d less)
