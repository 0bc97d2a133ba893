-- The owners of collections, with the keys of their rows.
use Rattle.std.proofs.Common.{◌≡◌, ℕ, ◌+◌, ◌<◌, true, List, [], ◌∷◌, ◌++◌, length, get_or, drop, fold, Result, Ok, Err, OnOk, sym, ap, subst, ◌∙◌, append_assoc}
use Rattle.std.specs.List.{All, flat_map}
use Rattle.std.proofs.lemmas.List.{drop_more}
use Rattle.std.proofs.lemmas.List.Elements.{All-drop, All-from_recursion, All-take, recursion_from_All}
use Rattle.base_core.proofs.Lists.{every_append}
use Rattle.base_core.specs.declared.ids.ClassId.{ClassId}
use Rattle.base_core.specs.declared.ids.ObjId.{ObjId}
use Rattle.base_core.specs.declared.ids.RelNo.{RelNo}
use Rattle.schema_core.specs.WellFormed.{is_key}
use Rattle.class_types.specs.declared.mapped.Relation.{Relation}
use Rattle.class_mapping.specs.Mapped.{IsClass, Mapped, relations_of, root_spec}
use Rattle.class_mapping.specs.Related.{AreRelated}
use Rattle.mapping_laws.specs.Hierarchies.{HasHierarchies}
use Rattle.object_arena.specs.declared.object.Object.{Object}
use Rattle.object_arena.specs.Fit.{ObjectFits, key_fits}
use Rattle.object_arena.specs.Graph.{Graph, object_at}
use Rattle.object_arena.specs.Identity.{is_identified}
use Rattle.load_filling.specs.Growing.{Grows}
use Rattle.load_rows.specs.Reading.{identity_key}
use Rattle.load_calls.proofs.RefreshLemmas.{own_key_fits}
use Rattle.load_calls.proofs.CollectionLemmas.{class_there, owner_key, owner_there, related_at, same_relation}
use Rattle.load_batches.specs.Batches.{IsKeyed, IsOwned, IsOwner, batch_at, batch_size, with_key}
use Rattle.load_batches.specs.declared.owners.Owner.{Owner}

-- a persistent owner has a key of its class's root's table
pub owner_keyed : (mapped : Mapped) (graph : Graph) (relation : Relation) (place : RelNo) (object : ObjId) (own : Object) → IsOwner mapped graph relation place object → ObjectFits mapped own
    → own ≡ object_at graph object → is_identified own ≡ true → IsOwned mapped graph relation place (with_key graph object)
owner_keyed mapped graph relation place object own owner fits is identity =
    let class : ClassId = (object_at graph object).class in
    let less : IsClass mapped class = subst (λ (o : Object). IsClass mapped o.class) is fits.class in
    let fit : key_fits mapped class (identity_key graph object) ≡ true =
    ap (λ (o : Object). key_fits mapped o.class (identity_key graph object)) (sym is) ∙ own_key_fits mapped graph object own fits is owner.persistent identity in
    record {
      made = owner.made;
      within = owner.within;
      is = owner.is;
      keyed = λ has related.
          ap (λ (one : Relation). is_key (root_spec mapped one.class) (identity_key graph object)) (sym owner.is)
          ∙ owner_key mapped class place (identity_key graph object) has less owner.within (related_at mapped class place related less owner.within) fit;
    }

pub owned_told : (mapped : Mapped) (graph : Graph) (relation : Relation) (place : RelNo) (object : ObjId) (found : Owner) → found ≡ with_key graph object → IsOwned mapped graph relation place (with_key graph object) → IsOwned mapped graph relation place found
owned_told mapped graph relation place object found is owned = subst (IsOwned mapped graph relation place) (sym is) owned

pub owned_more : {A E : Type 0} (P : A → Type 0) (found : A) (owners new : List A) (r : Result (Unit {0}) E) → P found → OnOk r (new ≡ owners ++ found ∷ []) → All P owners → OnOk r (All P new)
owned_more P found owners new (Ok u) one pushed all =
    subst (All P) (sym pushed) (All-from_recursion P (owners ++ found ∷ []) (every_append P owners (found ∷ []) (recursion_from_All P owners all) (one, tt)))
owned_more P found owners new (Err e) one pushed all = tt

pub no_owners : {A : Type 0} (P : A → Type 0) (owners : List A) → owners ≡ [] → All P owners
no_owners P owners none = subst (All P) (sym none) (All-from_recursion P [] tt)

-- ---- one of several

pub one_at : {A : Type 0} (P : A → Type 0) (xs : List A) (i : ℕ) (x : A) → i < length xs → x ≡ get_or xs i x → All P xs → P x
one_at P xs i x less is all = subst P (sym is) (all i x less)

-- ---- as objects are made

owned_there : (mapped : Mapped) (old new : Graph) (relation : Relation) (place : RelNo) (owner : Owner) → Grows old new → IsOwned mapped old relation place owner → IsOwned mapped new relation place owner
owned_there mapped old new relation place owner grows owned = record {
  made = owner_there old new owner.object grows owned.made;
  within = subst (λ (class : ClassId). place.0 < length (relations_of mapped class)) (sym (class_there old new owner.object grows owned.made)) owned.within;
  is = same_relation mapped old new owner.object place grows owned.made ∙ owned.is;
  keyed = owned.keyed;
}

pub owned_still : (mapped : Mapped) (old new : Graph) (relation : Relation) (place : RelNo) (owners : List Owner) → Grows old new → All (IsOwned mapped old relation place) owners → All (IsOwned mapped new relation place) owners
owned_still mapped old new relation place owners grows all = λ i d less. owned_there mapped old new relation place _ grows (all i d less)

-- the one at a place
pub owned_at : (mapped : Mapped) (old new : Graph) (relation : Relation) (place : RelNo) (owners : List Owner) (i : ℕ) (owner : Owner) → Grows old new → All (IsOwned mapped old relation place) owners → i < length owners
    → owner ≡ get_or owners i owner → IsOwned mapped new relation place owner
owned_at mapped old new relation place owners i owner grows all less is = owned_there mapped old new relation place owner grows (subst (IsOwned mapped old relation place) (sym is) (all i owner less))

pub keyed_all : (mapped : Mapped) (graph : Graph) (relation : Relation) (place : RelNo) (owners : List Owner) → All (IsOwned mapped graph relation place) owners → HasHierarchies mapped → AreRelated mapped
    → All (IsKeyed mapped relation) owners
keyed_all mapped graph relation place owners all has related = λ i d less. (all i d less).keyed has related

-- ---- those of a batch

pub batch_all : (P : Owner → Type 0) (owners : List Owner) (start : ℕ) → All P owners → All P (batch_at owners start)
batch_all P owners start all = All-take P batch_size (drop start owners) (All-drop P start owners all)

-- ---- loops

-- one item more whose list goes behind what was found
pub found_more : {A B : Type 0} (f : A → List B) (xs : List A) (i : ℕ) (x : A) (found new : List B) → i < length xs → x ≡ get_or xs i x → new ≡ found ++ f x → found ++ flat_map f (drop i xs) ≡ flat_map f xs
    → new ++ flat_map f (drop (i + 1) xs) ≡ flat_map f xs
found_more f xs i x found new less is pushed left =
    ap (λ ys. ys ++ flat_map f (drop (i + 1) xs)) pushed ∙ append_assoc found (f x) (flat_map f (drop (i + 1) xs))
    ∙ ap (λ ys. found ++ flat_map f ys) (sym (drop_more xs i x less ∙ ap (λ y. y ∷ drop (i + 1) xs) (sym is))) ∙ left

-- one step more of a fold
pub folded_more : {A B : Type 0} (f : B → A → B) (first : B) (xs : List A) (i : ℕ) (x : A) (old new : B) → i < length xs → x ≡ get_or xs i x → new ≡ f old x → fold f old (drop i xs) ≡ fold f first xs
    → fold f new (drop (i + 1) xs) ≡ fold f first xs
folded_more f first xs i x old new less is stepped left =
    ap (λ b. fold f b (drop (i + 1) xs)) stepped ∙ ap (fold f old) (sym (drop_more xs i x less ∙ ap (λ y. y ∷ drop (i + 1) xs) (sym is))) ∙ left
