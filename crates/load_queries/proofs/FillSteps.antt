-- The links of owners, filled with what they are given.
use Rattle.std.proofs.Common.{◌≡◌, ℕ, ◌+◌, ◌<◌, ◌≤◌, Bool, true, false, List, [], ◌∷◌, ◌++◌, length, get_or, drop, cond, Option, Some, Result, Ok, Err, OnOk, refl, sym, ap, subst, ◌∙◌, append-nil}
use Rattle.std.specs.Prelude.{slice_get}
use Rattle.std.specs.List.{All, AllByRecursion, enumerate_from}
use Rattle.std.proofs.lemmas.List.{drop_all}
use Rattle.std.proofs.lemmas.List.Elements.{All-from_recursion, recursion_from_All}
use Rattle.std.proofs.lemmas.Option.{get_or_from_slice_get, slice_get-get_or, slice_get_within}
use Rattle.base_core.specs.declared.ids.ClassId.{ClassId}
use Rattle.base_core.specs.declared.ids.ObjId.{ObjId}
use Rattle.base_core.specs.declared.ids.RelNo.{RelNo}
use Rattle.base_core.specs.declared.refusal.Refusal.{Refusal}
use Rattle.class_layouts.proofs.Steps.{numbered_at}
use Rattle.class_mapping.specs.Mapped.{Mapped, relations_of, root_of}
use Rattle.class_mapping.specs.Paired.{HasPairs, IsAt, is_at_or_under}
use Rattle.object_arena.specs.Every.{classes_of}
use Rattle.object_arena.specs.Fit.{end_fits, is_of_root, no_relation, relation_of}
use Rattle.object_arena.specs.Graph.{Graph, IsObject}
use Rattle.relations.specs.Mirror.{is_of}
use Rattle.keeper_core.specs.Alone.{alone}
use Rattle.keeper_core.specs.Moment.{Reaches, Runs}
use Rattle.keeper_core.specs.Programs.{each}
use Rattle.keeper_core.proofs.AloneLemmas.{alone_same, change_ok}
use Rattle.keeper_core.proofs.Sequence.{done, reaches_end, reaches_more, reaches_start, then_err}
use Rattle.load_filling.specs.Growing.{Grows}
use Rattle.load_filling.proofs.LoadedLemmas.{grows_same}
use Rattle.load_rows.specs.Loading.{Loading}
use Rattle.load_rows.proofs.TakenLemmas.{grows_filled}
use Rattle.load_rows.specs.Links.{collection_filled, end_filled}
use Rattle.joined_rows.specs.declared.parts.Part.{Part}
use Rattle.load_calls.proofs.CollectionLemmas.{class_there, owner_there}
use Rattle.object_parts.specs.declared.answers.Taken.{Taken}
use Rattle.joined_rows.specs.Taking.{IsTaken}
use Rattle.load_queries.specs.Joined.{GiveMembers, HasGiven, IsOwner, IsPartOf, fill_option, fill_options, fill_owner, fill_owners, given_to, is_many, link_filled, objects_at, owners_among}
use Rattle.load_queries.proofs.GivenSteps.{given_all}
use Rattle.std.specs.BTreeMap.{BTreeMap}

-- ---- owners

-- an object of a class at or under another has its relationships at their places
pub record Inherits (mapped : Mapped) (own class : ClassId) (place : RelNo) : Type 0 where
  pub within : place.0 < length (relations_of mapped own)
  pub same : relation_of mapped own place ≡ relation_of mapped class place

pub inherits : (mapped : Mapped) (own class : ClassId) (place : RelNo) → HasPairs mapped → is_at_or_under mapped own class ≡ true → place.0 < length (relations_of mapped class) → Inherits mapped own class place
inherits mapped own class place paired under less =
    let at : IsAt mapped own place.0 (relation_of mapped class place) =
    paired.inherited own class place.0 (relation_of mapped class place) under (slice_get-get_or (relations_of mapped class) place.0 no_relation less) in
    record {
      within = slice_get_within (relations_of mapped own) place.0 (relation_of mapped class place) at;
      same = get_or_from_slice_get (relations_of mapped own) place.0 (relation_of mapped class place) no_relation at;
    }

-- an owner goes on to be one while each object keeps its class
owner_stays : (mapped : Mapped) (old new : Graph) (class : ClassId) (owner : ObjId) → classes_of new ≡ classes_of old → IsOwner mapped old class owner → IsOwner mapped new class owner
owner_stays mapped old new class owner same is =
    let grows : Grows old new = grows_filled old old new (grows_same old old refl) same in
    record {
      made = owner_there old new owner grows is.made;
      under = ap (λ (own : ClassId). is_at_or_under mapped own class) (class_there old new owner grows is.made) ∙ is.under;
    }

pub owner_at : (mapped : Mapped) (old new : Graph) (class : ClassId) (owners : List ObjId) (i : ℕ) (owner : ObjId) → classes_of new ≡ classes_of old → All (IsOwner mapped old class) owners → i < length owners → owner ≡ get_or owners i owner
    → IsOwner mapped new class owner
owner_at mapped old new class owners i owner same all less is = owner_stays mapped old new class owner same (subst (IsOwner mapped old class) (sym is) (all i owner less))

pub owners_stay : (mapped : Mapped) (old new : Graph) (class : ClassId) (owners : List ObjId) → classes_of new ≡ classes_of old → All (IsOwner mapped old class) owners → All (IsOwner mapped new class) owners
owners_stay mapped old new class owners same all = λ i d less. owner_stays mapped old new class _ same (all i d less)

every_owner : (mapped : Mapped) (graph : Graph) (class : ClassId) (objects : List ObjId) → AllByRecursion (IsObject graph) objects → AllByRecursion (IsOwner mapped graph class) (owners_among mapped class graph objects)
every_owner mapped graph class [] made = tt
every_owner mapped graph class (object ∷ objects) made = by (is_of graph mapped class object) refl (every_owner mapped graph class objects made.1)
  where
    rest : List ObjId
    rest = owners_among mapped class graph objects

    by : (b : Bool) → is_of graph mapped class object ≡ b → AllByRecursion (IsOwner mapped graph class) rest → AllByRecursion (IsOwner mapped graph class) (cond b (object ∷ rest) rest)
    by true under more = (record { made = made.0; under = under }, more)
    by false under more = more

-- those among objects
pub owners_all : (mapped : Mapped) (graph : Graph) (class : ClassId) (objects owners : List ObjId) → owners ≡ owners_among mapped class graph objects → All (IsObject graph) objects → All (IsOwner mapped graph class) owners
owners_all mapped graph class objects owners are made =
    subst (All (IsOwner mapped graph class)) (sym are)
    (All-from_recursion (IsOwner mapped graph class) (owners_among mapped class graph objects) (every_owner mapped graph class objects (recursion_from_All (IsObject graph) objects made)))

-- the loop over objects has found all
pub all_found : {A : Type 0} (f : List A → List A) (found xs : List A) (i : ℕ) → length xs ≤ i → f [] ≡ [] → found ++ f (drop i xs) ≡ f xs → found ≡ f xs
all_found f found xs i ended none left = sym (append-nil found) ∙ ap (λ ys. found ++ ys) (sym none ∙ ap f (sym (drop_all i xs ended))) ∙ left

-- ---- the graph's roots

roots_stay : (old new : Graph) → classes_of new ≡ classes_of old → new.roots ≡ old.roots
unfolding classes_of
roots_stay old new same = ap (λ (both : List ClassId × List ClassId). both.1) same

-- what is said of the hierarchies of objects is said of them while each object keeps its class
pub still_said : (P : List ClassId → Type 0) (old new : Graph) → classes_of new ≡ classes_of old → P old.roots → P new.roots
still_said P old new same h = subst P (sym (roots_stay old new same)) h

-- ---- a link

pub first_fits : (roots : List ClassId) (root : ClassId) (given : List ObjId) → All (λ object. is_of_root roots root object ≡ true) given → end_fits roots root (slice_get given 0) ≡ true
first_fits roots root given all = by given (recursion_from_All (λ object. is_of_root roots root object ≡ true) given all)
  where
    by : (objects : List ObjId) → AllByRecursion (λ object. is_of_root roots root object ≡ true) objects → end_fits roots root (slice_get objects 0) ≡ true
    by [] h = refl
    by (object ∷ objects) h = h.0

pub filled_many : {E : Type 0} (mapped : Mapped) (class : ClassId) (owner : ObjId) (place : RelNo) (given : List ObjId) (old now : Loading) (r : Result (Unit {0}) E) → is_many mapped class place ≡ true
    → OnOk r (now ≡ collection_filled owner place given old) → OnOk r (now ≡ link_filled (is_many mapped class place) owner place given old)
filled_many mapped class owner place given old now r many is = subst (λ (b : Bool). OnOk r (now ≡ link_filled b owner place given old)) (sym many) is

pub filled_one : {E : Type 0} (mapped : Mapped) (class : ClassId) (owner : ObjId) (place : RelNo) (given : List ObjId) (end : Option ObjId) (old now : Loading) (r : Result (Unit {0}) E) → is_many mapped class place ≡ false → end ≡ slice_get given 0
    → OnOk r (now ≡ end_filled owner place end old) → OnOk r (now ≡ link_filled (is_many mapped class place) owner place given old)
filled_one mapped class owner place given end old now r many first is =
    subst (λ (b : Bool). OnOk r (now ≡ link_filled b owner place given old)) (sym many) (subst (λ (e : Option ObjId). OnOk r (now ≡ end_filled owner place e old)) first is)

-- ---- the links of owners

-- what an owner is given are objects of the target's hierarchy
pub link_fits : (mapped : Mapped) (roots : List ClassId) (class : ClassId) (number : ℕ) (part : Part) (taken : List Taken) (given : BTreeMap ℕ (List ObjId)) (owner : ObjId) (objects : List ObjId) → HasGiven number taken given → IsPartOf mapped class part
    → GiveMembers mapped roots (number, part) taken → objects ≡ objects_at given owner.0 → All (λ object. is_of_root roots (root_of mapped (relation_of mapped class part.place).target) object ≡ true) objects
link_fits mapped roots class number part taken given owner objects has of give is =
    subst (λ (found : List ObjId). All (λ object. is_of_root roots (root_of mapped (relation_of mapped class part.place).target) object ≡ true) found) (sym (is ∙ has.same owner))
    (subst (λ (target : ClassId). All (λ object. is_of_root roots (root_of mapped target) object ≡ true) (given_to number taken owner)) of.target (given_all mapped roots number part taken owner give))

-- one was filled with what its owner is given
pub owner_filled : (mapped : Mapped) (class : ClassId) (taken : List Taken) (number : ℕ) (part : Part) (owner : ObjId) (given : List ObjId) (old now : Loading) → given ≡ given_to number taken owner
    → now ≡ link_filled (is_many mapped class part.place) owner part.place given old → Runs alone (λ (u : Unit {0}). u) (fill_owner mapped class taken (number, part) owner tt) old (Ok tt) now
owner_filled mapped class taken number part owner given old now mine is =
    change_ok (link_filled (is_many mapped class part.place) owner part.place (given_to number taken owner)) (is ∙ ap (λ (objects : List ObjId). link_filled (is_many mapped class part.place) owner part.place objects old) mine)

pub owners_start : (mapped : Mapped) (class : ClassId) (taken : List Taken) (owners : List ObjId) (option : ℕ × Part) (own : Loading) → Reaches alone (fill_option mapped class taken owners option tt) own (each (fill_owner mapped class taken option) tt owners) own
unfolding fill_option
owners_start mapped class taken owners option own = reaches_start

-- ---- the links of options

-- what the rows of taken objects give
pub taken_give : (mapped : Mapped) (roots : List ClassId) (class : ClassId) (parts : List Part) (taken : List Taken) (number : ℕ) (part : Part) → All (IsTaken mapped roots class parts) taken → number < length parts → part ≡ get_or parts number part
    → GiveMembers mapped roots (number, part) taken
taken_give mapped roots class parts taken number part all less is = record { all = λ i d within. (all i d within).members number part (slice_get-get_or parts number part less ∙ ap Some (sym is)) }

pub options_start : (mapped : Mapped) (class : ClassId) (parts : List Part) (taken : List Taken) (owners : List ObjId) (own : Loading)
    → Reaches alone (fill_options mapped class parts taken owners) own (each (fill_option mapped class taken owners) tt (enumerate_from 0 parts)) own
unfolding fill_options
options_start mapped class parts taken owners own = reaches_start

abbrev LeftFrom : Mapped → ClassId → List Part → List Taken → List ObjId → Loading → ℕ → Loading → Type 0
LeftFrom mapped class parts taken owners old i own = Reaches alone (fill_options mapped class parts taken owners) old (each (fill_option mapped class taken owners) tt (enumerate_from i (drop i parts))) own

numbered : (parts : List Part) (i : ℕ) (part : Part) → i < length parts → part ≡ get_or parts i part → enumerate_from i (drop i parts) ≡ (i, part) ∷ enumerate_from (i + 1) (drop (i + 1) parts)
numbered parts i part less is = numbered_at parts i part less ∙ ap (λ (p : Part). (i, p) ∷ enumerate_from (i + 1) (drop (i + 1) parts)) (sym is)

-- one option was done
pub option_done : (mapped : Mapped) (class : ClassId) (parts : List Part) (taken : List Taken) (owners : List ObjId) (old mid now : Loading) (i : ℕ) (part : Part) → LeftFrom mapped class parts taken owners old i mid → i < length parts → part ≡ get_or parts i part
    → Runs alone (λ (u : Unit {0}). u) (fill_option mapped class taken owners (i, part) tt) mid (Ok tt) now → LeftFrom mapped class parts taken owners old (i + 1) now
unfolding each
option_done mapped class parts taken owners old mid now i part left less is one =
    reaches_more (λ (u : Unit {0}). each (fill_option mapped class taken owners) u (enumerate_from (i + 1) (drop (i + 1) parts)))
    (subst (λ (xs : List (ℕ × Part)). Reaches alone (fill_options mapped class parts taken owners) old (each (fill_option mapped class taken owners) tt xs) mid) (numbered parts i part less is) left) one

-- one was not
pub option_lost : (mapped : Mapped) (class : ClassId) (parts : List Part) (taken : List Taken) (owners : List ObjId) (old mid now : Loading) (i : ℕ) (part : Part) (e : Refusal) → LeftFrom mapped class parts taken owners old i mid → i < length parts
    → part ≡ get_or parts i part → Runs alone (λ (u : Unit {0}). u) (fill_option mapped class taken owners (i, part) tt) mid (Err e) now → Runs alone (λ (u : Unit {0}). u) (fill_options mapped class parts taken owners) old (Err e) now
unfolding each
option_lost mapped class parts taken owners old mid now i part e left less is one =
    reaches_end {v = λ (u : Unit {0}). u}
    (subst (λ (xs : List (ℕ × Part)). Reaches alone (fill_options mapped class parts taken owners) old (each (fill_option mapped class taken owners) tt xs) mid) (numbered parts i part less is) left)
    (then_err (λ (u : Unit {0}). each (fill_option mapped class taken owners) u (enumerate_from (i + 1) (drop (i + 1) parts))) one)

-- all are done
pub options_done : (mapped : Mapped) (class : ClassId) (parts : List Part) (taken : List Taken) (owners : List ObjId) (old now : Loading) (i : ℕ) → LeftFrom mapped class parts taken owners old i now → drop i parts ≡ []
    → Runs alone (λ (u : Unit {0}). u) (fill_options mapped class parts taken owners) old (Ok tt) now
unfolding each
options_done mapped class parts taken owners old now i left ended =
    reaches_end {v = λ (u : Unit {0}). u}
    (subst (λ (xs : List Part). Reaches alone (fill_options mapped class parts taken owners) old (each (fill_option mapped class taken owners) tt (enumerate_from i xs)) now) ended left) (done {v = λ (u : Unit {0}). u} refl)

-- of the owners among objects
pub owners_filled : {E : Type 0} (mapped : Mapped) (class : ClassId) (parts : List Part) (taken : List Taken) (objects owners shown : List ObjId) (own now : Loading) (r : Result (Unit {0}) E) → owners ≡ owners_among mapped class own.graph objects → shown ≡ owners
    → OnOk r (Runs alone (λ (u : Unit {0}). u) (fill_options mapped class parts taken shown) own (Ok tt) now) → OnOk r (Runs alone (λ (u : Unit {0}). u) (fill_owners mapped class parts taken objects) own (Ok tt) now)
unfolding fill_owners
owners_filled mapped class parts taken objects owners shown own now (Err e) are seen p = tt
owners_filled mapped class parts taken objects owners shown own now (Ok u) are seen p =
    alone_same (fill_options mapped class parts taken shown) (fill_owners mapped class parts taken objects) (ap (λ (xs : List ObjId). fill_options mapped class parts taken xs own) (seen ∙ are)) p
