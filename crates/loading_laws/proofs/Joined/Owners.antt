-- An owner of a joined load before its links are filled: that it is among those whose links are, and what its link at a place is.
use Rattle.std.proofs.Common.{◌≡◌, ◌⊎◌, inl, inr, ℕ, zero, suc, ◌<◌, ◌==◌, Bool, true, false, List, [], ◌∷◌, ◌++◌, fold, length, map, Option, None, Some, if◌then◌else◌, refl, sym, ap, subst, ◌∙◌, arith}
use Rattle.std.specs.Prelude.{slice_index_or}
use Rattle.std.specs.List.{AllByRecursion}
use Rattle.std.proofs.lemmas.Bool.{eqb-true}
use Rattle.std.proofs.lemmas.Bool.Decides.{nat_tests}
use Rattle.std.proofs.lemmas.List.{length-map}
use Rattle.base_core.specs.declared.ids.ClassId.{ClassId}
use Rattle.base_core.specs.declared.ids.ObjId.{ObjId}
use Rattle.base_core.specs.declared.ids.RelNo.{RelNo}
use Rattle.base_core.specs.declared.value.Value.{Value}
use Rattle.sql_semantics.specs.Eval.{Row}
use Rattle.class_types.specs.declared.mapped.Relation.{Relation}
use Rattle.class_mapping.specs.Mapped.{IsClass, Mapped, relations_of, root_of}
use Rattle.class_mapping.proofs.Having.{Has, all_from, any_has, from_filter, has_either, has_filter, has_left, has_right, some_of}
use Rattle.mapping_laws.specs.Hierarchies.{HasHierarchies}
use Rattle.object_arena.specs.declared.object.Link.{Link}
use Rattle.object_arena.specs.declared.object.Link.TheVariants.{Unset, Unloaded}
use Rattle.object_arena.specs.Fit.{IsFit, is_empty}
use Rattle.object_arena.specs.Graph.{Graph, IsLink, IsObject, is_among, no_object, object_at, place_of}
use Rattle.object_arena.specs.Identity.{find_identity}
use Rattle.relations.specs.Mirror.{is_of}
use Rattle.load_filling.specs.Rows.{row_key}
use Rattle.load_rows.specs.Links.{link_at}
use Rattle.object_parts.specs.Lists.{firsts, with_first}
use Rattle.joined_rows.specs.declared.parts.Part.{Part}
use Rattle.joined_rows.specs.Parts.{own_values}
use Rattle.object_parts.specs.declared.answers.Taken.{Taken}
use Rattle.load_queries.specs.Joined.{owners_among}
use Rattle.load_queries.proofs.FillSteps.{inherits}
use Rattle.loading_laws.proofs.Strategies.Finding.{IsUntouched}
use Rattle.loading_laws.proofs.Strategies.Standing.{found_stands, link_kept}
use Rattle.loading_laws.specs.Joined.Joined.{first_link, link_before}
use Rattle.loading_laws.proofs.Joined.Answered.{same_some}
use Rattle.loading_laws.proofs.Joined.Objects.{rooted_fit}
use Rattle.loading_laws.proofs.Joined.Taken.{AreTaken, Extends}

abbrev Block : Type 0
Block = Row × List Row

-- ---- objects where each comes first

pub object_is : (one other : ObjId) → (one.0 == other.0) ≡ true → one ≡ other
object_is one other same = ap (λ (n : ℕ). let o : ObjId = record { 0 = n } in o) (eqb-true one.0 other.0 same)

kept_has : (kept : List ObjId) (other object : ObjId) (b : Bool) → Has kept object → Has (if b then kept else (kept ++ other ∷ [])) object
kept_has kept other object true there = there
kept_has kept other object false there = has_left kept (other ∷ []) object there

own_has : (kept : List ObjId) (object : ObjId) (b : Bool) → is_among kept object ≡ b → Has (if b then kept else (kept ++ object ∷ [])) object
own_has kept object true is = let found = some_of (λ (other : ObjId). other.0 == object.0) kept is in subst (Has kept) (object_is found.0 object found.2) found.1
own_has kept object false is = has_right kept (object ∷ []) object (inl refl)

firsts_from : (kept objects : List ObjId) (object : ObjId) → (Has kept object ⊎ Has objects object) → Has (fold with_first kept objects) object
firsts_from kept [] object (inl there) = there
firsts_from kept [] object (inr there) = absurd there
firsts_from kept (other ∷ objects) object (inl there) = firsts_from (with_first kept other) objects object (inl (kept_has kept other object (is_among kept other) there))
firsts_from kept (other ∷ objects) object (inr (inl is)) =
    firsts_from (with_first kept other) objects object (inl (subst (Has (with_first kept other)) is (own_has kept other (is_among kept other) refl)))
firsts_from kept (other ∷ objects) object (inr (inr there)) = firsts_from (with_first kept other) objects object (inr there)

firsts_has : (objects : List ObjId) (object : ObjId) → Has objects object → Has (firsts objects) object
unfolding firsts
firsts_has objects object there = firsts_from [] objects object (inr there)

-- what a list has to which items were added one by one, it had before, or it is one of them
pub from_steps : {A : Type 0} (step : List A → A → List A) → ((kept : List A) (x z : A) → Has (step kept x) z → Has kept z ⊎ (x ≡ z)) → (kept xs : List A) (z : A) → Has (fold step kept xs) z → Has kept z ⊎ Has xs z
from_steps step adds kept [] z there = inl there
from_steps {A = A} step adds kept (x ∷ xs) z there = by (from_steps step adds (step kept x) xs z there)
  where
    here : (Has kept z ⊎ (x ≡ z)) → Has kept z ⊎ Has (x ∷ xs) z
    here (inl h) = inl h
    here (inr e) = inr (inl e)

    by : (Has (step kept x) z ⊎ Has xs z) → Has kept z ⊎ Has (x ∷ xs) z
    by (inl h) = here (adds kept x z h)
    by (inr h) = inr (inr h)

-- an item that was added or was there
pub added_by : {A : Type 0} (b : Bool) (kept : List A) (x z : A) → Has (if b then kept else (kept ++ x ∷ [])) z → Has kept z ⊎ (x ≡ z)
added_by true kept x z h = inl h
added_by {A = A} false kept x z h = last (has_either kept (x ∷ []) z h)
  where
    last : (Has kept z ⊎ Has (x ∷ []) z) → Has kept z ⊎ (x ≡ z)
    last (inl h) = inl h
    last (inr (inl e)) = inr e
    last (inr (inr h)) = absurd h

from_firsts : (objects : List ObjId) (object : ObjId) → Has (firsts objects) object → Has objects object
unfolding firsts
from_firsts objects object there = by (from_steps with_first (λ kept x z h. added_by (is_among kept x) kept x z h) [] objects object there)
  where
    by : (Has [] object ⊎ Has objects object) → Has objects object
    by (inl h) = absurd h
    by (inr h) = h

-- ---- the owners

module _ (mapped : Mapped) (has : HasHierarchies mapped) (class : ClassId) (declared : IsClass mapped class) (parts : List Part) (targets : AllByRecursion (λ part. IsClass mapped part.target) parts) (graph : Graph) where
  abbrev own_key : Row → List Value
  own_key row = row_key mapped class (own_values mapped class row)

  abbrev owners_in : List Taken → List ObjId
  owners_in taken = map (λ (one : Taken). one.owner) taken

  -- a row's object is among them
  owner_of_row : (rows : List Row) (taken : List Taken) (row : Row) → AreTaken mapped has class declared parts targets graph rows taken → Has rows row
      → (object : ObjId) × Has (owners_in taken) object × (find_identity graph (root_of mapped class) (own_key row) ≡ Some object)
  owner_of_row [] [] row is there = absurd there
  owner_of_row [] (one ∷ taken) row is there = absurd is
  owner_of_row (other ∷ rows) [] row is there = absurd is
  owner_of_row (other ∷ rows) (one ∷ taken) row is (inl same) = (one.owner, inl refl, ap (λ (r : Row). find_identity graph (root_of mapped class) (own_key r)) (sym same) ∙ is.0.0)
  owner_of_row (other ∷ rows) (one ∷ taken) row is (inr there) = let rest = owner_of_row rows taken row is.1 there in (rest.0, inr rest.1, rest.2)

  -- each of them is found under a key
  owner_found : (rows : List Row) (taken : List Taken) (object : ObjId) → AreTaken mapped has class declared parts targets graph rows taken → Has (owners_in taken) object
      → (key : List Value) × (find_identity graph (root_of mapped class) key ≡ Some object)
  owner_found [] [] object is there = absurd there
  owner_found [] (one ∷ taken) object is there = absurd is
  owner_found (row ∷ rows) [] object is there = absurd is
  owner_found (row ∷ rows) (one ∷ taken) object is (inl same) = (own_key row, is.0.0 ∙ ap (λ (o : ObjId). Some o) same)
  owner_found (row ∷ rows) (one ∷ taken) object is (inr there) = owner_found rows taken object is.1 there

  pub owners_made : (rows : List Row) (taken : List Taken) (objects : List ObjId) → length graph.roots ≡ length graph.objects → AreTaken mapped has class declared parts targets graph rows taken → firsts (owners_in taken) ≡ objects
      → AllByRecursion (IsObject graph) (owners_among mapped class graph objects)
  owners_made rows taken objects rooted is are =
      all_from (IsObject graph) (owners_among mapped class graph objects)
      (λ object there.
      let listed = from_filter (is_of graph mapped class) objects object there in
      let first : Has (firsts (owners_in taken)) object = subst (λ (os : List ObjId). Has os object) (sym are) listed.0 in
      let found = owner_found rows taken object is (from_firsts (owners_in taken) object first) in
      (found_stands graph (root_of mapped class) found.0 object rooted found.1).0)

  pub owner_listed : (rows : List Row) (taken : List Taken) (objects : List ObjId) (row : Row) (owner : ObjId) → AreTaken mapped has class declared parts targets graph rows taken → firsts (owners_in taken) ≡ objects → Has rows row
      → find_identity graph (root_of mapped class) (own_key row) ≡ Some owner → is_of graph mapped class owner ≡ true → is_among (owners_among mapped class graph objects) owner ≡ true
  owner_listed rows taken objects row owner is are there found of =
      let one = owner_of_row rows taken row is there in
      let same : one.0 ≡ owner = same_some one.0 owner (sym one.2 ∙ found) in
      let first : Has objects owner = subst (λ (os : List ObjId). Has os owner) are (firsts_has (owners_in taken) owner (subst (Has (owners_in taken)) same one.1)) in
      any_has (λ (other : ObjId). other.0 == owner.0) (owners_among mapped class graph objects) owner (has_filter (is_of graph mapped class) objects owner first of) (itself owner.0)
    where
      itself : (n : ℕ) → (n == n) ≡ true
      itself n = grind (arith, nat_tests)

-- a block has a row, whose values are those of its head
pub row_of_block : (mapped : Mapped) (class : ClassId) (block : Block) → is_empty block.1 ≡ false → AllByRecursion (λ one. own_values mapped class one ≡ block.0) block.1 → (one : Row) × Has block.1 one × (own_values mapped class one ≡ block.0)
row_of_block mapped class (head, []) some own = absurd cc
row_of_block mapped class (head, one ∷ rows) some own = (one, inl refl, own.0)

-- ---- the link of an owner

unloaded_at : (relations : List Relation) (place : ℕ) → place < length relations → slice_index_or (map (λ (relation : Relation). Unloaded [] []) relations) place Unset ≡ Unloaded [] []
unloaded_at [] place less = absurd (omega (arith, less))
unloaded_at (relation ∷ relations) zero less = refl
unloaded_at (relation ∷ relations) (suc place) less = unloaded_at relations place (omega (arith, less))

pub record IsReady (mapped : Mapped) (class : ClassId) (place : RelNo) (row : Row) (first graph : Graph) (owner : ObjId) : Type 0 where
  pub held : IsLink graph owner place
  pub waits : link_at graph owner place ≡ first_link mapped class place first row

module _ (mapped : Mapped) (has : HasHierarchies mapped) (class : ClassId) (place : RelNo) (within : place.0 < length (relations_of mapped class)) (row : Row) (first graph : Graph) (fit : IsFit mapped first) (extends : Extends mapped first graph)
    (owner : ObjId) (found : find_identity graph (root_of mapped class) (row_key mapped class row) ≡ Some owner) (of : is_of graph mapped class owner ≡ true) where
  inherited : place.0 < length (relations_of mapped (object_at graph owner).class)
  inherited = (inherits mapped (object_at graph owner).class class place has.paired of within).within

  -- one that there was
  ready_old : IsObject first owner → find_identity first (root_of mapped class) (row_key mapped class row) ≡ Some owner → IsReady mapped class place row first graph owner
  ready_old there before =
      let less : place_of owner < length first.objects = omega (arith, there.0, there.1) in
      let long : length (object_at first owner).links ≡ length (relations_of mapped (object_at first owner).class) = (fit.objects (place_of owner) no_object less).links in
      let links : length (object_at graph owner).links ≡ length (relations_of mapped (object_at graph owner).class) =
      ap length (extends.keeps.links owner there) ∙ long ∙ ap (λ (own : ClassId). length (relations_of mapped own)) (sym (extends.classes owner there)) in
      let less_now = inherited in
      record {
        held = omega (arith, links, less_now);
        waits = link_kept first graph owner place extends.keeps there ∙ ap (link_before first place) (sym before);
      }

  ready_made : find_identity first (root_of mapped class) (row_key mapped class row) ≡ None → (IsObject first owner ⊎ IsUntouched mapped (object_at graph owner)) → IsReady mapped class place row first graph owner
  ready_made none (inl there) = absurd (let was = extends.before (root_of mapped class) (row_key mapped class row) owner there found in let never = sym none ∙ was in cc)
  ready_made none (inr untouched) =
      let relations : List Relation = relations_of mapped (object_at graph owner).class in
      let links : length (object_at graph owner).links ≡ length relations = ap length untouched ∙ length-map relations (λ (relation : Relation). let link : Link = Unloaded [] [] in link) in
      let less_now = inherited in
      record {
        held = omega (arith, links, less_now);
        waits = ap (λ (ls : List Link). slice_index_or ls place.0 Unset) untouched ∙ unloaded_at relations place.0 inherited ∙ ap (link_before first place) (sym none);
      }

  ready_by : (before : Option ObjId) → find_identity first (root_of mapped class) (row_key mapped class row) ≡ before → IsReady mapped class place row first graph owner
  ready_by None is = ready_made is (extends.made owner (found_stands graph (root_of mapped class) (row_key mapped class row) owner extends.rooted found).0)
  ready_by (Some object) is =
      let same : object ≡ owner = same_some object owner (sym (extends.found (root_of mapped class) (row_key mapped class row) object is) ∙ found) in
      let was : find_identity first (root_of mapped class) (row_key mapped class row) ≡ Some owner = is ∙ ap (λ (o : ObjId). Some o) same in
      ready_old (found_stands first (root_of mapped class) (row_key mapped class row) owner (rooted_fit mapped first fit) was).0 was

  -- it has the link, which is as it was before, or unloaded where the object was made
  pub is_ready : IsReady mapped class place row first graph owner
  is_ready = ready_by (find_identity first (root_of mapped class) (row_key mapped class row)) refl
