-- The objects that rows give, each where it comes first, by their keys.
use Rattle.std.proofs.Common.{◌≡◌, ℕ, ◌==◌, Bool, true, false, ◌||◌, List, [], ◌∷◌, ◌++◌, fold, length, map, Option, Some, if◌then◌else◌, refl, sym, ap, subst, ◌∙◌}
use Rattle.std.specs.List.{AllByRecursion, flat_map, list_any}
use Rattle.std.proofs.lemmas.Bool.{eq-eqb, eqb-true}
use Rattle.base_core.specs.declared.ids.ClassId.{ClassId}
use Rattle.base_core.specs.declared.ids.ObjId.{ObjId}
use Rattle.base_core.specs.declared.value.Value.{Value}
use Rattle.base_core.proofs.Lists.{every_append}
use Rattle.schema_core.specs.Tables.{same_values}
use Rattle.object_arena.specs.Graph.{Graph, is_among}
use Rattle.object_arena.specs.Identity.{find_identity}
use Rattle.object_arena.specs.Fit.{is_empty}
use Rattle.object_arena.proofs.GraphLemmas.{same_equiv}
use Rattle.load_rows.specs.Reading.{identity_key}
use Rattle.load_ends.specs.Ends.{with_first}
use Rattle.object_parts.specs.Lists.{firsts, with_first as with_first_object}
use Rattle.loading_laws.proofs.Members.Ranks.{same_equal}
use Rattle.loading_laws.proofs.Strategies.KeyOrder.{key_of_stand}
use Rattle.loading_laws.proofs.Strategies.Standing.{found_stands}
use Rattle.loading_laws.proofs.Strategies.Together.{among_first}
use Rattle.loading_laws.specs.Joined.Joined.{first_keys}

abbrev Key : Type 0
Key = List Value

-- ---- one object, one key

pub same_some : {A : Type 0} (x y : A) → ◌≡◌ {A = Option A} (Some x) (Some y) → x ≡ y
same_some x y e = cc

pub both_ways : (b c : Bool) → (b ≡ true → c ≡ true) → (c ≡ true → b ≡ true) → b ≡ c
both_ways true c f g = sym (f refl)
both_ways false true f g = g refl
both_ways false false f g = refl

module _ (root : ClassId) (graph : Graph) (rooted : length graph.roots ≡ length graph.objects) where
  -- the identity map has the object under the key
  abbrev pub IsUnder : Key → ObjId → Type 0
  IsUnder key object = find_identity graph root key ≡ Some object

  pub own_key : (key : Key) (object : ObjId) → IsUnder key object → identity_key graph object ≡ key
  own_key key object found = key_of_stand root graph key object (found_stands graph root key object rooted found)

  -- two objects that are found are one where their keys are
  pub same_object : (one_key other_key : Key) (one other : ObjId) → IsUnder one_key one → IsUnder other_key other → (one.0 == other.0) ≡ same_values one_key other_key
  same_object one_key other_key one other found found_other =
      both_ways (one.0 == other.0) (same_values one_key other_key)
      (λ same.
      let is : one ≡ other = ap (λ (n : ℕ). let o : ObjId = record { 0 = n } in o) (eqb-true one.0 other.0 same) in
      let keys : one_key ≡ other_key = sym (own_key one_key one found) ∙ ap (identity_key graph) is ∙ own_key other_key other found_other in
      subst (λ (k : Key). same_values one_key k ≡ true) keys (same_equiv.refl one_key))
      (λ same.
      let keys : one_key ≡ other_key = same_equal one_key other_key same in
      let is : one ≡ other = same_some one other (sym found ∙ ap (find_identity graph root) keys ∙ found_other) in
      eq-eqb one.0 other.0 (ap (λ (o : ObjId). o.0) is))

  -- ---- objects where each comes first

  -- each object is found under its own key
  abbrev pub AreUnderOwn : List ObjId → Type 0
  AreUnderOwn objects = AllByRecursion (λ object. IsUnder (identity_key graph object) object) objects

  among_keys : (kept : List ObjId) (object : ObjId) → AreUnderOwn kept → IsUnder (identity_key graph object) object → is_among kept object ≡ list_any (same_values (identity_key graph object)) (map (identity_key graph) kept)
  among_keys [] object all found = refl
  among_keys (one ∷ kept) object all found =
      ap (λ (b : Bool). b || is_among kept object)
      (same_object (identity_key graph one) (identity_key graph object) one object all.0 found
      ∙ both_ways (same_values (identity_key graph one) (identity_key graph object)) (same_values (identity_key graph object) (identity_key graph one))
      (λ same. turned (identity_key graph one) (identity_key graph object) same) (λ same. turned (identity_key graph object) (identity_key graph one) same))
      ∙ ap (λ (b : Bool). same_values (identity_key graph object) (identity_key graph one) || b) (among_keys kept object all.1 found)
    where
      turned : (k l : Key) → same_values k l ≡ true → same_values l k ≡ true
      turned k l same = subst (λ (x : Key). same_values x k ≡ true) (same_equal k l same) (same_equiv.refl k)

  map_behind : (kept : List ObjId) (object : ObjId) → map (identity_key graph) (kept ++ object ∷ []) ≡ map (identity_key graph) kept ++ identity_key graph object ∷ []
  map_behind [] object = refl
  map_behind (one ∷ kept) object = ap (λ (ks : List Key). identity_key graph one ∷ ks) (map_behind kept object)

  first_key : (kept : List ObjId) (object : ObjId) (b : Bool) → is_among kept object ≡ b → AreUnderOwn kept → IsUnder (identity_key graph object) object
      → map (identity_key graph) (if b then kept else (kept ++ object ∷ [])) ≡ with_first (map (identity_key graph) kept) (identity_key graph object)
  first_key kept object true is all found =
      ap (λ (b : Bool). if b then map (identity_key graph) kept else (map (identity_key graph) kept ++ identity_key graph object ∷ [])) (sym is ∙ among_keys kept object all found)
  first_key kept object false is all found =
      map_behind kept object
      ∙ ap (λ (b : Bool). if b then map (identity_key graph) kept else (map (identity_key graph) kept ++ identity_key graph object ∷ [])) (sym is ∙ among_keys kept object all found)

  first_all : (kept : List ObjId) (object : ObjId) (b : Bool) → AreUnderOwn kept → IsUnder (identity_key graph object) object → AreUnderOwn (if b then kept else (kept ++ object ∷ []))
  first_all kept object true all found = all
  first_all kept object false all found = every_append (λ object. IsUnder (identity_key graph object) object) kept (object ∷ []) all (found, tt)

  firsts_from : (kept objects : List ObjId) → AreUnderOwn kept → AreUnderOwn objects
      → (map (identity_key graph) (fold with_first_object kept objects) ≡ fold with_first (map (identity_key graph) kept) (map (identity_key graph) objects)) × AreUnderOwn (fold with_first_object kept objects)
  firsts_from kept [] all more = (refl, all)
  firsts_from kept (object ∷ objects) all more =
      let rest = firsts_from (with_first_object kept object) objects (first_all kept object (is_among kept object) all more.0) more.1 in
      (rest.0 ∙ ap (λ (ks : List Key). fold with_first ks (map (identity_key graph) objects)) (first_key kept object (is_among kept object) refl all more.0), rest.1)

  -- the keys of objects where each comes first are their keys where each comes first
  pub firsts_keys : (objects : List ObjId) → AreUnderOwn objects → (map (identity_key graph) (firsts objects) ≡ first_keys (map (identity_key graph) objects)) × AreUnderOwn (firsts objects)
  unfolding firsts
  firsts_keys objects all = firsts_from [] objects tt all

  -- ---- objects that are found under the keys of items

  module _ {A : Type 0} (key : A → Key) where
    abbrev pub AreUnder : List A → List ObjId → Type 0
    AreUnder [] [] = Unit {0}
    AreUnder (x ∷ xs) (object ∷ objects) = IsUnder (key x) object × AreUnder xs objects
    AreUnder xs objects = ⊥

    pub keys_under : (xs : List A) (objects : List ObjId) → AreUnder xs objects → (map (identity_key graph) objects ≡ map key xs) × AreUnderOwn objects
    keys_under [] [] h = (refl, tt)
    keys_under [] (object ∷ objects) h = absurd h
    keys_under (x ∷ xs) [] h = absurd h
    keys_under (x ∷ xs) (object ∷ objects) h =
        let own : identity_key graph object ≡ key x = own_key (key x) object h.0 in
        let rest = keys_under xs objects h.1 in (
          ap (λ (k : Key). k ∷ map (identity_key graph) objects) own ∙ ap (λ (ks : List Key). key x ∷ ks) rest.0,
          (subst (λ (k : Key). IsUnder k object) (sym own) h.0, rest.1),
        )

-- ---- keys that come again

module _ {A B : Type 0} (key : A → Key) (front : B → Key) where
  -- a block of items that have the key of its head
  abbrev pub IsOfKey : B × List A → Type 0
  IsOfKey block = (is_empty block.1 ≡ false) × AllByRecursion (λ x. key x ≡ front block.0) block.1

  again : (k : Key) (xs : List A) (rest : List A) (kept : List Key) → AllByRecursion (λ x. key x ≡ k) xs → list_any (same_values k) kept ≡ true → fold with_first kept (map key (xs ++ rest)) ≡ fold with_first kept (map key rest)
  again k [] rest kept same there = refl
  again k (x ∷ xs) rest kept same there =
      let stays : with_first kept (key x) ≡ kept = ap (λ (b : Bool). if b then kept else (kept ++ key x ∷ [])) (ap (λ (l : Key). list_any (same_values l) kept) same.0 ∙ there) in
      ap (λ (ks : List Key). fold with_first ks (map key (xs ++ rest))) stays ∙ again k xs rest kept same.1 there

  block_first : (k : Key) (xs rest : List A) (kept : List Key) → is_empty xs ≡ false → AllByRecursion (λ x. key x ≡ k) xs → fold with_first kept (map key (xs ++ rest)) ≡ fold with_first (with_first kept k) (map key rest)
  block_first k [] rest kept some same = absurd cc
  block_first k (x ∷ xs) rest kept some same =
      ap (λ (l : Key). fold with_first (with_first kept l) (map key (xs ++ rest))) same.0 ∙ again k xs rest (with_first kept k) same.1 (among_first kept k)

  -- the first keys of the items of blocks are the first ones of the blocks
  pub blocks_first : (blocks : List (B × List A)) (kept : List Key) → AllByRecursion IsOfKey blocks
      → fold with_first kept (map key (flat_map (λ (block : B × List A). block.1) blocks)) ≡ fold with_first kept (map front (map (λ (block : B × List A). block.0) blocks))
  blocks_first [] kept all = refl
  blocks_first (block ∷ blocks) kept all =
      block_first (front block.0) block.1 (flat_map (λ (block : B × List A). block.1) blocks) kept all.0.0 all.0.1 ∙ blocks_first blocks (with_first kept (front block.0)) all.1
