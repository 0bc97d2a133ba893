-- A cell that a load fills has the base that stands in the row under its object's key.
use Rattle.std.proofs.Common.{◌≡◌, ◌⊎◌, inl, inr, ℕ, zero, suc, ◌+◌, ◌-◌, nat_lt, Bool, true, false, List, [], ◌∷◌, ◌++◌, get_or, length, map, Option, None, Some, Result, Ok, Err, if◌then◌else◌, is_none, refl, sym, ap, subst, ◌∙◌, arith}
use Rattle.std.specs.Prelude.{slice_index_or, slice_set, unwrap_or}
use Rattle.std.specs.List.{enumerate_from, range_with_len}
use Rattle.base_core.specs.declared.ids.AttrNo.{AttrNo}
use Rattle.base_core.specs.declared.ids.ClassId.{ClassId}
use Rattle.base_core.specs.declared.ids.ObjId.{ObjId}
use Rattle.base_core.specs.declared.ids.RelNo.{RelNo}
use Rattle.base_core.specs.declared.refusal.LimitKind.TheVariants.{Objects}
use Rattle.base_core.specs.declared.refusal.Refusal.{Refusal}
use Rattle.base_core.specs.declared.refusal.Refusal.TheVariants.{LimitReached}
use Rattle.base_core.specs.declared.value.Value.{Value}
use Rattle.schema_core.specs.Tables as held
use Rattle.class_types.specs.declared.mapped.Attribute.{Attribute}
use Rattle.class_mapping.specs.Mapped.{Mapped, attribute_of, attributes_of, no_attribute, root_of}
use Rattle.mapping_laws.specs.Hierarchies.{HasHierarchies}
use Rattle.object_arena.specs.declared.object.Cell.{Cell}
use Rattle.object_arena.specs.declared.object.Link.{Link}
use Rattle.object_arena.specs.declared.object.Object.{Object}
use Rattle.object_arena.specs.declared.object.State.TheVariants.{Persistent}
use Rattle.object_arena.specs.Graph.{Graph, expired_cell, no_object, object_at, object_limit, place_of, with_object}
use Rattle.object_arena.specs.Identity.{find_identity}
use Rattle.load_filling.specs.Filled.{Found, cell_read, filled_cell, filled_object, value_found, with_filled}
use Rattle.load_filling.specs.Loaded.{load, loaded_object, with_loaded}
use Rattle.load_filling.specs.Rows.{class_named, found_or_loaded, loaded_as, row_key, row_object}
use Rattle.load_rows.specs.Loading.{Loading, filled, found_in_row, take_row, taken_as, value_for}
use Rattle.load_rows.specs.Reading.{identity_key}
use Rattle.load_rows.specs.Links.{collection_filled, collection_of, end_filled, end_of, in_key_order, link_at}
use Rattle.load_rows.specs.Links as links
use Rattle.load_calls.specs.Refreshing.{found_among, found_at}
use Rattle.loading_laws.proofs.Strategies.KeyOrder.{key_of_stand}
use Rattle.loading_laws.proofs.Strategies.Standing.{row_object_taken, set_related}
use Rattle.load_steps.specs.Based.{AreBased, AreCellsOfTables, IsOfTables, held_under}
use Rattle.load_steps.specs.Steps.{AreLoadSteps}

-- ---- cells

-- what base a cell has then it had before, or it was found
filled_base : (found : Found) (cells : List Cell) (k n : ℕ) (base : Value) → (get_or (map (filled_cell found) (enumerate_from k cells)) n expired_cell).base ≡ Some base
    → ((get_or cells n expired_cell).base ≡ Some base) ⊎ (value_found found (k + n) ≡ Some base)
filled_base found [] k n base e = absurd cc
filled_base found (cell ∷ cells) k zero base e = by (is_none cell.value) (value_found found k) refl e
  where
    by : (expired : Bool) (new : Option Value) → value_found found k ≡ new → (if expired then cell_read cell new else cell).base ≡ Some base → (cell.base ≡ Some base) ⊎ (value_found found (k + 0) ≡ Some base)
    by false new found_is e = inl e
    by true None found_is e = inl e
    by true (Some y) found_is e = let place : k + 0 ≡ k = omega arith in inr (ap (value_found found) place ∙ found_is ∙ e)
filled_base found (cell ∷ cells) k (suc n) base e =
    let place : k + 1 + n ≡ k + suc n = omega arith in
    subst (λ (p : ℕ). ((get_or cells n expired_cell).base ≡ Some base) ⊎ (value_found found p ≡ Some base)) place (filled_base found cells (k + 1) n base e)

-- an object that a load makes has none
none_based : {A : Type 0} (attributes : List A) (n : ℕ) (base : Value) → (get_or (map (λ attribute. expired_cell) attributes) n expired_cell).base ≡ Some base → ⊥
none_based [] n base e = absurd cc
none_based (attribute ∷ attributes) zero base e = absurd cc
none_based (attribute ∷ attributes) (suc n) base e = none_based attributes n base e

each_behind : {A : Type 0} (P : A → Type 0) (xs : List A) (x d : A) → ((n : ℕ) → P (get_or xs n d)) → P x → (n : ℕ) → P (get_or (xs ++ x ∷ []) n d)
each_behind P [] x d all h zero = h
each_behind P [] x d all h (suc n) = all zero
each_behind P (y ∷ xs) x d all h zero = all zero
each_behind P (y ∷ xs) x d all h (suc n) = each_behind P xs x d (λ k. all (suc k)) h n

-- what was found of a cell is what the row has for the attribute at its place
pub found_value : (f : Attribute → Option Value) (attributes : List Attribute) (n : ℕ) (value : Value) → value_found (map f attributes) n ≡ Some value → f (slice_index_or attributes n no_attribute) ≡ Some value
found_value f [] n value e = absurd cc
found_value f (attribute ∷ attributes) zero value e = e
found_value f (attribute ∷ attributes) (suc n) value e = found_value f attributes n value e

-- what was found among so many cells is what was found at the place
pub among_value : (f : ℕ → Option Value) (from count n : ℕ) (value : Value) → value_found (map f (range_with_len from count)) n ≡ Some value → f (from + n) ≡ Some value
among_value f from zero n value e = absurd cc
among_value f from (suc count) zero value e = let first : from + 0 ≡ from = omega arith in ap f first ∙ e
among_value f from (suc count) (suc n) value e = let place : from + 1 + n ≡ from + suc n = omega arith in subst (λ (p : ℕ). f p ≡ Some value) place (among_value f (from + 1) count n value e)

module _ (mapped : Mapped) (tables : held.Tables) where
  -- what is said of one object
  abbrev IsBased : Object → Type 0
  IsBased object =
      (attr : AttrNo) (base : Value) → object.state ≡ Persistent → (slice_index_or object.cells attr.0 expired_cell).base ≡ Some base
      → held_under tables (attribute_of mapped object.class attr) (unwrap_or object.identity []) ≡ Some base

  -- another record of an object
  put_based : (graph : Graph) (object : ObjId) (new : Object) → AreBased mapped tables graph → (IsBased (object_at graph object) → IsBased new) → AreBased mapped tables (with_object graph object new)
  put_based graph object new based renewed = λ other. set_related (λ (x y : Object). IsBased x → IsBased y) graph.objects (place_of object) (place_of other) new no_object (λ x f. f) renewed (based other)

  filled_based : (graph : Graph) (object : ObjId) (found : Found) → AreBased mapped tables graph
      → ((attr : AttrNo) (value : Value) → value_found found attr.0 ≡ Some value → held_under tables (attribute_of mapped (object_at graph object).class attr) (identity_key graph object) ≡ Some value)
      → AreBased mapped tables (with_filled graph object found)
  unfolding with_filled
  filled_based graph object found based fills = put_based graph object (filled_object found (object_at graph object)) based renewed
    where
      renewed : IsBased (object_at graph object) → IsBased (filled_object found (object_at graph object))
      renewed old attr base state held = by (filled_base found (object_at graph object).cells 0 attr.0 base held)
        where
          by : ((get_or (object_at graph object).cells attr.0 expired_cell).base ≡ Some base) ⊎ (value_found found (0 + attr.0) ≡ Some base)
              → held_under tables (attribute_of mapped (object_at graph object).class attr) (identity_key graph object) ≡ Some base
          by (inl was) = old attr base state was
          by (inr new) = let first : 0 + attr.0 ≡ attr.0 = omega arith in fills attr base (ap (value_found found) (sym first) ∙ new)

  link_based : (owner : ObjId) (place : RelNo) (link : Option Link) (own : Loading) → AreBased mapped tables own.graph → AreBased mapped tables (links.with_loaded owner place link own).graph
  link_based owner place None own based = based
  link_based owner place (Some link) own based = put_based own.graph owner (record (object_at own.graph owner) { links = slice_set (object_at own.graph owner).links place.0 link }) based (λ old. old)

  made_based : (graph : Graph) (named : ClassId) (key : List Value) → AreBased mapped tables graph → AreBased mapped tables (with_loaded mapped named key graph)
  made_based graph named key based = λ object. each_behind IsBased graph.objects (loaded_object mapped named key) no_object before made (place_of object)
    where
      before : (n : ℕ) → IsBased (get_or graph.objects n no_object)
      before n = let number : n + 1 - 1 ≡ n = omega arith in subst (λ (k : ℕ). IsBased (get_or graph.objects k no_object)) number (based (record { 0 = n + 1 }))

      made : IsBased (loaded_object mapped named key)
      made attr base state held = absurd (none_based (attributes_of mapped named) attr.0 base held)

  -- ---- rows

  module _ (class : ClassId) (row : List Value) (is : IsOfTables mapped tables class row) (has : HasHierarchies mapped) (own : Loading) (rooted : length own.graph.roots ≡ length own.graph.objects)
      (based : AreBased mapped tables own.graph) where
    loaded_based : (named : ClassId) (found : ObjId × Graph) (b : Bool)
        → ◌≡◌ {A = Result (ObjId × Graph) Refusal} (if b then Ok (record { 0 = length own.graph.objects + 1 }, with_loaded mapped named (row_key mapped class row) own.graph) else Err (LimitReached Objects)) (Ok found) → AreBased mapped tables found.1
    loaded_based named found false e = absurd cc
    loaded_based named found true e =
        subst (λ (one : ObjId × Graph). AreBased mapped tables one.1) (same (record { 0 = length own.graph.objects + 1 }, with_loaded mapped named (row_key mapped class row) own.graph) found e) (made_based own.graph named (row_key mapped class row) based)
      where
        same : (x y : ObjId × Graph) → ◌≡◌ {A = Result (ObjId × Graph) Refusal} (Ok x) (Ok y) → x ≡ y
        same x y e = cc

    named_based : (named : Option ClassId) (found : ObjId × Graph) → loaded_as mapped (row_key mapped class row) own.graph named ≡ Ok found → AreBased mapped tables found.1
    unfolding load
    named_based None found e = absurd cc
    named_based (Some named) found e = loaded_based named found (nat_lt (length own.graph.objects) object_limit) e

    holder_based : (holder : Option ObjId) (found : ObjId × Graph) → found_or_loaded mapped class row own.graph holder ≡ Ok found → AreBased mapped tables found.1
    holder_based None found e = named_based (class_named mapped class row) found e
    holder_based (Some object) found e = subst (λ (one : ObjId × Graph). AreBased mapped tables one.1) (same (object, own.graph) found e) based
      where
        same : (x y : ObjId × Graph) → ◌≡◌ {A = Result (ObjId × Graph) Refusal} (Ok x) (Ok y) → x ≡ y
        same x y e = cc

    taken_based : (r : Result (ObjId × Graph) Refusal) → row_object mapped class row own.graph ≡ r → AreBased mapped tables (taken_as mapped class row own r).after.graph
    unfolding filled row_object
    taken_based (Err e) made = based
    taken_based (Ok found) made =
        let class_of : ClassId = (object_at found.1 found.0).class in
        let stands = (row_object_taken mapped class row own.graph has.paired rooted found made).stands in
        let key : identity_key found.1 found.0 ≡ row_key mapped class row = key_of_stand (root_of mapped class) found.1 (row_key mapped class row) found.0 stands in
        filled_based found.1 found.0 (found_in_row mapped class row class_of) (holder_based (find_identity own.graph (root_of mapped class) (row_key mapped class row)) found made)
        (λ attr value e. ap (held_under tables (attribute_of mapped class_of attr)) key ∙ is (attribute_of mapped class_of attr) value (found_value (value_for mapped class row) (attributes_of mapped class_of) attr.0 value e))

    row_based : AreBased mapped tables (take_row mapped class row own).after.graph
    unfolding take_row
    row_based = taken_based (row_object mapped class row own.graph) refl

  -- ---- cells that are read

  cells_based : (object : ObjId) (attrs : List AttrNo) (row : List Value) (own : Loading) → AreCellsOfTables mapped tables (object_at own.graph object).class attrs (identity_key own.graph object) row → AreBased mapped tables own.graph
      → AreBased mapped tables (filled object (found_among (length (object_at own.graph object).cells) attrs row) own).graph
  unfolding filled
  cells_based object attrs row own are based =
      filled_based own.graph object (found_among (length (object_at own.graph object).cells) attrs row) based
      (λ attr value e. are attr value (let first : 0 + attr.0 ≡ attr.0 = omega arith in ap (found_at attrs row) (sym first) ∙ among_value (found_at attrs row) 0 (length (object_at own.graph object).cells) attr.0 value e))

-- ---- the steps

pub based_steps : (mapped : Mapped) (tables : held.Tables) (IsRow : ClassId → List Value → Type 0) (IsCells : ClassId → List AttrNo → List Value → List Value → Type 0) → HasHierarchies mapped
    → ((class : ClassId) (row : List Value) → IsRow class row → IsOfTables mapped tables class row)
    → ((class : ClassId) (attrs : List AttrNo) (key row : List Value) → IsCells class attrs key row → AreCellsOfTables mapped tables class attrs key row)
    → AreLoadSteps mapped IsRow IsCells (λ own. AreBased mapped tables own.graph)
unfolding collection_filled end_filled
based_steps mapped tables IsRow IsCells has rows cells = record {
  noted = λ statement own is. is;
  taken = λ class row own declared of arena is. row_based mapped tables class row (rows class row of) has own arena.graph.rooted is;
  filled = λ root object attrs row own found of arena is. cells_based mapped tables object attrs row own (cells (object_at own.graph object).class attrs (identity_key own.graph object) row of) is;
  members = λ relation place owner members own related many child found arena is. link_based mapped tables owner place (collection_of (in_key_order own.graph members) (link_at own.graph owner place)) own is;
  ended = λ relation place owner end own related single child found arena is. link_based mapped tables owner place (end_of end (link_at own.graph owner place)) own is;
}
