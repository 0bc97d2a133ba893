-- The dependency order has every table, and is the one list that goes by it.
use Rattle.std.proofs.Common.{◌≡◌, ℕ, zero, suc, ◌+◌, ◌<◌, ◌≤◌, Bool, true, false, cond, not, ◌&&◌, ◌||◌, List, [], ◌∷◌, ◌++◌, ◌⊎◌, inl, inr, map, length, get_or, take, eqb, Option, None, Some, refl, sym, ap, ◌∙◌, add-one, length-append, arith}
use Rattle.std.proofs.lemmas.Bool.{cases_lt}
use Rattle.std.proofs.lemmas.List.{get_or-take, take_all, take_more, take-append-le, length-map}
use Rattle.std.proofs.lemmas.List.FromFn.{get_or-map-range_with_len, length-map-range_with_len}
use Rattle.std.proofs.lemmas.Map.Steps.{le-length_from_below}
use Rattle.std.proofs.lemmas.Option.{slice_get-get_or}
use Rattle.std.proofs.Math.Seq.{get_or-append_seam}
use Rattle.std.specs.Cmp.{nat_eq_equiv}
use Rattle.std.specs.List.{find, list_any, slice_get}
use Rattle.std.specs.Option.{option_or, option_to_list}
use Rattle.base_core.specs.declared.ids.TableId.{TableId}
use Rattle.schema_core.specs.Catalog.{Catalog}
use Rattle.schema_core.specs.DependencyOrder.{IsDependencyOrder, dependency_order, first_tables, is_among, is_ready, least_left, next_table, table_ids}

numbers_among : (placed : List TableId) (q : ℕ) → list_any (eqb q) (map (λ t. t.0) placed) ≡ is_among placed (record { 0 = q })
numbers_among [] q = refl
numbers_among (t ∷ ts) q = λ i. nat_eq_equiv.symm q t.0 i || numbers_among ts q i

pub cond_none : {A : Type 0} (b : Bool) (x : A) (o : Option A) → cond b (Some x) o ≡ None → (b ≡ false) × (o ≡ None)
cond_none true x o e = cc
cond_none false x o e = (refl, e)

find_none_at : {A : Type 0} (p : A → Bool) (xs : List A) → find p xs ≡ None → (i : ℕ) (d : A) → i < length xs → p (get_or xs i d) ≡ false
find_none_at p [] e i d h = absurd (omega arith)
find_none_at p (x ∷ xs) e zero d h = (cond_none (p x) x (find p xs) e).0
find_none_at p (x ∷ xs) e (suc i) d h = find_none_at p xs (cond_none (p x) x (find p xs) e).1 i d (omega arith)

or_none : {A : Type 0} (o p : Option A) → option_or o p ≡ None → p ≡ None
or_none None p e = e
or_none (Some x) p e = cc

placed_from : (b : Bool) → (not b && true) ≡ false → b ≡ true
placed_from true e = refl
placed_from false e = cc

all_placed : (schema : Catalog) (placed : List TableId) → next_table schema placed ≡ None → (q : ℕ) → q < length schema.tables → is_among placed (record { 0 = q }) ≡ true
unfolding next_table
all_placed schema placed e q h =
    let none = or_none (least_left schema placed (is_ready schema placed)) (least_left schema placed (λ table. true)) e in
    let inside : q < length (table_ids schema) = rw length-map-range_with_len h in
    let passed = find_none_at (λ table. not (is_among placed table) && true) (table_ids schema) none q (record { 0 = q }) inside in
    placed_from (is_among placed (record { 0 = q })) (sym (ap (λ t. not (is_among placed t) && true) (get_or-map-range_with_len (λ number. record { 0 = number }) 0 (length schema.tables) q q (record { 0 = q }) h (omega arith))) ∙ passed)

some_or_none : {A : Type 0} (o : Option A) → ((x : A) × (o ≡ Some x)) ⊎ (o ≡ None)
some_or_none None = inr refl
some_or_none (Some x) = inl (x, refl)

next_some : (schema : Catalog) (placed : List TableId) → length placed < length schema.tables → (t : TableId) × (next_table schema placed ≡ Some t)
next_some schema placed h =
    elim (some_or_none (next_table schema placed)) [
      | inl found ↦ found
      | inr none ↦
          let most : length schema.tables ≤ length (map (λ (t : TableId). t.0) placed) =
          le-length_from_below (map (λ t. t.0) placed) (length schema.tables) (λ q k. numbers_among placed q ∙ all_placed schema placed none q k) in
          absurd (omega (arith, length-map placed (λ (t : TableId). t.0)))
    ]

first_more : (schema : Catalog) (n : ℕ) (t : TableId) → next_table schema (first_tables schema n) ≡ Some t → first_tables schema (suc n) ≡ first_tables schema n ++ t ∷ []
unfolding first_tables
first_more schema n t e = ap (λ o. first_tables schema n ++ option_to_list o) e

first_none : (schema : Catalog) → first_tables schema 0 ≡ []
unfolding first_tables
first_none schema = refl

first_length : (schema : Catalog) (n : ℕ) → n ≤ length schema.tables → length (first_tables schema n) ≡ n
first_length schema zero h = ap length (first_none schema)
first_length schema (suc n) h =
    let before : length (first_tables schema n) ≡ n = first_length schema n (omega arith) in
    let t = next_some schema (first_tables schema n) (omega arith) in
    ap length (first_more schema n t.0 t.1) ∙ length-append (first_tables schema n) (t.0 ∷ []) ∙ omega arith

first_take : (schema : Catalog) (n place : ℕ) → place ≤ n → n ≤ length schema.tables → take place (first_tables schema n) ≡ first_tables schema place
first_take schema zero place h k =
    let none : place ≡ 0 = omega arith in
    rw none (sym (first_none schema))
first_take schema (suc n) place h k =
    elim (cases_lt n place) [
      | inl last ↦
          let whole : suc n ≡ place = omega arith in
          rw (← whole) (take_all (suc n) (first_tables schema (suc n)) (omega (arith, first_length schema (suc n) k)))
      | inr within ↦
          let t = next_some schema (first_tables schema n) (omega (arith, first_length schema n (omega arith))) in
          ap (take place) (first_more schema n t.0 t.1)
          ∙ take-append-le place (first_tables schema n) (t.0 ∷ []) (omega (arith, first_length schema n (omega arith)))
          ∙ first_take schema n place within (omega arith)
    ]

at_place : (schema : Catalog) (n : ℕ) → n < length schema.tables → slice_get (dependency_order schema) n ≡ next_table schema (first_tables schema n)
unfolding dependency_order
at_place schema n h =
    let t = next_some schema (first_tables schema n) (omega (arith, first_length schema n (omega arith))) in
    let size : length (first_tables schema n) ≡ n = first_length schema n (omega arith) in
    let inside : n < length (first_tables schema (length schema.tables)) = omega (arith, first_length schema (length schema.tables) (omega arith)) in
    let seam : get_or (first_tables schema n ++ t.0 ∷ []) n t.0 ≡ t.0 = ap (λ k. get_or (first_tables schema n ++ t.0 ∷ []) k t.0) (sym size) ∙ get_or-append_seam (first_tables schema n) t.0 [] t.0 in
    let front : take (suc n) (first_tables schema (length schema.tables)) ≡ first_tables schema n ++ t.0 ∷ [] = first_take schema (length schema.tables) (suc n) (omega arith) (omega arith) ∙ first_more schema n t.0 t.1 in
    slice_get-get_or (first_tables schema (length schema.tables)) n t.0 inside
    ∙ ap Some (sym (get_or-take (suc n) (first_tables schema (length schema.tables)) n t.0 (omega arith)) ∙ ap (λ xs. get_or xs n t.0) front ∙ seam)
    ∙ sym t.1

order_length : (schema : Catalog) → length (dependency_order schema) ≡ length schema.tables
unfolding dependency_order
order_length schema = first_length schema (length schema.tables) (omega arith)

order_front : (schema : Catalog) (place : ℕ) → place ≤ length schema.tables → take place (dependency_order schema) ≡ first_tables schema place
unfolding dependency_order
order_front schema place h = first_take schema (length schema.tables) place h (omega arith)

pub order_holds : (schema : Catalog) → IsDependencyOrder schema (dependency_order schema)
order_holds schema = record {
  whole = order_length schema;
  next = λ place h.
      let k : place < length schema.tables = omega (arith, order_length schema) in
      ap (next_table schema) (order_front schema place (omega arith)) ∙ sym (at_place schema place k);
}

goes_by : (schema : Catalog) (order : List TableId) → IsDependencyOrder schema order → (n : ℕ) → n ≤ length order → take n order ≡ first_tables schema n
goes_by schema order is zero h = sym (first_none schema)
goes_by schema order is (suc n) h =
    let d : TableId = record { 0 = 0 } in
    let before : take n order ≡ first_tables schema n = goes_by schema order is n (omega arith) in
    let here : next_table schema (first_tables schema n) ≡ Some (get_or order n d) = ap (next_table schema) (sym before) ∙ is.next n (omega arith) ∙ slice_get-get_or order n d (omega arith) in
    let more : take (n + 1) order ≡ take n order ++ get_or order n d ∷ [] = take_more order n d (omega arith) in
    ap (λ k. take k order) (sym (add-one n)) ∙ more ∙ ap (λ xs. xs ++ get_or order n d ∷ []) before ∙ sym (first_more schema n (get_or order n d) here)

pub order_only : (schema : Catalog) (order : List TableId) → IsDependencyOrder schema order → order ≡ dependency_order schema
unfolding dependency_order
order_only schema order is = sym (take_all (length order) order (omega arith)) ∙ goes_by schema order is (length order) (omega arith) ∙ ap (first_tables schema) is.whole

pub ruleset order_laws = (order_holds, order_only)
