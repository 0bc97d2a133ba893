-- Keys in their order, each once, are the same of lists that have the same keys, in whatever order and however often.
use Rattle.std.proofs.Common.{◌≡◌, ◌⊎◌, inl, inr, List, [], ◌∷◌, fold, map, refl, sym, ap, subst, ◌∙◌}
use Rattle.std.specs.List.{AllByRecursion}
use Rattle.std.specs.declared.cmp.Ordering.{Ordering}
use Rattle.std.specs.declared.cmp.Ordering.TheVariants.{Less, Equal, Greater}
use Rattle.std.specs.Ordering.{match_ordering, ordering_reverse}
use Rattle.base_core.specs.declared.value.Value.{Value}
use Rattle.base_core.specs.Order.{values_cmp}
use Rattle.base_core.proofs.Exact.{exact_values, values_total}
use Rattle.schema_core.specs.Tables.{same_values}
use Rattle.sql_semantics.specs.Eval.{Row}
use Rattle.class_mapping.proofs.Having.{Has, any_has, from_map, has_map, some_of}
use Rattle.object_arena.proofs.GraphLemmas.{same_equiv}
use Rattle.loading_laws.specs.Members.{HaveSame}
use Rattle.loading_laws.proofs.Members.Ranks.{same_equal}
use Rattle.loading_laws.specs.Strategies.Filled.{keys_in_order, with_key}

abbrev Key : Type 0
Key = List Value

abbrev Entry : Type 0
Entry = Key × Unit {0}

abbrev IsBelow : Key → Entry → Type 0
IsBelow key e = values_cmp key e.0 ≡ Less

-- each key is less than those behind it
abbrev Rising : List Entry → Type 0
Rising [] = Unit {0}
Rising (e ∷ es) = AllByRecursion (IsBelow e.0) es × Rising es

below_all : (low high : Key) (es : List Entry) → values_cmp low high ≡ Less → AllByRecursion (IsBelow high) es → AllByRecursion (IsBelow low) es
below_all low high [] less all = tt
below_all low high (e ∷ es) less all = (values_total.trans low high e.0 less all.0, below_all low high es less all.1)

turned_less : (one other : Key) → values_cmp one other ≡ Greater → values_cmp other one ≡ Less
turned_less one other e = values_total.antisymm other one ∙ ap ordering_reverse e

below_put : (low key : Key) (es : List Entry) → values_cmp low key ≡ Less → AllByRecursion (IsBelow low) es → AllByRecursion (IsBelow low) (with_key es key)
below_put low key [] less all = (less, tt)
below_put low key (e ∷ es) less all = by (values_cmp key e.0) (below_put low key es less all.1)
  where
    by : (o : Ordering) → AllByRecursion (IsBelow low) (with_key es key) → AllByRecursion (IsBelow low) (match_ordering o ((key, tt) ∷ e ∷ es) ((e.0, tt) ∷ es) (e ∷ with_key es key))
    by Less more = (less, all)
    by Equal more = all
    by Greater more = (all.0, more)

rising_put : (key : Key) (es : List Entry) → Rising es → Rising (with_key es key)
rising_put key [] rising = (tt, tt)
rising_put key (e ∷ es) rising = by (values_cmp key e.0) refl (rising_put key es rising.1)
  where
    by : (o : Ordering) → values_cmp key e.0 ≡ o → Rising (with_key es key) → Rising (match_ordering o ((key, tt) ∷ e ∷ es) ((e.0, tt) ∷ es) (e ∷ with_key es key))
    by Less is more = ((is, below_all key e.0 es is rising.0), rising)
    by Equal is more = rising
    by Greater is more = (below_put e.0 key es (turned_less key e.0 is) rising.0, more)

abbrev keys_of : List Entry → List Key
keys_of es = map (λ (e : Entry). e.0) es

has_put : (key k : Key) (es : List Entry) → Has (keys_of (with_key es key)) k → (key ≡ k) ⊎ Has (keys_of es) k
has_put key k [] (inl e) = inl e
has_put key k [] (inr h) = absurd h
has_put key k (e ∷ es) there = by (values_cmp key e.0) there (has_put key k es)
  where
    behind : (key ≡ k) ⊎ Has (keys_of es) k → (key ≡ k) ⊎ Has (keys_of (e ∷ es)) k
    behind (inl p) = inl p
    behind (inr h) = inr (inr h)

    by : (o : Ordering) → Has (keys_of (match_ordering o ((key, tt) ∷ e ∷ es) ((e.0, tt) ∷ es) (e ∷ with_key es key))) k → (Has (keys_of (with_key es key)) k → (key ≡ k) ⊎ Has (keys_of es) k) → (key ≡ k) ⊎ Has (keys_of (e ∷ es)) k
    by Less (inl p) more = inl p
    by Less (inr h) more = inr h
    by Equal h more = inr h
    by Greater (inl p) more = inr (inl p)
    by Greater (inr h) more = behind (more h)

put_has : (key k : Key) (es : List Entry) → (key ≡ k) ⊎ Has (keys_of es) k → Has (keys_of (with_key es key)) k
put_has key k [] (inl e) = inl e
put_has key k [] (inr h) = absurd h
put_has key k (e ∷ es) there = by (values_cmp key e.0) refl there (put_has key k es)
  where
    by : (o : Ordering) → values_cmp key e.0 ≡ o → (key ≡ k) ⊎ Has (keys_of (e ∷ es)) k → ((key ≡ k) ⊎ Has (keys_of es) k → Has (keys_of (with_key es key)) k)
        → Has (keys_of (match_ordering o ((key, tt) ∷ e ∷ es) ((e.0, tt) ∷ es) (e ∷ with_key es key))) k
    by Less is (inl p) more = inl p
    by Less is (inr h) more = inr h
    by Equal is (inl p) more = inl (sym (exact_values key e.0 is) ∙ p)
    by Equal is (inr h) more = h
    by Greater is (inl p) more = inr (more (inl p))
    by Greater is (inr (inl p)) more = inl p
    by Greater is (inr (inr h)) more = inr (more (inr h))

folded_rises : (keys : List Key) (es : List Entry) → Rising es → Rising (fold with_key es keys)
folded_rises [] es rising = rising
folded_rises (key ∷ keys) es rising = folded_rises keys (with_key es key) (rising_put key es rising)

from_folded : (k : Key) (keys : List Key) (es : List Entry) → Has (keys_of (fold with_key es keys)) k → Has keys k ⊎ Has (keys_of es) k
from_folded k [] es there = inr there
from_folded k (key ∷ keys) es there = by (from_folded k keys (with_key es key) there)
  where
    last : (key ≡ k) ⊎ Has (keys_of es) k → Has (key ∷ keys) k ⊎ Has (keys_of es) k
    last (inl p) = inl (inl p)
    last (inr h) = inr h

    by : Has keys k ⊎ Has (keys_of (with_key es key)) k → Has (key ∷ keys) k ⊎ Has (keys_of es) k
    by (inl h) = inl (inr h)
    by (inr h) = last (has_put key k es h)

to_folded : (k : Key) (keys : List Key) (es : List Entry) → Has keys k ⊎ Has (keys_of es) k → Has (keys_of (fold with_key es keys)) k
to_folded k [] es (inl h) = absurd h
to_folded k [] es (inr h) = h
to_folded k (key ∷ keys) es (inl (inl p)) = to_folded k keys (with_key es key) (inr (put_has key k es (inl p)))
to_folded k (key ∷ keys) es (inl (inr h)) = to_folded k keys (with_key es key) (inl h)
to_folded k (key ∷ keys) es (inr h) = to_folded k keys (with_key es key) (inr (put_has key k es (inr h)))

-- ---- rising lists with the same keys are one list

below_has : (low : Key) (es : List Entry) (k : Key) → AllByRecursion (IsBelow low) es → Has (keys_of es) k → values_cmp low k ≡ Less
below_has low [] k all there = absurd there
below_has low (e ∷ es) k all (inl p) = subst (λ (x : Key). values_cmp low x ≡ Less) p all.0
below_has low (e ∷ es) k all (inr h) = below_has low es k all.1 h

never_less : {A : Type 0} (one other : Key) → values_cmp one other ≡ Less → values_cmp other one ≡ Less → A
never_less one other p q = absurd (let turned : values_cmp one other ≡ Greater = values_total.antisymm one other ∙ ap ordering_reverse q in let never = sym p ∙ turned in cc)

abbrev IsWithin : List Entry → List Entry → Type 0
IsWithin one other = (k : Key) → Has (keys_of one) k → Has (keys_of other) k

heads_same : (x y : Entry) (xs ys : List Entry) → AllByRecursion (IsBelow x.0) xs → AllByRecursion (IsBelow y.0) ys → Has (keys_of (y ∷ ys)) x.0 → Has (keys_of (x ∷ xs)) y.0 → x.0 ≡ y.0
heads_same x y xs ys p q (inl e) there = sym e
heads_same x y xs ys p q (inr h) (inl e) = e
heads_same x y xs ys p q (inr h) (inr g) = never_less y.0 x.0 (below_has y.0 ys x.0 q h) (below_has x.0 xs y.0 p g)

tail_within : (x y : Entry) (xs ys : List Entry) → x.0 ≡ y.0 → AllByRecursion (IsBelow x.0) xs → IsWithin (x ∷ xs) (y ∷ ys) → IsWithin xs ys
tail_within x y xs ys same below within k there = by (within k (inr there))
  where
    less : values_cmp x.0 k ≡ Less
    less = below_has x.0 xs k below there

    by : Has (keys_of (y ∷ ys)) k → Has (keys_of ys) k
    by (inl e) = let itself : values_cmp x.0 x.0 ≡ Less = subst (λ (other : Key). values_cmp x.0 other ≡ Less) (sym (same ∙ e)) less in never_less x.0 x.0 itself itself
    by (inr h) = h

one_rising : (xs ys : List Entry) → Rising xs → Rising ys → IsWithin xs ys → IsWithin ys xs → keys_of xs ≡ keys_of ys
one_rising [] [] p q there back = refl
one_rising [] (y ∷ ys) p q there back = absurd (back y.0 (inl refl))
one_rising (x ∷ xs) [] p q there back = absurd (there x.0 (inl refl))
one_rising (x ∷ xs) (y ∷ ys) p q there back =
    let same : x.0 ≡ y.0 = heads_same x y xs ys p.0 q.0 (there x.0 (inl refl)) (back y.0 (inl refl)) in
    ap (λ (k : Key). k ∷ keys_of xs) same
    ∙ ap (λ (rest : List Key). y.0 ∷ rest) (one_rising xs ys p.1 q.1 (tail_within x y xs ys same p.0 there) (tail_within y x ys xs (sym same) q.0 back))

pub same_in_order : (one other : List Key) → ((k : Key) → Has one k → Has other k) → ((k : Key) → Has other k → Has one k) → keys_in_order one ≡ keys_in_order other
unfolding keys_in_order
same_in_order one other there back =
    one_rising (fold with_key [] one) (fold with_key [] other) (folded_rises one [] tt) (folded_rises other [] tt) (λ k h. to_folded k other [] (inl (there k (of one k (from_folded k one [] h)))))
    (λ k h. to_folded k one [] (inl (back k (of other k (from_folded k other [] h)))))
  where
    of : (keys : List Key) (k : Key) → Has keys k ⊎ Has (keys_of []) k → Has keys k
    of keys k (inl h) = h
    of keys k (inr h) = absurd h

-- lists of the same rows have the same keys
pub row_within : (key : Row → Key) (one other : List Row) → HaveSame one other → (k : Key) → Has (map key one) k → Has (map key other) k
row_within key one other same k there =
    let from = from_map key one k there in
    let found = some_of (same_values from.0) other (sym (same from.0) ∙ any_has (same_values from.0) one from.0 from.1 (same_equiv.refl from.0)) in
    subst (Has (map key other)) (ap key (sym (same_equal from.0 found.0 found.2)) ∙ from.2) (has_map key other found.0 found.1)

pub same_keys_in_order : (key : Row → Key) (one other : List Row) → HaveSame one other → keys_in_order (map key one) ≡ keys_in_order (map key other)
same_keys_in_order key one other same = same_in_order (map key one) (map key other) (row_within key one other same) (row_within key other one (λ row. sym (same row)))
