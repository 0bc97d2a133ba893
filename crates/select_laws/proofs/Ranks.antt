-- Rows that are put at their places by keys and then by place are put in behind those whose keys are not above theirs.
use Rattle.std.proofs.Common.{◌≡◌, ℕ, suc, ◌<◌, cond, List, [], ◌∷◌, map, refl, sym, ap, ◌∙◌, arith}
use Rattle.std.proofs.lemmas.Cmp.{lists_total}
use Rattle.std.specs.List.{AllByRecursion}
use Rattle.std.specs.declared.cmp.Ordering.{Ordering}
use Rattle.std.specs.declared.cmp.Ordering.TheVariants.{Less, Equal, Greater}
use Rattle.std.specs.Ordering.{is_lt, nat_cmp, ordering_then, match_ordering}
use Rattle.std.specs.Cmp.{IsTotalOrder, nat_cmp_is}
use Rattle.std.specs.BTreeMap.{insert_entry}
use Rattle.base_core.specs.declared.value.Value.{Value}
use Rattle.sql_semantics.specs.Order.{Rank, key_cmp_total, rank_cmp, ranked_from, in_order}
use Rattle.select_laws.specs.Sorted.{KeyedRow, keys_cmp, IsSortedStably}
use Rattle.select_laws.proofs.Insertion.{put, put_all, rises_all, rises_of, sorted_of, stable_all, permuted_all}
use Rattle.select_laws.proofs.OneList.{one_list}

total : IsTotalOrder keys_cmp
total = lists_total key_cmp_total

abbrev Entry : Type 0
Entry = Rank × List Value

-- without the place
abbrev keyed : Entry → KeyedRow
keyed e = (e.0.0, e.1)

abbrev IsBefore : ℕ → Entry → Type 0
IsBefore n e = e.0.1 < n

later : (n m : ℕ) → m < n → nat_cmp n m ≡ Greater
later n m h = sym (nat_cmp_is n m Greater h)

placed_by : (r s : Ordering) → s ≡ Greater → (xs ys zs : List Entry) → map keyed (match_ordering (ordering_then r s) xs ys zs) ≡ cond (is_lt r) (map keyed xs) (map keyed zs)
placed_by Less s e xs ys zs = refl
placed_by Equal s e xs ys zs = ap (λ t. map keyed (match_ordering t xs ys zs)) e
placed_by Greater s e xs ys zs = refl

placed : (r : KeyedRow) (n : ℕ) (es : List Entry) → AllByRecursion (IsBefore n) es → map keyed (insert_entry rank_cmp es (r.0, n) r.1) ≡ put keys_cmp total r (map keyed es)
placed r n [] h = refl
placed r n (e ∷ es) h =
    placed_by (keys_cmp r.0 e.0.0) (nat_cmp n e.0.1) (later n e.0.1 h.0) (((r.0, n), r.1) ∷ e ∷ es) ((e.0, r.1) ∷ es) (e ∷ insert_entry rank_cmp es (r.0, n) r.1)
    ∙ ap (λ l. cond (is_lt (keys_cmp r.0 e.0.0)) (r ∷ keyed e ∷ map keyed es) (keyed e ∷ l)) (placed r n es h.1)

all_more : (n : ℕ) (es : List Entry) → AllByRecursion (IsBefore n) es → AllByRecursion (IsBefore (suc n)) es
all_more n [] h = tt
all_more n (e ∷ es) h = (omega (arith, h.0), all_more n es h.1)

before_by : (o : Ordering) (n : ℕ) (k : Rank) (v : List Value) (e : Entry) (es more : List Entry) → k.1 < n → IsBefore n e → AllByRecursion (IsBefore n) es → AllByRecursion (IsBefore n) more →
    AllByRecursion (IsBefore n) (match_ordering o ((k, v) ∷ e ∷ es) ((e.0, v) ∷ es) (e ∷ more))
before_by Less n k v e es more hk he h m = (hk, (he, h))
before_by Equal n k v e es more hk he h m = (he, h)
before_by Greater n k v e es more hk he h m = (he, m)

all_before : (n : ℕ) (k : Rank) (v : List Value) (es : List Entry) → k.1 < n → AllByRecursion (IsBefore n) es → AllByRecursion (IsBefore n) (insert_entry rank_cmp es k v)
all_before n k v [] hk h = (hk, tt)
all_before n k v (e ∷ es) hk h = before_by (rank_cmp k e.0) n k v e es (insert_entry rank_cmp es k v) hk h.0 h.1 (all_before n k v es hk h.1)

all_placed : (n : ℕ) (done : List Entry) (rows : List KeyedRow) → AllByRecursion (IsBefore n) done → map keyed (ranked_from done n rows) ≡ put_all keys_cmp total (map keyed done) rows
all_placed n done [] h = refl
all_placed n done (r ∷ rows) h =
    all_placed (suc n) (insert_entry rank_cmp done (r.0, n) r.1) rows (all_before (suc n) (r.0, n) r.1 done (omega arith) (all_more n done h))
    ∙ ap (λ l. put_all keys_cmp total l rows) (placed r n done h)

rows_of : (es : List Entry) → map (λ e. e.1) es ≡ map (λ r. r.1) (map keyed es)
rows_of [] = refl
rows_of (e ∷ es) = ap (λ l. e.1 ∷ l) (rows_of es)

abbrev sorted : List KeyedRow → List KeyedRow
sorted rows = put_all keys_cmp total [] rows

is_sorted : (rows : List KeyedRow) → IsSortedStably rows (sorted rows)
is_sorted rows = record {
  permuted = permuted_all keys_cmp total [] rows;
  by_keys = sorted_of keys_cmp total (sorted rows) (rises_all keys_cmp total [] rows tt);
  stable = λ w. stable_all keys_cmp total w [] rows tt;
}

in_order_is : (rows : List KeyedRow) → in_order rows ≡ map (λ r. r.1) (sorted rows)
unfolding in_order
in_order_is rows = rows_of (ranked_from [] 0 rows) ∙ ap (map (λ r. r.1)) (all_placed 0 [] rows tt)

pub order_holds : (rows : List KeyedRow) → (sorted : List KeyedRow) × IsSortedStably rows sorted × (in_order rows ≡ map (λ r. r.1) sorted)
order_holds rows = (sorted rows, is_sorted rows, in_order_is rows)

pub order_only : (rows list : List KeyedRow) → IsSortedStably rows list → in_order rows ≡ map (λ r. r.1) list
order_only rows list h =
    in_order_is rows
    ∙ ap (map (λ r. r.1)) (one_list keys_cmp total (sorted rows) list (rises_all keys_cmp total [] rows tt) (rises_of keys_cmp total list h.by_keys)
    (λ w. stable_all keys_cmp total w [] rows tt ∙ sym (h.stable w)))

pub ruleset order_laws = (order_holds, order_only)
