-- Steps of the loop over rows that are sorted, and the numbers that it gives.
use Rattle.std.proofs.Common.{◌≡◌, ℕ, suc, ◌+◌, ◌<◌, ◌≤◌, List, [], ◌∷◌, length, get_or, drop, refl, sym, ap, ◌∙◌, subst, add-one, drop-cons, arith}
use Rattle.std.proofs.lemmas.List.{drop_all}
use Rattle.std.proofs.lemmas.Map.Entries.{length-values_of}
use Rattle.std.proofs.lemmas.Map.Views.{All-values-insert_entry}
use Rattle.std.specs.declared.cmp.Ordering.{Ordering}
use Rattle.std.specs.declared.cmp.Ordering.TheVariants.{Less, Equal, Greater}
use Rattle.std.specs.Ordering.{match_ordering}
use Rattle.std.specs.List.{All}
use Rattle.std.specs.Map.{values_of}
use Rattle.std.specs.BTreeMap.{insert_entry}
use Rattle.flush_order.specs.Sorted.{Place, entries_with_places, place_cmp, sorted_numbers}

pub entered_more : (entries : List (Place × ℕ)) (places : List Place) (i : ℕ) (d : Place) → i < length places → entries_with_places (insert_entry place_cmp entries (get_or places i d) i) (i + 1) (drop (i + 1) places) ≡ entries_with_places entries i (drop i places)
entered_more entries places i d h = rw (add-one, drop-cons places i d h) refl

pub entered_end : (entries : List (Place × ℕ)) (places : List Place) (i : ℕ) → length places ≤ i → entries_with_places entries i (drop i places) ≡ entries
entered_end entries places i h = ap (entries_with_places entries i) (drop_all i places h)

pub ruleset entered_steps = (entered_more, entered_end)

-- ---- the numbers are those of places, and no more

within_more : (bound : ℕ) (entries : List (Place × ℕ)) (number : ℕ) (places : List Place) → All (λ n. n < bound) (values_of entries) → number + length places ≤ bound → All (λ n. n < bound) (values_of (entries_with_places entries number places))
within_more bound entries number [] all h = all
within_more bound entries number (p ∷ ps) all h =
    within_more bound (insert_entry place_cmp entries p number) (suc number) ps (All-values-insert_entry place_cmp p number (λ n. n < bound) entries all (omega (arith, h))) (omega (arith, h))

pub numbers_within : (places : List Place) (numbers : List ℕ) → numbers ≡ sorted_numbers places → All (λ n. n < length places) numbers
unfolding sorted_numbers
numbers_within places numbers e = subst (All (λ n. n < length places)) (sym e) (within_more (length places) [] 0 places (λ k d h. absurd (omega (arith, h))) (omega arith))

put_fewer : (entries : List (Place × ℕ)) (p : Place) (n : ℕ) → length (insert_entry place_cmp entries p n) ≤ suc (length entries)
put_fewer [] p n = omega arith
put_fewer (e ∷ es) p n = by (place_cmp p e.0) (put_fewer es p n)
  where
    by : (o : Ordering) → length (insert_entry place_cmp es p n) ≤ suc (length es) → length (match_ordering o ((p, n) ∷ e ∷ es) ((e.0, n) ∷ es) (e ∷ insert_entry place_cmp es p n)) ≤ suc (suc (length es))
    by Less more = omega arith
    by Equal more = omega arith
    by Greater more = omega (arith, more)

fewer_more : (entries : List (Place × ℕ)) (number : ℕ) (places : List Place) → length (entries_with_places entries number places) ≤ length entries + length places
fewer_more entries number [] = omega arith
fewer_more entries number (p ∷ ps) = omega (arith, fewer_more (insert_entry place_cmp entries p number) (suc number) ps, put_fewer entries p number)

pub numbers_fewer : (places : List Place) (numbers : List ℕ) → numbers ≡ sorted_numbers places → length numbers ≤ length places
unfolding sorted_numbers
numbers_fewer places numbers e =
    let same : length numbers ≡ length (entries_with_places [] 0 places) = ap length e ∙ length-values_of (entries_with_places [] 0 places) in
    omega (arith, same, fewer_more [] 0 places)

pub ruleset number_steps = (numbers_within, numbers_fewer)
