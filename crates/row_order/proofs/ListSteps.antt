-- What the search tells: the least row that is left, the order, and the cycle.
use Rattle.std.proofs.Common.{◌≡◌, ℕ, zero, suc, ◌<◌, Bool, true, false, not, List, [], ◌∷◌, length, get_or, Option, None, Some, Ok, Err, refl, sym, ap, ◌∙◌, subst, arith}
use Rattle.std.specs.BTreeSet.{BTreeSet}
use Rattle.std.proofs.lemmas.List.Elements.{All-append}
use Rattle.std.specs.List.{All, range_with_len}
use Rattle.std.specs.Option.{option_to_list}
use Rattle.row_order.specs.Places.{cycle_from, first_places, is_among, is_ready, least_left, next_place, order, order_or_cycle, unless_left}
use Rattle.row_order.specs.Lists.{Stands, waits_in}
use Rattle.row_order.proofs.Alike.{found_within, range_all}
use Rattle.row_order.proofs.SearchLemmas.{find_first, find_nothing}

-- ---- the least row that is left

pub least_is : (lists : List (List ℕ)) (placed counts : List ℕ) (left : List Bool) (ready : BTreeSet ℕ) (row : ℕ) → Stands lists placed counts left ready → row < length left → get_or left row false ≡ true → ((k : ℕ) → k < row → get_or left k false ≡ false) → least_left (length lists) placed ≡ Some row
unfolding least_left
least_is lists placed counts left ready row stands within here before =
    let less : row < length lists = omega (arith, within, stands.marked) in
    find_first (λ row. not (is_among placed row)) (length lists) row less (sym (stands.marks row less) ∙ here)
    (λ k l. sym (stands.marks k (omega (arith, l, less))) ∙ before k l)

pub least_none : (lists : List (List ℕ)) (placed counts : List ℕ) (left : List Bool) (ready : BTreeSet ℕ) → Stands lists placed counts left ready → ((k : ℕ) → get_or left k false ≡ false) → least_left (length lists) placed ≡ None
unfolding least_left
least_none lists placed counts left ready stands none =
    find_nothing (λ row. not (is_among placed row)) (length lists) (λ k l. sym (stands.marks k l) ∙ none k)

-- ---- what the search tells

none_below : (size : ℕ) → All (λ row. row < size) []
none_below size k d h = absurd (omega (arith, h))

one_below : (size row : ℕ) → row < size → All (λ row. row < size) (row ∷ [])
one_below size row less zero d h = less
one_below size row less (suc k) d h = absurd (omega (arith, h))

next_below : (waits : ℕ → ℕ → Bool) (size : ℕ) (placed : List ℕ) (o : Option ℕ) → o ≡ next_place waits size placed → All (λ row. row < size) (option_to_list o)
unfolding next_place
next_below waits size placed None e = none_below size
next_below waits size placed (Some row) e = one_below size row (found_within size (is_ready waits size placed) (range_with_len 0 size) row (range_all (λ r. r < size) size (λ i h. h)) (sym e))

first_below : (waits : ℕ → ℕ → Bool) (size n : ℕ) → All (λ row. row < size) (first_places waits size n)
unfolding first_places
first_below waits size zero = none_below size
first_below waits size (suc n) =
    All-append (λ row. row < size) (first_places waits size n) (option_to_list (next_place waits size (first_places waits size n)))
    (first_below waits size n) (next_below waits size (first_places waits size n) (next_place waits size (first_places waits size n)) refl)

pub order_below : (waits : ℕ → ℕ → Bool) (size : ℕ) (placed : List ℕ) → placed ≡ order waits size → All (λ row. row < size) placed
unfolding order
order_below waits size placed e = subst (All (λ row. row < size)) (sym e) (first_below waits size size)

pub order_told : (lists : List (List ℕ)) (placed counts : List ℕ) (left : List Bool) (ready : BTreeSet ℕ) → Stands lists placed counts left ready → placed ≡ order (waits_in lists) (length lists) → ((k : ℕ) → get_or left k false ≡ false) → Ok placed ≡ order_or_cycle (waits_in lists) (length lists)
unfolding order_or_cycle
order_told lists placed counts left ready stands e none =
    ap Ok e
    ∙ sym (ap (unless_left (waits_in lists) (length lists)) (ap (least_left (length lists)) (sym e) ∙ least_none lists placed counts left ready stands none))

pub cycle_told : (lists : List (List ℕ)) (placed counts : List ℕ) (left : List Bool) (ready : BTreeSet ℕ) (row : ℕ) (path : List ℕ) → Stands lists placed counts left ready → placed ≡ order (waits_in lists) (length lists) → row < length left → get_or left row false ≡ true → ((k : ℕ) → k < row → get_or left k false ≡ false) → path ≡ cycle_from (waits_in lists) (length lists) row → Err path ≡ order_or_cycle (waits_in lists) (length lists)
unfolding order_or_cycle
cycle_told lists placed counts left ready row path stands e within here before f =
    ap Err f
    ∙ sym (ap (unless_left (waits_in lists) (length lists)) (ap (least_left (length lists)) (sym e) ∙ least_is lists placed counts left ready row stands within here before))
