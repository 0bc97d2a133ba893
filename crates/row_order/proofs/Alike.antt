-- Orders and cycles ask only which rows wait for which among those that there are.
use Rattle.std.proofs.Common.{◌≡◌, ℕ, zero, suc, ◌<◌, Bool, true, false, cond, not, ◌&&◌, ◌||◌, List, [], ◌∷◌, ◌++◌, length, get_or, Option, None, Some, Ok, Err, refl, sym, ap, ◌∙◌, subst, arith}
use Rattle.std.proofs.lemmas.List.FromFn.{get_or-range_with_len, length-range_with_len}
use Rattle.std.specs.List.{All, find, list_any, range_with_len}
use Rattle.std.specs.Option.{option_to_list, unwrap_or}
use Rattle.row_order.specs.Places.{cycle_from, first_places, from_row, holds_up, is_among, is_ready, least_left, next_blocker, next_place, order, order_or_cycle, trail, unless_left}
use Rattle.row_order.specs.Lists.{AreListsOf, waits_in}
use Rattle.row_order.proofs.Cycles.{blocker_below}

-- both say the same of rows below the number
abbrev Agree : ℕ → (ℕ → ℕ → Bool) → (ℕ → ℕ → Bool) → Type 0
Agree size one two = (row other : ℕ) → row < size → other < size → one row other ≡ two row other

any_same : (p q : ℕ → Bool) (xs : List ℕ) → All (λ x. p x ≡ q x) xs → list_any p xs ≡ list_any q xs
any_same p q [] same = refl
any_same p q (x ∷ xs) same =
    ap (λ b. b || list_any p xs) (same 0 0 (omega arith))
    ∙ ap (λ b. q x || b) (any_same p q xs (λ k d h. same (suc k) d (omega (arith, h))))

find_same : (p q : ℕ → Bool) (xs : List ℕ) → All (λ x. p x ≡ q x) xs → find p xs ≡ find q xs
find_same p q [] same = refl
find_same p q (x ∷ xs) same =
    ap (λ b. cond b (Some x) (find p xs)) (same 0 0 (omega arith))
    ∙ ap (λ o. cond (q x) (Some x) o) (find_same p q xs (λ k d h. same (suc k) d (omega (arith, h))))

pub range_all : (P : ℕ → Type 0) (n : ℕ) → ((i : ℕ) → i < n → P i) → All P (range_with_len 0 n)
range_all P n all k d h =
    let less : k < n = omega (arith, h, length-range_with_len 0 n) in
    let is : get_or (range_with_len 0 n) k d ≡ k = get_or-range_with_len 0 n k d less ∙ omega arith in
    subst P (sym is) (all k less)

ready_same : (size : ℕ) (one two : ℕ → ℕ → Bool) (placed : List ℕ) (row : ℕ) → Agree size one two → row < size → is_ready one size placed row ≡ is_ready two size placed row
ready_same size one two placed row agree h =
    ap (λ b. not (is_among placed row) && not b)
    (any_same (holds_up one placed row) (holds_up two placed row) (range_with_len 0 size)
    (range_all (λ o. holds_up one placed row o ≡ holds_up two placed row o) size (λ o l. ap (λ b. not (is_among placed o) && b) (agree row o h l))))

next_same : (size : ℕ) (one two : ℕ → ℕ → Bool) (placed : List ℕ) → Agree size one two → next_place one size placed ≡ next_place two size placed
unfolding next_place
next_same size one two placed agree =
    find_same (is_ready one size placed) (is_ready two size placed) (range_with_len 0 size)
    (range_all (λ row. is_ready one size placed row ≡ is_ready two size placed row) size (λ row l. ready_same size one two placed row agree l))

first_same : (size : ℕ) (one two : ℕ → ℕ → Bool) (n : ℕ) → Agree size one two → first_places one size n ≡ first_places two size n
unfolding first_places
first_same size one two zero agree = refl
first_same size one two (suc n) agree =
    ap (λ placed. placed ++ option_to_list (next_place one size placed)) (first_same size one two n agree)
    ∙ ap (λ o. first_places two size n ++ option_to_list o) (next_same size one two (first_places two size n) agree)

order_same : (size : ℕ) (one two : ℕ → ℕ → Bool) → Agree size one two → order one size ≡ order two size
unfolding order
order_same size one two agree = first_same size one two size agree

blocker_same : (size : ℕ) (one two : ℕ → ℕ → Bool) (placed : List ℕ) (row : ℕ) → Agree size one two → row < size → next_blocker one size placed row ≡ next_blocker two size placed row
unfolding next_blocker
blocker_same size one two placed row agree h =
    ap (λ o. unwrap_or o row)
    (find_same (holds_up one placed row) (holds_up two placed row) (range_with_len 0 size)
    (range_all (λ o. holds_up one placed row o ≡ holds_up two placed row o) size (λ o l. ap (λ b. not (is_among placed o) && b) (agree row o h l))))

trail_same : (size : ℕ) (f g : ℕ → ℕ) → ((row : ℕ) → row < size → f row ≡ g row) → ((row : ℕ) → row < size → g row < size) → (steps : ℕ) (path : List ℕ) (row : ℕ) → row < size → trail f steps path row ≡ trail g steps path row
trail_same size f g same goes zero path row h = refl
trail_same size f g same goes (suc steps) path row h =
    ap (λ rows. cond (is_among path row) (from_row row path) rows)
    (ap (trail f steps (path ++ row ∷ [])) (same row h) ∙ trail_same size f g same goes steps (path ++ row ∷ []) (g row) (goes row h))

cycle_same : (size : ℕ) (one two : ℕ → ℕ → Bool) (row : ℕ) → Agree size one two → row < size → cycle_from one size row ≡ cycle_from two size row
unfolding cycle_from
cycle_same size one two row agree h =
    trail_same size (next_blocker one size (order one size)) (next_blocker two size (order two size))
    (λ r l. blocker_same size one two (order one size) r agree l ∙ ap (λ placed. next_blocker two size placed r) (order_same size one two agree))
    (λ r l. blocker_below two size (order two size) r l)
    (suc size) [] row h

pub found_within : (n : ℕ) (p : ℕ → Bool) (xs : List ℕ) (row : ℕ) → All (λ x. x < n) xs → find p xs ≡ Some row → row < n
found_within n p [] row all e = absurd (cc)
found_within n p (x ∷ xs) row all e = by (p x) (found_within n p xs row (λ k d h. all (suc k) d (omega (arith, h)))) e
  where
    by : (b : Bool) → (find p xs ≡ Some row → row < n) → cond b (Some x) (find p xs) ≡ Some row → row < n
    by true rest is = let same : x ≡ row = cc in subst (λ r. r < n) same (all 0 0 (omega arith))
    by false rest is = rest is

least_within : (size : ℕ) (placed : List ℕ) (row : ℕ) → least_left size placed ≡ Some row → row < size
unfolding least_left
least_within size placed row e = found_within size (λ row. not (is_among placed row)) (range_with_len 0 size) row (range_all (λ r. r < size) size (λ i h. h)) e

unless_same : (size : ℕ) (one two : ℕ → ℕ → Bool) (o : Option ℕ) → Agree size one two → ((row : ℕ) → o ≡ Some row → row < size) → unless_left one size o ≡ unless_left two size o
unless_same size one two None agree less = ap Ok (order_same size one two agree)
unless_same size one two (Some row) agree less = ap Err (cycle_same size one two row agree (less row refl))

pub same_order : (size : ℕ) (one two : ℕ → ℕ → Bool) → Agree size one two → order_or_cycle one size ≡ order_or_cycle two size
unfolding order_or_cycle
same_order size one two agree =
    ap (λ placed. unless_left one size (least_left size placed)) (order_same size one two agree)
    ∙ unless_same size one two (least_left size (order two size)) agree (λ row e. least_within size (order two size) row e)

-- the lists of what waits have the order of what waits
pub listed_order : (waits : ℕ → ℕ → Bool) (size : ℕ) (lists : List (List ℕ)) → AreListsOf waits size lists → order_or_cycle (waits_in lists) (length lists) ≡ order_or_cycle waits size
listed_order waits size lists are = ap (order_or_cycle (waits_in lists)) are.whole ∙ same_order size (waits_in lists) waits are.each
