-- Steps of loops over the places of a list.
use Rattle.std.proofs.Common.{◌≡◌, ℕ, suc, ◌+◌, ◌-◌, ◌<◌, ◌≤◌, Bool, true, false, cond, List, [], ◌∷◌, ◌++◌, length, get_or, drop, None, Some, refl, sym, ap, ◌∙◌, add-one, drop-cons, arith}
use Rattle.std.proofs.lemmas.List.{drop_all}
use Rattle.std.proofs.lemmas.List.FromFn.{get_or-range_with_len, length-range_with_len}
use Rattle.std.specs.Prelude.{nat_eq}
use Rattle.std.specs.List.{find, range_with_len}
use Rattle.std.specs.Option.{option_to_list}
use Rattle.row_order.specs.Places.{first_places, from_row, is_among, next_place, trail}

pub range_at : (n i : ℕ) → i < n → drop i (range_with_len 0 n) ≡ i ∷ drop (i + 1) (range_with_len 0 n)
range_at n i h =
    let inside : i < length (range_with_len 0 n) = omega (arith, length-range_with_len 0 n) in
    let at : get_or (range_with_len 0 n) i 0 ≡ i = get_or-range_with_len 0 n i 0 h ∙ omega arith in
    drop-cons (range_with_len 0 n) i 0 inside ∙ ap (λ k. k ∷ drop (suc i) (range_with_len 0 n)) at ∙ ap (λ k. i ∷ drop k (range_with_len 0 n)) (sym (add-one i))

pub range_end : (n i : ℕ) → n ≤ i → drop i (range_with_len 0 n) ≡ []
range_end n i h = drop_all i (range_with_len 0 n) (omega (arith, length-range_with_len 0 n))

pub find_found : (p : ℕ → Bool) (n i : ℕ) → i < n → p i ≡ true → find p (drop i (range_with_len 0 n)) ≡ Some i
find_found p n i h passes = ap (find p) (range_at n i h) ∙ ap (λ b. cond b (Some i) (find p (drop (i + 1) (range_with_len 0 n)))) passes

pub find_passed : (p : ℕ → Bool) (n i : ℕ) → i < n → p i ≡ false → find p (drop (i + 1) (range_with_len 0 n)) ≡ find p (drop i (range_with_len 0 n))
find_passed p n i h fails = sym (ap (find p) (range_at n i h) ∙ ap (λ b. cond b (Some i) (find p (drop (i + 1) (range_with_len 0 n)))) fails)

pub find_none : (p : ℕ → Bool) (n i : ℕ) → n ≤ i → find p (drop i (range_with_len 0 n)) ≡ None
find_none p n i h = ap (find p) (range_end n i h)

pub first_none : (waits : ℕ → ℕ → Bool) (size : ℕ) → [] ≡ first_places waits size 0
unfolding first_places
first_none waits size = refl

pub first_more : (waits : ℕ → ℕ → Bool) (size n : ℕ) (placed : List ℕ) → placed ≡ first_places waits size n → placed ++ option_to_list (next_place waits size placed) ≡ first_places waits size (n + 1)
unfolding first_places
first_more waits size n placed e = rw (add-one, e) refl

pub ruleset find_steps = (find_found, find_passed, find_none)

-- ---- the list from a row on

from_at : (row : ℕ) (path : List ℕ) (i d : ℕ) → i < length path → from_row row (drop i path) ≡ cond (nat_eq row (get_or path i d)) (drop i path) (from_row row (drop (i + 1) path))
from_at row path i d h = rw (add-one, drop-cons path i d h) refl

pub from_found : (row : ℕ) (path : List ℕ) (i d : ℕ) → i < length path → nat_eq row (get_or path i d) ≡ true → from_row row (drop i path) ≡ drop i path
from_found row path i d h same = from_at row path i d h ∙ ap (λ b. cond b (drop i path) (from_row row (drop (i + 1) path))) same

pub from_passed : (row : ℕ) (path : List ℕ) (i d : ℕ) → i < length path → nat_eq row (get_or path i d) ≡ false → from_row row (drop (i + 1) path) ≡ from_row row (drop i path)
from_passed row path i d h other = sym (from_at row path i d h ∙ ap (λ b. cond b (drop i path) (from_row row (drop (i + 1) path))) other)

pub from_end : (row : ℕ) (path : List ℕ) (i : ℕ) → length path ≤ i → from_row row (drop i path) ≡ []
from_end row path i h = ap (from_row row) (drop_all i path h)

pub ruleset from_steps = (from_found, from_passed, from_end)

-- ---- the steps of a cycle

pub trail_step : (next : ℕ → ℕ) (steps i : ℕ) (path : List ℕ) (row : ℕ) → i < steps → trail next (steps - i) path row ≡ cond (is_among path row) (from_row row path) (trail next (steps - (i + 1)) (path ++ row ∷ []) (next row))
trail_step next steps i path row h =
    let e : steps - i ≡ suc (steps - (i + 1)) = omega arith in
    ap (λ k. trail next k path row) e

pub trail_found : (next : ℕ → ℕ) (steps i : ℕ) (path : List ℕ) (row : ℕ) → i < steps → is_among path row ≡ true → trail next (steps - i) path row ≡ from_row row path
trail_found next steps i path row h found = trail_step next steps i path row h ∙ ap (λ b. cond b (from_row row path) (trail next (steps - (i + 1)) (path ++ row ∷ []) (next row))) found

pub trail_passed : (next : ℕ → ℕ) (steps i : ℕ) (path : List ℕ) (row : ℕ) → i < steps → is_among path row ≡ false → trail next (steps - (i + 1)) (path ++ row ∷ []) (next row) ≡ trail next (steps - i) path row
trail_passed next steps i path row h other = sym (trail_step next steps i path row h ∙ ap (λ b. cond b (from_row row path) (trail next (steps - (i + 1)) (path ++ row ∷ []) (next row))) other)

pub trail_end : (next : ℕ → ℕ) (steps i : ℕ) (path : List ℕ) (row : ℕ) → steps ≤ i → trail next (steps - i) path row ≡ path
trail_end next steps i path row h =
    let e : steps - i ≡ 0 = omega arith in
    ap (λ k. trail next k path row) e

pub ruleset trail_steps = (trail_found, trail_passed, trail_end)
