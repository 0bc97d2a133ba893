-- Steps of the loops that gather which rows wait for which.
use Rattle.std.proofs.Common.{◌≡◌, ◌≢◌, ℕ, zero, suc, ◌+◌, ◌<◌, ◌≤◌, Bool, true, false, cond, List, [], ◌∷◌, ◌++◌, length, get_or, take, set, inl, inr, refl, sym, ap, ◌∙◌, subst, arith}
use Rattle.std.proofs.lemmas.Bool.{cases_lt, le-ltb, lt-ltb}
use Rattle.std.proofs.lemmas.Bool.Decides.{eqb_tells}
use Rattle.std.proofs.lemmas.List.{get_or-set_other, get_or-set_same}
use Rattle.std.proofs.lemmas.List.Elements.{All-append}
use Rattle.std.proofs.lemmas.List.Sums.{sum_by_push}
use Rattle.std.specs.Prelude.{nat_eq, nat_lt}
use Rattle.std.specs.List.{All}
use Rattle.row_order.specs.Lists.{AreBelow, list_at, times}
use Rattle.row_order.proofs.SearchSteps.{times_else, times_here}

add_one : (b : Bool) (t : ℕ) → cond b t 0 + cond b 1 0 ≡ cond b (t + 1) 0
add_one true t = refl
add_one false t = refl

-- one more row in the list at a place
pub pushed_times : (was lists : List (List ℕ)) (places : List ℕ) (i o row q place : ℕ) → i < length places → o ≡ get_or places i 0 → o < length lists
    → times q (list_at lists place) ≡ times q (list_at was place) + cond (nat_eq q row) (times place (take i places)) 0
    → times q (list_at (set lists o (list_at lists o ++ row ∷ [])) place) ≡ times q (list_at was place) + cond (nat_eq q row) (times place (take (i + 1) places)) 0
pushed_times was lists places i o row q place h e less before = elim (eqb_tells place o) [
  | inl w ↦
      let here : times q (list_at (set lists o (list_at lists o ++ row ∷ [])) place) ≡ times q (list_at lists place) + cond (nat_eq q row) 1 0 =
      ap (λ k. times q (list_at (set lists o (list_at lists o ++ row ∷ [])) k)) w.1
      ∙ ap (times q) (get_or-set_same lists o (list_at lists o ++ row ∷ []) [] less)
      ∙ sum_by_push (λ x. cond (nat_eq q x) 1 0) (list_at lists o) row
      ∙ ap (λ k. times q (list_at lists k) + cond (nat_eq q row) 1 0) (sym w.1) in
      let more : times place (take (i + 1) places) ≡ times place (take i places) + 1 = times_here places i place h (w.1 ∙ e) in
      let last : cond (nat_eq q row) (times place (take i places)) 0 + cond (nat_eq q row) 1 0 ≡ cond (nat_eq q row) (times place (take (i + 1) places)) 0 =
      add_one (nat_eq q row) (times place (take i places)) ∙ ap (λ t. cond (nat_eq q row) t 0) (sym more) in
      omega (arith, here, before, last)
  | inr w ↦
      ap (times q) (get_or-set_other lists o place (list_at lists o ++ row ∷ []) [] w.1)
      ∙ before
      ∙ ap (λ t. times q (list_at was place) + cond (nat_eq q row) t 0) (sym (times_else places i o place h e w.0))
]

pub pushed_below : (lists : List (List ℕ)) (o row bound : ℕ) → o < length lists → row < bound → AreBelow bound lists → AreBelow bound (set lists o (list_at lists o ++ row ∷ []))
pushed_below lists o row bound less in_bound all place = elim (eqb_tells place o) [
  | inl w ↦
      subst (All (λ r. r < bound)) (sym (ap (list_at (set lists o (list_at lists o ++ row ∷ []))) w.1 ∙ get_or-set_same lists o (list_at lists o ++ row ∷ []) [] less))
      (All-append (λ r. r < bound) (list_at lists o) (row ∷ []) (all o) one)
  | inr w ↦ subst (All (λ r. r < bound)) (sym (get_or-set_other lists o place (list_at lists o ++ row ∷ []) [] w.1)) (all place)
]
  where
    one : All (λ r. r < bound) (row ∷ [])
    one zero d h = in_bound
    one (suc k) d h = absurd (omega (arith, h))

pub no_times : (b : Bool) (t : ℕ) → t + cond b 0 0 ≡ t
no_times true t = omega arith
no_times false t = omega arith

-- ---- so many empty lists

pub one_more_empty : (lists : List (List ℕ)) → ((place : ℕ) → list_at lists place ≡ []) → (place : ℕ) → list_at (lists ++ [] ∷ []) place ≡ []
one_more_empty [] none zero = refl
one_more_empty [] none (suc place) = refl
one_more_empty (x ∷ xs) none zero = none zero
one_more_empty (x ∷ xs) none (suc place) = one_more_empty xs (λ k. none (suc k)) place

-- ---- row by row

-- what is gathered once the lists of the first rows were read
pub gathered : (lists waiting next : List (List ℕ)) (list : List ℕ) (row q place : ℕ) → list ≡ list_at lists row
    → times q (list_at waiting place) ≡ cond (nat_lt q row) (times place (list_at lists q)) 0
    → times q (list_at next place) ≡ times q (list_at waiting place) + cond (nat_eq q row) (times place list) 0
    → times q (list_at next place) ≡ cond (nat_lt q (row + 1)) (times place (list_at lists q)) 0
gathered lists waiting next list row q place e before step = elim (cases_lt q row) [
  | inl less ↦
      let first : nat_lt q row ≡ true = lt-ltb q row less in
      let other : nat_eq q row ≡ false = elim (eqb_tells q row) [ inl w ↦ absurd (omega (arith, w.1, less)) | inr w ↦ w.0 ] in
      let last : nat_lt q (row + 1) ≡ true = lt-ltb q (row + 1) (omega (arith, less)) in
      step
      ∙ ap (λ b. times q (list_at waiting place) + cond b (times place list) 0) other
      ∙ sum_zero (times q (list_at waiting place))
      ∙ before
      ∙ ap (λ b. cond b (times place (list_at lists q)) 0) (first ∙ sym last)
  | inr far ↦
      let first : nat_lt q row ≡ false = le-ltb q row far in
      elim (eqb_tells q row) [
        | inl w ↦
            let last : nat_lt q (row + 1) ≡ true = lt-ltb q (row + 1) (omega (arith, w.1)) in
            step
            ∙ ap (λ b. times q (list_at waiting place) + cond b (times place list) 0) w.0
            ∙ ap (λ n. n + times place list) (before ∙ ap (λ b. cond b (times place (list_at lists q)) 0) first)
            ∙ zero_sum (times place list)
            ∙ ap (times place) (e ∙ ap (list_at lists) (sym w.1))
            ∙ ap (λ b. cond b (times place (list_at lists q)) 0) (sym last)
        | inr w ↦
            let last : nat_lt q (row + 1) ≡ false = le-ltb q (row + 1) (apart far w.1) in
            step
            ∙ ap (λ b. times q (list_at waiting place) + cond b (times place list) 0) w.0
            ∙ sum_zero (times q (list_at waiting place))
            ∙ before
            ∙ ap (λ b. cond b (times place (list_at lists q)) 0) (first ∙ sym last)
      ]
]
  where
    sum_zero : (n : ℕ) → n + 0 ≡ n
    sum_zero n = omega arith

    zero_sum : (n : ℕ) → 0 + n ≡ n
    zero_sum n = omega arith

    apart : row ≤ q → q ≢ row → row + 1 ≤ q
    apart far other = elim (cases_lt row q) [ inl less ↦ omega (arith, less) | inr low ↦ absurd (other (omega (arith, far, low))) ]
