-- Steps of the loop over the rows that wait for a row that is placed.
use Rattle.std.proofs.Common.{◌≡◌, ◌≢◌, ℕ, ◌+◌, ◌-◌, ◌<◌, ◌≤◌, Bool, true, false, cond, ◌&&◌, ◌||◌, List, length, get_or, take, set, inl, inr, sym, ap, ◌∙◌, arith}
use Rattle.std.proofs.lemmas.Bool.{eq-eqb, lt-ltb}
use Rattle.std.proofs.lemmas.Bool.Decides.{eqb_tells}
use Rattle.std.proofs.lemmas.List.{get_or-set_other, get_or-set_same}
use Rattle.std.proofs.lemmas.List.Sums.{sum_by-take-le, sum_by_more}
use Rattle.std.specs.Prelude.{nat_eq, nat_lt}
use Rattle.std.specs.BTreeSet.{BTreeSet, contains}
use Rattle.std.specs.Ordering.{nat_cmp}
use Rattle.base_core.proofs.Tests.{and_none, or_false}
use Rattle.row_order.specs.Lists.{times}

times_more : (row : ℕ) (rows : List ℕ) (i : ℕ) → i < length rows → times row (take (i + 1) rows) ≡ times row (take i rows) + cond (nat_eq row (get_or rows i 0)) 1 0
times_more row rows i h = sum_by_more (λ other. cond (nat_eq row other) 1 0) rows i 0 h

pub times_here : (rows : List ℕ) (i d : ℕ) → i < length rows → d ≡ get_or rows i 0 → times d (take (i + 1) rows) ≡ times d (take i rows) + 1
times_here rows i d h e = times_more d rows i h ∙ ap (λ b. times d (take i rows) + cond b 1 0) (eq-eqb d (get_or rows i 0) e)

pub times_else : (rows : List ℕ) (i d q : ℕ) → i < length rows → d ≡ get_or rows i 0 → nat_eq q d ≡ false → times q (take (i + 1) rows) ≡ times q (take i rows)
times_else rows i d q h e apart = times_more q rows i h ∙ ap (λ k. times q (take i rows) + cond (nat_eq q k) 1 0) (sym e) ∙ ap (λ b. times q (take i rows) + cond b 1 0) apart ∙ omega arith

pub times_room : (counts was rows : List ℕ) (i d : ℕ) → i < length rows → d ≡ get_or rows i 0 → times d rows ≤ get_or was d 0 → get_or counts d 0 + times d (take i rows) ≡ get_or was d 0 → 0 < get_or counts d 0
times_room counts was rows i d h e enough sum =
    omega (arith, times_here rows i d h e, sum_by-take-le (λ other. cond (nat_eq d other) 1 0) rows (i + 1), enough, sum)

apart_from : (q d : ℕ) → nat_eq q d ≡ false → q ≢ d
apart_from q d e same = let t : nat_eq q d ≡ true = eq-eqb q d same in absurd (cc)

pub counts_more : (counts was rows : List ℕ) (i d q : ℕ) → i < length rows → d ≡ get_or rows i 0 → d < length counts → 0 < get_or counts d 0 → get_or counts q 0 + times q (take i rows) ≡ get_or was q 0 → get_or (set counts d (get_or counts d 0 - 1)) q 0 + times q (take (i + 1) rows) ≡ get_or was q 0
counts_more counts was rows i d q h e less some sum = elim (eqb_tells q d) [
  | inl w ↦
      ap (λ k. get_or (set counts d (get_or counts d 0 - 1)) k 0 + times k (take (i + 1) rows)) w.1
      ∙ (let a = get_or-set_same counts d (get_or counts d 0 - 1) 0 less in let s : get_or counts d 0 + times d (take i rows) ≡ get_or was d 0 = ap (λ k. get_or counts k 0 + times k (take i rows)) (sym w.1) ∙ sum ∙ ap (λ k. get_or was k 0) w.1 in omega (arith, a, times_here rows i d h e, s, some))
      ∙ ap (λ k. get_or was k 0) (sym w.1)
  | inr w ↦
      let a = get_or-set_other counts d q (get_or counts d 0 - 1) 0 w.1 in
      omega (arith, a, times_else rows i d q h e w.0, sum)
]

one_less : (n : ℕ) → 0 < n → nat_eq (n - 1) 0 ≡ nat_eq n 1
one_less n h = elim (eqb_tells n 1) [
  | inl w ↦ eq-eqb (n - 1) 0 (omega (arith, w.1)) ∙ sym w.0
  | inr w ↦ elim (eqb_tells (n - 1) 0) [ inl v ↦ absurd (w.1 (omega (arith, v.1, h))) | inr v ↦ v.0 ∙ sym w.0 ]
]

not_zero : (n : ℕ) → 0 < n → nat_eq n 0 ≡ false
not_zero n h = elim (eqb_tells n 0) [ inl w ↦ absurd (omega (arith, w.1, h)) | inr w ↦ w.0 ]

no_more : (a b : Bool) → b ≡ false → (a || b) ≡ a
no_more a b e = ap (λ c. a || c) e ∙ or_false a

-- n has what m has, and d where this was the last for which it waits
pub ready_more : (counts rows : List ℕ) (i d q : ℕ) (l m n : BTreeSet ℕ) → i < length rows → d ≡ get_or rows i 0 → d < length counts → 0 < get_or counts d 0
    → contains nat_cmp n q ≡ (contains nat_cmp m q || (nat_eq d q && nat_eq (get_or counts d 0) 1))
    → contains nat_cmp m q ≡ (contains nat_cmp l q || (nat_lt 0 (times q (take i rows)) && nat_eq (get_or counts q 0) 0))
    → contains nat_cmp n q ≡ (contains nat_cmp l q || (nat_lt 0 (times q (take (i + 1) rows)) && nat_eq (get_or (set counts d (get_or counts d 0 - 1)) q 0) 0))
ready_more counts rows i d q l m n h e less some step before = elim (eqb_tells q d) [
  | inl w ↦
      let here : nat_eq d q ≡ true = eq-eqb d q (sym w.1) in
      let was : contains nat_cmp m q ≡ contains nat_cmp l q =
      before ∙ no_more (contains nat_cmp l q) (nat_lt 0 (times q (take i rows)) && nat_eq (get_or counts q 0) 0) (and_none (nat_lt 0 (times q (take i rows))) (nat_eq (get_or counts q 0) 0) (ap (λ k. nat_eq (get_or counts k 0) 0) w.1 ∙ not_zero (get_or counts d 0) some)) in
      let there : nat_lt 0 (times q (take (i + 1) rows)) ≡ true =
      lt-ltb 0 (times q (take (i + 1) rows)) (omega (arith, ap (λ k. times k (take (i + 1) rows)) w.1, times_here rows i d h e)) in
      let last : nat_eq (get_or (set counts d (get_or counts d 0 - 1)) q 0) 0 ≡ nat_eq (get_or counts d 0) 1 =
      ap (λ k. nat_eq (get_or (set counts d (get_or counts d 0 - 1)) k 0) 0) w.1 ∙ ap (λ k. nat_eq k 0) (get_or-set_same counts d (get_or counts d 0 - 1) 0 less) ∙ one_less (get_or counts d 0) some in
      step
      ∙ ap (λ b. b || (nat_eq d q && nat_eq (get_or counts d 0) 1)) was
      ∙ ap (λ b. contains nat_cmp l q || (b && nat_eq (get_or counts d 0) 1)) here
      ∙ ap (λ b. contains nat_cmp l q || b) (sym last)
      ∙ ap (λ b. contains nat_cmp l q || (b && nat_eq (get_or (set counts d (get_or counts d 0 - 1)) q 0) 0)) (sym there)
  | inr w ↦
      let other : nat_eq d q ≡ false = elim (eqb_tells d q) [ inl v ↦ absurd (w.1 (sym v.1)) | inr v ↦ v.0 ] in
      step
      ∙ ap (λ b. contains nat_cmp m q || (b && nat_eq (get_or counts d 0) 1)) other
      ∙ or_false (contains nat_cmp m q)
      ∙ before
      ∙ ap (λ k. contains nat_cmp l q || (nat_lt 0 k && nat_eq (get_or counts q 0) 0)) (sym (times_else rows i d q h e w.0))
      ∙ ap (λ k. contains nat_cmp l q || (nat_lt 0 (times q (take (i + 1) rows)) && nat_eq k 0)) (sym (get_or-set_other counts d q (get_or counts d 0 - 1) 0 w.1))
]
