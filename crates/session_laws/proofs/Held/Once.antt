-- Lists in which no two items meet, told by their places.
use Rattle.std.proofs.Common.{◌≡◌, ◌⊎◌, inl, inr, ℕ, zero, suc, ◌+◌, ◌≤◌, Bool, true, false, cond, List, [], ◌∷◌, ◌++◌, length, filter, Some, refl, sym, ap, ◌∙◌, arith}
use Rattle.std.specs.Prelude.{slice_get}
use Rattle.std.specs.List.{count_by, enumerate_from, flat_map}
use Rattle.std.proofs.lemmas.List.Sums.{sum_by-cons}
use Rattle.std.proofs.lemmas.Option.{same_Some}
use Rattle.class_mapping.proofs.Having.{Has, from_filter, from_flat, from_numbered, has_at}
use Rattle.session_laws.proofs.Projects.Loose.{has_place}

-- two items that meet stand at one place
abbrev pub StandOnce : {A : Type 0} → (A → A → Bool) → List A → Type 0
StandOnce {A = A} test xs = (i j : ℕ) (x y : A) → slice_get xs i ≡ Some x → slice_get xs j ≡ Some y → test x y ≡ true → i ≡ j

-- an item of two lists stands behind all of the first, or in it
on_side : {A : Type 0} (xs ys : List A) (p : ℕ) (y : A) → slice_get (xs ++ ys) p ≡ Some y → ((k : ℕ) × (p ≡ length xs + k) × (slice_get ys k ≡ Some y)) ⊎ (slice_get xs p ≡ Some y)
on_side [] ys p y e = inl (p, omega arith, e)
on_side (x ∷ xs) ys zero y e = inr e
on_side (x ∷ xs) ys (suc p) y e = elim (on_side xs ys p y e) [
  | inl behind ↦ inl (behind.0, omega (arith, behind.1), behind.2)
  | inr here ↦ inr here
]

-- so it is of joined lists, where it is of each and items of two of them never meet
pub flat_once : {A B : Type 0} (f : A → List B) (test : B → B → Bool) (xs : List A) → ((x : A) → Has xs x → StandOnce test (f x))
    → ((i j : ℕ) (x y : A) (b c : B) → slice_get xs i ≡ Some x → slice_get xs j ≡ Some y → Has (f x) b → Has (f y) c → test b c ≡ true → i ≡ j) → StandOnce test (flat_map f xs)
flat_once f test [] each apart i j b c one other same = absurd cc
flat_once f test (x ∷ xs) each apart i j b c one other same =
    by (on_side (f x) (flat_map f xs) i b one) (on_side (f x) (flat_map f xs) j c other)
    (flat_once f test xs (λ y has. each y (inr has)) (λ k l y z d e at behind inside within met. omega (arith, apart (suc k) (suc l) y z d e at behind inside within met)))
  where
    by : ((k : ℕ) × (i ≡ length (f x) + k) × (slice_get (flat_map f xs) k ≡ Some b)) ⊎ (slice_get (f x) i ≡ Some b)
        → ((k : ℕ) × (j ≡ length (f x) + k) × (slice_get (flat_map f xs) k ≡ Some c)) ⊎ (slice_get (f x) j ≡ Some c) → StandOnce test (flat_map f xs) → i ≡ j
    by (inl p) (inl q) rest = omega (arith, p.1, q.1, rest p.0 q.0 b c p.2 q.2 same)
    by (inr p) (inr q) rest = each x (inl refl) i j b c p q same
    by (inl p) (inr q) rest =
        let from = from_flat f xs b (has_at (flat_map f xs) p.0 b p.2) in
        let place = has_place xs from.0 from.1 in
        absurd (omega (arith, apart (suc place.0) 0 from.0 x b c place.1 refl from.2 (has_at (f x) j c q) same))
    by (inr p) (inl q) rest =
        let from = from_flat f xs c (has_at (flat_map f xs) q.0 c q.2) in
        let place = has_place xs from.0 from.1 in
        absurd (omega (arith, apart 0 (suc place.0) x from.0 b c refl place.1 (has_at (f x) i b p) from.2 same))

-- numbered items that pass stand under one number once
from_number : {A : Type 0} (test : ℕ × A → Bool) (n : ℕ) (xs : List A) (y : ℕ × A) → Has (filter test (enumerate_from n xs)) y → n ≤ y.0
from_number test n xs y has =
    let found = from_numbered n xs y (from_filter test (enumerate_from n xs) y has).0 in
    omega (arith, found.1)

pub numbered_once : {A : Type 0} (test : ℕ × A → Bool) (n : ℕ) (xs : List A) (i j : ℕ) (y z : ℕ × A) → slice_get (filter test (enumerate_from n xs)) i ≡ Some y → slice_get (filter test (enumerate_from n xs)) j ≡ Some z
    → y.0 ≡ z.0 → i ≡ j
numbered_once test n [] i j y z one other same = absurd cc
numbered_once {A = A} test n (x ∷ xs) i j y z one other same = by (test (n, x)) i j one other (λ k l at there. numbered_once test (n + 1) xs k l y z at there same)
  where
    first_apart : (k : ℕ) (u v : ℕ × A) → (n, x) ≡ u → slice_get (filter test (enumerate_from (n + 1) xs)) k ≡ Some v → u.0 ≡ v.0 → ⊥
    first_apart k u v is at met =
        let above = from_number test (n + 1) xs v (has_at (filter test (enumerate_from (n + 1) xs)) k v at) in
        let number : n ≡ u.0 = ap (λ (p : ℕ × A). p.0) is in
        omega (arith, above, number, met)

    by : (b : Bool) (i j : ℕ) → slice_get (cond b ((n, x) ∷ filter test (enumerate_from (n + 1) xs)) (filter test (enumerate_from (n + 1) xs))) i ≡ Some y
        → slice_get (cond b ((n, x) ∷ filter test (enumerate_from (n + 1) xs)) (filter test (enumerate_from (n + 1) xs))) j ≡ Some z
        → ((k l : ℕ) → slice_get (filter test (enumerate_from (n + 1) xs)) k ≡ Some y → slice_get (filter test (enumerate_from (n + 1) xs)) l ≡ Some z → k ≡ l) → i ≡ j
    by false i j one other rest = rest i j one other
    by true zero zero one other rest = refl
    by true zero (suc j) one other rest = absurd (first_apart j y z (same_Some (n, x) y one) other same)
    by true (suc i) zero one other rest = absurd (first_apart i z y (same_Some (n, x) z other) one (sym same))
    by true (suc i) (suc j) one other rest = ap suc (rest i j one other)

-- what passes once at most stands once
counted_here : {A : Type 0} (p : A → Bool) (xs : List A) (i : ℕ) (x : A) → slice_get xs i ≡ Some x → p x ≡ true → 1 ≤ count_by p xs
counted_here p [] i x at passes = absurd cc
counted_here p (y ∷ xs) zero x at passes =
    let one : (let count : ℕ = cond (p y) 1 0 in count ≡ 1) = ap (λ (b : Bool). let count : ℕ = cond b 1 0 in count) (ap p (same_Some y x at) ∙ passes) in
    omega (arith, sum_by-cons (λ z. cond (p z) 1 0) y xs, one)
counted_here p (y ∷ xs) (suc i) x at passes = omega (arith, sum_by-cons (λ z. cond (p z) 1 0) y xs, counted_here p xs i x at passes)

pub counted_once : {A : Type 0} (p : A → Bool) (xs : List A) (i j : ℕ) (x y : A) → count_by p xs ≤ 1 → slice_get xs i ≡ Some x → slice_get xs j ≡ Some y → p x ≡ true → p y ≡ true → i ≡ j
counted_once p [] i j x y few one other here there = absurd cc
counted_once p (z ∷ xs) zero zero x y few one other here there = refl
counted_once p (z ∷ xs) zero (suc j) x y few one other here there =
    let first : (let count : ℕ = cond (p z) 1 0 in count ≡ 1) = ap (λ (b : Bool). let count : ℕ = cond b 1 0 in count) (ap p (same_Some z x one) ∙ here) in
    absurd (omega (arith, few, sum_by-cons (λ w. cond (p w) 1 0) z xs, first, counted_here p xs j y other there))
counted_once p (z ∷ xs) (suc i) zero x y few one other here there =
    let first : (let count : ℕ = cond (p z) 1 0 in count ≡ 1) = ap (λ (b : Bool). let count : ℕ = cond b 1 0 in count) (ap p (same_Some z y other) ∙ there) in
    absurd (omega (arith, few, sum_by-cons (λ w. cond (p w) 1 0) z xs, first, counted_here p xs i x one here))
counted_once p (z ∷ xs) (suc i) (suc j) x y few one other here there =
    ap suc (counted_once p xs i j x y (omega (arith, few, sum_by-cons (λ w. cond (p w) 1 0) z xs)) one other here there)
