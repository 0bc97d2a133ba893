-- Two lists side by side, one pair more and all of them.
use Rattle.std.proofs.Common.{◌≡◌, ◌+◌, ◌<◌, ◌≤◌, ℕ, zero, suc, List, [], ◌∷◌, ◌++◌, length, take, get_or, refl, ap, ◌∙◌, append-nil, arith}
use Rattle.std.specs.List.{flat_map, zip}
use Rattle.std.proofs.lemmas.List.Concat.{flat_map-append}

pub zip_more : {A B : Type 0} (xs : List A) (ys : List B) (i : ℕ) (x : A) (y : B) → i < length xs → i < length ys
    → take (i + 1) (zip xs ys) ≡ take i (zip xs ys) ++ (get_or xs i x, get_or ys i y) ∷ []
zip_more [] ys i x y a b = absurd (omega (arith, a))
zip_more (first ∷ xs) [] i x y a b = absurd (omega (arith, b))
zip_more (first ∷ xs) (other ∷ ys) zero x y a b = refl
zip_more (first ∷ xs) (other ∷ ys) (suc i) x y a b =
    let e : suc i + 1 ≡ suc (i + 1) = omega arith in
    rw e (ap (λ rest. (first, other) ∷ rest) (zip_more xs ys i x y (omega (arith, a)) (omega (arith, b))))

none_taken : {A : Type 0} (i : ℕ) → take {A = A} i [] ≡ []
none_taken zero = refl
none_taken (suc i) = refl

pub zip_first_ends : {A B : Type 0} (xs : List A) (ys : List B) (i : ℕ) → length xs ≤ i → take i (zip xs ys) ≡ zip xs ys
zip_first_ends [] ys i a = none_taken i
zip_first_ends (first ∷ xs) [] i a = none_taken i
zip_first_ends (first ∷ xs) (other ∷ ys) zero a = absurd (omega (arith, a))
zip_first_ends (first ∷ xs) (other ∷ ys) (suc i) a = ap (λ rest. (first, other) ∷ rest) (zip_first_ends xs ys i (omega (arith, a)))

pub zip_second_ends : {A B : Type 0} (xs : List A) (ys : List B) (i : ℕ) → length ys ≤ i → take i (zip xs ys) ≡ zip xs ys
zip_second_ends [] ys i a = none_taken i
zip_second_ends (first ∷ xs) [] i a = none_taken i
zip_second_ends (first ∷ xs) (other ∷ ys) zero a = absurd (omega (arith, a))
zip_second_ends (first ∷ xs) (other ∷ ys) (suc i) a = ap (λ rest. (first, other) ∷ rest) (zip_second_ends xs ys i (omega (arith, a)))

-- what is written of the pairs so far, and of one more
pub written_more : {A B : Type 0} (text : A × B → List ℕ) (xs : List A) (ys : List B) (i : ℕ) (x : A) (y : B) → i < length xs → i < length ys
    → flat_map text (take (i + 1) (zip xs ys)) ≡ flat_map text (take i (zip xs ys)) ++ text (get_or xs i x, get_or ys i y)
written_more text xs ys i x y a b =
    ap (flat_map text) (zip_more xs ys i x y a b) ∙ flat_map-append text (take i (zip xs ys)) ((get_or xs i x, get_or ys i y) ∷ []) ∙ ap (λ more. flat_map text (take i (zip xs ys)) ++ more) (append-nil (text (get_or xs i x, get_or ys i y)))
