-- Lists of which every item is so, and the items of lists that are mapped, filtered and joined.
use Rattle.std.proofs.Common.{◌≡◌, ◌⊎◌, inl, inr, ℕ, zero, suc, ◌+◌, ◌<◌, ◌≤◌, Bool, true, false, cond, ◌||◌, eqb, List, [], ◌∷◌, ◌++◌, map, length, get_or, refl, sym, ap, ◌∙◌, subst, arith}
use Rattle.std.proofs.lemmas.Bool.{cases_lt, eq-eqb, eqb-true}
use Rattle.std.specs.List.{AllByRecursion, filter, flat_map, range_with_len}
use Rattle.base_core.proofs.Lists.{every_append}
use Rattle.base_core.proofs.Tests.{or_then}
use Rattle.session_laws.proofs.Plans.Facts.{or_cases, true_false}
use Rattle.row_order.specs.Places.{is_among}

-- ---- every item is so

pub all_at : {A : Type 0} (P : A → Type 0) (xs : List A) (i : ℕ) (d : A) → AllByRecursion P xs → i < length xs → P (get_or xs i d)
all_at P [] i d all h = absurd (omega arith)
all_at P (x ∷ xs) zero d all h = all.0
all_at P (x ∷ xs) (suc i) d all h = all_at P xs i d all.1 (omega arith)

pub every_at : {A : Type 0} (P : A → Type 0) (xs : List A) (d : A) → ((n : ℕ) → n < length xs → P (get_or xs n d)) → AllByRecursion P xs
every_at P [] d each = tt
every_at P (x ∷ xs) d each = (each 0 (omega arith), every_at P xs d (λ n h. each (suc n) (omega arith)))

pub all_map_of : {A B : Type 0} (P : B → Type 0) (f : A → B) (xs : List A) → AllByRecursion (λ x. P (f x)) xs → AllByRecursion P (map f xs)
all_map_of P f [] all = tt
all_map_of P f (x ∷ xs) all = (all.0, all_map_of P f xs all.1)

pub all_filter : {A : Type 0} (P : A → Type 0) (t : A → Bool) (xs : List A) → AllByRecursion (λ x. t x ≡ true → P x) xs → AllByRecursion P (filter t xs)
all_filter P t [] all = tt
all_filter P t (x ∷ xs) all = step (t x) refl (all_filter P t xs all.1)
  where
    step : (b : Bool) → t x ≡ b → AllByRecursion P (filter t xs) → AllByRecursion P (cond b (x ∷ filter t xs) (filter t xs))
    step true passes more = (all.0 passes, more)
    step false passes more = more

pub all_flat : {A B : Type 0} (P : B → Type 0) (f : A → List B) (xs : List A) → ((x : A) → AllByRecursion P (f x)) → AllByRecursion P (flat_map f xs)
all_flat P f [] each = tt
all_flat P f (x ∷ xs) each = every_append P (f x) (flat_map f xs) (each x) (all_flat P f xs each)

pub all_members : (P : ℕ → Type 0) (xs : List ℕ) → ((x : ℕ) → is_among xs x ≡ true → P x) → AllByRecursion P xs
all_members P [] each = tt
all_members P (x ∷ xs) each = (each x (ap (λ b. b || is_among xs x) (eq-eqb x x refl)), all_members P xs (λ y among. each y (or_then (eqb y x) (is_among xs y) among)))

-- ---- an item

abbrev pub Member : {A : Type 0} → A → List A → Type 0
Member x [] = ⊥
Member x (y ∷ ys) = (y ≡ x) ⊎ Member x ys

pub member_all : {A : Type 0} (P : A → Type 0) (xs : List A) (x : A) → AllByRecursion P xs → Member x xs → P x
member_all P [] x all is = absurd is
member_all P (y ∷ ys) x all (inl here) = subst P here all.0
member_all P (y ∷ ys) x all (inr more) = member_all P ys x all.1 more

pub number_member : {A : Type 0} (xs : List A) (n : ℕ) (d : A) → n < length xs → Member (get_or xs n d) xs
number_member [] n d h = omega arith
number_member (x ∷ xs) zero d h = inl refl
number_member (x ∷ xs) (suc n) d h = inr (number_member xs n d (omega arith))

pub member_number : {A : Type 0} (xs : List A) (x d : A) → Member x xs → (n : ℕ) × (n < length xs) × (get_or xs n d ≡ x)
member_number [] x d is = absurd is
member_number (y ∷ ys) x d (inl here) = (0, omega arith, here)
member_number (y ∷ ys) x d (inr more) = let found = member_number ys x d more in (suc found.0, omega (arith, found.1), found.2)

pub among_member : (xs : List ℕ) (n : ℕ) → is_among xs n ≡ true → Member n xs
among_member [] n among = absurd (true_false (sym among))
among_member (x ∷ xs) n among =
    elim (or_cases (eqb n x) (is_among xs n) among) [
      | inl here ↦ inl (sym (eqb-true n x here))
      | inr more ↦ inr (among_member xs n more)
    ]

pub member_among : (xs : List ℕ) (n : ℕ) → Member n xs → is_among xs n ≡ true
member_among [] n is = absurd is
member_among (x ∷ xs) n (inl here) = ap (λ b. b || is_among xs n) (eq-eqb n x (sym here))
member_among (x ∷ xs) n (inr more) = or_then (eqb n x) (is_among xs n) (member_among xs n more)

pub member_left : {A : Type 0} (x : A) (xs ys : List A) → Member x xs → Member x (xs ++ ys)
member_left x [] ys is = absurd is
member_left x (y ∷ xs) ys (inl here) = inl here
member_left x (y ∷ xs) ys (inr more) = inr (member_left x xs ys more)

pub member_right : {A : Type 0} (x : A) (xs ys : List A) → Member x ys → Member x (xs ++ ys)
member_right x [] ys is = is
member_right x (y ∷ xs) ys is = inr (member_right x xs ys is)

pub member_split : {A : Type 0} (x : A) (xs ys : List A) → Member x (xs ++ ys) → Member x xs ⊎ Member x ys
member_split x [] ys is = inr is
member_split x (y ∷ xs) ys (inl here) = inl (inl here)
member_split x (y ∷ xs) ys (inr more) =
    elim (member_split x xs ys more) [
      | inl left ↦ inl (inr left)
      | inr right ↦ inr right
    ]

pub member_map : {A B : Type 0} (f : A → B) (x : A) (xs : List A) → Member x xs → Member (f x) (map f xs)
member_map f x [] is = absurd is
member_map f x (y ∷ ys) (inl here) = inl (ap f here)
member_map f x (y ∷ ys) (inr more) = inr (member_map f x ys more)

pub mapped_member : {A B : Type 0} (f : A → B) (z : B) (xs : List A) → Member z (map f xs) → (x : A) × Member x xs × (f x ≡ z)
mapped_member f z [] is = absurd is
mapped_member f z (x ∷ xs) (inl here) = (x, inl refl, here)
mapped_member f z (x ∷ xs) (inr more) = let found = mapped_member f z xs more in (found.0, inr found.1, found.2)

pub member_filter : {A : Type 0} (t : A → Bool) (x : A) (xs : List A) → t x ≡ true → Member x xs → Member x (filter t xs)
member_filter t x [] passes is = absurd is
member_filter t x (y ∷ ys) passes (inl here) = subst (λ b. Member x (cond b (y ∷ filter t ys) (filter t ys))) (sym (ap t here ∙ passes)) (inl here)
member_filter t x (y ∷ ys) passes (inr more) = later (t y) (member_filter t x ys passes more)
  where
    later : (b : Bool) → Member x (filter t ys) → Member x (cond b (y ∷ filter t ys) (filter t ys))
    later true is = inr is
    later false is = is

pub filtered_member : {A : Type 0} (t : A → Bool) (x : A) (xs : List A) → Member x (filter t xs) → Member x xs × (t x ≡ true)
filtered_member t x [] is = absurd is
filtered_member t x (y ∷ ys) is = at (t y) refl is (filtered_member t x ys)
  where
    at : (b : Bool) → t y ≡ b → Member x (cond b (y ∷ filter t ys) (filter t ys)) → (Member x (filter t ys) → Member x ys × (t x ≡ true)) → Member x (y ∷ ys) × (t x ≡ true)
    at true passes (inl here) more = (inl here, sym (ap t here) ∙ passes)
    at true passes (inr later) more = let found = more later in (inr found.0, found.1)
    at false passes later more = let found = more later in (inr found.0, found.1)

pub member_flat : {A B : Type 0} (f : A → List B) (x : A) (z : B) (xs : List A) → Member x xs → Member z (f x) → Member z (flat_map f xs)
member_flat f x z [] is here = absurd is
member_flat f x z (y ∷ ys) (inl same) here = member_left z (f y) (flat_map f ys) (subst (λ w. Member z (f w)) (sym same) here)
member_flat f x z (y ∷ ys) (inr more) here = member_right z (f y) (flat_map f ys) (member_flat f x z ys more here)

pub member_range : (a n k : ℕ) → a ≤ k → k < a + n → Member k (range_with_len a n)
member_range a zero k h l = absurd (omega arith)
member_range a (suc n) k h l =
    elim (cases_lt a k) [
      | inl later ↦ inr (member_range (a + 1) n k (omega arith) (omega arith))
      | inr here ↦ inl (omega arith)
    ]

-- ---- lists that are one

pub append_none : {A : Type 0} (xs : List A) → xs ++ [] ≡ xs
append_none [] = refl
append_none (x ∷ xs) = ap (λ ys. x ∷ ys) (append_none xs)

pub map_map : {A B C : Type 0} (f : B → C) (g : A → B) (xs : List A) → map f (map g xs) ≡ map (λ x. f (g x)) xs
map_map f g [] = refl
map_map f g (x ∷ xs) = ap (λ ys. f (g x) ∷ ys) (map_map f g xs)

pub filter_same : {A : Type 0} (p q : A → Bool) (xs : List A) → ((x : A) → p x ≡ q x) → filter p xs ≡ filter q xs
filter_same p q [] same = refl
filter_same p q (x ∷ xs) same = λ i. cond (same x i) (x ∷ filter_same p q xs same i) (filter_same p q xs same i)

pub length_mapped : {A B : Type 0} (f : A → B) (xs : List A) → length (map f xs) ≡ length xs
length_mapped f [] = refl
length_mapped f (x ∷ xs) = ap suc (length_mapped f xs)

pub get_mapped : {A B : Type 0} (f : A → B) (xs : List A) (i : ℕ) (d : A) (e : B) → i < length xs → get_or (map f xs) i e ≡ f (get_or xs i d)
get_mapped f [] i d e h = absurd (omega arith)
get_mapped f (x ∷ xs) zero d e h = refl
get_mapped f (x ∷ xs) (suc i) d e h = get_mapped f xs i d e (omega arith)
