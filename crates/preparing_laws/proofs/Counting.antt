-- How many of a list pass a test, and what is found of it.
use Rattle.std.proofs.Common.{◌≡◌, inl, inr, ℕ, zero, suc, ◌+◌, ◌<◌, ◌≤◌, Bool, true, false, not, ◌&&◌, List, [], ◌∷◌, length, map, filter, find, cond, None, Some, refl, sym, ap, ◌∙◌, arith}
use Rattle.std.specs.Prelude.{slice_index_or}
use Rattle.std.specs.List.{list_all, position_from, range_with_len}
use Rattle.std.proofs.lemmas.Bool.{and_from, and_parts}
use Rattle.class_mapping.proofs.Having.{Has}

-- ---- how many

fewer : {A : Type 0} (p : A → Bool) (xs : List A) → length (filter p xs) ≤ length xs
fewer p [] = omega arith
fewer p (x ∷ xs) = by (p x) (fewer p xs)
  where
    by : (b : Bool) → length (filter p xs) ≤ length xs → length (cond b (x ∷ filter p xs) (filter p xs)) ≤ suc (length xs)
    by true more = let one : suc (length (filter p xs)) ≤ suc (length xs) = omega (arith, more) in one
    by false more = omega (arith, more)

-- where all that pass one test pass another, no more pass it
as_many : {A : Type 0} (p q : A → Bool) (xs : List A) → ((x : A) → Has xs x → p x ≡ true → q x ≡ true) → length (filter p xs) ≤ length (filter q xs)
as_many p q [] keeps = omega arith
as_many p q (x ∷ xs) keeps = by (p x) (q x) refl refl (as_many p q xs (λ y there. keeps y (inr there)))
  where
    by : (a b : Bool) → p x ≡ a → q x ≡ b → length (filter p xs) ≤ length (filter q xs) → length (cond a (x ∷ filter p xs) (filter p xs)) ≤ length (cond b (x ∷ filter q xs) (filter q xs))
    by true true e f more = let one : suc (length (filter p xs)) ≤ suc (length (filter q xs)) = omega (arith, more) in one
    by true false e f more = absurd (let never : true ≡ false = sym (keeps x (inl refl) e) ∙ f in cc)
    by false true e f more = let one : length (filter p xs) ≤ suc (length (filter q xs)) = omega (arith, more) in one
    by false false e f more = more

-- and where one passes the other alone, fewer do
pub one_more : {A : Type 0} (p q : A → Bool) (xs : List A) (x : A) → Has xs x → p x ≡ false → q x ≡ true → ((y : A) → Has xs y → p y ≡ true → q y ≡ true) → suc (length (filter p xs)) ≤ length (filter q xs)
one_more p q [] x there lacks is keeps = absurd there
one_more p q (y ∷ xs) x (inl same) lacks is keeps = by (p y) (q y) (ap p same ∙ lacks) (ap q same ∙ is) (as_many p q xs (λ z there. keeps z (inr there)))
  where
    by : (a b : Bool) → a ≡ false → b ≡ true → length (filter p xs) ≤ length (filter q xs) → suc (length (cond a (y ∷ filter p xs) (filter p xs))) ≤ length (cond b (y ∷ filter q xs) (filter q xs))
    by true b e f more = absurd cc
    by false false e f more = absurd cc
    by false true e f more = let one : suc (length (filter p xs)) ≤ suc (length (filter q xs)) = omega (arith, more) in one
one_more p q (y ∷ xs) x (inr later) lacks is keeps = by (p y) (q y) refl refl (one_more p q xs x later lacks is (λ z there. keeps z (inr there)))
  where
    by : (a b : Bool) → p y ≡ a → q y ≡ b → suc (length (filter p xs)) ≤ length (filter q xs) → suc (length (cond a (y ∷ filter p xs) (filter p xs))) ≤ length (cond b (y ∷ filter q xs) (filter q xs))
    by true true e f more = let one : suc (suc (length (filter p xs))) ≤ suc (length (filter q xs)) = omega (arith, more) in one
    by true false e f more = absurd (let never : true ≡ false = sym (keeps y (inl refl) e) ∙ f in cc)
    by false true e f more = let one : suc (length (filter p xs)) ≤ suc (length (filter q xs)) = omega (arith, more) in one
    by false false e f more = more

-- of a longer range no fewer pass
pub of_longer : {A : Type 0} (f : ℕ → A) (q : A → Bool) (a n m : ℕ) → n ≤ m → length (filter q (map f (range_with_len a n))) ≤ length (filter q (map f (range_with_len a m)))
of_longer f q a zero m less = omega arith
of_longer f q a (suc n) zero less = absurd (omega (arith, less))
of_longer {A = A} f q a (suc n) (suc m) less = by (q (f a)) (of_longer f q (a + 1) n m (omega (arith, less)))
  where
    short : List A
    short = filter q (map f (range_with_len (a + 1) n))

    long : List A
    long = filter q (map f (range_with_len (a + 1) m))

    by : (b : Bool) → length short ≤ length long → length (cond b (f a ∷ short) short) ≤ length (cond b (f a ∷ long) long)
    by true more = let one : suc (length short) ≤ suc (length long) = omega (arith, more) in one
    by false more = more

-- where as many pass as there are, all do
pub all_pass : {A : Type 0} (p : A → Bool) (xs : List A) → length xs ≤ length (filter p xs) → list_all p xs ≡ true
all_pass p [] long = refl
all_pass p (x ∷ xs) long = by (p x) (λ more. all_pass p xs more) long
  where
    by : (b : Bool) → (length xs ≤ length (filter p xs) → list_all p xs ≡ true) → suc (length xs) ≤ length (cond b (x ∷ filter p xs) (filter p xs)) → (b && list_all p xs) ≡ true
    by true more all = let rest : suc (length xs) ≤ suc (length (filter p xs)) = all in more (omega (arith, rest))
    by false more all = absurd (let most = fewer p xs in omega (arith, all, most))

-- ---- all of a list

pub all_by : {A : Type 0} (p : A → Bool) (xs : List A) → ((x : A) → Has xs x → p x ≡ true) → list_all p xs ≡ true
all_by p [] each = refl
all_by p (x ∷ xs) each = and_from (p x) (list_all p xs) (each x (inl refl)) (all_by p xs (λ y there. each y (inr there)))

pub all_places : {A : Type 0} (p : A → Bool) (xs : List A) (d : A) → ((i : ℕ) → i < length xs → p (slice_index_or xs i d) ≡ true) → list_all p xs ≡ true
all_places p [] d each = refl
all_places p (x ∷ xs) d each = and_from (p x) (list_all p xs) (each 0 (omega arith)) (all_places p xs d (λ i less. each (suc i) (omega (arith, less))))

pub all_at : {A : Type 0} (p : A → Bool) (xs : List A) (d : A) (i : ℕ) → list_all p xs ≡ true → i < length xs → p (slice_index_or xs i d) ≡ true
all_at p [] d i all less = absurd (omega (arith, less))
all_at p (x ∷ xs) d zero all less = (and_parts (p x) (list_all p xs) all).0
all_at p (x ∷ xs) d (suc i) all less = all_at p xs d i (and_parts (p x) (list_all p xs) all).1 (omega (arith, less))

-- ---- what is found

pub none_lacks : {A : Type 0} (p : A → Bool) (xs : List A) → find (λ x. not (p x)) xs ≡ None → list_all p xs ≡ true
none_lacks p [] none = refl
none_lacks p (x ∷ xs) none = by (p x) (λ more. none_lacks p xs more) none
  where
    by : (b : Bool) → (find (λ y. not (p y)) xs ≡ None → list_all p xs ≡ true) → cond (not b) (Some x) (find (λ y. not (p y)) xs) ≡ None → (b && list_all p xs) ≡ true
    by true more e = more e
    by false more e = absurd cc

pub found_passes : {A : Type 0} (test : A → Bool) (xs : List A) (x : A) → find test xs ≡ Some x → test x ≡ true
found_passes test [] x is = absurd cc
found_passes test (y ∷ xs) x is = by (test y) refl (λ more. found_passes test xs x more) is
  where
    by : (b : Bool) → test y ≡ b → (find test xs ≡ Some x → test x ≡ true) → cond b (Some y) (find test xs) ≡ Some x → test x ≡ true
    by true t more e = let same : y ≡ x = cc in ap test (sym same) ∙ t
    by false t more e = more e

-- the place of one that passes is found
pub place_found : {A : Type 0} (test : A → Bool) (n : ℕ) (xs : List A) (x : A) → Has xs x → test x ≡ true → (i : ℕ) × (position_from test n xs ≡ Some i) × (i < n + length xs)
place_found test n [] x there is = absurd there
place_found test n (y ∷ xs) x (inl same) is = let less : n < n + suc (length xs) = omega arith in (n, ap (λ (b : Bool). cond b (Some n) (position_from test (n + 1) xs)) (ap test same ∙ is), less)
place_found test n (y ∷ xs) x (inr later) is = by (test y) (place_found test (n + 1) xs x later is)
  where
    by : (b : Bool) → (i : ℕ) × (position_from test (n + 1) xs ≡ Some i) × (i < n + 1 + length xs) → (i : ℕ) × (cond b (Some n) (position_from test (n + 1) xs) ≡ Some i) × (i < n + suc (length xs))
    by true more = let less : n < n + suc (length xs) = omega arith in (n, refl, less)
    by false more = let less = more.2 in (more.0, more.1, omega (arith, less))
