-- What holds of each item of a list holds of each of a list that is made of it.
use Rattle.std.proofs.Common.{◌≡◌, ℕ, ◌+◌, ◌<◌, ◌≤◌, Bool, true, false, cond, List, [], ◌∷◌, ◌++◌, length, map, Option, None, Some, refl, arith}
use Rattle.std.specs.List.{AllByRecursion, cons_option, enumerate_from, filter, filter_map, flat_map}

pub all_append : {X : Type 0} (P : X → Type 0) (xs ys : List X) → AllByRecursion P xs → AllByRecursion P ys → AllByRecursion P (xs ++ ys)
all_append P [] ys all more = more
all_append P (x ∷ xs) ys all more = (all.0, all_append P xs ys all.1 more)

pub all_given : {X : Type 0} (P : X → Type 0) → ((x : X) → P x) → (xs : List X) → AllByRecursion P xs
all_given P each [] = tt
all_given P each (x ∷ xs) = (each x, all_given P each xs)

-- from one to another
pub each_to : {X : Type 0} (P Q : X → Type 0) → ((x : X) → P x → Q x) → (xs : List X) → AllByRecursion P xs → AllByRecursion Q xs
each_to P Q f [] all = tt
each_to P Q f (x ∷ xs) all = (f x all.0, each_to P Q f xs all.1)

pub all_map : {X Y : Type 0} (P : X → Type 0) (Q : Y → Type 0) (f : X → Y) → ((x : X) → P x → Q (f x)) → (xs : List X) → AllByRecursion P xs → AllByRecursion Q (map f xs)
all_map P Q f each [] all = tt
all_map P Q f each (x ∷ xs) all = (each x all.0, all_map P Q f each xs all.1)

pub all_flat_map : {X Y : Type 0} (P : X → Type 0) (Q : Y → Type 0) (f : X → List Y) → ((x : X) → P x → AllByRecursion Q (f x)) → (xs : List X) → AllByRecursion P xs → AllByRecursion Q (flat_map f xs)
all_flat_map P Q f each [] all = tt
all_flat_map P Q f each (x ∷ xs) all = all_append Q (f x) (flat_map f xs) (each x all.0) (all_flat_map P Q f each xs all.1)

pub map_given : {X Y : Type 0} (P : Y → Type 0) (f : X → Y) → ((x : X) → P (f x)) → (xs : List X) → AllByRecursion P (map f xs)
map_given P f each [] = tt
map_given P f each (x ∷ xs) = (each x, map_given P f each xs)

pub flat_map_given : {X Y : Type 0} (P : Y → Type 0) (f : X → List Y) → ((x : X) → AllByRecursion P (f x)) → (xs : List X) → AllByRecursion P (flat_map f xs)
flat_map_given P f each [] = tt
flat_map_given P f each (x ∷ xs) = all_append P (f x) (flat_map f xs) (each x) (flat_map_given P f each xs)

one_of : {X : Type 0} (P : X → Type 0) (b : Bool) (x : X) (xs : List X) → P x → AllByRecursion P xs → AllByRecursion P (cond b (x ∷ xs) xs)
one_of P true x xs p all = (p, all)
one_of P false x xs p all = all

pub all_filter : {X : Type 0} (P : X → Type 0) (test : X → Bool) (xs : List X) → AllByRecursion P xs → AllByRecursion P (filter test xs)
all_filter P test [] all = tt
all_filter P test (x ∷ xs) all = one_of P (test x) x (filter test xs) all.0 (all_filter P test xs all.1)

with_option : {Y : Type 0} (P : Y → Type 0) (given r : Option Y) (ys : List Y) → given ≡ r → ((y : Y) → given ≡ Some y → P y) → AllByRecursion P ys → AllByRecursion P (cons_option r ys)
with_option P given None ys e each all = all
with_option P given (Some y) ys e each all = (each y e, all)

-- where each item that gives something gives what holds
pub all_filter_map : {X Y : Type 0} (P : X → Type 0) (Q : Y → Type 0) (h : X → Option Y) → ((x : X) → P x → (y : Y) → h x ≡ Some y → Q y) → (xs : List X) → AllByRecursion P xs → AllByRecursion Q (filter_map h xs)
all_filter_map P Q h each [] all = tt
all_filter_map P Q h each (x ∷ xs) all = with_option Q (h x) (h x) (filter_map h xs) refl (each x all.0) (all_filter_map P Q h each xs all.1)

pub numbered : {X : Type 0} (P : X → Type 0) (n : ℕ) (xs : List X) → AllByRecursion P xs → AllByRecursion (λ placed. P placed.1) (enumerate_from n xs)
numbered P n [] all = tt
numbered P n (x ∷ xs) all = (all.0, numbered P (n + 1) xs all.1)

-- the numbers are below the number behind the last
pub numbers_below : {X : Type 0} (n width : ℕ) (xs : List X) → n + length xs ≤ width → AllByRecursion (λ (placed : ℕ × X). placed.0 < width) (enumerate_from n xs)
numbers_below n width [] h = tt
numbers_below n width (x ∷ xs) h = (omega (arith, h), numbers_below (n + 1) width xs (omega (arith, h)))

pub all_if : {X : Type 0} (P : X → Type 0) (b : Bool) (xs : List X) → (b ≡ true → AllByRecursion P xs) → AllByRecursion P (cond b xs [])
all_if P true xs all = all refl
all_if P false xs all = tt
