-- The items of a list, and what is known of each.
use Rattle.std.proofs.Common.{◌≡◌, ◌⊎◌, inl, inr, ℕ, zero, suc, ◌+◌, Bool, true, false, cond, not, ◌||◌, List, [], ◌∷◌, ◌++◌, ◌∙◌, length, map, filter, ap, sym, refl, subst, None, Some, nat_lt, arith}
use Rattle.std.specs.Prelude.{find, slice_get}
use Rattle.std.specs.List.{AllByRecursion, enumerate_from, flat_map, list_all, list_any, position, position_or_len}
use Rattle.std.proofs.lemmas.Bool.{lt-ltb, or_left as or_here, or_right as or_there}
use Rattle.std.proofs.lemmas.List.Folds.{find_at}
use Rattle.std.proofs.lemmas.Option.{same_Some, slice_get_within}
use Rattle.schema_core.specs.Catalog.{same_name}
use Rattle.schema_core.specs.Declaration.{some_two}
use Rattle.schema_core.proofs.Names.{same_names, name_itself}
use Rattle.class_mapping.proofs.Lists.{and_left, and_right, or_left, or_none, or_right}

-- the item stands in the list
abbrev pub Has : {A : Type 0} → List A → A → Type 0
Has [] x = ⊥
Has (y ∷ ys) x = (y ≡ x) ⊎ Has ys x

pub has_left : {A : Type 0} (xs ys : List A) (z : A) → Has xs z → Has (xs ++ ys) z
has_left [] ys z h = absurd h
has_left (x ∷ xs) ys z (inl e) = inl e
has_left (x ∷ xs) ys z (inr h) = inr (has_left xs ys z h)

pub has_right : {A : Type 0} (xs ys : List A) (z : A) → Has ys z → Has (xs ++ ys) z
has_right [] ys z h = h
has_right (x ∷ xs) ys z h = inr (has_right xs ys z h)

or_later : {A : Type 0} (x : A) (xs ys : List A) (z : A) → Has xs z ⊎ Has ys z → Has (x ∷ xs) z ⊎ Has ys z
or_later x xs ys z (inl h) = inl (inr h)
or_later x xs ys z (inr h) = inr h

pub has_either : {A : Type 0} (xs ys : List A) (z : A) → Has (xs ++ ys) z → Has xs z ⊎ Has ys z
has_either [] ys z h = inr h
has_either (x ∷ xs) ys z (inl e) = inl (inl e)
has_either (x ∷ xs) ys z (inr h) = or_later x xs ys z (has_either xs ys z h)

pub has_map : {A B : Type 0} (f : A → B) (xs : List A) (x : A) → Has xs x → Has (map f xs) (f x)
has_map f [] x h = absurd h
has_map f (y ∷ xs) x (inl e) = inl (ap f e)
has_map f (y ∷ xs) x (inr h) = inr (has_map f xs x h)

pub from_map : {A B : Type 0} (f : A → B) (xs : List A) (y : B) → Has (map f xs) y → (x : A) × Has xs x × (f x ≡ y)
from_map f [] y h = absurd h
from_map f (x ∷ xs) y (inl e) = (x, inl refl, e)
from_map f (x ∷ xs) y (inr h) = let more = from_map f xs y h in (more.0, inr more.1, more.2)

keep_here : {A : Type 0} (b : Bool) (y x : A) (rest : List A) → b ≡ true → y ≡ x → Has (cond b (y ∷ rest) rest) x
keep_here true y x rest h e = inl e
keep_here false y x rest h e = absurd cc

keep_later : {A : Type 0} (b : Bool) (y x : A) (rest : List A) → Has rest x → Has (cond b (y ∷ rest) rest) x
keep_later true y x rest h = inr h
keep_later false y x rest h = h

pub has_filter : {A : Type 0} (test : A → Bool) (xs : List A) (x : A) → Has xs x → test x ≡ true → Has (filter test xs) x
has_filter test [] x h t = absurd h
has_filter test (y ∷ xs) x (inl e) t = keep_here (test y) y x (filter test xs) (ap test e ∙ t) e
has_filter test (y ∷ xs) x (inr h) t = keep_later (test y) y x (filter test xs) (has_filter test xs x h t)

kept_from : {A : Type 0} (test : A → Bool) (b : Bool) (y : A) (xs : List A) (x : A) → test y ≡ b → (Has (filter test xs) x → Has xs x × (test x ≡ true)) → Has (cond b (y ∷ filter test xs) (filter test xs)) x → Has (y ∷ xs) x × (test x ≡ true)
kept_from test true y xs x is more (inl e) = (inl e, ap test (sym e) ∙ is)
kept_from test true y xs x is more (inr h) = let rest = more h in (inr rest.0, rest.1)
kept_from test false y xs x is more h = let rest = more h in (inr rest.0, rest.1)

pub from_filter : {A : Type 0} (test : A → Bool) (xs : List A) (x : A) → Has (filter test xs) x → Has xs x × (test x ≡ true)
from_filter test [] x h = absurd h
from_filter test (y ∷ xs) x h = kept_from test (test y) y xs x refl (from_filter test xs x) h

pub has_flat : {A B : Type 0} (f : A → List B) (xs : List A) (x : A) (y : B) → Has xs x → Has (f x) y → Has (flat_map f xs) y
has_flat f [] x y h g = absurd h
has_flat f (z ∷ xs) x y (inl e) g = has_left (f z) (flat_map f xs) y (subst (λ a. Has (f a) y) (sym e) g)
has_flat f (z ∷ xs) x y (inr h) g = has_right (f z) (flat_map f xs) y (has_flat f xs x y h g)

flat_by : {A B : Type 0} (f : A → List B) (z : A) (xs : List A) (y : B) → Has (f z) y ⊎ Has (flat_map f xs) y → (Has (flat_map f xs) y → (x : A) × Has xs x × Has (f x) y) → (x : A) × Has (z ∷ xs) x × Has (f x) y
flat_by f z xs y (inl here) rest = (z, inl refl, here)
flat_by f z xs y (inr later) rest = let more = rest later in (more.0, inr more.1, more.2)

pub from_flat : {A B : Type 0} (f : A → List B) (xs : List A) (y : B) → Has (flat_map f xs) y → (x : A) × Has xs x × Has (f x) y
from_flat f [] y h = absurd h
from_flat f (z ∷ xs) y h = flat_by f z xs y (has_either (f z) (flat_map f xs) y h) (λ later. from_flat f xs y later)

pub has_at : {A : Type 0} (xs : List A) (n : ℕ) (x : A) → slice_get xs n ≡ Some x → Has xs x
has_at [] n x e = absurd cc
has_at (y ∷ xs) zero x e = inl (same_Some y x e)
has_at (y ∷ xs) (suc n) x e = inr (has_at xs n x e)

-- the item at a place from a number on
pub from_numbered : {A : Type 0} (n : ℕ) (xs : List A) (placed : ℕ × A) → Has (enumerate_from n xs) placed → (i : ℕ) × (placed.0 ≡ n + i) × (slice_get xs i ≡ Some placed.1)
from_numbered n [] placed h = absurd h
from_numbered {A = A} n (x ∷ xs) placed (inl e) =
    let first : placed.0 ≡ n = ap (λ (p : ℕ × A). p.0) (sym e) in
    let same : placed.0 ≡ n + 0 = omega (arith, first) in
    (0, same, ap (λ (p : ℕ × A). Some p.1) e)
from_numbered n (x ∷ xs) placed (inr h) =
    let more = from_numbered (n + 1) xs placed h in
    let later : placed.0 ≡ n + 1 + more.0 = more.1 in
    let same : placed.0 ≡ n + suc more.0 = omega (arith, later) in
    (suc more.0, same, more.2)

pair_path : {A B : Type 0} (a b : A) (x y : B) → a ≡ b → x ≡ y → (let one : A × B = (a, x) in one ≡ (b, y))
pair_path a b x y p q = λ i. (p i, q i)

pub has_numbered : {A : Type 0} (n : ℕ) (xs : List A) (i : ℕ) (x : A) → slice_get xs i ≡ Some x → Has (enumerate_from n xs) (n + i, x)
has_numbered n [] i x e = absurd cc
has_numbered n (y ∷ xs) zero x e = let same : n ≡ n + 0 = omega arith in inl (pair_path n (n + 0) y x same (same_Some y x e))
has_numbered n (y ∷ xs) (suc i) x e =
    let same : n + 1 + i ≡ n + suc i = omega arith in
    inr (subst (λ (k : ℕ). Has (enumerate_from (n + 1) xs) (k, x)) same (has_numbered (n + 1) xs i x e))

-- ---- tests

pub all_of : {A : Type 0} (p : A → Bool) (xs : List A) (x : A) → list_all p xs ≡ true → Has xs x → p x ≡ true
all_of p [] x h g = absurd g
all_of p (y ∷ xs) x h (inl e) = ap p (sym e) ∙ and_left (p y) (list_all p xs) h
all_of p (y ∷ xs) x h (inr g) = all_of p xs x (and_right (p y) (list_all p xs) h) g

pub none_of : {A : Type 0} (p : A → Bool) (xs : List A) (x : A) → list_any p xs ≡ false → Has xs x → p x ≡ false
none_of p [] x h g = absurd g
none_of p (y ∷ xs) x h (inl e) = ap p (sym e) ∙ or_left (p y) (list_any p xs) h
none_of p (y ∷ xs) x h (inr g) = none_of p xs x (or_right (p y) (list_any p xs) h) g

any_if : {A : Type 0} (p : A → Bool) (b : Bool) (y : A) (xs : List A) → p y ≡ b → (b || list_any p xs) ≡ true → (list_any p xs ≡ true → (x : A) × Has xs x × (p x ≡ true)) → (x : A) × Has (y ∷ xs) x × (p x ≡ true)
any_if p true y xs is h more = (y, inl refl, is)
any_if p false y xs is h more = let rest = more h in (rest.0, inr rest.1, rest.2)

pub some_of : {A : Type 0} (p : A → Bool) (xs : List A) → list_any p xs ≡ true → (x : A) × Has xs x × (p x ≡ true)
some_of p [] h = absurd cc
some_of p (y ∷ xs) h = any_if p (p y) y xs refl h (some_of p xs)

pub any_has : {A : Type 0} (p : A → Bool) (xs : List A) (x : A) → Has xs x → p x ≡ true → list_any p xs ≡ true
any_has p [] x h g = absurd h
any_has p (y ∷ xs) x (inl e) g = or_here (p y) (list_any p xs) (ap p e ∙ g)
any_has p (y ∷ xs) x (inr h) g = or_there (p y) (list_any p xs) (any_has p xs x h g)

pub all_from : {A : Type 0} (P : A → Type 0) (xs : List A) → ((x : A) → Has xs x → P x) → AllByRecursion P xs
all_from P [] f = tt
all_from P (y ∷ xs) f = (f y (inl refl), all_from P xs (λ x h. f x (inr h)))

-- ---- names

pub named_alike : (one other : List ℕ) → one ≡ other → same_name one other ≡ true
named_alike one other e = ap (same_name one) (sym e) ∙ name_itself one

pub true_false : {A : Type 0} (b : Bool) → b ≡ true → b ≡ false → A
true_false b h g = absurd cc

-- no two have one name, so two of one name are one
pub one_of_name : {A : Type 0} (f : A → List ℕ) (xs : List A) (x y : A) → some_two same_name (map f xs) ≡ false → Has xs x → Has xs y → f x ≡ f y → x ≡ y
one_of_name f [] x y h g k e = absurd g
one_of_name f (z ∷ xs) x y h (inl p) (inl q) e = sym p ∙ q
one_of_name f (z ∷ xs) x y h (inl p) (inr k) e =
    true_false (list_any (λ later. same_name later (f z)) (map f xs))
    (any_has (λ later. same_name later (f z)) (map f xs) (f y) (has_map f xs y k) (named_alike (f y) (f z) (sym e ∙ sym (ap f p))))
    (or_left (list_any (λ later. same_name later (f z)) (map f xs)) (some_two same_name (map f xs)) h)
one_of_name f (z ∷ xs) x y h (inr g) (inl q) e =
    true_false (list_any (λ later. same_name later (f z)) (map f xs))
    (any_has (λ later. same_name later (f z)) (map f xs) (f x) (has_map f xs x g) (named_alike (f x) (f z) (e ∙ sym (ap f q))))
    (or_left (list_any (λ later. same_name later (f z)) (map f xs)) (some_two same_name (map f xs)) h)
one_of_name f (z ∷ xs) x y h (inr g) (inr k) e =
    one_of_name f xs x y (or_right (list_any (λ later. same_name later (f z)) (map f xs)) (some_two same_name (map f xs)) h) g k e

any_before : (name : List ℕ) (xs ys : List (List ℕ)) → list_any (λ later. same_name later name) (xs ++ ys) ≡ false → list_any (λ later. same_name later name) xs ≡ false
any_before name [] ys h = refl
any_before name (x ∷ xs) ys h =
    or_none (same_name x name) (list_any (λ later. same_name later name) xs) (or_left (same_name x name) (list_any (λ later. same_name later name) (xs ++ ys)) h)
    (any_before name xs ys (or_right (same_name x name) (list_any (λ later. same_name later name) (xs ++ ys)) h))

-- where no two of a list have one name, no two of its first part have
pub two_before : (xs ys : List (List ℕ)) → some_two same_name (xs ++ ys) ≡ false → some_two same_name xs ≡ false
two_before [] ys h = refl
two_before (x ∷ xs) ys h =
    or_none (list_any (λ later. same_name later x) xs) (some_two same_name xs)
    (any_before x xs ys (or_left (list_any (λ later. same_name later x) (xs ++ ys)) (some_two same_name (xs ++ ys)) h))
    (two_before xs ys (or_right (list_any (λ later. same_name later x) (xs ++ ys)) (some_two same_name (xs ++ ys)) h))

-- ---- the first of a test

found_if : {A : Type 0} (p : A → Bool) (b : Bool) (y : A) (xs : List A) → p y ≡ b → (b || list_any p xs) ≡ true → (list_any p xs ≡ true → (x : A) × (find p xs ≡ Some x) × Has xs x × (p x ≡ true)) → (x : A) × (cond b (Some y) (find p xs) ≡ Some x) × Has (y ∷ xs) x × (p x ≡ true)
found_if p true y xs is h more = (y, refl, inl refl, is)
found_if p false y xs is h more = let rest = more h in (rest.0, rest.1, inr rest.2, rest.3)

pub found_of : {A : Type 0} (p : A → Bool) (xs : List A) → list_any p xs ≡ true → (x : A) × (find p xs ≡ Some x) × Has xs x × (p x ≡ true)
found_of p [] h = absurd cc
found_of p (y ∷ xs) h = found_if p (p y) y xs refl h (found_of p xs)

pub place_in_map : {A B : Type 0} (p : B → Bool) (f : A → B) (xs : List A) → position_or_len p (map f xs) ≡ position_or_len (λ x. p (f x)) xs
place_in_map p f [] = refl
place_in_map p f (x ∷ xs) = ap (λ n. cond (not (p (f x))) (1 + n) 0) (place_in_map p f xs)

long_map : {A B : Type 0} (f : A → B) (xs : List A) → length (map f xs) ≡ length xs
long_map f [] = refl
long_map f (x ∷ xs) = ap suc (long_map f xs)

first_place : (m l n k : ℕ) → m ≡ n → l ≡ k → nat_lt n k ≡ true → cond (nat_lt m l) (Some m) None ≡ Some n
first_place m l n k same alike h =
    ap (λ (a : ℕ). cond (nat_lt a l) (Some a) None) same ∙ ap (λ (b : ℕ). cond (nat_lt n b) (Some n) None) alike ∙ ap (λ (t : Bool). cond t (Some n) None) h

-- an item of a name stands at the place of the name, and one of that name is found there
pub found_at_name : {A : Type 0} (f : A → List ℕ) (xs : List A) (x : A) (name : List ℕ) → Has xs x → f x ≡ name
    → (n : ℕ) × (position (λ other. same_name other name) (map f xs) ≡ Some n) × (y : A) × (slice_get xs n ≡ Some y) × Has xs y × (f y ≡ name)
found_at_name {A = A} f xs x name has e =
    let q : A → Bool = λ y. same_name (f y) name in
    let found = found_of q xs (any_has q xs x has (named_alike (f x) name e)) in
    let n : ℕ = position_or_len q xs in
    let here : slice_get xs n ≡ Some found.0 = sym (find_at q xs) ∙ found.1 in
    let within : nat_lt n (length xs) ≡ true = lt-ltb n (length xs) (slice_get_within xs n found.0 here) in
    (n, first_place (position_or_len (λ other. same_name other name) (map f xs)) (length (map f xs)) n (length xs) (place_in_map (λ other. same_name other name) f xs) (long_map f xs) within, found.0, here, found.2, same_names (f found.0) name found.3)
