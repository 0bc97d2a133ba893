-- What holds of each item of a list, and of the one that is found.
use Rattle.std.proofs.Common.{◌≡◌, ℕ, ◌+◌, Bool, true, false, not, ◌&&◌, ◌||◌, cond, List, [], ◌∷◌, ◌++◌, map, filter, refl, Option, None, Some, if◌then◌else◌}
use Rattle.std.specs.Prelude.{find, is_none, is_some}
use Rattle.std.specs.List.{AllByRecursion, enumerate_from, flat_map, list_all, list_any}
use Rattle.class_mapping.specs.Valid.{holds_of}

-- ---- options

pub none_is : {A : Type 0} (o : Option A) → is_none o ≡ true → o ≡ None
none_is None h = refl
none_is (Some x) h = absurd cc

pub some_is : {A : Type 0} (o : Option A) → is_some o ≡ true → (x : A) × (o ≡ Some x)
some_is None h = absurd cc
some_is (Some x) h = (x, refl)

-- ---- tests

pub and_left : (a b : Bool) → (a && b) ≡ true → a ≡ true
and_left true b h = refl
and_left false b h = absurd cc

pub and_right : (a b : Bool) → (a && b) ≡ true → b ≡ true
and_right true b h = h
and_right false b h = absurd cc

pub and_both : (a b : Bool) → a ≡ true → b ≡ true → (a && b) ≡ true
and_both true b p q = q
and_both false b p q = absurd cc

pub and_three : (a b c : Bool) → a ≡ true → b ≡ true → c ≡ true → (a && b && c) ≡ true
and_three true true c p q r = r
and_three true false c p q r = absurd cc
and_three false b c p q r = absurd cc

pub or_left : (a b : Bool) → (a || b) ≡ false → a ≡ false
or_left true b h = absurd cc
or_left false b h = refl

pub or_right : (a b : Bool) → (a || b) ≡ false → b ≡ false
or_right true b h = absurd cc
or_right false b h = h

pub or_none : (a b : Bool) → a ≡ false → b ≡ false → (a || b) ≡ false
or_none true b p q = absurd cc
or_none false b p q = q

pub and_every : (a b c d : Bool) → a ≡ true → b ≡ true → c ≡ true → d ≡ true → (a && b && c && d) ≡ true
and_every true true true d p q r s = s
and_every true true false d p q r s = absurd cc
and_every true false c d p q r s = absurd cc
and_every false b c d p q r s = absurd cc

-- what three that hold together give
pub three_parts : {A : Type 0} (a b c : Bool) → (a && b && c) ≡ true → (a ≡ true → b ≡ true → c ≡ true → A) → A
three_parts true true true h f = f refl refl refl
three_parts true true false h f = absurd cc
three_parts true false c h f = absurd cc
three_parts false b c h f = absurd cc

-- the first of a choice of four fails, and the second
pub or_four : (a b c d : Bool) → (a || b || c || d) ≡ false → (a ≡ false) × (b ≡ false)
or_four true b c d h = absurd cc
or_four false true c d h = absurd cc
or_four false false c d h = (refl, refl)

-- the first and the third of four hold
pub and_four : (a b c d : Bool) → (a && b && c && d) ≡ true → (a ≡ true) × (c ≡ true)
and_four true true true d h = (refl, refl)
and_four true true false d h = absurd cc
and_four true false c d h = absurd cc
and_four false b c d h = absurd cc

-- ---- all items

pub all_append : {A : Type 0} (p : A → Bool) (xs ys : List A) → list_all p xs ≡ true → list_all p ys ≡ true → list_all p (xs ++ ys) ≡ true
all_append p [] ys h g = g
all_append p (x ∷ xs) ys h g =
    and_both (p x) (list_all p (xs ++ ys)) (and_left (p x) (list_all p xs) h) (all_append p xs ys (and_right (p x) (list_all p xs) h) g)

pub all_map : {A B : Type 0} (p : B → Bool) (f : A → B) → ((x : A) → p (f x) ≡ true) → (xs : List A) → list_all p (map f xs) ≡ true
all_map p f h [] = refl
all_map p f h (x ∷ xs) = and_both (p (f x)) (list_all p (map f xs)) (h x) (all_map p f h xs)

pub all_flat : {A B : Type 0} (p : B → Bool) (f : A → List B) (had : A → Bool) → ((x : A) → had x ≡ true → list_all p (f x) ≡ true)
    → (xs : List A) → list_all had xs ≡ true → list_all p (flat_map f xs) ≡ true
all_flat p f had g [] h = refl
all_flat p f had g (x ∷ xs) h =
    all_append p (f x) (flat_map f xs) (g x (and_left (had x) (list_all had xs) h)) (all_flat p f had g xs (and_right (had x) (list_all had xs) h))

pub all_true : {A : Type 0} (xs : List A) → list_all (λ x. true) xs ≡ true
all_true [] = refl
all_true (x ∷ xs) = all_true xs

pub all_numbered : {A : Type 0} (p : A → Bool) (n : ℕ) (xs : List A) → list_all p xs ≡ true → list_all (λ placed. p placed.1) (enumerate_from n xs) ≡ true
all_numbered p n [] h = refl
all_numbered p n (x ∷ xs) h =
    and_both (p x) (list_all (λ placed. p placed.1) (enumerate_from (n + 1) xs)) (and_left (p x) (list_all p xs) h)
    (all_numbered p (n + 1) xs (and_right (p x) (list_all p xs) h))

kept_step : {A B : Type 0} (p : B → Bool) (f : A → B) (b : Bool) (x : A) (rest : List A) → (b ≡ true → p (f x) ≡ true) → list_all p (map f rest) ≡ true → list_all p (map f (cond b (x ∷ rest) rest)) ≡ true
kept_step p f true x rest g h = and_both (p (f x)) (list_all p (map f rest)) (g refl) h
kept_step p f false x rest g h = h

-- the images of the items that are kept
pub all_kept : {A B : Type 0} (p : B → Bool) (f : A → B) (keeps : A → Bool) (P : A → Type 0) → ((x : A) → P x → keeps x ≡ true → p (f x) ≡ true)
    → (xs : List A) → AllByRecursion P xs → list_all p (map f (filter keeps xs)) ≡ true
all_kept p f keeps P g [] h = refl
all_kept p f keeps P g (x ∷ xs) h = kept_step p f (keeps x) x (filter keeps xs) (λ k. g x h.0 k) (all_kept p f keeps P g xs h.1)

-- where a fault is found of none
pub all_good : {A : Type 0} (bad good : A → Bool) → ((x : A) → bad x ≡ false → good x ≡ true) → (xs : List A) → list_any bad xs ≡ false → list_all good xs ≡ true
all_good bad good f [] h = refl
all_good bad good f (x ∷ xs) h =
    and_both (good x) (list_all good xs) (f x (or_left (bad x) (list_any bad xs) h)) (all_good bad good f xs (or_right (bad x) (list_any bad xs) h))

-- where a fault is found of none, and something holds of all
pub all_better : {A : Type 0} (bad had good : A → Bool) → ((x : A) → bad x ≡ false → had x ≡ true → good x ≡ true)
    → (xs : List A) → list_any bad xs ≡ false → list_all had xs ≡ true → list_all good xs ≡ true
all_better bad had good f [] h g = refl
all_better bad had good f (x ∷ xs) h g =
    and_both (good x) (list_all good xs)
    (f x (or_left (bad x) (list_any bad xs) h) (and_left (had x) (list_all had xs) g))
    (all_better bad had good f xs (or_right (bad x) (list_any bad xs) h) (and_right (had x) (list_all had xs) g))

not_false : (b : Bool) → not b ≡ false → b ≡ true
not_false true h = refl
not_false false h = absurd cc

pub all_unless : {A : Type 0} (p : A → Bool) (xs : List A) → list_any (λ x. not (p x)) xs ≡ false → list_all p xs ≡ true
all_unless p xs h = all_good (λ x. not (p x)) p (λ x k. not_false (p x) k) xs h

-- ---- no item

pub none_append : {A : Type 0} (p : A → Bool) (xs ys : List A) → list_any p xs ≡ false → list_any p ys ≡ false → list_any p (xs ++ ys) ≡ false
none_append p [] ys h g = g
none_append p (x ∷ xs) ys h g =
    or_none (p x) (list_any p (xs ++ ys)) (or_left (p x) (list_any p xs) h) (none_append p xs ys (or_right (p x) (list_any p xs) h) g)

pub none_map : {A B : Type 0} (p : B → Bool) (f : A → B) (xs : List A) → list_any (λ x. p (f x)) xs ≡ false → list_any p (map f xs) ≡ false
none_map p f [] h = refl
none_map p f (x ∷ xs) h =
    or_none (p (f x)) (list_any p (map f xs)) (or_left (p (f x)) (list_any (λ x. p (f x)) xs) h)
    (none_map p f xs (or_right (p (f x)) (list_any (λ x. p (f x)) xs) h))

pub none_flat : {A B : Type 0} (p : B → Bool) (f : A → List B) (q : A → Bool) → ((x : A) → q x ≡ false → list_any p (f x) ≡ false)
    → (xs : List A) → list_any q xs ≡ false → list_any p (flat_map f xs) ≡ false
none_flat p f q g [] h = refl
none_flat p f q g (x ∷ xs) h =
    none_append p (f x) (flat_map f xs) (g x (or_left (q x) (list_any q xs) h)) (none_flat p f q g xs (or_right (q x) (list_any q xs) h))

pub none_numbered : {A : Type 0} (p : A → Bool) (n : ℕ) (xs : List A) → list_any p xs ≡ false → list_any (λ placed. p placed.1) (enumerate_from n xs) ≡ false
none_numbered p n [] h = refl
none_numbered p n (x ∷ xs) h =
    or_none (p x) (list_any (λ placed. p placed.1) (enumerate_from (n + 1) xs)) (or_left (p x) (list_any p xs) h)
    (none_numbered p (n + 1) xs (or_right (p x) (list_any p xs) h))

-- ---- the item that is found

found_step : {A : Type 0} (good : A → Bool) (b any : Bool) (x : A) (rest : Option A) → (b || any) ≡ true → good x ≡ true → (any ≡ true → holds_of good rest ≡ true) → holds_of good (cond b (Some x) rest) ≡ true
found_step good true any x rest h g more = g
found_step good false any x rest h g more = more h

-- what holds of all holds of the one that is found
pub found_holds : {A : Type 0} (test good : A → Bool) (xs : List A) → list_any test xs ≡ true → list_all good xs ≡ true → holds_of good (find test xs) ≡ true
found_holds test good [] any all = absurd cc
found_holds test good (x ∷ xs) any all =
    found_step good (test x) (list_any test xs) x (find test xs) any (and_left (good x) (list_all good xs) all)
    (λ h. found_holds test good xs h (and_right (good x) (list_all good xs) all))

pub joined_if : (plain any holds : Bool) → (plain && not any) ≡ false → (any ≡ true → holds ≡ true) → (not plain || holds) ≡ true
joined_if true true holds h f = f refl
joined_if true false holds h f = absurd cc
joined_if false any holds h f = refl

pub covered_if : {A B : Type 0} (given : Option A) (many : Bool) (found : Option B) (good : B → Bool) → (is_some given && (not many || is_none found)) ≡ false
    → (is_none found || holds_of good found) ≡ true → (is_none given || holds_of good found) ≡ true
covered_if None many found good h g = refl
covered_if (Some x) false found good h g = absurd cc
covered_if (Some x) true None good h g = absurd cc
covered_if (Some x) true (Some y) good h g = g

pub many_if : {A : Type 0} (given : Option A) (many rest : Bool) → (is_some given && (not many || rest)) ≡ false → (is_none given || many) ≡ true
many_if None many rest h = refl
many_if (Some x) true rest h = refl
many_if (Some x) false rest h = absurd cc

pub paired_if : (back taken any : Bool) → (if back then taken else not any) ≡ false → (back || any) ≡ true
paired_if true taken any h = refl
paired_if false taken true h = refl
paired_if false taken false h = absurd cc

pub led_if : {A : Type 0} (found : Option A) (b : Bool) → (is_none found || b) ≡ false → is_some found ≡ true
led_if None b h = absurd cc
led_if (Some x) b h = refl
