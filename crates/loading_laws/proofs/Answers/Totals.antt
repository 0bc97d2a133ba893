-- The steps of a select where nothing is refused: filters and maps of whole lists.
use Rattle.std.proofs.Common.{◌≡◌, Bool, true, false, ◌&&◌, List, [], ◌∷◌, ◌++◌, map, filter, Ok, if◌then◌else◌, refl, sym, ap, ◌∙◌, append_assoc, append-nil}
use Rattle.base_core.specs.declared.value.Value.{Value}
use Rattle.sql_semantics.specs.Checked.{Checked, ◌>>=◌}
use Rattle.sql_semantics.specs.Truth.{passes}
use Rattle.sql_semantics.specs.Eval.{Meaning, Place, all_from}
use Rattle.sql_semantics.specs.Rows.{kept_from, mapped_from}

one_more : {A : Type 0} (b : Bool) (done : List A) (x : A) (rest : List A) → (if b then done ++ x ∷ [] else done) ++ rest ≡ done ++ (if b then x ∷ rest else rest)
one_more true done x rest = append_assoc done (x ∷ []) rest
one_more false done x rest = refl

-- the test gives a value, which passes where this is true
abbrev pub IsTest : {A : Type 0} → (A → Checked Value) → (A → Bool) → A → Type 0
IsTest test holds x = (v : Value) × (test x ≡ Ok v) × (passes v ≡ holds x)

-- such a test filters
pub kept_where : {A : Type 0} (test : A → Checked Value) (holds : A → Bool) → ((x : A) → IsTest test holds x) → (done xs : List A) → kept_from test done xs ≡ Ok (done ++ filter holds xs)
kept_where test holds tells done [] = ap Ok (sym (append-nil done))
kept_where test holds tells done (x ∷ xs) =
    let told = tells x in
    ap (λ r. r >>= λ w. kept_from test (if passes w then done ++ x ∷ [] else done) xs) told.1
    ∙ ap (λ (b : Bool). kept_from test (if b then done ++ x ∷ [] else done) xs) told.2
    ∙ kept_where test holds tells (if holds x then done ++ x ∷ [] else done) xs
    ∙ ap Ok (one_more (holds x) done x (filter holds xs))

-- the values of several operands
pub values_of_all : {E : Type 0} (p : Place) (m : E → Meaning) (v : E → Value) → ((e : E) → m e p ≡ Ok (v e)) → (done : List Value) (es : List E) → all_from p done (map m es) ≡ Ok (done ++ map v es)
values_of_all p m v told done [] = ap Ok (sym (append-nil done))
values_of_all p m v told done (e ∷ es) =
    ap (λ r. r >>= λ w. all_from p (done ++ w ∷ []) (map m es)) (told e) ∙ values_of_all p m v told (done ++ v e ∷ []) es ∙ ap Ok (append_assoc done (v e ∷ []) (map v es))

-- what each gives, of items that are made of others
pub mapped_over : {A B X : Type 0} (f : X → Checked B) (h : A → X) (g : A → B) → ((x : A) → f (h x) ≡ Ok (g x)) → (done : List B) (xs : List A) → mapped_from f done (map h xs) ≡ Ok (done ++ map g xs)
mapped_over f h g told done [] = ap Ok (sym (append-nil done))
mapped_over f h g told done (x ∷ xs) =
    ap (λ r. r >>= λ y. mapped_from f (done ++ y ∷ []) (map h xs)) (told x) ∙ mapped_over f h g told (done ++ g x ∷ []) xs ∙ ap Ok (append_assoc done (g x ∷ []) (map g xs))

pub map_twice : {A B C : Type 0} (f : B → C) (g : A → B) (xs : List A) → map f (map g xs) ≡ map (λ x. f (g x)) xs
map_twice f g [] = refl
map_twice f g (x ∷ xs) = ap (λ ys. f (g x) ∷ ys) (map_twice f g xs)

-- a filter of what was made of items is made of a filter of these
pub filter_map : {A B : Type 0} (p : B → Bool) (h : A → B) (xs : List A) → filter p (map h xs) ≡ map h (filter (λ x. p (h x)) xs)
filter_map p h [] = refl
filter_map {A = A} {B = B} p h (x ∷ xs) = by (p (h x)) (filter p (map h xs)) (filter (λ x. p (h x)) xs) (filter_map p h xs)
  where
    by : (b : Bool) (ys : List B) (zs : List A) → ys ≡ map h zs → (if b then h x ∷ ys else ys) ≡ map h (if b then x ∷ zs else zs)
    by true ys zs e = ap (λ l. h x ∷ l) e
    by false ys zs e = e

pub filter_same : {A : Type 0} (p q : A → Bool) (xs : List A) → ((x : A) → p x ≡ q x) → filter p xs ≡ filter q xs
filter_same p q [] same = refl
filter_same p q (x ∷ xs) same = ap (λ (b : Bool). if b then x ∷ filter p xs else filter p xs) (same x) ∙ ap (λ ys. if q x then x ∷ ys else ys) (filter_same p q xs same)

both_kept : {A : Type 0} (c : Bool) (x : A) (ys zs : List A) → ys ≡ zs → (if c then x ∷ ys else ys) ≡ (if c && true then x ∷ zs else zs)
both_kept true x ys zs is = ap (λ xs. x ∷ xs) is
both_kept false x ys zs is = is

one_left : {A : Type 0} (c : Bool) (x : A) (ys zs : List A) → ys ≡ zs → ys ≡ (if c && false then x ∷ zs else zs)
one_left true x ys zs is = is
one_left false x ys zs is = is

both_by : {A : Type 0} (p : A → Bool) (b : Bool) (x : A) (ys zs : List A) → filter p ys ≡ zs → filter p (if b then x ∷ ys else ys) ≡ (if p x && b then x ∷ zs else zs)
both_by p true x ys zs is = both_kept (p x) x (filter p ys) zs is
both_by p false x ys zs is = one_left (p x) x (filter p ys) zs is

-- a filter of a filter keeps what passes both
pub filter_twice : {A : Type 0} (p q : A → Bool) (xs : List A) → filter p (filter q xs) ≡ filter (λ x. p x && q x) xs
filter_twice p q [] = refl
filter_twice p q (x ∷ xs) = both_by p (q x) x (filter q xs) (filter (λ x. p x && q x) xs) (filter_twice p q xs)
