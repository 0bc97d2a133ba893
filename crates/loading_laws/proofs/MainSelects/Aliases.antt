-- A free alias is none of the names that are taken: of more aliases than there are names one is free.
use Rattle.std.proofs.Common.{◌≡◌, ◌⊎◌, inl, inr, ℕ, zero, suc, ◌+◌, ◌-◌, ◌<◌, ◌≤◌, ◌^◌, Bool, true, false, not, ◌||◌, cond, List, [], ◌∷◌, length, find, Option, None, Some, refl, sym, ap, ◌∙◌, arith, decimal}
use Rattle.std.specs.Prelude.{nat_le, unwrap_or}
use Rattle.std.specs.List.{range_with_len}
use Rattle.std.proofs.lemmas.Bool.{leb-false, leb-true}
use Rattle.std.proofs.lemmas.Fmt.{decimal_injective}
use Rattle.std.proofs.lemmas.List.{append_cancel_left}
use Rattle.std.proofs.lemmas.List.FromFn.{get_or-range_with_len, length-range_with_len}
use Rattle.std.proofs.lemmas.Option.{slice_get-get_or}
use Rattle.schema_core.specs.Catalog.{has_name, same_name}
use Rattle.schema_core.proofs.Names.{same_names}
use Rattle.class_mapping.proofs.Having.{Has, has_at}
use Rattle.class_mapping.proofs.RelatedKeys.{find_has}
use Rattle.mapping_laws.proofs.Tables.{twice_not}
use Rattle.collection_selects.proofs.Pairs.Led.{was_false}
use Rattle.alias_names.specs.Names.{alias_of, free_alias, is_free}

abbrev Names : Type 0
Names = List (List ℕ)

-- ---- how many of the numbers from 1 on pass a test

abbrev count : (ℕ → Bool) → ℕ → ℕ
count test zero = 0
count test (suc k) = count test k + cond (test (suc k)) 1 0

more_of_two : (p q : Bool) (l m n : ℕ) → l ≤ m + n → l + cond (p || q) 1 0 ≤ (m + cond p 1 0) + (n + cond q 1 0)
more_of_two true true l m n h = omega (arith, h)
more_of_two true false l m n h = omega (arith, h)
more_of_two false true l m n h = omega (arith, h)
more_of_two false false l m n h = omega (arith, h)

count_two : (a b : ℕ → Bool) (k : ℕ) → count (λ i. a i || b i) k ≤ count a k + count b k
count_two a b zero = omega arith
count_two a b (suc k) = more_of_two (a (suc k)) (b (suc k)) (count (λ i. a i || b i) k) (count a k) (count b k) (count_two a b k)

count_none : (test : ℕ → Bool) (k : ℕ) → ((i : ℕ) → i ≤ k → test i ≡ false) → count test k ≡ 0
count_none test zero h = refl
count_none test (suc k) h = ap (λ (b : Bool). count test k + cond b 1 0) (h (suc k) (omega arith)) ∙ ap (λ (n : ℕ). n + 0) (count_none test k (λ i less. h i (omega (arith, less))))

count_one : (test : ℕ → Bool) (k : ℕ) → ((i j : ℕ) → i < j → j ≤ k → test j ≡ true → test i ≡ false) → count test k ≤ 1
count_one test zero h = omega arith
count_one test (suc k) h = by (test (suc k)) refl (count_one test k (λ i j less most. h i j less (omega (arith, most))))
  where
    by : (b : Bool) → test (suc k) ≡ b → count test k ≤ 1 → count test k + cond b 1 0 ≤ 1
    by true is before = let none = count_none test k (λ i less. h i (suc k) (omega (arith, less)) (omega arith) is) in omega (arith, none)
    by false is before = omega (arith, before)

count_all : (test : ℕ → Bool) (k : ℕ) → ((i : ℕ) → 1 ≤ i → i ≤ k → test i ≡ true) → count test k ≡ k
count_all test zero h = refl
count_all test (suc k) h =
    let all = count_all test k (λ i some less. h i some (omega (arith, less))) in
    ap (λ (b : Bool). count test k + cond b 1 0) (h (suc k) (omega arith) (omega arith)) ∙ omega (arith, all)

-- ---- different names among others

-- no two of the numbers have one name
abbrev AreApart : (ℕ → List ℕ) → ℕ → Type 0
AreApart name k = (i j : ℕ) → i < j → j ≤ k → name i ≡ name j → ⊥

one_of_them : (name : ℕ → List ℕ) (k : ℕ) (other : List ℕ) → AreApart name k → count (λ i. same_name other (name i)) k ≤ 1
one_of_them name k other apart = count_one (λ i. same_name other (name i)) k (λ i j less most is. by i j less most is (same_name other (name i)) refl)
  where
    by : (i j : ℕ) → i < j → j ≤ k → same_name other (name j) ≡ true → (b : Bool) → same_name other (name i) ≡ b → b ≡ false
    by i j less most is true first = absurd (apart i j less most (sym (same_names other (name i) first) ∙ same_names other (name j) is))
    by i j less most is false first = refl

-- no more of them are among names than there are names
no_more : (name : ℕ → List ℕ) (k : ℕ) (names : Names) → AreApart name k → count (λ i. has_name names (name i)) k ≤ length names
no_more name k [] apart = let none = count_none (λ i. has_name [] (name i)) k (λ i less. refl) in omega (arith, none)
no_more name k (other ∷ names) apart =
    let one = one_of_them name k other apart in
    let rest = no_more name k names apart in
    let both = count_two (λ i. same_name other (name i)) (λ i. has_name names (name i)) k in
    omega (arith, one, rest, both)

-- ---- aliases

aliases_apart : (name : List ℕ) (k : ℕ) → k < 2 ^ 64 → AreApart (alias_of name) k
aliases_apart name k few i j less most same =
    let numbers : 95 ∷ decimal i ≡ 95 ∷ decimal j = append_cancel_left name (95 ∷ decimal i) (95 ∷ decimal j) same in
    let tails : decimal i ≡ decimal j = cc in
    let equal = decimal_injective i j (omega (arith, less, most, few)) (omega (arith, most, few)) tails in
    omega (arith, less, equal)

none_found : {A : Type 0} (test : A → Bool) (xs : List A) → find test xs ≡ None → (x : A) → Has xs x → test x ≡ false
none_found {A = A} test [] h x has = absurd has
none_found {A = A} test (y ∷ xs) h x has = by (test y) refl h has (λ e later. none_found test xs e x later)
  where
    by : (b : Bool) → test y ≡ b → cond b (Some y) (find test xs) ≡ None → (y ≡ x) ⊎ Has xs x → (find test xs ≡ None → Has xs x → test x ≡ false) → test x ≡ false
    by true is e which rest = absurd cc
    by false is e (inl same) rest = ap test (sym same) ∙ is
    by false is e (inr later) rest = rest e later

in_range : (n i : ℕ) → 1 ≤ i → i ≤ n → Has (range_with_len 1 n) i
in_range n i some most =
    let k : ℕ = i - 1 in
    let less : k < n = omega (arith, some, most) in
    let whole : 1 + k ≡ i = omega (arith, some) in
    let long = length-range_with_len 1 n in
    has_at (range_with_len 1 n) k i (slice_get-get_or (range_with_len 1 n) k 0 (omega (arith, less, long)) ∙ ap (λ (m : ℕ). Some m) (get_or-range_with_len 1 n k 0 less ∙ whole))

pub alias_is_free : (taken : Names) (name : List ℕ) → length taken + 1 < 2 ^ 64 → has_name taken (free_alias taken name) ≡ false
alias_is_free taken name few = by (find (is_free taken name) (range_with_len 1 (length taken))) refl
  where
    is_taken : ℕ → Bool
    is_taken i = has_name taken (alias_of name i)

    each : (i : ℕ) → 1 ≤ i → i ≤ suc (length taken) → (low : Bool) → nat_le i (length taken) ≡ low → is_taken (length taken + 1) ≡ true → find (is_free taken name) (range_with_len 1 (length taken)) ≡ None → is_taken i ≡ true
    each i some most true low is none = twice_not (is_taken i) (ap not (none_found (is_free taken name) (range_with_len 1 (length taken)) none i (in_range (length taken) i some (leb-true i (length taken) low))))
    each i some most false low is none =
        let above = leb-false i (length taken) low in
        let same : i ≡ length taken + 1 = omega (arith, most, above) in
        ap is_taken same ∙ is

    last : (b : Bool) → is_taken (length taken + 1) ≡ b → find (is_free taken name) (range_with_len 1 (length taken)) ≡ None → b ≡ false
    last true is none =
        let all : count is_taken (suc (length taken)) ≡ suc (length taken) = count_all is_taken (suc (length taken)) (λ i some most. each i some most (nat_le i (length taken)) refl is none) in
        let most = no_more (alias_of name) (suc (length taken)) taken (aliases_apart name (suc (length taken)) (omega (arith, few))) in
        absurd (omega (arith, all, most))
    last false is none = refl

    by : (found : Option ℕ) → find (is_free taken name) (range_with_len 1 (length taken)) ≡ found → has_name taken (alias_of name (unwrap_or found (length taken + 1))) ≡ false
    by (Some i) is = was_false (is_taken i) (find_has (is_free taken name) (range_with_len 1 (length taken)) i is).1
    by None is = last (is_taken (length taken + 1)) refl is
