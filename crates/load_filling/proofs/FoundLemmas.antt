-- The search for the first of numbered items that pass two tests.
use Rattle.std.proofs.Common.{◌≡◌, ℕ, suc, ◌+◌, ◌-◌, ◌<◌, Bool, true, false, ◌&&◌, cond, List, ◌∷◌, map, filter, Option, Some, refl, sym, ap, ◌∙◌, arith}
use Rattle.std.specs.Prelude.{find}
use Rattle.std.specs.List.{range_with_len}

-- the first item from a number on that is kept and passes
abbrev pub found_from : {A : Type 0} → (A → Bool) → (A → Bool) → (ℕ → A) → ℕ → ℕ → Option A
found_from keep test f i n = find test (filter keep (map f (range_with_len i n)))

range_left : (i n : ℕ) → i < n → range_with_len i (n - i) ≡ i ∷ range_with_len (i + 1) (n - (i + 1))
range_left i n less =
    let more : n - i ≡ suc (n - (i + 1)) = omega (arith, less) in
    ap (range_with_len i) more

first_by : {A : Type 0} (keep test : A → Bool) (x : A) (xs : List A) (b : Bool) → (keep x && test x) ≡ b → find test (filter keep (x ∷ xs)) ≡ cond b (Some x) (find test (filter keep xs))
first_by keep test x xs b e = by (keep x) (test x) refl refl e
  where
    by : (k t : Bool) → keep x ≡ k → test x ≡ t → (keep x && test x) ≡ b → find test (filter keep (x ∷ xs)) ≡ cond b (Some x) (find test (filter keep xs))
    by true true p q r =
        let is : b ≡ true = sym r ∙ ap (λ (k : Bool). k && test x) p ∙ q in
        ap (λ (k : Bool). find test (cond k (x ∷ filter keep xs) (filter keep xs))) p ∙ ap (λ (t : Bool). cond t (Some x) (find test (filter keep xs))) q
        ∙ ap (λ (c : Bool). cond c (Some x) (find test (filter keep xs))) (sym is)
    by true false p q r =
        let is : b ≡ false = sym r ∙ ap (λ (k : Bool). k && test x) p ∙ q in
        ap (λ (k : Bool). find test (cond k (x ∷ filter keep xs) (filter keep xs))) p ∙ ap (λ (t : Bool). cond t (Some x) (find test (filter keep xs))) q
        ∙ ap (λ (c : Bool). cond c (Some x) (find test (filter keep xs))) (sym is)
    by false t p q r =
        let is : b ≡ false = sym r ∙ ap (λ (k : Bool). k && test x) p in
        ap (λ (k : Bool). find test (cond k (x ∷ filter keep xs) (filter keep xs))) p ∙ ap (λ (c : Bool). cond c (Some x) (find test (filter keep xs))) (sym is)

-- where the item of a number is not kept or does not pass, the first from there on is the first from the next on
pub found_later : {A : Type 0} (keep test : A → Bool) (f : ℕ → A) (i n : ℕ) → i < n → (keep (f i) && test (f i)) ≡ false → found_from keep test f i (n - i) ≡ found_from keep test f (i + 1) (n - (i + 1))
found_later keep test f i n less h =
    ap (λ (numbers : List ℕ). find test (filter keep (map f numbers))) (range_left i n less) ∙ first_by keep test (f i) (map f (range_with_len (i + 1) (n - (i + 1)))) false h
