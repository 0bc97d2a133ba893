-- Elements that are put in one by one, each behind those that are not above it, make a sorted list with ties as they come.
use Rattle.std.proofs.Common.{◌≡◌, ℕ, zero, suc, ◌+◌, ◌<◌, ◌≤◌, Bool, true, false, cond, not, ◌&&◌, List, [], ◌∷◌, ◌++◌, length, get_or, refl, sym, ap, subst, ◌∙◌, arith}
use Rattle.std.proofs.lemmas.List.{append_assoc, append-nil}
use Rattle.std.proofs.lemmas.List.Elements.{filter-append}
use Rattle.std.proofs.lemmas.List.Sorted.{IsPermutation-refl, IsPermutation-trans, IsPermutation-cons, IsPermutation-middle, IsPermutation-append}
use Rattle.std.specs.List.{AllByRecursion, filter}
use Rattle.std.specs.List.Sorted.{IsPermutation, IsSortedBy, ties}
use Rattle.std.specs.declared.cmp.Ordering.{Ordering}
use Rattle.std.specs.declared.cmp.Ordering.TheVariants.{Less, Equal, Greater}
use Rattle.std.specs.Ordering.{is_lt, is_eq, ordering_reverse}
use Rattle.std.specs.Cmp.{IsTotalOrder, alike_right, tied_itself}

pub is_less : (r : Ordering) → is_lt r ≡ true → r ≡ Less
is_less Less e = refl
is_less Equal e = absurd (cc)
is_less Greater e = absurd (cc)

is_equal : (r : Ordering) → is_eq r ≡ true → r ≡ Equal
is_equal Less e = absurd (cc)
is_equal Equal e = refl
is_equal Greater e = absurd (cc)

not_both : {A : Type 0} (b : Bool) → b ≡ true → b ≡ false → A
not_both true e f = absurd (cc)
not_both false e f = absurd (cc)

two_tests : (r : Ordering) → (not (is_lt r) && not (is_lt (ordering_reverse r))) ≡ is_eq r
two_tests Less = refl
two_tests Equal = refl
two_tests Greater = refl

-- ---- the order

module _ {K : Type 0} (R : K → K → Ordering) (o : IsTotalOrder R) where
  not_above : (x y : K) → R x y ≡ Less → is_lt (R y x) ≡ false
  not_above x y e = ap is_lt (o.antisymm y x ∙ ap ordering_reverse e)

  below_by : (x y z : K) (r : Ordering) → R x y ≡ Less → R z y ≡ r → is_lt r ≡ false → R x z ≡ Less
  below_by x y z Less p q h = not_both true refl h
  below_by x y z Equal p q h = alike_right o z y x q ∙ p
  below_by x y z Greater p q h = o.trans x y z p (o.antisymm y z ∙ ap ordering_reverse q)

  pub below : (x y z : K) → R x y ≡ Less → is_lt (R z y) ≡ false → R x z ≡ Less
  below x y z p h = below_by x y z (R z y) p refl h

  behind_by : (x y z : K) (r : Ordering) → R z x ≡ r → is_lt (R y x) ≡ false → is_lt (R z y) ≡ false → is_lt r ≡ false
  behind_by x y z Less q h k = not_both (is_lt (R z y)) (ap is_lt (below z x y q h)) k
  behind_by x y z Equal q h k = refl
  behind_by x y z Greater q h k = refl

  behind : (x y z : K) → is_lt (R y x) ≡ false → is_lt (R z y) ≡ false → is_lt (R z x) ≡ false
  behind x y z h k = behind_by x y z (R z x) refl h k

module _ {K X : Type 0} (R : K → K → Ordering) (o : IsTotalOrder R) where
  abbrev pub less : K × X → K × X → Bool
  less x y = is_lt (R x.0 y.0)

  -- ---- ties

  abbrev pub tied : K × X → K × X → Bool
  tied = ties less

  tied_is : (w x : K × X) → tied w x ≡ is_eq (R w.0 x.0)
  tied_is w x = ap (λ r. not (is_lt (R w.0 x.0)) && not (is_lt r)) (o.antisymm x.0 w.0) ∙ two_tests (R w.0 x.0)

  pub tied_self : (w : K × X) → tied w w ≡ true
  tied_self w = tied_is w w ∙ ap is_eq (tied_itself o w.0)

  not_tied : (w x z : K × X) → tied w x ≡ true → R x.0 z.0 ≡ Less → tied w z ≡ false
  not_tied w x z h e = tied_is w z ∙ ap is_eq (o.congr w.0 x.0 z.0 (is_equal (R w.0 x.0) (sym (tied_is w x) ∙ h)) ∙ e)

  -- what ties with an element does not tie with what is above it
  pub none_tied : (w x : K × X) → tied w x ≡ true → (ys : List (K × X)) → AllByRecursion (λ z. R x.0 z.0 ≡ Less) ys → filter (tied w) ys ≡ []
  none_tied w x h [] a = refl
  none_tied w x h (y ∷ ys) a = ap (λ b. cond b (y ∷ filter (tied w) ys) (filter (tied w) ys)) (not_tied w x y h a.0) ∙ none_tied w x h ys a.1

  -- ---- lists that rise

  abbrev pub Rises : List (K × X) → Type 0
  Rises [] = Unit {0}
  Rises (x ∷ xs) = AllByRecursion (λ y. less y x ≡ false) xs × Rises xs

  pub all_below : (x y : K × X) → R x.0 y.0 ≡ Less → (ys : List (K × X)) → AllByRecursion (λ z. less z y ≡ false) ys → AllByRecursion (λ z. R x.0 z.0 ≡ Less) ys
  all_below x y e [] h = tt
  all_below x y e (z ∷ ys) h = (below R o x.0 y.0 z.0 e h.0, all_below x y e ys h.1)

  all_not_above : (x : K × X) (ys : List (K × X)) → AllByRecursion (λ z. R x.0 z.0 ≡ Less) ys → AllByRecursion (λ z. less z x ≡ false) ys
  all_not_above x [] h = tt
  all_not_above x (z ∷ ys) h = (not_above R o x.0 z.0 h.0, all_not_above x ys h.1)

  rises_sorted : (xs : List (K × X)) → Rises xs → (k : ℕ) (d : K × X) → 0 ≤ k → k + 1 < length xs → less (get_or xs (k + 1) d) (get_or xs k d) ≡ false
  rises_sorted [] h k d a b = absurd (omega arith)
  rises_sorted (x ∷ []) h k d a b = absurd (omega arith)
  rises_sorted (x ∷ y ∷ xs) h zero d a b = h.0.0
  rises_sorted (x ∷ y ∷ xs) h (suc k) d a b =
      let next : suc k + 1 ≡ suc (k + 1) = omega arith in
      ap (λ n. less (get_or (x ∷ y ∷ xs) n d) (get_or (y ∷ xs) k d)) next ∙ rises_sorted (y ∷ xs) h.1 k d (omega arith) (omega arith)

  pub sorted_of : (xs : List (K × X)) → Rises xs → IsSortedBy less xs
  sorted_of = rises_sorted

  all_behind : (x y : K × X) → less y x ≡ false → (ys : List (K × X)) → AllByRecursion (λ z. less z y ≡ false) ys → AllByRecursion (λ z. less z x ≡ false) ys
  all_behind x y e [] h = tt
  all_behind x y e (z ∷ ys) h = (behind R o x.0 y.0 z.0 e h.0, all_behind x y e ys h.1)

  pub rises_of : (xs : List (K × X)) → IsSortedBy less xs → Rises xs
  rises_of [] h = tt
  rises_of (x ∷ []) h = (tt, tt)
  rises_of (x ∷ y ∷ xs) h =
      let next : (k : ℕ) → suc (k + 1) ≡ suc k + 1 = λ k. omega arith in
      let rest = rises_of (y ∷ xs) (λ k d a b. ap (λ n. less (get_or (x ∷ y ∷ xs) n d) (get_or (y ∷ xs) k d)) (next k) ∙ h (suc k) d (omega arith) (omega arith)) in
      let first : less y x ≡ false = h 0 x (omega arith) (omega arith) in
      ((first, all_behind x y first xs rest.0), rest)

  -- ---- putting in

  -- behind those that are not above it
  abbrev pub put : K × X → List (K × X) → List (K × X)
  put x [] = x ∷ []
  put x (y ∷ ys) = cond (less x y) (x ∷ y ∷ ys) (y ∷ put x ys)

  abbrev pub put_all : List (K × X) → List (K × X) → List (K × X)
  put_all done [] = done
  put_all done (x ∷ xs) = put_all (put x done) xs

  all_put_by : (P : K × X → Type 0) (b : Bool) (x y : K × X) (ys zs : List (K × X)) → P x → P y → AllByRecursion P ys → AllByRecursion P zs → AllByRecursion P (cond b (x ∷ y ∷ ys) (y ∷ zs))
  all_put_by P true x y ys zs hx hy h k = (hx, (hy, h))
  all_put_by P false x y ys zs hx hy h k = (hy, k)

  all_put : (P : K × X → Type 0) (x : K × X) (ys : List (K × X)) → P x → AllByRecursion P ys → AllByRecursion P (put x ys)
  all_put P x [] hx h = (hx, tt)
  all_put P x (y ∷ ys) hx h = all_put_by P (less x y) x y ys (put x ys) hx h.0 h.1 (all_put P x ys hx h.1)

  rises_put_by : (b : Bool) (x y : K × X) (ys : List (K × X)) → less x y ≡ b → Rises (y ∷ ys) → Rises (put x ys) → Rises (cond b (x ∷ y ∷ ys) (y ∷ put x ys))
  rises_put_by true x y ys e h k =
      let under : R x.0 y.0 ≡ Less = is_less (R x.0 y.0) e in ((not_above R o x.0 y.0 under, all_not_above x ys (all_below x y under ys h.0)), h)
  rises_put_by false x y ys e h k = (all_put (λ z. less z y ≡ false) x ys e h.0, k)

  rises_put : (x : K × X) (ys : List (K × X)) → Rises ys → Rises (put x ys)
  rises_put x [] h = (tt, tt)
  rises_put x (y ∷ ys) h = rises_put_by (less x y) x y ys refl h (rises_put x ys h.1)

  pub rises_all : (done xs : List (K × X)) → Rises done → Rises (put_all done xs)
  rises_all done [] h = h
  rises_all done (x ∷ xs) h = rises_all (put x done) xs (rises_put x done h)

  -- ---- ties as they come

  moved : (b : Bool) (x : K × X) (kept : List (K × X)) → (b ≡ true → kept ≡ []) → cond b (x ∷ kept) kept ≡ kept ++ cond b (x ∷ []) []
  moved true x kept e = ap (λ l. x ∷ l) (e refl) ∙ sym (ap (λ l. l ++ x ∷ []) (e refl))
  moved false x kept e = sym (append-nil kept)

  stable_put_by : (b : Bool) (w x y : K × X) (ys : List (K × X)) → less x y ≡ b → Rises (y ∷ ys) → filter (tied w) (put x ys) ≡ filter (tied w) (ys ++ x ∷ []) →
      filter (tied w) (cond b (x ∷ y ∷ ys) (y ∷ put x ys)) ≡ filter (tied w) (y ∷ (ys ++ x ∷ []))
  stable_put_by true w x y ys e h k =
      let under : R x.0 y.0 ≡ Less = is_less (R x.0 y.0) e in
      moved (tied w x) x (filter (tied w) (y ∷ ys)) (λ t. none_tied w x t (y ∷ ys) (under, all_below x y under ys h.0)) ∙ sym (filter-append (tied w) (y ∷ ys) (x ∷ []))
  stable_put_by false w x y ys e h k = ap (λ l. cond (tied w y) (y ∷ l) l) k

  stable_put : (w x : K × X) (ys : List (K × X)) → Rises ys → filter (tied w) (put x ys) ≡ filter (tied w) (ys ++ x ∷ [])
  stable_put w x [] h = refl
  stable_put w x (y ∷ ys) h = stable_put_by (less x y) w x y ys refl h (stable_put w x ys h.1)

  pub stable_all : (w : K × X) (done xs : List (K × X)) → Rises done → filter (tied w) (put_all done xs) ≡ filter (tied w) (done ++ xs)
  stable_all w done [] h = ap (filter (tied w)) (sym (append-nil done))
  stable_all w done (x ∷ xs) h =
      stable_all w (put x done) xs (rises_put x done h) ∙ filter-append (tied w) (put x done) xs ∙ ap (λ l. l ++ filter (tied w) xs) (stable_put w x done h)
      ∙ sym (filter-append (tied w) (done ++ x ∷ []) xs) ∙ ap (filter (tied w)) (append_assoc done (x ∷ []) xs)

  -- ---- the same elements

  permuted_put_by : (b : Bool) (x y : K × X) (ys : List (K × X)) → IsPermutation (x ∷ ys) (put x ys) → IsPermutation (x ∷ y ∷ ys) (cond b (x ∷ y ∷ ys) (y ∷ put x ys))
  permuted_put_by true x y ys h = IsPermutation-refl (x ∷ y ∷ ys)
  permuted_put_by false x y ys h = IsPermutation-trans _ _ _ (IsPermutation-middle (x ∷ []) y ys) (IsPermutation-cons y (x ∷ ys) (put x ys) h)

  permuted_put : (x : K × X) (ys : List (K × X)) → IsPermutation (x ∷ ys) (put x ys)
  permuted_put x [] = IsPermutation-refl (x ∷ [])
  permuted_put x (y ∷ ys) = permuted_put_by (less x y) x y ys (permuted_put x ys)

  pub permuted_all : (done xs : List (K × X)) → IsPermutation (done ++ xs) (put_all done xs)
  permuted_all done [] = subst (λ l. IsPermutation l done) (sym (append-nil done)) (IsPermutation-refl done)
  permuted_all done (x ∷ xs) =
      IsPermutation-trans _ _ _ (IsPermutation-middle done x xs)
      (IsPermutation-trans _ _ _ (IsPermutation-append (x ∷ done) (put x done) xs xs (permuted_put x done) (IsPermutation-refl xs)) (permuted_all (put x done) xs))
