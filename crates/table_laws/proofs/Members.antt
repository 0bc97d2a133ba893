-- Members of lists, and of the entries that an insert or a removal leaves.
use Rattle.std.proofs.Common.{◌≡◌, ◌⊎◌, inl, inr, Bool, true, false, cond, ◌||◌, List, [], ◌∷◌, Option, None, Some, Ordering, is_some, refl, sym, ap, ◌∙◌, subst}
use Rattle.std.specs.declared.cmp.Ordering.TheVariants.{Less, Equal, Greater}
use Rattle.std.specs.Ordering.{is_eq}
use Rattle.std.specs.List.{AllByRecursion, list_any}
use Rattle.std.specs.Map.{lookup, remove_entry}
use Rattle.std.specs.BTreeMap.{insert_entry, is_at}

abbrev pub In : {A : Type 0} → A → List A → Type 0
In x [] = ⊥
In x (y ∷ ys) = (x ≡ y) ⊎ In x ys

pub all_in : {A : Type 0} (P : A → Type 0) (xs : List A) (x : A) → AllByRecursion P xs → In x xs → P x
all_in P [] x all here = absurd here
all_in P (y ∷ ys) x all (inl same) = subst P (sym same) all.0
all_in P (y ∷ ys) x all (inr later) = all_in P ys x all.1 later

pub in_all : {A : Type 0} (P : A → Type 0) (xs : List A) → ((x : A) → In x xs → P x) → AllByRecursion P xs
in_all P [] each = tt
in_all P (x ∷ xs) each = (each x (inl refl), in_all P xs (λ y here. each y (inr here)))

-- what one of them passes, some pass
pub any_in : {A : Type 0} (test : A → Bool) (xs : List A) (x : A) → In x xs → test x ≡ true → list_any test xs ≡ true
any_in test [] x here passes = absurd here
any_in test (y ∷ ys) x (inl same) passes = ap (λ b. b || list_any test ys) (ap test (sym same) ∙ passes)
any_in test (y ∷ ys) x (inr later) passes = ap (λ b. test y || b) (any_in test ys x later passes) ∙ or_true (test y)
  where
    or_true : (b : Bool) → (b || true) ≡ true
    or_true true = refl
    or_true false = refl

module _ {K X : Type 0} (cmp : K → K → Ordering) (same : (a b : K) → cmp a b ≡ Equal → a ≡ b) where
  -- an entry after an insert is the new one or an old one
  pub in_insert : (es : List (K × X)) (k : K) (v : X) (e : K × X) → In e (insert_entry cmp es k v) → (e ≡ (k, v)) ⊎ In e es
  in_insert [] k v e (inl is) = inl is
  in_insert [] k v e (inr none) = absurd none
  in_insert (d ∷ es) k v e here = at (cmp k d.0) refl here (in_insert es k v e)
    where
      at : (o : Ordering) → cmp k d.0 ≡ o → In e (insert_entry cmp (d ∷ es) k v) → (In e (insert_entry cmp es k v) → (e ≡ (k, v)) ⊎ In e es) → (e ≡ (k, v)) ⊎ In e (d ∷ es)
      at Less q there again = less (let is : insert_entry cmp (d ∷ es) k v ≡ (k, v) ∷ d ∷ es = rw q refl in subst (In e) is there)
        where
          less : In e ((k, v) ∷ d ∷ es) → (e ≡ (k, v)) ⊎ In e (d ∷ es)
          less (inl is) = inl is
          less (inr old) = inr old
      at Equal q there again = equal (let is : insert_entry cmp (d ∷ es) k v ≡ (d.0, v) ∷ es = rw q refl in subst (In e) is there)
        where
          equal : In e ((d.0, v) ∷ es) → (e ≡ (k, v)) ⊎ In e (d ∷ es)
          equal (inl is) = inl (is ∙ ap (λ j. (j, v)) (sym (same k d.0 q)))
          equal (inr old) = inr (inr old)
      at Greater q there again = greater (let is : insert_entry cmp (d ∷ es) k v ≡ d ∷ insert_entry cmp es k v = rw q refl in subst (In e) is there)
        where
          later : (e ≡ (k, v)) ⊎ In e es → (e ≡ (k, v)) ⊎ In e (d ∷ es)
          later (inl is) = inl is
          later (inr old) = inr (inr old)

          greater : In e (d ∷ insert_entry cmp es k v) → (e ≡ (k, v)) ⊎ In e (d ∷ es)
          greater (inl is) = inr (inl is)
          greater (inr old) = later (again old)

  -- what stands under a key is what stood there, or what was put in under it
  abbrev Put : List (K × X) → K → K → X → Option X → Type 0
  Put es k q v o = (o ≡ lookup (is_at (cmp q)) es) ⊎ ((cmp q k ≡ Equal) × (o ≡ Some v))

  pub lookup_after : (es : List (K × X)) (k q : K) (v : X)
      → (lookup (is_at (cmp q)) (insert_entry cmp es k v) ≡ lookup (is_at (cmp q)) es) ⊎ ((cmp q k ≡ Equal) × (lookup (is_at (cmp q)) (insert_entry cmp es k v) ≡ Some v))
  lookup_after [] k q v = at (cmp q k) refl
    where
      at : (o : Ordering) → cmp q k ≡ o → (cond (is_at (cmp q) k) (Some v) None ≡ None) ⊎ ((cmp q k ≡ Equal) × (cond (is_at (cmp q) k) (Some v) None ≡ Some v))
      at Less is = inl (rw is refl)
      at Equal is = inr (is, rw is refl)
      at Greater is = inl (rw is refl)
  lookup_after (d ∷ es) k q v = at (cmp k d.0) refl (lookup_after es k q v)
    where
      first : (o : Ordering) → cmp q k ≡ o → Put (d ∷ es) k q v (cond (is_at (cmp q) k) (Some v) (lookup (is_at (cmp q)) (d ∷ es)))
      first Less is = inl (ap (λ r. cond (is_eq r) (Some v) (lookup (is_at (cmp q)) (d ∷ es))) is)
      first Equal is = inr (is, ap (λ r. cond (is_eq r) (Some v) (lookup (is_at (cmp q)) (d ∷ es))) is)
      first Greater is = inl (ap (λ r. cond (is_eq r) (Some v) (lookup (is_at (cmp q)) (d ∷ es))) is)

      here : (o : Ordering) → k ≡ d.0 → cmp q d.0 ≡ o → Put (d ∷ es) k q v (cond (is_at (cmp q) d.0) (Some v) (lookup (is_at (cmp q)) es))
      here Less it is = inl (ap (λ r. cond (is_eq r) (Some v) (lookup (is_at (cmp q)) es)) is ∙ sym (ap (λ r. cond (is_eq r) (Some d.1) (lookup (is_at (cmp q)) es)) is))
      here Equal it is = inr (ap (cmp q) it ∙ is, ap (λ r. cond (is_eq r) (Some v) (lookup (is_at (cmp q)) es)) is)
      here Greater it is = inl (ap (λ r. cond (is_eq r) (Some v) (lookup (is_at (cmp q)) es)) is ∙ sym (ap (λ r. cond (is_eq r) (Some d.1) (lookup (is_at (cmp q)) es)) is))

      later : (b : Bool) (o p : Option X) → (o ≡ p) ⊎ ((cmp q k ≡ Equal) × (o ≡ Some v)) → is_at (cmp q) d.0 ≡ b
          → (cond b (Some d.1) o ≡ cond b (Some d.1) p) ⊎ ((cmp q k ≡ Equal) × (cond b (Some d.1) o ≡ Some v))
      later true o p again is = inl refl
      later false o p again is = again

      at : (r : Ordering) → cmp k d.0 ≡ r
          → (lookup (is_at (cmp q)) (insert_entry cmp es k v) ≡ lookup (is_at (cmp q)) es) ⊎ ((cmp q k ≡ Equal) × (lookup (is_at (cmp q)) (insert_entry cmp es k v) ≡ Some v))
          → Put (d ∷ es) k q v (lookup (is_at (cmp q)) (insert_entry cmp (d ∷ es) k v))
      at Less is again = rw is (first (cmp q k) refl)
      at Equal is again = rw is (here (cmp q d.0) (same k d.0 is) refl)
      at Greater is again = rw is (later (is_at (cmp q) d.0) (lookup (is_at (cmp q)) (insert_entry cmp es k v)) (lookup (is_at (cmp q)) es) again refl)

  -- where something stands under a key, something still does
  pub still_there : (es : List (K × X)) (k q : K) (v : X) → is_some (lookup (is_at (cmp q)) es) ≡ true → is_some (lookup (is_at (cmp q)) (insert_entry cmp es k v)) ≡ true
  still_there es k q v there = at (lookup_after es k q v)
    where
      at : (lookup (is_at (cmp q)) (insert_entry cmp es k v) ≡ lookup (is_at (cmp q)) es) ⊎ ((cmp q k ≡ Equal) × (lookup (is_at (cmp q)) (insert_entry cmp es k v) ≡ Some v)) → is_some (lookup (is_at (cmp q)) (insert_entry cmp es k v)) ≡ true
      at (inl is) = ap is_some is ∙ there
      at (inr is) = ap is_some is.1

-- an entry after a removal is an old one
pub in_remove : {K X : Type 0} (test : K → Bool) (es : List (K × X)) (e : K × X) → In e (remove_entry test es) → In e es
in_remove test [] e here = here
in_remove test (d ∷ es) e here = at (test d.0) refl here (in_remove test es e)
  where
    at : (b : Bool) → test d.0 ≡ b → In e (remove_entry test (d ∷ es)) → (In e (remove_entry test es) → In e es) → In e (d ∷ es)
    at true q there again = inr (let is : remove_entry test (d ∷ es) ≡ es = rw q refl in subst (In e) is there)
    at false q there again = kept (let is : remove_entry test (d ∷ es) ≡ d ∷ remove_entry test es = rw q refl in subst (In e) is there)
      where
        kept : In e (d ∷ remove_entry test es) → In e (d ∷ es)
        kept (inl is) = inl is
        kept (inr old) = inr (again old)
