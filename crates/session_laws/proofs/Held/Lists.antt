-- What is chosen of lists, and what is not.
use Rattle.class_mapping.proofs.Having.{Has}
use Rattle.std.proofs.Common.{◌≡◌, ◌⊎◌, inl, inr, ℕ, zero, suc, ◌+◌, ◌-◌, ◌<◌, ◌≤◌, Bool, false, List, [], ◌∷◌, filter, Option, None, Some, refl, sym, ap, ◌∙◌, subst, arith, cond}
use Rattle.std.specs.List.{AllByRecursion, cons_option, filter, filter_map, range_with_len}
use Rattle.std.specs.Option.{option_and_then}

pub has_chosen : {A B : Type 0} (f : A → Option B) (xs : List A) (x : A) (y : B) → Has xs x → f x ≡ Some y → Has (filter_map f xs) y
has_chosen f [] x y has e = absurd has
has_chosen {B = B} f (z ∷ xs) x y (inl same) e = subst (λ (found : Option B). Has (cons_option found (filter_map f xs)) y) (sym (ap f same ∙ e)) (inl refl)
has_chosen {B = B} f (z ∷ xs) x y (inr more) e = by (f z) (has_chosen f xs x y more e)
  where
    by : (found : Option B) → Has (filter_map f xs) y → Has (cons_option found (filter_map f xs)) y
    by None has = has
    by (Some first) has = inr has

pub has_range : (n count k : ℕ) → n ≤ k → k < n + count → Has (range_with_len n count) k
has_range n zero k low high = absurd (omega (arith, low, high))
has_range n (suc count) k low high = by (k - n) (let e : n + (k - n) ≡ k = omega (arith, low) in e) (λ above. has_range (n + 1) count k above (omega (arith, high)))
  where
    by : (d : ℕ) → n + d ≡ k → (n + 1 ≤ k → Has (range_with_len (n + 1) count) k) → (n ≡ k) ⊎ Has (range_with_len (n + 1) count) k
    by zero e later = inl (let at : n ≡ n + 0 = omega arith in at ∙ e)
    by (suc d) e later = inr (later (omega (arith, e)))

pub chosen_from : {A B : Type 0} (g : A → Option B) (found : Option A) (y : B) → option_and_then g found ≡ Some y → (x : A) × (found ≡ Some x) × (g x ≡ Some y)
chosen_from g None y e = absurd cc
chosen_from g (Some x) y e = (x, refl, e)

pub filter_twice : {A B C : Type 0} (f : A → Option B) (g : B → Option C) (xs : List A) → filter_map g (filter_map f xs) ≡ filter_map (λ x. option_and_then g (f x)) xs
filter_twice f g [] = refl
filter_twice {B = B} {C = C} f g (x ∷ xs) = step (f x) ∙ ap (cons_option (option_and_then g (f x))) (filter_twice f g xs)
  where
    step : (found : Option B) → filter_map g (cons_option found (filter_map f xs)) ≡ cons_option (option_and_then g found) (filter_map g (filter_map f xs))
    step None = refl
    step (Some y) = refl

pub none_pass : {A : Type 0} (test : A → Bool) (xs : List A) → AllByRecursion (λ x. test x ≡ false) xs → filter test xs ≡ []
none_pass test [] all = refl
none_pass test (x ∷ xs) all = ap (λ (b : Bool). cond b (x ∷ filter test xs) (filter test xs)) all.0 ∙ none_pass test xs all.1
