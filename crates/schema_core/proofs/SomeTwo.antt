-- Steps of a search for two items of a list that pass a test together.
use Rattle.std.proofs.Common.{◌≡◌, ℕ, ◌+◌, ◌<◌, ◌≤◌, Bool, true, false, ◌||◌, List, [], ◌∷◌, length, get_or, drop, refl, sym, ap, ◌∙◌, add-one, drop-cons, arith}
use Rattle.std.proofs.lemmas.List.{drop_all}
use Rattle.std.specs.List.{list_any}
use Rattle.schema_core.specs.Declaration.{some_two}

pub some_two_at : {A : Type 0} (test : A → A → Bool) (xs : List A) (i : ℕ) (d : A) → i < length xs → some_two test (drop i xs) ≡ (list_any (λ later. test later (get_or xs i d)) (drop (i + 1) xs) || some_two test (drop (i + 1) xs))
some_two_at test xs i d h = rw (add-one, drop-cons xs i d) refl

pub some_two_found : {A : Type 0} (test : A → A → Bool) (xs : List A) (i : ℕ) (d : A) → i < length xs → list_any (λ later. test later (get_or xs i d)) (drop (i + 1) xs) ≡ true → some_two test (drop i xs) ≡ true
some_two_found test xs i d h found = some_two_at test xs i d h ∙ ap (λ b. b || some_two test (drop (i + 1) xs)) found

pub some_two_next : {A : Type 0} (test : A → A → Bool) (xs : List A) (i : ℕ) (d : A) → i < length xs → list_any (λ later. test later (get_or xs i d)) (drop (i + 1) xs) ≡ false → some_two test (drop (i + 1) xs) ≡ some_two test (drop i xs)
some_two_next test xs i d h none = sym (some_two_at test xs i d h ∙ ap (λ b. b || some_two test (drop (i + 1) xs)) none)

pub some_two_none : {A : Type 0} (test : A → A → Bool) (xs : List A) (i : ℕ) → length xs ≤ i → some_two test (drop i xs) ≡ false
some_two_none test xs i h = rw drop_all refl

pub ruleset some_two_steps = (some_two_found, some_two_next, some_two_none)
